-- What is printed of an answer. Assumes nothing.
use Rattle.std.specs.Prelude as Std
use Rattle.std.specs.Prelude.{Ok, Err}
use Rattle.layout.specs.Replies.{accepts, refuses}
use Prim.Native.Nat.{ℕ, ◌≤◌, zero-le}
use native.Mathlib.Omega.{arith}
use mathlib.Core.Path.{◌≡◌, refl, sym, ◌∙◌, ap, subst}
use mathlib.Core.List.{List, [], ◌∷◌}
use mathlib.Core.Bool.{true, false}
use borrow.Author.Tests.{eq-eqb, ne_eqb}
use lib.Dec.{eqb}
use lib.IntN.{pos}
use lib.ListN.{length, take, replicate, length-replicate}
use lib.Seq.{length-take-le}
use Rattle.facts.specs.Text.{bytes}
use Rattle.facts.proofs.Branch.{either}
use Rattle.mesh.specs.Rows.{places}
use Rattle.records.specs.Record.{narrow}
use Rattle.records.proofs.Longest.{fit_longest}
use Rattle.faults.specs.Sides.{Tables}
use Rattle.layout.specs.declared.Refusal.{Refusal}
use Rattle.layout.specs.Replies.{number_of}
use Rattle.layout.specs.Rows.{no_zone}
use Rattle.layout.specs.Read.{Result}
use Rattle.audit.specs.declared.Refusal as Audit
use Rattle.audit.specs.declared.Audited.{Audited}
use Rattle.faults.specs.All.{all_faults}
use Rattle.audit.specs.Audit.{tables, Out, out, values_of, is_dimension, totals_fit, counts_fit, audit_of}
use Rattle.filling.specs.Found as Found
use Rattle.filling.specs.Found.{Core, told, core_of}
use Rattle.filling.proofs.Through.{with_zones}
use Rattle.filling.proofs.Few.{told_only}
use Rattle.filling.proofs.Zoned.{flat_is_read}
use Rattle.lines.specs.Writing.{Wrote, line}
use Rattle.lines.specs.Listed.{fault_lines}
use Rattle.report.specs.Report.{audited, reported, report_of}

-- ---- a part of a list
pub part_fits : (b : ℕ) (ls : List ℕ) → b ≤ 4096 → length ls ≡ 4096 → b ≤ length ls
part_fits b ls h e = omega arith

pub part_long : (b : ℕ) (ls : List ℕ) → b ≤ 4096 → length ls ≡ 4096 → b ≡ length (take b ls)
part_long b ls h e = sym (length-take-le b ls (omega arith))

-- ---- an audit's answer
audit_few : (n : ℕ) (t : Tables) (counts list : List ℕ) → (audit_of n t counts list).answer.bytes ≤ length list
unfolding audit_of
audit_few n t counts list =
    either (λ (o : Out). o.answer.bytes ≤ length list) (is_dimension t.dim)
    (λ _. either (λ (o : Out). o.answer.bytes ≤ length list) (totals_fit n t.nodes t.faces t.cells t.face_rows t.cell_rows)
    (λ _. either (λ (o : Out). o.answer.bytes ≤ length list) (counts_fit t counts) (λ _. (fit_longest narrow (length list) (all_faults n t)).fits) (λ _. zero-le))
    (λ _. zero-le))
    (λ _. zero-le)

abbrev done : ℕ → ℕ → Std.Result Audited Audit.Refusal
done t b = Ok (record { total = t; bytes = b })

module _ (o : Out) (r : Std.Result Audited Audit.Refusal) (cs ls : List ℕ) (e : out (values_of r) cs ls ≡ o) where
  pub bytes_few : (n : ℕ) (t : Tables) (counts list : List ℕ) → o ≡ audit_of n t counts list → (k b : ℕ) → r ≡ done k b → b ≤ length list
  bytes_few n t counts list q k b z =
      let y : b ≡ (audit_of n t counts list).answer.bytes = ap (λ a. (values_of a).bytes) (sym z) ∙ ap (λ (i : Out). i.answer.bytes) (e ∙ q) in
      subst (λ i. i ≤ length list) (sym y) (audit_few n t counts list)

  pub bytes_listed : (n : ℕ) (t : Tables) (counts : List ℕ) → o ≡ audit_of n t counts (replicate 4096 0) → (k b : ℕ) → r ≡ done k b → b ≤ 4096
  bytes_listed n t counts q k b z = subst (λ m. b ≤ m) (length-replicate {A = ℕ} 4096 0) (bytes_few n t counts (replicate 4096 0) q k b z)

  module _ (n f c : ℕ) (old new : List ℕ) (k : ℕ) where
    pub clean_refused : (w : Audit.Refusal) → r ≡ Err w → Wrote old 0 (line (bytes "clean") (n ∷ f ∷ c ∷ [])) new k → Wrote old 0 (audited o n f c) new k
    clean_refused w q v = subst (λ y. Wrote old 0 y new k) (ap (λ y. audited (out (values_of y) cs ls) n f c) (sym q) ∙ ap (λ y. audited y n f c) e) v

    as_clean : (t b : ℕ) → t ≡ 0 → line (bytes "clean") (n ∷ f ∷ c ∷ []) ≡ audited (out (values_of (done t b)) cs ls) n f c
    as_clean t b z = let q : eqb t 0 ≡ true = eq-eqb t 0 z in rw (audited, q)

    as_faulty : (t b : ℕ) → (t ≡ 0 → ⊥) → fault_lines t (take b ls) ≡ audited (out (values_of (done t b)) cs ls) n f c
    as_faulty t b z = let q : eqb t 0 ≡ false = ne_eqb t 0 z in rw (audited, q)

    pub clean_done : (t b : ℕ) → r ≡ done t b → t ≡ 0 → Wrote old 0 (line (bytes "clean") (n ∷ f ∷ c ∷ [])) new k → Wrote old 0 (audited o n f c) new k
    clean_done t b q z v = subst (λ y. Wrote old 0 y new k) (as_clean t b z ∙ ap (λ y. audited (out (values_of y) cs ls) n f c) (sym q) ∙ ap (λ y. audited y n f c) e) v

    pub faulty_done : (t b : ℕ) → r ≡ done t b → (t ≡ 0 → ⊥) → Wrote old 0 (fault_lines t (take b ls)) new k → Wrote old 0 (audited o n f c) new k
    faulty_done t b q z v = subst (λ y. Wrote old 0 y new k) (as_faulty t b z ∙ ap (λ y. audited (out (values_of y) cs ls) n f c) (sym q) ∙ ap (λ y. audited y n f c) e) v

-- ---- a reader's answer
pub refusal_line : (old : List ℕ) (n m k o : ℕ) (new : List ℕ) (r : ℕ) → n ≡ m → Wrote old 0 (line (bytes "refused") (n ∷ k ∷ o ∷ [])) new r → Wrote old 0 (line (bytes "refused") (m ∷ k ∷ o ∷ [])) new r
refusal_line old n m k o new r e w = subst (λ y. Wrote old 0 (line (bytes "refused") (y ∷ k ∷ o ∷ [])) new r) e w

abbrev blank : Found.Tables
blank = record { mantissas = replicate 3072 (pos 0); exponents = replicate 3072 (pos 0); faces = replicate 8192 0; cells = replicate 2048 0 }

module _ (s : List ℕ) (c : Core) (e : told c ≡ told (core_of s 64 blank)) (old new : List ℕ) (k : ℕ) where
  abbrev left : Result
  left = with_zones c (replicate 64 no_zone)

  report_is : reported left.reply left.held ≡ report_of s
  unfolding report_of
  report_is = ap (λ (y : Result). reported y.reply y.held) (flat_is_read s 64 blank c (told_only c (core_of s 64 blank) e) (replicate 64 no_zone) refl)

  pub reported_refused : (w : Refusal) (j o : ℕ) → c.found.reply ≡ refuses w j o → Wrote old 0 (line (bytes "refused") (number_of w ∷ j ∷ o ∷ [])) new k → Wrote old 0 (report_of s) new k
  reported_refused w j o q v = subst (λ y. Wrote old 0 y new k) (ap (λ y. reported y left.held) (sym q) ∙ report_is) v

  pub reported_accepted : (d n f cs z : ℕ) → c.found.reply ≡ accepts d n f cs z
      → Wrote old 0 (audited (audit_of places (tables d n f cs c.held.faces c.held.cells) (replicate 1024 0) (replicate 4096 0)) n f cs) new k → Wrote old 0 (report_of s) new k
  reported_accepted d n f cs z q v = subst (λ y. Wrote old 0 y new k) (ap (λ y. reported y left.held) (sym q) ∙ report_is) v
