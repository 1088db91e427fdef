-- A call of `audit::audit` answers 0 exactly when the tables are within the limits, and then shows what it should; else it changes nothing. Assumes nothing.
use Rattle.std.specs.Prelude.{Result, Err}
use Prim.Native.Nat.{ℕ, ◌≤◌}
use native.Mathlib.Omega.{arith}
use mathlib.Core.Path.{◌≡◌, sym, ap, subst, ◌∙◌}
use mathlib.Core.Logic.{◌↔◌}
use mathlib.Core.Bool.{Bool}
use mathlib.Core.List.{List}
use lib.ListN.{length}
use contract.Lifetimes.{Lfts}
use denote.Triple.Entry.{Args, Res}
use denote.Triple.Clauses.{AtExit}
use Rattle.facts.proofs.Branch.{either}
use Rattle.facts.proofs.Decides.{Decides, and_is, or_is, le_is, eq_is}
use Rattle.sizes.specs.Sizes.{rows}
use Rattle.mesh.specs.Rows.{places, face_words, cell_words, rows_in}
use Rattle.faults.specs.Sides.{Tables}
use Rattle.audit.specs.declared.Refusal.{Refusal}
use Rattle.audit.specs.declared.Audited.{Audited}
use Rattle.audit.specs.Audit.{number_of, values_of, Out, is_dimension, totals_fit, counts_fit, audit_of}
use Rattle.audit.specs.Shown.{Shows, Unchanged}
use Rattle.audit.proofs.Shown.{audit_shown}
use Rattle.audit.specs.contracts.audit as audit
use Rattle.audit.proofs.audit.Reads as audits
use Rattle.demands.specs.Demands.{Limits, given, counts, list, left}

pub numbered : (w : Refusal) → (15 ≤ number_of w) × (number_of w ≤ 17)
numbered Refusal.Dimension = omega arith
numbered Refusal.Totals = omega arith
numbered Refusal.Counts = omega arith

module _ (t : Tables) (old bytes : List ℕ) where
  abbrev fits : Bool
  fits = totals_fit places t.nodes t.faces t.cells t.face_rows t.cell_rows

  totals_are : Decides fits
      ((t.nodes ≤ rows) × ((t.faces ≤ rows) × ((t.cells ≤ rows) × ((t.faces ≤ rows_in (face_words places) t.face_rows) × (t.cells ≤ rows_in cell_words t.cell_rows)))))
  unfolding totals_fit
  totals_are = and_is (le_is _ _) (and_is (le_is _ _) (and_is (le_is _ _) (and_is (le_is _ _) (le_is _ _))))

  abbrev Limited : Out → Type 0
  Limited o = o.answer.number ≡ 0 → Limits t old

  limited : Limited (audit_of places t old bytes)
  unfolding audit_of
  limited =
      either Limited (is_dimension t.dim)
      (λ d. either Limited fits
      (λ f. either Limited (counts_fit t old)
      (λ c _. let g = totals_are.0 f in record {
        dimension = (or_is (eq_is t.dim 2) (eq_is t.dim 3)).0 d;
        totals = (g.0, (g.1.0, g.1.1.0));
        lent = g.1.1.1;
        room = (le_is t.cells (length old)).0 c;
      })
      (λ _ e. absurd (omega (arith, e))))
      (λ _ e. absurd (omega (arith, e))))
      (λ _ e. absurd (omega (arith, e)))

  within : Limits t old → (audit_of places t old bytes).answer.number ≡ 0
  unfolding audit_of
  within l =
      let d = (or_is (eq_is t.dim 2) (eq_is t.dim 3)).1 l.dimension in
      let f = totals_are.1 (l.totals.0, (l.totals.1.0, (l.totals.1.1, l.lent))) in
      rw (d, f, (le_is t.cells (length old)).1 l.room, audit_of)

module _ (κ : Lfts 4) (a : Args audit.signature κ) (r : Res audit.signature κ) (x : AtExit audit.ended κ) (p : audits.Post κ a r x) where
  number_is : (values_of r).number ≡ (audit_of places (given κ a) (counts κ a) (list κ a)).answer.number
  number_is = ap (λ (o : Out). o.answer.number) p

  pub accepted_within : ((values_of r).number ≡ 0) ↔ Limits (given κ a) (counts κ a)
  accepted_within = (λ e. limited (given κ a) (counts κ a) (list κ a) (sym number_is ∙ e), λ l. number_is ∙ within (given κ a) (counts κ a) (list κ a) l)

  abbrev Shown : Out → Type 0
  Shown o = (o.answer.number ≡ 0 → Shows (given κ a) (counts κ a) (list κ a) o) × ((o.answer.number ≡ 0 → ⊥) → Unchanged (counts κ a) (list κ a) o)

  shown : Shown (left κ r x)
  shown = subst Shown (sym p) (audit_shown (given κ a) (counts κ a) (list κ a))

  pub within_shows : Limits (given κ a) (counts κ a) → Shows (given κ a) (counts κ a) (list κ a) (left κ r x)
  within_shows l = shown.0 (accepted_within.1 l)

  pub refused_unchanged : (w : Refusal) → r ≡ Err w → Unchanged (counts κ a) (list κ a) (left κ r x)
  refused_unchanged w e = shown.1 (λ z. let n : number_of w ≡ 0 = sym (ap (λ (y : Result Audited Refusal). (values_of y).number) e) ∙ z in omega (arith, (numbered w).0))
