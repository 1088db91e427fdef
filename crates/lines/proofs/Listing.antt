-- The records of a list, a line each: what is left to write. Assumes nothing.
use Prim.Native.Nat.{ℕ, zero, suc, ◌+◌, ◌-◌, ◌≤◌, ◌<◌}
use native.Mathlib.Omega.{arith}
use mathlib.Core.Path.{◌≡◌, refl, sym, ◌∙◌, ap, subst}
use mathlib.Core.List.{List, [], ◌∷◌, ◌++◌}
use mathlib.Core.Bool.{true, false}
use borrow.Author.Tests.{eq-eqb, ne_eqb}
use lib.Dec.{eqb}
use lib.ListN.{length, take, drop, length-drop, drop_of_length-le}
use lib.Seq.{drop-drop}
use Rattle.facts.proofs.Branch.{either}
use Rattle.facts.specs.Bytes.{from_big_endian}
use Rattle.records.specs.declared.Fault.{Fault}
use Rattle.records.specs.Record.{narrow, has_place, has_count, extra_bytes, size_of, read_back}
use Rattle.lines.specs.Writing.{Wrote, decimal, behind}
use Rattle.lines.specs.Listed.{extras, record_line, record_lines}
use Rattle.lines.proofs.Writing.{wrote_none, wrote_more, wrote_kept, wrote_within}

-- ---- one record
pub fault_is : (list : List ℕ) (p kind index extra bytes : ℕ) → kind ≡ from_big_endian (take 1 (drop p list)) → index ≡ from_big_endian (take 2 (drop (p + 1) list))
    → bytes ≡ extra_bytes narrow kind → extra ≡ from_big_endian (take bytes (drop (p + 3) list))
    → ◌≡◌ {A = Fault} (record { kind = kind; index = index; extra = extra }) (read_back narrow (drop p list))
fault_is list p kind index extra bytes a b c d =
    let z : from_big_endian (take 1 (drop p list)) - 0 ≡ from_big_endian (take 1 (drop p list)) = omega arith in
    let k : kind ≡ from_big_endian (take 1 (drop p list)) - 0 = a ∙ sym z in
    let i = b ∙ ap (λ y. from_big_endian (take 2 y)) (sym (drop-drop 1 p list)) in
    let e = d ∙ ap (λ y. from_big_endian (take y (drop (p + 3) list))) (c ∙ ap (extra_bytes narrow) k) ∙ ap (λ y. from_big_endian (take (extra_bytes narrow (from_big_endian (take 1 (drop p list)) - 0)) y)) (sym (drop-drop 3 p list)) in
    λ j. record { kind = k j; index = i j; extra = e j }

extra_few : (k : ℕ) → extra_bytes narrow k ≤ 3
unfolding extra_bytes
extra_few k = either (λ y. y ≤ 3) (has_place k) (λ _. omega arith) (λ _. either (λ y. y ≤ 3) (has_count k) (λ _. omega arith) (λ _. omega arith))

pub extra_small : (k n : ℕ) → n ≡ extra_bytes narrow k → n ≤ 3
extra_small k n e = subst (λ y. y ≤ 3) (sym e) (extra_few k)

extras_none : (f : Fault) (n : ℕ) → n ≡ extra_bytes narrow f.kind → n ≡ 0 → behind (f.index ∷ []) ≡ behind (f.index ∷ extras f)
extras_none f n e z = let q : eqb (extra_bytes narrow f.kind) 0 ≡ true = eq-eqb _ _ (sym e ∙ z) in rw q

extras_one : (f : Fault) (n : ℕ) → n ≡ extra_bytes narrow f.kind → (n ≡ 0 → ⊥) → behind (f.index ∷ f.extra ∷ []) ≡ behind (f.index ∷ extras f)
extras_one f n e z = let q : eqb (extra_bytes narrow f.kind) 0 ≡ false = ne_eqb _ _ (λ y. z (e ∙ y)) in rw q

module _ (old : List ℕ) (at : ℕ) (f : Fault) (mid : List ℕ) (c : ℕ) (w : Wrote old at (decimal f.kind) mid c) (n : ℕ) (e : n ≡ extra_bytes narrow f.kind) where
  pub fault_short : n ≡ 0 → (new : List ℕ) (r : ℕ) → Wrote mid c (behind (f.index ∷ [])) new r → Wrote old at (record_line f) new r
  fault_short z new r v = wrote_more old at (decimal f.kind) mid c (behind (f.index ∷ extras f)) new r w (subst (λ y. Wrote mid c y new r) (extras_none f n e z) v)

  pub fault_long : (n ≡ 0 → ⊥) → (new : List ℕ) (r : ℕ) → Wrote mid c (behind (f.index ∷ f.extra ∷ [])) new r → Wrote old at (record_line f) new r
  fault_long z new r v = wrote_more old at (decimal f.kind) mid c (behind (f.index ∷ extras f)) new r w (subst (λ y. Wrote mid c y new r) (extras_one f n e z) v)

-- ---- all of them
pub lines_over : (n : ℕ) → record_lines n [] ≡ []
unfolding record_lines
lines_over zero = refl
lines_over (suc n) = refl

pub lines_step : (n : ℕ) (l : List ℕ) → 0 < length l → record_lines (suc n) l ≡ record_line (read_back narrow l) ++ record_lines n (drop (size_of narrow (read_back narrow l).kind) l)
unfolding record_lines
lines_step n [] h = absurd (omega arith)
lines_step n (b ∷ l) h = refl

pub record Lining (list old : List ℕ) (at p c : ℕ) (cur : List ℕ) : Type 0 where
  pub place : c ≤ length cur
  pub kept : length cur ≡ length old
  fuel : ℕ
  enough : length list ≤ p + fuel
  same : (new : List ℕ) (r : ℕ) → Wrote cur c (record_lines fuel (drop p list)) new r → Wrote old at (record_lines (length list) list) new r

module _ (list old : List ℕ) (at : ℕ) where
  pub lining_start : at ≤ length old → Lining list old at 0 at old
  lining_start h = record { place = h; kept = refl; fuel = length list; enough = omega arith; same = λ new r w. w }

  module _ (p c : ℕ) (cur : List ℕ) (g : Lining list old at p c cur) where
    pub lining_end : length list ≤ p → Wrote old at (record_lines (length list) list) cur c
    lining_end h =
        let e : drop p list ≡ [] = drop_of_length-le list {i = p} h in
        g.same cur c (subst (λ y. Wrote cur c y cur c) (sym (ap (record_lines g.fuel) e ∙ lines_over g.fuel)) (wrote_none cur c g.place))

    pub lining_more : (f : Fault) → f ≡ read_back narrow (drop p list) → p < length list → (mid : List ℕ) (m : ℕ) → Wrote cur c (record_line f) mid m
        → (n : ℕ) → n ≡ extra_bytes narrow f.kind → Lining list old at (p + 3 + n) m mid
    lining_more f e h mid m w n q = by g.fuel g.enough g.same
      where
        size : size_of narrow (read_back narrow (drop p list)).kind ≡ 3 + n
        size = ap (λ (y : Fault). 1 + 2 + extra_bytes narrow y.kind) (sym e) ∙ ap (λ y. 3 + y) (sym q)

        onward : (k : ℕ) → record_lines (suc k) (drop p list) ≡ record_line f ++ record_lines k (drop (p + 3 + n) list)
        onward k =
            let z : p + (3 + n) ≡ p + 3 + n = omega arith in
            lines_step k (drop p list) (omega (arith, length-drop p list, h))
            ∙ ap (λ y. record_line y ++ record_lines k (drop (size_of narrow (read_back narrow (drop p list)).kind) (drop p list))) (sym e)
            ∙ ap (λ y. record_line f ++ record_lines k (drop y (drop p list))) size
            ∙ ap (λ y. record_line f ++ record_lines k y) (drop-drop (3 + n) p list ∙ ap (λ y. drop y list) z)

        by : (k : ℕ) → length list ≤ p + k → ((new : List ℕ) (r : ℕ) → Wrote cur c (record_lines k (drop p list)) new r → Wrote old at (record_lines (length list) list) new r)
            → Lining list old at (p + 3 + n) m mid
        by zero l s = absurd (omega arith)
        by (suc k) l s =
            record {
              place = wrote_within cur c (record_line f) mid m w;
              kept = wrote_kept cur c (record_line f) mid m w ∙ g.kept;
              fuel = k;
              enough = omega arith;
              same = λ new r v. s new r (subst (λ y. Wrote cur c y new r) (sym (onward k)) (wrote_more cur c (record_line f) mid m (record_lines k (drop (p + 3 + n) list)) new r w v));
            }
