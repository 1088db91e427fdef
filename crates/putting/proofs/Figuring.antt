-- A number's figures laid from the last to the first: what is left to lay. Assumes nothing.
use Prim.Native.Nat.{ℕ, suc, ◌+◌, ◌-◌, ◌/◌, ◌%◌, ◌≤◌, ◌<◌, min}
use native.Mathlib.Omega.{arith}
use native.Mathlib.Nat.{mod-eq_of_lt}
use mathlib.Core.Path.{◌≡◌, refl, sym, ◌∙◌, ap, subst}
use mathlib.Core.List.{List, [], ◌∷◌, ◌++◌}
use lib.ListN.{length, take, drop, set, length-set}
use lib.Seq.{sets, sets-eq, set_comm, take_all, take-append-le}
use borrow.Author.Tests.{ltb-true, ltb-false}
use lib.Dec.{ltb}
use Rattle.facts.proofs.Branch.{split}
use Rattle.facts.proofs.Sets.{sets_append, sets_out}
use Rattle.figures.specs.Figures.{figure, figures}
use Rattle.figures.proofs.Figures.{figures_some}
use Rattle.figures.proofs.Shorter.{figures_one, figures_more, count_one, fewer_base}
use Rattle.putting.specs.Putting.{most, Put, Whole}

-- a word stored behind all others may be stored first
sets_set : (vs l : List ℕ) (k i x : ℕ) → k + length vs ≤ i → sets (set l i x) k vs ≡ set (sets l k vs) i x
sets_set [] l k i x h = refl
sets_set (v ∷ vs) l k i x h = ap (λ y. sets y (suc k) vs) (set_comm l i k x v (λ e. absurd (omega arith))) ∙ sets_set vs (set l k v) (suc k) i x (omega arith)

-- what is left to lay, from the last figure to the first: so many from `from` on, those of v; those behind are there
pub record Laying (base from : ℕ) (old : List ℕ) (n : ℕ) (cur : List ℕ) (v left : ℕ) : Type 0 where
  pub kept : length cur ≡ length old
  pub within : from + left ≤ length old
  pub some : 0 < left → (left ≡ length (figures base v)) × (sets cur from (figures base v) ≡ sets old from (figures base n))
  pub none : left ≤ 0 → cur ≡ sets old from (figures base n)

module _ (base : ℕ) (lo : 10 ≤ base) (hi : base ≤ 16) where
  module _ (from : ℕ) (old : List ℕ) (n : ℕ) (cur : List ℕ) (v left : ℕ) (g : Laying base from old n cur v left) (l : 0 < left) (f : ℕ) (e : f ≡ figure (v % base)) where
    laying_last : v < base → Laying base from old n (set cur (from + (left - 1)) f) (v / base) (left - 1)
    laying_last h =
        let z : from + (left - 1) ≡ from = omega (arith, (g.some l).0, count_one base (omega arith) v h) in
        let d : figure (v % base) ∷ [] ≡ figures base v = ap (λ x. figure x ∷ []) (mod-eq_of_lt h) ∙ sym (figures_one base (omega arith) v h) in
        record {
          kept = length-set cur (from + (left - 1)) f ∙ g.kept;
          within = omega (arith, g.within);
          some = λ m. absurd (omega arith);
          none = λ m. ap (λ k. set cur k f) z ∙ ap (λ x. sets cur from (x ∷ [])) e ∙ ap (sets cur from) d ∙ (g.some l).1;
        }

    laying_more : base ≤ v → Laying base from old n (set cur (from + (left - 1)) f) (v / base) (left - 1)
    laying_more h =
        let xs = figures base (v / base) in
        let z : left - 1 ≡ length xs = omega (arith, (g.some l).0, fewer_base base (omega arith) v h) in
        record {
          kept = length-set cur (from + (left - 1)) f ∙ g.kept;
          within = omega (arith, g.within);
          some = λ m. (
            z,
            sets_set xs cur from (from + (left - 1)) f (omega arith) ∙ ap (λ k. set (sets cur from xs) (from + k) f) z ∙ sets_append xs (f ∷ []) cur from
                ∙ ap (λ y. sets cur from (xs ++ (y ∷ []))) e ∙ ap (sets cur from) (sym (figures_more base (omega arith) v h)) ∙ (g.some l).1,
          );
          none = λ m. absurd (omega (arith, figures_some base (omega arith) hi (v / base)));
        }

    pub laying_next : Laying base from old n (set cur (from + (left - 1)) f) (v / base) (left - 1)
    laying_next = split (ltb v base) (λ b. laying_last (ltb-true v base b)) (λ b. laying_more (ltb-false v base b))

-- ---- bytes past the end are counted, bytes with room laid
module _ (old : List ℕ) (at : ℕ) (bytes : List ℕ) (wide : length old < most) (count next : ℕ) (e : count ≡ length bytes) (p : next ≡ min (at + count) most) where
  place : next ≡ min (at + length bytes) most
  place = p ∙ ap (λ k. min (at + k) most) e

  pub put_counted : length old ≤ at → Put old at bytes old next
  put_counted h = record { laid = sym (sets_out bytes old at h); place = place; wide = omega arith }

  pub laid_counted : length old < next → Whole old at bytes old next
  laid_counted h = record { laid = λ l. absurd (omega arith); none = λ _. refl; place = place; wide = omega arith }

  pub laid_there : next ≤ length old → (new : List ℕ) → new ≡ sets old at bytes → Whole old at bytes new next
  laid_there h new n = record { laid = λ _. n; none = λ l. absurd (omega arith); place = place; wide = omega arith }

-- bytes put from the front of a list that they were laid to
pub put_from : {out : List ℕ} {at : ℕ} {new : List ℕ} {r : ℕ} (old bytes mid : List ℕ) (count : ℕ) → mid ≡ sets old 0 bytes → count ≡ length bytes → length bytes ≤ length old
    → Put out at (take count mid) new r → Put out at bytes new r
put_from {out = out} {at = at} {new = new} {r = r} old bytes mid count m e h p =
    let y : take (length bytes) (sets old 0 bytes) ≡ bytes
    = ap (take (length bytes)) (sets-eq bytes old 0 (omega arith)) ∙ take-append-le (length bytes) bytes (drop (0 + length bytes) old) (omega arith) ∙ take_all (length bytes) bytes (omega arith) in
    subst (λ x. Put out at x new r) (ap (λ k. take k mid) e ∙ ap (take (length bytes)) m ∙ y) p
