-- What the sections of a kind cover and leave clear, section by section, out of three lists. Assumes nothing.
use Prim.Native.Nat.{ℕ, zero, suc, ◌+◌, ◌-◌, ◌≤◌, ◌<◌}
use native.Mathlib.Omega.{arith}
use mathlib.Core.Path.{◌≡◌, refl, sym, ◌∙◌, ap}
use mathlib.Core.Bool.{Bool, true, false, ◌&&◌, ◌||◌}
use lib.Dec.{eqb}
use Rattle.std.specs.Prelude.{Some, None}
use Rattle.facts.proofs.Branch.{split}
use Rattle.facts.proofs.Decides.{or_left, or_right}
use Rattle.layout.specs.State.{every, some_of, clear, covers, tiled}
use Rattle.kept.specs.declared.Kept.{Kept}
use Rattle.kept.specs.Kept.{Listed, span_for, apart, holds, kept_at, kept_by_lists, holder_of}
use Rattle.kept.proofs.Keeping.{clear_top, some_top, Tiles, gap, held_further, held_more}

module _ (ls : Listed) (id : ℕ) where
  module _ (f l : ℕ) where
    pub clear_on : (n : ℕ) → every (clear f l) (kept_by_lists ls id (suc n)) ≡ (apart id f l (kept_at ls n) && every (clear f l) (kept_by_lists ls id n))
    unfolding kept_by_lists
    clear_on n = clear_top f l (eqb (kept_at ls n).id id) (span_for (kept_at ls n)) (kept_by_lists ls id n)

    module _ (b : Bool) (left : ℕ) (h : 0 < left) (z : b ≡ apart id f l (kept_at ls (left - 1))) where
      one : every (clear f l) (kept_by_lists ls id left) ≡ (b && every (clear f l) (kept_by_lists ls id (left - 1)))
      one = let e : left ≡ suc (left - 1) = omega arith in ap (λ n. every (clear f l) (kept_by_lists ls id n)) e ∙ clear_on (left - 1) ∙ ap (λ y. y && every (clear f l) (kept_by_lists ls id (left - 1))) (sym z)

      pub clear_more : b ≡ true → every (clear f l) (kept_by_lists ls id (left - 1)) ≡ every (clear f l) (kept_by_lists ls id left)
      clear_more t = sym (one ∙ ap (λ y. y && every (clear f l) (kept_by_lists ls id (left - 1))) t)

      pub clear_off : b ≡ false → false ≡ every (clear f l) (kept_by_lists ls id left)
      clear_off t = sym (one ∙ ap (λ y. y && every (clear f l) (kept_by_lists ls id (left - 1))) t)

    pub clear_none : (left : ℕ) → left ≤ 0 → true ≡ every (clear f l) (kept_by_lists ls id left)
    unfolding every kept_by_lists
    clear_none left h = let z : left ≡ 0 = omega arith in ap (λ n. every (clear f l) (kept_by_lists ls id n)) (sym z)

  some_on : (i n : ℕ) → some_of (covers i) (kept_by_lists ls id (suc n)) ≡ (holds id i (kept_at ls n) || some_of (covers i) (kept_by_lists ls id n))
  unfolding kept_by_lists
  some_on i n = some_top i (eqb (kept_at ls n).id id) (span_for (kept_at ls n)) (kept_by_lists ls id n)

  -- ---- the last that holds an index
  module _ (i : ℕ) (b : Bool) (left : ℕ) (h : 0 < left) (z : b ≡ holds id i (kept_at ls (left - 1))) where
    last_of : holder_of ls id i left ≡ elim b [ true ↦ Some (kept_at ls (left - 1)) | false ↦ holder_of ls id i (left - 1) ]
    unfolding holder_of
    last_of = let e : left ≡ suc (left - 1) = omega arith in ap (holder_of ls id i) e ∙ ap (λ (y : Bool). elim y [ true ↦ Some (kept_at ls (left - 1)) | false ↦ holder_of ls id i (left - 1) ]) (sym z)

    pub holder_hit : b ≡ true → Some (kept_at ls (left - 1)) ≡ holder_of ls id i left
    holder_hit t = sym (rw t at last_of)

    pub holder_more : b ≡ false → holder_of ls id i (left - 1) ≡ holder_of ls id i left
    holder_more t = sym (rw t at last_of)

  pub holder_none : (i left : ℕ) → left ≤ 0 → None ≡ holder_of ls id i left
  unfolding holder_of
  holder_none i left h = let z : left ≡ 0 = omega arith in ap (holder_of ls id i) (sym z)

  -- ---- what is found among the sections
  pub found : (i z : ℕ) {k : Kept} → holder_of ls id i z ≡ Some k → (holds id i k ≡ true) × ((j : ℕ) → holds id j k ≡ true → some_of (covers j) (kept_by_lists ls id z) ≡ true)
  unfolding holder_of
  found i zero e = absurd (cc)
  found i (suc n) {k} e =
      split (holds id i (kept_at ls n))
      (λ t. let d : Some (kept_at ls n) ≡ Some k = rw (holder_of, t) at e in let g : kept_at ls n ≡ k = cc in (ap (holds id i) (sym g) ∙ t, λ j h. some_on j n ∙ or_left _ (ap (holds id j) g ∙ h)))
      (λ t. let d : holder_of ls id i n ≡ Some k = rw (holder_of, t) at e in let r = found i n d in (r.0, λ j h. some_on j n ∙ or_right (holds id j (kept_at ls n)) (r.1 j h)))

  pub missing : (i z : ℕ) → holder_of ls id i z ≡ None → some_of (covers i) (kept_by_lists ls id z) ≡ false
  unfolding holder_of kept_by_lists some_of
  missing i zero e = refl
  missing i (suc n) e =
      split (holds id i (kept_at ls n))
      (λ t. let d : Some (kept_at ls n) ≡ None = rw (holder_of, t) at e in absurd (cc))
      (λ t. let d : holder_of ls id i n ≡ None = rw (holder_of, t) at e in some_on i n ∙ ap (λ b. b || some_of (covers i) (kept_by_lists ls id n)) t ∙ missing i n d)

-- ---- tiling: 1 to n are all in a span
module _ (ls : Listed) (id z done : ℕ) where
  pub tiles_gap : (total : ℕ) → done < total → holder_of ls id (done + 1) z ≡ None → false ≡ tiled (kept_by_lists ls id z) total
  tiles_gap total h e = gap _ total (done + 1) (omega arith) (omega arith) (missing ls id (done + 1) z e)

  module _ (k : Kept) (e : holder_of ls id (done + 1) z ≡ Some k) where
    pub further : done < k.last
    further = held_further (kept_by_lists ls id z) id done k (found ls id (done + 1) z e).0

    pub tiles_more : Tiles (kept_by_lists ls id z) done → Tiles (kept_by_lists ls id z) k.last
    tiles_more = held_more (kept_by_lists ls id z) id done k (found ls id (done + 1) z e).0 (found ls id (done + 1) z e).1
