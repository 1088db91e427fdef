-- What the sections of a kind cover and leave clear, section by section, out of one list. What is said of spans alone holds of three lists, too. Assumes nothing.
use Prim.Native.Nat.{ℕ, zero, suc, ◌+◌, ◌≤◌, ◌<◌}
use native.Mathlib.Omega.{arith}
use mathlib.Core.Path.{◌≡◌, refl, sym, ◌∙◌, ap}
use mathlib.Core.List.{List, [], ◌∷◌}
use mathlib.Core.Bool.{Bool, true, false, ◌&&◌, ◌||◌, not}
use borrow.Author.Tests.{leb-true, leb-false, le-leb, eqb-true, eqb-false}
use lib.Dec.{leb, ltb, eqb}
use Rattle.std.specs.Prelude.{Some, None, take}
use Rattle.std.specs.List.{list_all, list_any, find}
use Rattle.facts.proofs.Branch.{split}
use Rattle.facts.proofs.Decides.{and_split, and_join, or_left, or_right}
use Rattle.layout.specs.State.{Span, every, some_of, clear, covers, tiled}
use Rattle.kept.specs.declared.Kept.{Kept}
use Rattle.kept.specs.Kept.{span_for, apart, stacked, kept_of, holds}

-- ---- a test of the spans is a test of the sections
pub clear_top : (f l : ℕ) (b : Bool) (s : Span) (bs : List Span) → every (clear f l) (elim b [ true ↦ s ∷ bs | false ↦ bs ]) ≡ ((not b || (ltb s.last f || ltb l s.first)) && every (clear f l) bs)
unfolding every
clear_top f l true s bs = refl
clear_top f l false s bs = refl

and_turn : (a b c : Bool) → (a && (b && c)) ≡ ((b && a) && c)
and_turn true true c = refl
and_turn true false c = refl
and_turn false true c = refl
and_turn false false c = refl

clear_all : (id f l : ℕ) (ks : List Kept) (bs : List Span) → every (clear f l) (stacked id ks bs) ≡ (list_all (apart id f l) ks && every (clear f l) bs)
unfolding stacked
clear_all id f l [] bs = refl
clear_all id f l (k ∷ ks) bs =
    clear_all id f l ks _ ∙ ap (λ y. list_all (apart id f l) ks && y) (clear_top f l (eqb k.id id) (span_for k) bs) ∙ and_turn (list_all (apart id f l) ks) (apart id f l k) (every (clear f l) bs)

and_true : (b : Bool) → (b && true) ≡ b
and_true true = refl
and_true false = refl

pub clear_kept : (ks : List Kept) (id z f l : ℕ) → list_all (apart id f l) (take z ks) ≡ every (clear f l) (kept_of ks id z)
unfolding every
clear_kept ks id z f l = sym (clear_all id f l (take z ks) [] ∙ and_true _)

pub some_top : (i : ℕ) (b : Bool) (s : Span) (bs : List Span) → some_of (covers i) (elim b [ true ↦ s ∷ bs | false ↦ bs ]) ≡ ((b && leb s.first i && leb i s.last) || some_of (covers i) bs)
unfolding some_of
some_top i true s bs = refl
some_top i false s bs = refl

or_turn : (a b c : Bool) → (a || (b || c)) ≡ ((b || a) || c)
or_turn true true c = refl
or_turn true false c = refl
or_turn false true c = refl
or_turn false false c = refl

some_all : (id i : ℕ) (ks : List Kept) (bs : List Span) → some_of (covers i) (stacked id ks bs) ≡ (list_any (holds id i) ks || some_of (covers i) bs)
unfolding stacked
some_all id i [] bs = refl
some_all id i (k ∷ ks) bs =
    some_all id i ks _ ∙ ap (λ y. list_any (holds id i) ks || y) (some_top i (eqb k.id id) (span_for k) bs) ∙ or_turn (list_any (holds id i) ks) (holds id i k) (some_of (covers i) bs)

or_false : (b : Bool) → (b || false) ≡ b
or_false true = refl
or_false false = refl

some_kept : (ks : List Kept) (id z i : ℕ) → some_of (covers i) (kept_of ks id z) ≡ list_any (holds id i) (take z ks)
unfolding some_of
some_kept ks id z i = some_all id i (take z ks) [] ∙ or_false _

-- ---- what is found among the sections
module _ (p : Kept → Bool) where
  found : (ks : List Kept) {k : Kept} → find p ks ≡ Some k → (p k ≡ true) × ((q : Kept → Bool) → q k ≡ true → list_any q ks ≡ true)
  found [] e = absurd (cc)
  found (x ∷ ks) {k} e =
      split (p x)
      (λ t. let d : Some x ≡ Some k = rw t at e in let g : x ≡ k = cc in (ap p (sym g) ∙ t, λ q h. or_left _ (ap q g ∙ h)))
      (λ t. let d : find p ks ≡ Some k = rw t at e in let r = found ks d in (r.0, λ q h. or_right (q x) (r.1 q h)))

  missing : (ks : List Kept) → find p ks ≡ None → list_any p ks ≡ false
  missing [] e = refl
  missing (x ∷ ks) e =
      split (p x)
      (λ t. let d : Some x ≡ None = rw t at e in absurd (cc))
      (λ t. let d : find p ks ≡ None = rw t at e in rw t (missing ks d))

-- ---- tiling: 1 to n are all in a span
abbrev pub Tiles : List Span → ℕ → Type 0
Tiles bs n = (j : ℕ) → 1 ≤ j → j ≤ n → some_of (covers j) bs ≡ true

pub tiles_none : (bs : List Span) → Tiles bs 0
tiles_none bs j p q = absurd (omega arith)

tiles_all : (bs : List Span) (n : ℕ) → Tiles bs n → true ≡ tiled bs n
unfolding tiled
tiles_all bs zero t = refl
tiles_all bs (suc n) t = sym (and_join (t (suc n) (omega arith) (omega arith)) (sym (tiles_all bs n (λ j p q. t j p (omega arith)))))

pub tiles_end : (bs : List Span) (n m : ℕ) → m ≤ n → Tiles bs n → true ≡ tiled bs m
tiles_end bs n m l t = tiles_all bs m (λ j p q. t j p (omega arith))

and_no : (a : Bool) {b : Bool} → false ≡ b → false ≡ (a && b)
and_no true e = e
and_no false e = refl

pub gap : (bs : List Span) (n j : ℕ) → 1 ≤ j → j ≤ n → some_of (covers j) bs ≡ false → false ≡ tiled bs n
unfolding tiled
gap bs zero j p q e = absurd (omega arith)
gap bs (suc n) j p q e =
    split (eqb j (suc n))
    (λ t. let z : j ≡ suc n = eqb-true j (suc n) t in rw (sym z, e))
    (λ t. let z : j ≡ suc n → ⊥ = eqb-false j (suc n) t in let w : j ≤ n = omega arith in and_no (some_of (covers (suc n)) bs) (gap bs n j p w e))

-- a section that has the next index, and whose indices are all in a span
module _ (bs : List Span) (id done : ℕ) (k : Kept) (e : holds id (done + 1) k ≡ true) where
  held : ((eqb k.id id && leb k.first (done + 1)) ≡ true) × (leb (done + 1) k.last ≡ true)
  held = and_split _ _ e

  pub held_further : done < k.last
  held_further = let h : done + 1 ≤ k.last = leb-true _ _ held.1 in omega arith

  pub held_more : ((j : ℕ) → holds id j k ≡ true → some_of (covers j) bs ≡ true) → Tiles bs done → Tiles bs k.last
  held_more f t j p r =
      split (leb j done)
      (λ s. t j p (leb-true j done s))
      (λ s.
      let after : done < j = leb-false j done s in
      let in_kind = and_split _ _ held.0 in
      let low : k.first ≤ done + 1 = leb-true k.first (done + 1) in_kind.1 in
      f j (and_join (and_join in_kind.0 (le-leb k.first j (omega arith))) (le-leb j k.last r)))

-- ---- the sections of one list
module _ (ks : List Kept) (id z done : ℕ) where
  pub tiles_gap : (total : ℕ) → done < total → find (holds id (done + 1)) (take z ks) ≡ None → false ≡ tiled (kept_of ks id z) total
  tiles_gap total h e = gap _ total (done + 1) (omega arith) (omega arith) (some_kept ks id z (done + 1) ∙ missing _ (take z ks) e)

  module _ (k : Kept) (e : find (holds id (done + 1)) (take z ks) ≡ Some k) where
    pub further : done < k.last
    further = held_further (kept_of ks id z) id done k (found _ (take z ks) e).0

    pub tiles_more : Tiles (kept_of ks id z) done → Tiles (kept_of ks id z) k.last
    tiles_more = held_more (kept_of ks id z) id done k (found _ (take z ks) e).0 (λ j h. some_kept ks id z j ∙ (found _ (take z ks) e).1 (holds id j) h)
