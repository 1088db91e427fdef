-- One more section kept in the three lists: those below stay, and it stands on top. Assumes nothing.
use Prim.Native.Nat.{ℕ, zero, suc, ◌≤◌, ◌<◌}
use native.Mathlib.Omega.{arith}
use mathlib.Core.Path.{◌≡◌, refl, ◌∙◌, ap}
use mathlib.Core.List.{[]}
use lib.ListN.{length, set}
use lib.Seq.{get_or-set_same, get_or-set_other}
use Rattle.kept.specs.declared.Kept.{Kept}
use Rattle.kept.specs.Kept.{Listed, on_top, kept_at, kept_by_lists}

-- the three lists with section k at place z
abbrev pub stored : Listed → ℕ → Kept → Listed
stored l z k = record { ids = set l.ids z k.id; firsts = set l.firsts z k.first; lasts = set l.lasts z k.last }

abbrev of_words : ℕ → ℕ → ℕ → Kept
of_words t f l = record { id = t; first = f; last = l }

same_words : {t u f g l m : ℕ} → t ≡ u → f ≡ g → l ≡ m → of_words t f l ≡ of_words u g m
same_words {t} {u} {f} {g} {l} {m} p q r = ap (λ y. of_words y f l) p ∙ ap (λ y. of_words u y l) q ∙ ap (of_words u g) r

module _ (l : Listed) (z : ℕ) (k : Kept) where
  below : (i : ℕ) → i < z → kept_at (stored l z k) i ≡ kept_at l i
  below i h =
      let n : i ≡ z → ⊥ = λ e. omega arith in
      same_words (get_or-set_other l.ids z i k.id 0 n) (get_or-set_other l.firsts z i k.first 0 n) (get_or-set_other l.lasts z i k.last 0 n)

  pub kept_below : (id n : ℕ) → n ≤ z → kept_by_lists (stored l z k) id n ≡ kept_by_lists l id n
  unfolding kept_by_lists
  kept_below id zero h = refl
  kept_below id (suc n) h = ap (λ y. on_top id y (kept_by_lists (stored l z k) id n)) (below n (omega arith)) ∙ ap (on_top id (kept_at l n)) (kept_below id n (omega arith))

  module _ (p : z < length l.ids) (q : z < length l.firsts) (r : z < length l.lasts) where
    top : kept_at (stored l z k) z ≡ k
    top = same_words (get_or-set_same l.ids z k.id 0 p) (get_or-set_same l.firsts z k.first 0 q) (get_or-set_same l.lasts z k.last 0 r)

    pub kept_top : (id : ℕ) → kept_by_lists (stored l z k) id (suc z) ≡ on_top id k (kept_by_lists l id z)
    unfolding kept_by_lists
    kept_top id = ap (λ y. on_top id y (kept_by_lists (stored l z k) id z)) top ∙ ap (on_top id k) (kept_below id z (omega arith))

pub kept_none : (l : Listed) (id : ℕ) → kept_by_lists l id 0 ≡ []
unfolding kept_by_lists
kept_none l id = refl
