-- Words stored one behind the other: what the loops keep. Assumes nothing.
use Rattle.std.specs.Prelude.{Option, Some, None}
use Prim.Native.Nat.{ℕ, suc, ◌+◌, ◌-◌, ◌≤◌}
use native.Mathlib.Omega.{arith}
use mathlib.Core.Path.{◌≡◌, refl, sym, ◌∙◌, ap, subst}
use mathlib.Core.List.{List, [], ◌∷◌}
use lib.ListN.{set, get_or, replicate}
use lib.Seq.{sets}
use Rattle.layout.specs.Rows.{joined}
use Rattle.facts.specs.declared.Taken.{Taken}
use Rattle.twos.specs.declared.Two.{Two}
use Rattle.quick.specs.Quick.{known_of}
use Rattle.twos.specs.Twos.{TwoSays}
use Rattle.again.specs.Again.{many}
use Rattle.again.proofs.Puts.{sets_behind, repeated}
use Rattle.again.proofs.Many.{Going, going_start, single_more, single_end}
use Rattle.rows.specs.Words.{word_at, words_at, Puts, TwoLeft}

pub none_set : (o : List ℕ) (k : ℕ) → sets o k [] ≡ o
none_set o k = refl

-- ---- zeros
abbrev pub naught : List ℕ
naught = 0 ∷ []

pub zeros_are : (n : ℕ) → joined (replicate n naught) ≡ replicate n 0
zeros_are n = repeated 0 n

-- ---- words
pub word_put : (s : List ℕ) (at k : ℕ) (old : List ℕ) (r : Taken ℕ) {new : List ℕ} → r ≡ known_of s at → new ≡ set old k r.value → Puts (words_at s 1 at) k old new r.next
unfolding many
word_put s at k old r e q = (q ∙ ap (λ (y : Taken ℕ). set old k y.value) e, ap (λ (y : Taken ℕ). y.next) e)

-- a word that went into a list of its own
pub word_alone : (s : List ℕ) (at : ℕ) (w : List ℕ) (to : ℕ) → Puts (words_at s 1 at) 0 (0 ∷ []) w to → record { value = get_or w 0 0; next = to } ≡ known_of s at
unfolding many
word_alone s at w to h = λ i. record { value = get_or (h.0 i) 0 0; next = h.1 i }

abbrev pub Wording : List ℕ → ℕ → ℕ → ℕ → List ℕ → ℕ → ℕ → ℕ → List ℕ → Type 0
Wording s at n k old c left i cur = Going sets (word_at s) (λ v. v ∷ []) at n k old c left i cur

module _ (s : List ℕ) (at n k : ℕ) (old : List ℕ) where
  pub wording_start : Wording s at n k old at n k old
  wording_start = going_start sets none_set sets_behind (word_at s) (λ v. v ∷ []) at n k old n k refl refl

  module _ (c left i : ℕ) (cur : List ℕ) (g : Wording s at n k old c left i cur) where
    pub wording_more : (c' left' i' : ℕ) (cur' : List ℕ) → left ≡ suc left' → i' ≡ i + 1 → Puts (words_at s 1 c) i cur cur' c' → Wording s at n k old c' left' i' cur'
    wording_more c' left' i' cur' l e h = single_more sets none_set sets_behind (word_at s) at n k old c left i cur g c' left' i' cur' l e h.1 h.0

    pub wording_end : left ≤ 0 → Puts (words_at s n at) k old cur c
    wording_end l = single_end sets none_set sets_behind (word_at s) at n k old c left i cur g l

-- ---- two words found together
pub left_two : (s : List ℕ) (at left : ℕ) (t : Option Two) → 2 ≤ left → TwoSays s at t → TwoLeft s at left t
left_two s at left (Some t) h p = (h, p)
left_two s at left None h p = tt

module _ (s : List ℕ) (c left : ℕ) (r : Option Two) (t : Two) (q : r ≡ Some t) (h : TwoLeft s c left r) where
  both_left : (2 ≤ left) × TwoSays s c (Some t)
  both_left = subst (TwoLeft s c left) q h

  pub two_many : 2 ≤ left
  two_many = both_left.0

  pub wording_two : (at n k : ℕ) (old : List ℕ) (i : ℕ) (cur half new : List ℕ) → Wording s at n k old c left i cur → half ≡ set cur i t.first → new ≡ set half (i + 1) t.second
      → Wording s at n k old t.next (left - 2) (i + 2) new
  wording_two at n k old i cur half new g d e =
      let y = both_left.1 in
      let m = y.0 in
      let one = wording_more s at n k old c left i cur g m (left - 1) (i + 1) half (omega (arith, two_many)) refl (word_put s c i cur (record { value = t.first; next = m }) (sym y.1) d) in
      wording_more s at n k old m (left - 1) (i + 1) half one t.next (left - 2) (i + 2) new (omega (arith, two_many)) (omega arith) (word_put s m (i + 1) half (record { value = t.second; next = t.next }) (sym y.2) e)
