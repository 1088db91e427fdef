-- Signed numbers, as the machine has them, and coordinates. Assumes nothing.
use Prim.Native.Nat.{ℕ, suc, ◌+◌, ◌≤◌}
use native.Mathlib.Omega.{arith}
use mathlib.Core.Path.{◌≡◌, ◌∙◌, ap}
use mathlib.Core.List.{List, [], ◌∷◌}
use lib.IntN.{ℤ, pos, negsuc, nat_abs}
use lib.ListN.{length, set, length-append}
use lib.Seq.{sets, set-set}
use mir.Syntax.{w32, w64}
use mir.Val.{SFits, of_z, to_z}
use mir.ValLaws.{to_z-of_z}
use Rattle.figures.specs.Figures.{figures}
use Rattle.figures.specs.Signed.{sign_text, decimal_text, coordinate_text}
use Rattle.figures.proofs.Figures.{figures_some}
use Rattle.putting.specs.Putting.{Laid}
use Rattle.putting.proofs.Laying.{laid_more}

pub sign_short : (z : ℤ) → length (sign_text z) ≤ 1
sign_short (pos n) = omega arith
sign_short (negsuc n) = omega arith

-- ---- all of it: a byte, a sign, and the figures behind the sign or over it
sets_over : (vs l : List ℕ) (i x : ℕ) → 1 ≤ length vs → sets (set l i x) i vs ≡ sets l i vs
sets_over [] l i x h = absurd (omega arith)
sets_over (v ∷ vs) l i x h = ap (λ y. sets y (suc i) vs) (set-set l i x v)

over_laid : (z : ℤ) (lead at : ℕ) (old : List ℕ) → sets (set (set old at lead) (at + 1) 45) (at + (1 + length (sign_text z))) (figures 10 (nat_abs z)) ≡ sets old at (lead ∷ decimal_text z)
unfolding decimal_text
over_laid (pos n) lead at old =
    let z : at + 1 ≡ suc at = omega arith in
    rw z (sets_over (figures 10 n) (set old at lead) (suc at) 45 (figures_some 10 (omega arith) (omega arith) n))
over_laid (negsuc n) lead at old =
    let z : at + 1 ≡ suc at = omega arith in
    let y : at + 2 ≡ suc (suc at) = omega arith in
    rw (z, y)

module _ (z : ℤ) (f : SFits w64 z) {n s : ℕ} (e : n ≡ nat_abs (to_z w64 (of_z w64 z))) (g : s ≡ length (sign_text (to_z w64 (of_z w64 z)))) where
  size_is : n ≡ nat_abs z
  size_is = e ∙ ap nat_abs (to_z-of_z w64 z f)

  sign_is : s ≡ length (sign_text z)
  sign_is = g ∙ ap (λ x. length (sign_text x)) (to_z-of_z w64 z f)

  pub signed_few : s ≤ 1
  signed_few = omega (arith, sign_is, sign_short z)

  pub signed_long : {count : ℕ} (lead : ℕ) → count ≡ length (figures 10 n) → 1 + s + count ≡ length (lead ∷ decimal_text z)
  unfolding decimal_text
  signed_long lead h = omega (arith, sign_is, ap (λ m. length (figures 10 m)) size_is, length-append (sign_text z) (figures 10 (nat_abs z)))

  module _ (lead at : ℕ) (old new : List ℕ) (l : new ≡ sets (set (set old at lead) (at + 1) 45) (at + (1 + s)) (figures 10 n)) where
    pub signed_laid : new ≡ sets old at (lead ∷ decimal_text z)
    signed_laid = l ∙ ap (λ k. sets (set (set old at lead) (at + 1) 45) (at + (1 + k)) (figures 10 n)) sign_is ∙ ap (λ m. sets (set (set old at lead) (at + 1) 45) (at + (1 + length (sign_text z))) (figures 10 m)) size_is ∙ over_laid z lead at old

-- ---- a narrow one widened
pub widened : (e : ℤ) → SFits w32 e → SFits w64 (to_z w32 (of_z w32 e))
widened e f = rw (to_z-of_z w32 e f) (record { sfits = omega (arith, f.sfits) })

pub laid_coordinate : (lead : ℕ) (m e : ℤ) → SFits w64 m → (f : SFits w32 e) → {old : List ℕ} {at : ℕ} {mid : List ℕ} {i : ℕ} {new : List ℕ} {r : ℕ}
    → Laid old at (lead ∷ decimal_text (to_z w64 (of_z w64 m))) mid i → Laid mid i (101 ∷ decimal_text (to_z w64 (of_z w64 (to_z w32 (of_z w32 e))))) new r → Laid old at (lead ∷ coordinate_text m e) new r
unfolding coordinate_text
laid_coordinate lead m e g f p q = laid_more (rw (to_z-of_z w64 m g) at p) (rw (to_z-of_z w64 _ (widened e f), to_z-of_z w32 e f) at q)
