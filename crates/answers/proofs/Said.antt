-- What is known of one case of an answer is known of the answer. Assumes nothing.
use Prim.Native.Nat.{ℕ}
use mathlib.Core.Path.{◌≡◌, sym, ap, ◌∙◌}
use mathlib.Core.List.{List}
use lib.Seq.{sets}

module _ {A : Type 0} (number : A → ℕ) (words : A → List ℕ) where
  pub answered : (a case : A) → a ≡ case → (n : ℕ) (old new : List ℕ) → n ≡ number case → new ≡ sets old 0 (words case)
      → (n ≡ number a) × (new ≡ sets old 0 (words a))
  answered a case e n old new p q = (p ∙ ap number (sym e), q ∙ ap (λ (y : A). sets old 0 (words y)) (sym e))
