-- One thing at a place: what the steps of the layout say of it on a good file. Assumes nothing.
use Rattle.std.specs.Prelude.{◌≡◌, ℕ, List, Result, Ok, Err}
use mathlib.Core.Path.{refl, sym, ◌∙◌, ap}
use Rattle.layout.specs.Reading as R
use Rattle.layout.specs.Reading.{Got}
use Rattle.spots.specs.declared.Bad.{Bad}
use Rattle.spots.specs.Pasts.{past_view, PastAt}
use Rattle.facts.specs.declared.Taken.{Taken}
use Rattle.spots.specs.declared.Read.{Read}
use Rattle.steps.specs.Views.{num_view, NumAt}
use Rattle.again.specs.Again.{Steps}
use Rattle.again.proofs.Then.{steps_got, steps_bad}

module _ (s : List ℕ) (at : ℕ) where
  module _ {g : Got R.Read} {r : Result (Taken Read) Bad} (h : NumAt s at r g) where
    pub value_no : (v : ℕ) (b : Bad) → r ≡ Err b → Steps s at g (λ x. v ≡ x.value)
    value_no v b q = steps_bad s (λ x. v ≡ x.value) at b.why b.offset (ap (num_view s) (sym q) ∙ h.says)

    pub value_is : (t : Taken Read) → r ≡ Ok t → Steps s t.next g (λ x. t.value.value ≡ x.value)
    value_is t q = steps_got s (λ x. t.value.value ≡ x.value) _ t.next (ap (num_view s) (sym q) ∙ h.says) refl

  module _ {g : Got Unit} {r : Result ℕ Bad} (h : PastAt s at r g) where
    pub past_no : (b : Bad) → r ≡ Err b → Steps s at g (λ u. Unit)
    past_no b q = steps_bad s (λ u. Unit) at b.why b.offset (ap (past_view s) (sym q) ∙ h.says)

    pub past_is : (n : ℕ) → r ≡ Ok n → Steps s n g (λ u. Unit)
    past_is n q = steps_got s (λ u. Unit) tt n (ap (past_view s) (sym q) ∙ h.says) tt
