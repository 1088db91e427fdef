-- No second answer of a public function, and no second content of a slice lent to it, meets its contract. Assumes nothing.
use Prim.Native.Nat.{ℕ}
use mathlib.Core.Path.{refl, sym, ◌∙◌}
use mathlib.Core.List.{List}
use Rattle.facts.specs.Only.{Only}
use Rattle.facts.specs.OnlyLeft.{OnlyLeft}
use Rattle.notes.proofs.note.keep.Reads as keep
use Rattle.notes.proofs.note.noted.Reads as noted

pub noted_only : Only noted.Post
noted_only κ a r r' x x' p q = p ∙ sym q

-- the four lists that a call leaves
pub record Left : Type 0 where
  pub ids : List ℕ
  pub firsts : List ℕ
  pub lasts : List ℕ
  pub places : List ℕ

pub keep_only : OnlyLeft {L = Left} (λ κ x. record { ids = x.0.now; firsts = x.1.0.now; lasts = x.1.1.0.now; places = x.1.1.1.0.now }) keep.Post
keep_only κ a r r' x x' p q =
    (refl, λ i. record { ids = (p.0 ∙ sym q.0) i; firsts = (p.1.0 ∙ sym q.1.0) i; lasts = (p.1.1.0 ∙ sym q.1.1.0) i; places = (p.1.1.1 ∙ sym q.1.1.1) i })
