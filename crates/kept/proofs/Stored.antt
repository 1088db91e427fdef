-- One more section kept: those below stay, and it stands on top. Assumes nothing.
use Prim.Native.Nat.{ℕ, suc, ◌<◌}
use mathlib.Core.Path.{◌≡◌, refl, ◌∙◌, ap}
use mathlib.Core.List.{List, [], ◌∷◌, ◌++◌}
use lib.ListN.{length, set, take}
use lib.Seq.{take-suc-set}
use Rattle.layout.specs.State.{Span}
use Rattle.kept.specs.declared.Kept.{Kept}
use Rattle.kept.specs.Kept.{on_top, stacked, kept_of}

stacked_last : (id : ℕ) (ks : List Kept) (k : Kept) (bs : List Span) → stacked id (ks ++ k ∷ []) bs ≡ on_top id k (stacked id ks bs)
unfolding stacked
stacked_last id [] k bs = refl
stacked_last id (j ∷ ks) k bs = stacked_last id ks k (on_top id j bs)

pub kept_top : (ks : List Kept) (z : ℕ) (k : Kept) (id : ℕ) → z < length ks → kept_of (set ks z k) id (suc z) ≡ on_top id k (kept_of ks id z)
kept_top ks z k id h = ap (λ l. stacked id l []) (take-suc-set ks z k h) ∙ stacked_last id (take z ks) k []

pub kept_none : (ks : List Kept) (id : ℕ) → kept_of ks id 0 ≡ []
unfolding stacked
kept_none ks id = refl
