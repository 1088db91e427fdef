-- No second content of a slice lent to a public function meets its contract, whatever its values are. Assumes nothing.
use mathlib.Core.Path.{refl, sym, ◌∙◌}
use Rattle.facts.specs.OnlyLeft.{OnlyLeft}
use Rattle.stores.proofs.store.Reads as store
use Rattle.stores.proofs.copy_into.Reads as copy-into

pub store_only : (T : _) (laws : _) (copy : _) (clone : _) (dict : _) → OnlyLeft (λ κ x. x.0.now) (store.Post T laws copy clone dict)
store_only T laws copy clone dict κ a r r' x x' p q = (refl, p ∙ sym q)

pub copy_into_only : (T : _) (laws : _) (copy : _) (clone : _) (dict : _) → OnlyLeft (λ κ x. x.1.0.now) (copy-into.Post T laws copy clone dict)
copy_into_only T laws copy clone dict κ a r r' x x' p q = (refl, p ∙ sym q)
