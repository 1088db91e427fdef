use mathlib.Core.Path.{ap, ◌∙◌}
use lib.ListN.{drop}
use mathlib.Core.List.{◌++◌}
use Rattle.stores.proofs.Copied.{copied}
use Rattle.stores.proofs.copy_into.Goals as goal

pub returns : goal.returns
returns g c = ap (λ y. y ++ drop c.min-fits.result c.args.to.now) c.copy_from_slice.ensures.after ∙ copied c.args.from.now c.args.to.now _ c.min-fits.ensures
