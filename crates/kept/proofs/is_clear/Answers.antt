use Rattle.std.proofs.Common.{rules}
use borrow.Author.Tests.{tests}
use mathlib.Core.Path.{◌∙◌}
use Rattle.std.proofs.lemmas.Iterator.{YieldsList-from_slice, YieldsList-from_take}
use Rattle.std.proofs.lemmas.Iterator.Search.{all_from_yields_List}
use Rattle.kept.specs.Kept.{apart}
use Rattle.kept.proofs.Keeping.{clear_kept}
use Rattle.kept.proofs.is_clear.Goals as goal

pub returns : goal.returns
returns c =
    let a = c.args in
    all_from_yields_List (apart a.id a.first a.last) _ _ c.all.result c.all.ensures.ran (YieldsList-from_take a.z (YieldsList-from_slice a.kept.now (cc)) c.take.ensures.count) (λ x b q k. search (rules, tests))
    ∙ clear_kept a.kept.now a.id a.z a.first a.last
