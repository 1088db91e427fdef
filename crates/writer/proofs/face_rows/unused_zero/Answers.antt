use Rattle.std.proofs.Common.{◌∙◌, ap, rules}
use borrow.Author.Tests.{tests}
use Rattle.std.specs.List.{list_all}
use Rattle.std.proofs.lemmas.Iterator.{YieldsList-from_slice}
use Rattle.std.proofs.lemmas.Iterator.Search.{all_from_yields_List}
use Rattle.texts.specs.Judged.{zero_by}
use Rattle.writer.proofs.RowTests.{unused_is}
use Rattle.writer.proofs.face_rows.unused_zero.Goals as goal

pub returns : goal.returns
returns c =
    let a = c.args in
    all_from_yields_List zero_by _ _ c.all.result c.all.ensures.ran (YieldsList-from_slice _ c.iter.ensures.rest) (λ x b q k. search (rules, tests))
    ∙ ap (list_all zero_by) (unused_is a.count c.min-used.result a.row.now c.min-used.ensures)
