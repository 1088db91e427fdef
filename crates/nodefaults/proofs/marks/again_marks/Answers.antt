-- `nodefaults::marks::again_marks` meets its contract: the test of each position that is looked at. Assumes nothing.
use mathlib.Core.Path.{◌≡◌, ◌∙◌}
use borrow.Author.Rules.{rules}
use lib.ListN.{length}
use Rattle.nodefaults.proofs.Marked.{again, again_0, again_1, again_2, again_3, cut_read, cut_few}
use Rattle.nodefaults.proofs.marks.again_marks.Goals as goal

pub returns-then-looked-lt-SOLID_LEAST : goal.returns-then-looked-lt-SOLID_LEAST
returns-then-looked-lt-SOLID_LEAST c =
    let l = c.args.row in
    let h : length c.args.row ≡ 4 = search rules in
    cut_few (again l h) c.args.looked c.if-looked-lt-SOLID_LEAST.true (again_0 l h) (again_1 l h) c.looked_bits.ensures

pub returns : goal.returns
returns c =
    let l = c.args.row in
    let h : length c.args.row ≡ 4 = search rules in
    cut_read (again l h) c.args.looked c.requires (again_0 l h) (again_1 l h) (c.contains.ensures.value ∙ again_2 l h) (c.contains-2.ensures.value ∙ again_3 l h) c.looked_bits-2.ensures
