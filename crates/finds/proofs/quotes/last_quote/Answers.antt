use mathlib.Core.Path.{◌∙◌}
use Rattle.tokens.specs.declared.Run.{Run}
use Rattle.tokens.proofs.Laws.{run_out}
use Rattle.finds.proofs.Passing.{run_passes}
use Rattle.finds.proofs.Shown.{quotes_show}
use Rattle.finds.proofs.Eights.{pass_nowhere, pass_here}
use Rattle.finds.proofs.quotes.last_quote.Goals as goal

pub returns-then-s-i : goal.returns-then-s-i
returns-then-s-i c = run_out Run.Text _ _ c.if-s-i.true

pub returns-then-here-eq0 : goal.returns-then-here-eq0
returns-then-here-eq0 c =
    pass_nowhere (run_passes Run.Text) (quotes_show _ (λ x r a. a)) c.args.s.now c.args.i c.bytes_at-x.result c.quotes-here.result c.bytes_at-x.ensures c.quotes-here.ensures c.if-s-i.false c.if-here-eq0.true c.requires

pub returns-else-here-eq0 : goal.returns-else-here-eq0
returns-else-here-eq0 c =
    c.place.ensures
    ∙ (pass_here (run_passes Run.Text) (quotes_show _ (λ x r a. a)) c.args.s.now c.args.i c.bytes_at-x.result c.quotes-here.result c.bytes_at-x.ensures c.quotes-here.ensures c.if-s-i.false c.if-here-eq0.false).0
