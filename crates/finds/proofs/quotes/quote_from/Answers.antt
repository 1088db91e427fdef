use Rattle.std.proofs.Common.{rules}
use native.Mathlib.Omega.{arith}
use mathlib.Core.Path.{◌∙◌}
use Rattle.tokens.specs.declared.Run.{Run}
use Rattle.finds.proofs.Eights.{searched_ok, searched_err}
use Rattle.finds.proofs.Shown.{quotes_show}
use Rattle.finds.proofs.quotes.quote_from.Goals as goal

pub last_quote-requires : goal.last_quote-requires
last_quote-requires c =
    let far = (searched_err _ _ _ (c.run_from.ensures Run.Text (quotes_show _ (λ x r a. search rules))) _ c.in-Err.is).1 in omega (arith, far)

pub returns-in-Ok : goal.returns-in-Ok
returns-in-Ok c = searched_ok _ _ _ (c.run_from.ensures Run.Text (quotes_show _ (λ x r a. search rules))) _ c.in-Ok.is

pub returns-in-Err : goal.returns-in-Err
returns-in-Err c = c.last_quote.ensures ∙ (searched_err _ _ _ (c.run_from.ensures Run.Text (quotes_show _ (λ x r a. search rules))) _ c.in-Err.is).0
