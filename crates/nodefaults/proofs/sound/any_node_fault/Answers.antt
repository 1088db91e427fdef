-- `nodefaults::sound::any_node_fault` meets its contract: one way for each test, over the four words of the row. Assumes nothing.
use mathlib.Core.Path.{sym, ◌∙◌}
use Rattle.nodefaults.proofs.OfNodes.{nodes_pair, nodes_flat, nodes_third, nodes_3, nodes_4, nodes_other}
use borrow.Author.Rules.{rules}
use Rattle.nodefaults.proofs.sound.any_node_fault.Goals as goal

pub returns-then-wrong_pair : goal.returns-then-wrong_pair
returns-then-wrong_pair c = nodes_pair c.args.frame c.args.face (search rules) (sym c.wrong_pair.ensures ∙ c.if-wrong_pair.true)

pub returns-then-frame-eq2 : goal.returns-then-frame-eq2
returns-then-frame-eq2 c = nodes_flat c.args.frame c.args.face (search rules) (sym c.wrong_pair.ensures ∙ c.if-wrong_pair.false) c.if-frame-eq2.true

pub returns-then-wrong_third : goal.returns-then-wrong_third
returns-then-wrong_third c = nodes_third c.args.frame c.args.face (search rules) c.if-frame-eq2.false (sym c.wrong_third.ensures ∙ c.if-wrong_third.true)

pub returns-then-face-eq3 : goal.returns-then-face-eq3
returns-then-face-eq3 c =
    nodes_3 c.args.frame c.args.face (search rules) (sym c.wrong_pair.ensures ∙ c.if-wrong_pair.false) c.if-frame-eq2.false (sym c.wrong_third.ensures ∙ c.if-wrong_third.false) c.if-face-eq3.true

pub returns-then-face-eq4 : goal.returns-then-face-eq4
returns-then-face-eq4 c =
    c.wrong_fourth.ensures ∙ nodes_4 c.args.frame c.args.face (search rules) (sym c.wrong_pair.ensures ∙ c.if-wrong_pair.false) c.if-frame-eq2.false (sym c.wrong_third.ensures ∙ c.if-wrong_third.false) c.if-face-eq4.true

pub returns : goal.returns
returns c = nodes_other c.args.frame c.args.face (search rules) c.if-frame-eq2.false c.if-face-eq3.false c.if-face-eq4.false
