-- `sidefaults::sound::any_side_fault` meets its contract: one way for each test. Assumes nothing.
use native.Mathlib.Omega.{arith}
use mathlib.Core.Path.{sym, ◌∙◌}
use Rattle.sidefaults.proofs.OfSides.{sides_zero, sides_right, sides_left, sides_open_right, sides_open_left, sides_cells}
use Rattle.sidefaults.proofs.sound.any_side_fault.Goals as goal

pub returns-then-cells-right : goal.returns-then-cells-right
returns-then-cells-right c = let a = c.args in sides_right 4 a.frame a.face c.if-cells-right.true

pub returns-then-right-eq0 : goal.returns-then-right-eq0
returns-then-right-eq0 c =
    let a = c.args in
    sides_zero 4 a.frame a.face (c.if-right-eq0.true ∙ sym c.if-left-eq0.true) c.if-right-eq0.true

pub returns-then-left-eq0 : goal.returns-then-left-eq0
returns-then-left-eq0 c =
    let a = c.args in
    c.is_interior.ensures
    ∙ sides_open_left 4 a.frame a.face (λ e. c.if-right-eq0.false (e ∙ c.if-left-eq0.true)) c.if-cells-right.false (omega (arith, c.if-left-eq0.true)) c.if-right-eq0.false c.if-left-eq0.true

pub returns-then-cells-left : goal.returns-then-cells-left
returns-then-cells-left c = sides_left 4 c.args.frame c.args.face c.if-cells-right.false c.if-cells-left.true

pub returns-then-right-eq0-2 : goal.returns-then-right-eq0-2
returns-then-right-eq0-2 c =
    let a = c.args in
    c.is_interior-then-right-eq0-2.ensures
    ∙ sides_open_right 4 a.frame a.face (λ e. c.if-left-eq0.false (sym e ∙ c.if-right-eq0-2.true)) c.if-cells-right.false c.if-cells-left.false c.if-right-eq0-2.true

pub returns : goal.returns
returns c =
    let a = c.args in
    let r = c.if-right-eq0-2.false in
    let z = c.if-left-eq0.false in
    sides_cells 4 a.frame a.face (omega (arith, r)) c.if-cells-right.false (omega (arith, z)) c.if-cells-left.false
