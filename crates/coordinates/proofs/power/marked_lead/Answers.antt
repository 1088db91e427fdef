-- `marked_lead` reads the power behind the `e`, and where it stops. Assumes nothing.
use mir.Syntax.{w64}
use borrow.Author.Rules.{sfits_of}
use mathlib.Core.Path.{◌∙◌}
use native.Mathlib.Omega.{arith}
use mir.ValLaws.{to_z-of_z}
use Rattle.coordinates.proofs.Leading.{marked_few, marked_many, marked_less, marked_found}
use Rattle.coordinates.proofs.power.marked_lead.Goals.{then-d-lt1-via-then-d-lt1, then-d-lt1-via-else-d-lt1+then-d-gt3}
use Rattle.coordinates.proofs.power.marked_lead.Goals as goal

-- no digit, or more than three
pub returns-then-d-lt1 : goal.returns-then-d-lt1
returns-then-d-lt1 c =
    let a = c.args in
    let d = rw c.none_at.ensures at c.digits_from-d.ensures in
    elim c.then-d-lt1.branch [
      | then-d-lt1-via-then-d-lt1 r ↦ marked_few a.w.now a.at _ c.sign_at-s.ensures _ d r.if-d-lt1.true
      | then-d-lt1-via-else-d-lt1+then-d-gt3 r ↦ marked_many a.w.now a.at _ c.sign_at-s.ensures _ d r.if-d-gt3.true
    ]

pub with_sign-requires : goal.with_sign-requires
with_sign-requires c =
    let a = c.args in
    let d = rw c.none_at.ensures at c.digits_from-d.ensures in
    omega (arith, marked_less a.w.now a.at _ c.sign_at-s.ensures _ d c.if-d-gt3.false)

-- one to three
pub returns : goal.returns
returns c =
    let a = c.args in
    let d = rw c.none_at.ensures at c.digits_from-d.ensures in
    marked_found a.w.now a.at _ c.sign_at-s.ensures _ d c.if-d-lt1.false c.if-d-gt3.false
    _ (to_z-of_z w64 _ (sfits_of c.with_sign.type_inv) ∙ c.with_sign.ensures)
