-- `finish_of` keeps the canonical pair of the digits and the power. Assumes nothing.
use borrow.Author.Rules.{sfits_of}
use mathlib.Core.Path.{◌≡◌, sym, subst, ◌∙◌}
use lib.IntN.{pos, ◌+ℤ◌, ◌-ℤ◌}
use mir.Syntax.{w32, w64}
use mir.Val.{SFits, of_z, to_z}
use mir.ValLaws.{to_z-of_z}
use Rattle.coordinates.proofs.Kept.{exponent_fits, keep_over, keep_nought, keeps, refuses}
use Rattle.coordinates.proofs.finish.finish_of.Goals as goal

-- more than 18 digits
pub returns-then-x : goal.returns-then-x
returns-then-x c = λ v s. keep_over _ _ v s _ c.if-x.true

-- zero
pub returns-then-x-eq0 : goal.returns-then-x-eq0
returns-then-x-eq0 c = λ v s. keep_nought _ _ v s _ c.if-x.false c.if-x-eq0.true

-- the exponent is out of its range
pub returns-then-not-in_range : goal.returns-then-not-in_range
returns-then-not-in_range c =
    λ v s. refuses _ _ v s _ c.if-x.false _ c.cut_of-c.ensures _
    (to_z-of_z w64 _ (sfits_of c.exponent_of-e.type_inv) ∙ c.exponent_of-e.ensures ∙ rw (to_z-of_z w64 _ c.ranges.k)) _
    c.in_range.ensures c.if-not-in_range.true

-- the exponent is in its range
pub returns : goal.returns
returns c =
    let k = c.args.k in
    let e : to_z w64 (of_z w64 c.exponent_of-e.result) ≡ k -ℤ pos c.args.x.count +ℤ pos c.cut_of-c.result.zeros
    = to_z-of_z w64 _ (sfits_of c.exponent_of-e.type_inv) ∙ c.exponent_of-e.ensures ∙ rw (to_z-of_z w64 _ c.ranges.k) in
    let f = subst (SFits w32) (sym e) (exponent_fits k _ _ c.requires.1 c.requires.0.count c.cut_of-c.ensures.few) in
    λ v s. rw (to_z-of_z w32 _ f)
    (keeps _ _ v s _ c.if-x.false _ c.cut_of-c.ensures _ e _ c.in_range.ensures
    _ (to_z-of_z w64 _ (sfits_of c.with_sign-mantissa.type_inv) ∙ c.with_sign-mantissa.ensures) c.if-not-in_range.false)
