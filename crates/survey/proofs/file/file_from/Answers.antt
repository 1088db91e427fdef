use borrow.Enum.Refused.{opened}
use Rattle.survey.proofs.Filing.{nothing_kept, filing_start, filing_last, filing_no, ahead_here, beyond, filing_more}
use Rattle.sections.specs.Sections.{room_all}
use Rattle.sofar.specs.States.{state_by_lists}
use mathlib.Core.Path.{◌∙◌, sym, refl, ap}
use native.Mathlib.Omega.{arith}
use Rattle.survey.proofs.file.file_from.Goals as goal

pub loop-lists-init : goal.loop-lists-init
loop-lists-init c =
    let p = c.requires in
    filing_start _ _ _ _ _ (ap (state_by_lists _) c.nothing-x.ensures ∙ nothing_kept _) (record { ids = p.1.0; firsts = p.1.1.0; lasts = p.1.1.1 })

pub shape_of-ids-in_default : goal.shape_of-ids-in_default
shape_of-ids-in_default c = c.loop-lists.invariant.kept_long.ids ∙ sym c.requires.1.0

pub shape_of-firsts-in_default : goal.shape_of-firsts-in_default
shape_of-firsts-in_default c = c.loop-lists.invariant.kept_long.firsts ∙ sym c.requires.1.1.0

pub shape_of-lasts-in_default : goal.shape_of-lasts-in_default
shape_of-lasts-in_default c = c.loop-lists.invariant.kept_long.lasts ∙ sym c.requires.1.1.1

pub shape_of-places-in_default : goal.shape_of-places-in_default
shape_of-places-in_default c = c.loop-lists.invariant.places_long

pub returns-in_default : goal.returns-in_default
returns-in_default c =
    filing_last _ (room_all c.args.room) _ _ _ _ _ _ c.loop-lists.invariant _ c.token_at-t.ensures (opened c.in_default.in_default-own.keys2) c.last_by_lists.ensures

pub overflow_add-k : goal.overflow_add-k
overflow_add-k c = omega (arith, c.loop-lists.invariant.few, c.loop-lists.invariant.within, c.requires.0)

pub shape_of-ids-in-Err : goal.shape_of-ids-in-Err
shape_of-ids-in-Err c = c.loop-lists.invariant.kept_long.ids ∙ sym c.requires.1.0

pub shape_of-firsts-in-Err : goal.shape_of-firsts-in-Err
shape_of-firsts-in-Err c = c.loop-lists.invariant.kept_long.firsts ∙ sym c.requires.1.1.0

pub shape_of-lasts-in-Err : goal.shape_of-lasts-in-Err
shape_of-lasts-in-Err c = c.loop-lists.invariant.kept_long.lasts ∙ sym c.requires.1.1.1

pub shape_of-places-in-Err : goal.shape_of-places-in-Err
shape_of-places-in-Err c = c.loop-lists.invariant.places_long

pub returns-in-Err : goal.returns-in-Err
returns-in-Err c =
    filing_no _ (room_all c.args.room) _ _ _ _ _ _ c.loop-lists.invariant _ c.token_at-t.ensures c.in-Left.is _ c.section_by_lists.ensures c.in-Err.is refl

pub overflow_cast-place : goal.overflow_cast-place
overflow_cast-place c =
    let l = ahead_here _ (room_all c.args.room) _ _ _ _ _ _ c.loop-lists.invariant _ c.token_at-t.ensures c.in-Left.is in omega (arith, l, c.requires.0)

pub loop-lists-smaller : goal.loop-lists-smaller
loop-lists-smaller c =
    let b = beyond _ (room_all c.args.room) _ _ _ _ _ _ c.loop-lists.invariant _ c.token_at-t.ensures c.in-Left.is _ c.section_by_lists.ensures c.in-Ok.is in omega arith

pub loop-lists-preserved : goal.loop-lists-preserved
loop-lists-preserved c =
    filing_more _ (room_all c.args.room) _ _ _ _ _ _ c.loop-lists.invariant _ c.token_at-t.ensures c.in-Left.is _ c.section_by_lists.ensures c.in-Ok.is (λ i. record { ids = c.keep.ensures.ids i; firsts = c.keep.ensures.firsts i; lasts = c.keep.ensures.lasts i }) c.keep.ensures.places c.noted-x.ensures
