use Prim.Native.Nat.{◌+◌}
use mathlib.Core.Path.{sym, ap, ◌∙◌}
use native.Mathlib.Omega.{arith}
use Rattle.twos.specs.Twos.{two_by}
use Rattle.twos.proofs.Twice.{two_short, two_solid, two_inside, two_found}
use Rattle.twos.proofs.known_two.Goals as goal

pub returns-then-size-lt-NEAR_BYTES : goal.returns-then-size-lt-NEAR_BYTES
returns-then-size-lt-NEAR_BYTES c = two_short _ _ (omega arith)

pub returns-then-last-at : goal.returns-then-last-at
returns-then-last-at c = two_short _ _ (omega arith)

pub returns-then-not-is_blank : goal.returns-then-not-is_blank
returns-then-not-is_blank c = two_solid _ _ (omega arith) (sym c.is_blank.ensures ∙ c.if-not-is_blank.true)

pub returns-in_err-c : goal.returns-in_err-c
returns-in_err-c c =
    two_found _ _ (omega arith) (sym c.is_blank.ensures ∙ c.if-not-is_blank.false) _ c.bytes_at-x.ensures _ c.couple_in.ensures _
    (c.from_residual.ensures ∙ sym (ap (two_by c.args.s.now (c.args.at + 1)) c.in_err-c.was))

pub two_of-requires : goal.two_of-requires
two_of-requires c =
    two_inside _ _ (omega arith) (sym c.is_blank.ensures ∙ c.if-not-is_blank.false) _ c.bytes_at-x.ensures _ c.couple_in.ensures _ c.in_ok-c.was

pub returns : goal.returns
returns c =
    two_found _ _ (omega arith) (sym c.is_blank.ensures ∙ c.if-not-is_blank.false) _ c.bytes_at-x.ensures _ c.couple_in.ensures _
    (c.two_of.ensures ∙ sym (ap (two_by c.args.s.now (c.args.at + 1)) c.in_ok-c.was))
