-- `records::put` meets its contract: it fits, it does not, or one before did not. Assumes nothing.
use native.Mathlib.Omega.{arith}
use borrow.Author.Rules.{rules}
use Rattle.records.specs.Record.{narrow}
use Rattle.records.proofs.Record.{extra_bytes_most}
use Rattle.records.proofs.Parts.{put_fits}
use Rattle.records.proofs.Laid.{step_full, step_shut}
use Rattle.records.proofs.put.Goals.{else-pen-via-then-pen+else-fits, else-pen-via-else-pen}
use Rattle.records.proofs.put.Goals as goal

pub overflow_add-size : goal.overflow_add-size
overflow_add-size c = omega (arith, c.extra_bytes-size.ensures, extra_bytes_most narrow c.args.f.kind)

pub returns-then-fits : goal.returns-then-fits
returns-then-fits c = put_fits _ _ _ _ _ c.if-pen.true c.extra_bytes-size.ensures (search rules) c.lay_record.ensures

pub returns : goal.returns
returns c =
    elim c.else-pen.branch [
      | else-pen-via-then-pen+else-fits w ↦ step_full narrow _ _ _ w.if-pen.true (search rules)
      | else-pen-via-else-pen w ↦ step_shut narrow _ _ _ w.if-pen.false
    ]
