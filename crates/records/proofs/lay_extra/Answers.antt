-- `records::lay_extra` meets its contract: a position, a count, nothing. Assumes nothing.
use native.Mathlib.Omega.{arith}
use mathlib.Core.Path.{sym, ◌∙◌}
use Rattle.facts.specs.Bytes.{big_endian}
use Rattle.records.specs.Record.{narrow}
use Rattle.records.proofs.Record.{extra_bytes_place, extra_bytes_count, extra_bytes_none}
use Rattle.records.proofs.lay_extra.Goals as goal

pub lay_number-requires : goal.lay_number-requires
lay_number-requires c = omega (arith, c.requires, extra_bytes_place narrow c.args.kind (sym c.has_place.ensures ∙ c.if-has_place.true))

pub returns-then-has_place : goal.returns-then-has_place
returns-then-has_place c = rw (← extra_bytes_place narrow c.args.kind (sym c.has_place.ensures ∙ c.if-has_place.true)) c.lay_number.ensures

pub lay_number-requires-then-kind-eq-COUNTED : goal.lay_number-requires-then-kind-eq-COUNTED
lay_number-requires-then-kind-eq-COUNTED c = omega (arith, c.requires, extra_bytes_count narrow c.args.kind (sym c.has_place.ensures ∙ c.if-has_place.false) c.if-kind-eq-COUNTED.true)

pub returns-then-kind-eq-COUNTED : goal.returns-then-kind-eq-COUNTED
returns-then-kind-eq-COUNTED c =
    rw (← extra_bytes_count narrow c.args.kind (sym c.has_place.ensures ∙ c.if-has_place.false) c.if-kind-eq-COUNTED.true) c.lay_number-then-kind-eq-COUNTED.ensures

pub returns-else-kind-eq-COUNTED : goal.returns-else-kind-eq-COUNTED
unfolding big_endian
returns-else-kind-eq-COUNTED c = rw (← extra_bytes_none narrow c.args.kind (sym c.has_place.ensures ∙ c.if-has_place.false) c.if-kind-eq-COUNTED.false)
