-- `records::extra_bytes` meets its contract: the table's three cases. Assumes nothing.
use mathlib.Core.Path.{sym, ◌∙◌}
use Rattle.records.proofs.Record.{extra_bytes_place, extra_bytes_count, extra_bytes_none}
use Rattle.records.proofs.extra_bytes.Goals as goal

pub returns-then-has_place : goal.returns-then-has_place
returns-then-has_place c = extra_bytes_place _ _ (sym c.has_place.ensures ∙ c.if-has_place.true)

pub returns-then-kind-eq-COUNTED : goal.returns-then-kind-eq-COUNTED
returns-then-kind-eq-COUNTED c = extra_bytes_count _ _ (sym c.has_place.ensures ∙ c.if-has_place.false) c.if-kind-eq-COUNTED.true

pub returns-else-kind-eq-COUNTED : goal.returns-else-kind-eq-COUNTED
returns-else-kind-eq-COUNTED c = extra_bytes_none _ _ (sym c.has_place.ensures ∙ c.if-has_place.false) c.if-kind-eq-COUNTED.false
