-- `quick_lead` reads a coordinate as far as it goes and looks at the byte behind it. Assumes nothing.
use mathlib.Core.Path.{sym, ◌∙◌}
use native.Mathlib.Omega.{arith}
use Rattle.pairs.proofs.Leading.{lead_here, leads_past, leads_none, leads_on, leads_is, leads_fits}
use Rattle.pairs.proofs.leads.quick_lead.Goals as goal

-- the end of the file
pub returns-then-size-start : goal.returns-then-size-start
returns-then-size-start c = leads_past _ _ _ c.start-start.ensures c.if-size-start.true

-- no coordinate
pub returns-in_err-value : goal.returns-in_err-value
returns-in_err-value c =
    let b = c.start-start.ensures in
    c.from_residual.ensures
    ∙ leads_none _ _ _ b _ (lead_here _ _ _ _ _ b (omega (arith, c.if-size-start.false)) c.window_end-end.ensures c.lead-l.ensures) c.in_err-value.was

pub overflow_add-next : goal.overflow_add-next
overflow_add-next c =
    let b = c.start-start.ensures in
    omega (
      arith,
      leads_fits _ _ _ b _ (lead_here _ _ _ _ _ b (omega (arith, c.if-size-start.false)) c.window_end-end.ensures c.lead-l.ensures) _
          c.in_ok-value.was,
    )

-- one, and the word ends
pub returns-then-ends_word : goal.returns-then-ends_word
returns-then-ends_word c =
    let b = c.start-start.ensures in
    leads_is _ _ _ b _ (lead_here _ _ _ _ _ b (omega (arith, c.if-size-start.false)) c.window_end-end.ensures c.lead-l.ensures) _
    c.in_ok-value.was (sym c.ends_word.ensures ∙ c.if-ends_word.true)

-- one, and the word goes on
pub returns : goal.returns
returns c =
    let b = c.start-start.ensures in
    leads_on _ _ _ b _ (lead_here _ _ _ _ _ b (omega (arith, c.if-size-start.false)) c.window_end-end.ensures c.lead-l.ensures) _
    c.in_ok-value.was (sym c.ends_word.ensures ∙ c.if-ends_word.false)
