use Rattle.boundary.proofs.Words.{few_zones, words_there, words_long, left_of_lem}
use native.Mathlib.Omega.{arith}
use Rattle.boundary.proofs.calls.ravneket_read.Goals as goal

-- src/calls.rt:31:16
pub overflow_mul-used : goal.overflow_mul-used
overflow_mul-used c = omega (arith, few_zones _ _ _ (record { found = c.read_flat-found.result; held = _ }) c.read_flat-found.ensures)

-- src/calls.rt:32:16
pub slice_bounds-flat-end : goal.slice_bounds-flat-end
slice_bounds-flat-end c = words_there _ _ _ (record { found = c.read_flat-found.result; held = _ }) c.read_flat-found.ensures

-- src/calls.rt:32:16
pub slice_bounds-copy_into-end : goal.slice_bounds-copy_into-end
slice_bounds-copy_into-end c = words_long _ _ _ (record { found = c.read_flat-found.result; held = _ }) c.read_flat-found.ensures

-- src/calls.rt:16:1
pub returns : goal.returns
returns c =
    left_of_lem _ _ c.args.zones.now c.args.answer.now (record { found = c.read_flat-found.result; held = _ }) c.read_flat-found.ensures _ _ _ c.copy_into.ensures c.answer_read.ensures
