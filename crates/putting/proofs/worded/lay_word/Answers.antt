use Rattle.putting.proofs.Counting.{count_small}
use native.Mathlib.Omega.{arith}
use Rattle.putting.proofs.worded.lay_word.Goals as goal

pub overflow_add-long : goal.overflow_add-long
overflow_add-long c = omega (arith, c.hex_count-count.ensures, count_small 16 (omega arith) (omega arith) _ c.from-n.type_inv)
