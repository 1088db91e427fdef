-- `nodefaults::marks::looked_bits` meets its contract: each position by itself. Assumes nothing.
use Rattle.nodefaults.proofs.marks.looked_bits.Goals as goal

pub returns : goal.returns
returns c = rw (← c.at_looked-at_a.ensures, ← c.at_looked-at_b.ensures, ← c.at_looked-at_c.ensures, ← c.at_looked-at_d.ensures) c.bits.ensures
