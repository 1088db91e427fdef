use Rattle.digits.specs.Lanes.{paired_of}
use Prim.Native.Nat.{ℕ, ◌*◌}
use mathlib.Core.Path.{◌∙◌, ap}
use lib.Dec.{lit<}
use native.Mathlib.Nat.{mul-le-mul}
use native.Mathlib.Omega.{arith}
use Rattle.digits.proofs.group.folded.Goals as goal

-- src/group.rt:89:18
pub overflow_mul-square : goal.overflow_mul-square
overflow_mul-square c = omega (arith, mul-le-mul c.requires c.requires)

-- src/group.rt:90:9
pub paired-fours-requires : goal.paired-fours-requires
paired-fours-requires c = (lit< tt, omega (arith, mul-le-mul c.requires c.requires))

-- src/group.rt:91:17
pub overflow_mul-power : goal.overflow_mul-power
overflow_mul-power c = omega (arith, mul-le-mul (mul-le-mul c.requires c.requires) (mul-le-mul c.requires c.requires))

-- src/group.rt:92:5
pub paired-requires : goal.paired-requires
paired-requires c = (lit< tt, omega (arith, mul-le-mul (mul-le-mul c.requires c.requires) (mul-le-mul c.requires c.requires)))

-- src/group.rt:84:1
pub returns : goal.returns
returns c =
    c.paired.ensures ∙ ap (λ (y : ℕ). paired_of 4294967296 4294967295 (c.args.base * c.args.base * (c.args.base * c.args.base)) y) (c.paired-fours.ensures ∙ ap (λ (y : ℕ). paired_of 65536 281470681808895 (c.args.base * c.args.base) y) c.paired-pairs.ensures)
