-- The marks of the nodes and those of the sides, joined. Assumes nothing.
use Prim.Native.Nat.{ℕ, ◌+◌, ◌*◌}
use native.Mathlib.Omega.{arith}
use mathlib.Core.Path.{◌≡◌}
use Rattle.mesh.specs.declared.Face.{Face}
use Rattle.faults.specs.declared.Frame.{Frame}
use Rattle.faults.specs.Over.{packed}
use Rattle.faults.specs.Marked.{node_part, side_part, marks_of}

module _ (frame : Frame) (face : Face) where
  pub parts_joined : {x y : ℕ} → x ≡ node_part 4 frame face → y ≡ side_part 4 frame face → x + 4096 * y ≡ marks_of 4 frame face
  unfolding marks_of node_part side_part packed
  parts_joined p q = omega (arith, p, q)
