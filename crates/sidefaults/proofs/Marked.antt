-- The faults of a face's sides as one number: how it is put together. Assumes nothing.
use Prim.Native.Nat.{ℕ, ◌+◌, ◌*◌, ◌^◌}
use native.Mathlib.Omega.{arith}
use mathlib.Core.Path.{◌≡◌, sym, ap, ◌∙◌}
use mathlib.Core.Bool.{Bool, false}
use lib.Dec.{ltb}
use Rattle.mesh.specs.declared.Face.{Face}
use Rattle.faults.specs.declared.Frame.{Frame}
use Rattle.faults.specs.Over.{packed}
use Rattle.faults.specs.Faults.{positions_of, side_of, is_same, is_open, is_loose, has_fault, any_of_kind, side_fault}
use Rattle.faults.specs.Sides.{one}
use Rattle.faults.specs.Marked.{kind_marks, side_part}
use Rattle.faults.proofs.Marked.{packed_none, kind_none}

module _ (n : ℕ) (frame : Frame) (face : Face) where
  kind_4 : one (ltb frame.cells face.right) + 2 * one (ltb frame.cells face.left) ≡ kind_marks n frame face 4
  unfolding kind_marks packed positions_of has_fault side_of
  kind_4 = omega arith

  kind_5 : one (is_same face) ≡ kind_marks n frame face 5
  unfolding kind_marks packed positions_of has_fault
  kind_5 = omega arith

  kind_6 : one (is_open frame.cells face) ≡ kind_marks n frame face 6
  unfolding kind_marks packed positions_of has_fault
  kind_6 = omega arith

  kind_7 : one (is_loose frame.cells face) ≡ kind_marks n frame face 7
  unfolding kind_marks packed positions_of has_fault
  kind_7 = omega arith

  -- no fault, no mark
  pub side_none : {b : Bool} → b ≡ side_fault n frame face → b ≡ false → 0 ≡ side_part n frame face
  unfolding side_fault side_part
  side_none e t = sym (packed_none (any_of_kind n frame face) (2 ^ n) (kind_marks n frame face) (kind_none n frame face) 4 4 (sym e ∙ t))

-- ---- joined: each bit at its place
module _ (frame : Frame) (face : Face) where
  pub sides_joined : {x₁ x₂ x₃ x₄ x₅ : ℕ} {b₃ b₄ b₅ : Bool}
      → x₁ ≡ 1 * one (ltb frame.cells face.right)
      → x₂ ≡ 2 * one (ltb frame.cells face.left)
      → b₃ ≡ is_same face → x₃ ≡ 16 * one b₃
      → b₄ ≡ is_open frame.cells face → x₄ ≡ 256 * one b₄
      → b₅ ≡ is_loose frame.cells face → x₅ ≡ 4096 * one b₅
      → x₁ + x₂ + x₃ + x₄ + x₅ ≡ side_part 4 frame face
  unfolding side_part packed
  sides_joined q₁ q₂ p₃ q₃ p₄ q₄ p₅ q₅ =
      omega (
        arith,
        q₁,
        q₂,
        q₃,
        q₄,
        q₅,
        ap (λ (b : Bool). one b) p₃,
        ap (λ (b : Bool). one b) p₄,
        ap (λ (b : Bool). one b) p₅,
        kind_4 4 frame face,
        kind_5 4 frame face,
        kind_6 4 frame face,
        kind_7 4 frame face,
      )
