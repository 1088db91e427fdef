-- The sides that name a cell: of one face, and over the rows. Only this file looks into `counted`. Assumes nothing.
use Prim.Native.Nat.{ℕ, suc, ◌+◌, ◌-◌, ◌*◌, ◌≤◌}
use native.Mathlib.Omega.{arith}
use mathlib.Core.Path.{◌≡◌, refl, ◌∙◌}
use mathlib.Core.List.{List}
use mathlib.Core.Bool.{Bool, true, false}
use lib.Dec.{eqb}
use Rattle.mesh.specs.declared.Face.{Face}
use Rattle.mesh.specs.Rows.{face_at}
use Rattle.faults.specs.Over.{sum_over}
use Rattle.faults.specs.Faults.{side_of}
use Rattle.faults.specs.Sides.{counted, one, sides_naming, count_over}
use Rattle.faults.proofs.Over.{sum_over_last, sum_over_most}

pub one_most : (b : Bool) → one b ≤ 1
one_most true = omega arith
one_most false = omega arith

-- a side counts where it names the cell
pub counted_right : (face : Face) (c : ℕ) → counted face 0 c ≡ eqb face.right c
unfolding counted side_of
counted_right face c = refl

pub counted_left : (face : Face) (c : ℕ) → counted face 1 c ≡ eqb face.left c
unfolding counted side_of
counted_left face c = refl

pub sides_naming_is : (face : Face) (c : ℕ) → sides_naming face c ≡ one (eqb face.right c) + one (eqb face.left c)
unfolding sides_naming counted side_of
sides_naming_is face c = refl

pub sides_naming_most : (face : Face) (c : ℕ) → sides_naming face c ≤ 2
unfolding sides_naming
sides_naming_most face c = omega (arith, one_most (counted face 0 c), one_most (counted face 1 c))

module _ (n : ℕ) (rows : List ℕ) where
  pub count_over_none : (c : ℕ) → count_over n rows 0 c ≡ 0
  unfolding count_over sum_over
  count_over_none c = refl

  -- one face more
  pub count_over_more : (faces c : ℕ) → count_over n rows (suc faces) c ≡ count_over n rows faces c + sides_naming (face_at n rows faces) c
  unfolding count_over
  count_over_more faces c =
      let z : 1 + faces - 1 ≡ faces = omega arith in
      sum_over_last (λ f. sides_naming (face_at n rows (f - 1)) c) 1 faces ∙ rw z

  pub count_over_most : (faces c : ℕ) → count_over n rows faces c ≤ faces * 2
  unfolding count_over
  count_over_most faces c = sum_over_most (λ f. sides_naming (face_at n rows (f - 1)) c) 2 1 faces (λ f. sides_naming_most (face_at n rows (f - 1)) c)
