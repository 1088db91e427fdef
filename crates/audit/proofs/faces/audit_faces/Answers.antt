-- `audit::faces::audit_faces` meets its contract: each loop holds what is left to lay, and the outer one what is left to count. Assumes nothing.
-- the face is that of the number f
use native.Mathlib.Omega.{arith}
use mathlib.Core.Path.{refl, ◌∙◌}
use lib.Dec.{lit≤}
use Rattle.mesh.specs.Rows.{places}
use Rattle.faults.specs.Faults.{faults_of_kind, faults_of_face}
use Rattle.faults.proofs.Any.{few_positions}
use Rattle.audit.proofs.Loop.{start, turn, skip, ended, done}
use Rattle.audit.proofs.Listing.{kinds_at, kinds_some, kinds_here, kinds_rest, kinds_empty, face_some, face_here, face_rest, positions_empty, face_visited}
use Rattle.faults.proofs.Counting.{tallying_none, tallying_from, tallying_on, tallying_all}
use Rattle.audit.proofs.faces.audit_faces.Goals as goal

pub sound_to-f-requires : goal.sound_to-f-requires
sound_to-f-requires c = (omega arith, c.requires.0, c.requires.2, omega (arith, c.clear.auto.counts, c.requires.1), tallying_none _ _ _ _ _ _ c.clear.ensures)

pub faces-init : goal.faces-init
faces-init c =
    let e = c.sound_to-f.ensures in (
      e.within,
      omega (arith, e.tallied.kept, c.clear.auto.counts, c.requires.1),
      skip e.quiet (start _ 1 0 _ _ _ (omega arith)),
      tallying_from places _ _ _ e.tallied,
    )

pub face_of-face-requires : goal.face_of-face-requires
face_of-face-requires c = omega (arith, c.requires.2)

pub kinds-init : goal.kinds-init
unfolding faults_of_face
kinds-init c = (lit≤ tt, lit≤ tt, kinds_at _ _ _ _ c.face_of-face.ensures c.marks_of-marks.ensures, start _ 1 1 8 7 0 refl)

pub positions-init : goal.positions-init
unfolding faults_of_kind
positions-init c =
    let h = kinds_some _ _ _ c.kinds.invariant.2 c.kinds-test.true in
    (omega arith, few_positions places _ _ (lit≤ tt), kinds_here _ _ _ c.kinds.invariant.2 h, start _ 0 0 _ _ 0 (omega arith))

pub visit-s-requires : goal.visit-s-requires
visit-s-requires c =
    omega (arith, c.positions.invariant.3.few, c.positions.invariant.0, c.positions.invariant.1, c.kinds.invariant.3.few, c.kinds.invariant.1, c.faces.invariant.2.few, c.faces.invariant.0, c.requires.0)

pub overflow_add-p : goal.overflow_add-p
overflow_add-p c = omega (arith, c.positions.invariant.0, c.positions.invariant.1)

pub positions-preserved : goal.positions-preserved
positions-preserved c =
    let h = face_some _ _ _ _ c.positions.invariant.2 c.positions-test.true in (
      omega (arith, h),
      c.positions.invariant.1,
      face_rest _ _ _ _ c.positions.invariant.2 h,
      turn _ c.positions.p _ _ 1 _ h (omega arith) c.positions.invariant.3 (face_visited _ _ _ _ _ (face_here _ _ _ _ c.positions.invariant.2 h) c.visit-s.ensures),
    )

pub kinds-preserved : goal.kinds-preserved
kinds-preserved c =
    let h = kinds_some _ _ _ c.kinds.invariant.2 c.kinds-test.true in (
      omega arith,
      omega (arith, h),
      kinds_rest _ _ _ c.kinds.invariant.2 h,
      turn _ c.kinds.kind _ 8 4 _ h (omega (arith, c.kinds.invariant.0)) c.kinds.invariant.3
          (ended 4 (positions_empty _ _ _ _ _ c.positions.invariant.2 c.positions-test.false) (omega (arith, c.positions.invariant.0, c.positions.invariant.1)) c.positions.invariant.3),
    )

pub sound_to-f-requires-in-faces : goal.sound_to-f-requires-in-faces
sound_to-f-requires-in-faces c = (omega arith, c.requires.0, c.requires.2, c.faces.invariant.1, tallying_from places _ _ _ c.faces.invariant.3)

pub faces-smaller : goal.faces-smaller
faces-smaller c =
    let e = c.sound_to-f-in-faces.ensures in
    omega (arith, e.ahead, e.within)

pub faces-preserved : goal.faces-preserved
faces-preserved c =
    let e = c.sound_to-f-in-faces.ensures in (
      e.within,
      omega (arith, e.tallied.kept, c.faces.invariant.1),
      skip e.quiet
          (turn _ _ _ _ 28 _ (omega arith) (omega (arith, e.ahead)) c.faces.invariant.2
          (ended 28 (kinds_empty _ _ _ _ c.kinds.invariant.2 c.kinds-test.false) (omega (arith, c.kinds.invariant.1)) c.kinds.invariant.3)),
      tallying_on places _ _ _ c.faces.invariant.3 e.tallied,
    )

pub shape_of-counts : goal.shape_of-counts
shape_of-counts c = c.faces.invariant.3.kept ∙ c.sound_to-f.ensures.tallied.kept ∙ c.clear.auto.counts

pub shape_of-list : goal.shape_of-list
shape_of-list c = c.faces.invariant.2.kept

pub returns : goal.returns
returns c =
    record {
      visited = done _ _ _ _ _ (omega arith) (omega (arith, c.faces.invariant.0)) c.faces.invariant.2;
      counts = tallying_all places _ _ _ _ (omega arith) c.clear.ensures (tallying_on places _ _ _ c.sound_to-f.ensures.tallied c.faces.invariant.3);
    }
