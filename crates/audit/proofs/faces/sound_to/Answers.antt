-- `audit::faces::sound_to` meets its contract: no face so far has a fault, and their sides are counted. Assumes nothing.
use native.Mathlib.Omega.{arith}
use mathlib.Core.Path.{◌≡◌, refl, sym, ◌∙◌}
use Rattle.mesh.specs.Rows.{places}
use Rattle.audit.proofs.Loop.{face_quiet}
use Rattle.faults.proofs.Counting.{tallying_small, tallying_more, tallying_past}
use Rattle.audit.proofs.faces.sound_to.Goals as goal

pub tally_face-requires : goal.tally_face-requires
tally_face-requires c = (c.loop-f.invariant.2, λ i h. omega (arith, c.requires.1, tallying_small places _ _ _ c.loop-f.invariant.4 i h))

pub returns-then-tally_face : goal.returns-then-tally_face
returns-then-tally_face c =
    let e = c.tally_face.ensures in
    record {
      ahead = omega arith;
      within = omega arith;
      quiet = c.loop-f.invariant.3;
      faulty = λ _. rw (← c.face_of-face.ensures) (sym e.answer ∙ c.if-tally_face.true);
      tallied = tallying_more places _ _ _ _ (omega arith) c.loop-f.invariant.2 c.face_of-face.ensures refl e.counts c.loop-f.invariant.4;
    }

pub loop-f-preserved : goal.loop-f-preserved
loop-f-preserved c =
    let e = c.tally_face.ensures in (
      omega arith,
      omega arith,
      omega (arith, c.tally_face.auto.counts, c.loop-f.invariant.2),
      c.loop-f.invariant.3 ∙ face_quiet places _ _ _ _ _ (omega arith) c.face_of-face.ensures (sym e.answer ∙ c.if-tally_face.false),
      tallying_more places _ _ _ _ (omega arith) c.loop-f.invariant.2 c.face_of-face.ensures refl e.counts c.loop-f.invariant.4,
    )

pub returns : goal.returns
returns c =
    let z : c.loop-f.f ≡ c.args.faces = omega arith in
    let i = rw z at c.loop-f.invariant in
    record {
      ahead = i.0;
      within = i.1;
      quiet = i.3;
      faulty = λ h. absurd (omega arith);
      tallied = tallying_past places _ _ _ (omega arith) i.4;
    }
