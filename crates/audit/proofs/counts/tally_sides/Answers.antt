-- `audit::counts::tally_sides` meets its contract: two cells, one on the right alone, none on the right. Assumes nothing.
use Prim.Native.Nat.{◌-◌, ◌^◌}
use mathlib.Core.Path.{sym, ◌∙◌}
use Rattle.sidefaults.proofs.OfSides.{sides_cells}
use Rattle.faults.proofs.Counting.{cell_within, bump_there, both_bumped, right_bumped, left_bumped, bumped_small}
use native.Mathlib.Omega.{arith}
use Rattle.audit.proofs.counts.tally_sides.Goals as goal

pub add_one-requires : goal.add_one-requires
add_one-requires c =
    let n = c.args.face.right in
    let w = cell_within c.args.frame.cells n c.args.counts.now (sym c.is_cell.ensures ∙ c.if-is_cell.true) in
    (w.0, omega (arith, w.1, c.requires.0), omega (arith, c.requires.1 (n - 1) (omega (arith, w.0, w.1))))

pub add_one-requires-then-is_cell-2 : goal.add_one-requires-then-is_cell-2
add_one-requires-then-is_cell-2 c =
    let n = c.args.face.left in
    let w = cell_within c.args.frame.cells n c.args.counts.now (sym c.is_cell-then-is_cell.ensures ∙ c.if-is_cell-2.true) in
    let b = c.add_one.ensures ∙ bump_there c.args.frame.cells c.args.face.right c.args.counts.now (sym c.is_cell.ensures ∙ c.if-is_cell.true) in
    (w.0, omega (arith, w.1, c.requires.0, c.add_one.auto.counts), omega (arith, bumped_small _ _ (2 ^ 30) _ _ c.requires.0 b (λ j h. omega (arith, c.requires.1 j h)) (n - 1) (omega (arith, w.0, w.1))))

pub returns-then-is_cell-2 : goal.returns-then-is_cell-2
returns-then-is_cell-2 c =
    let p = sym c.is_cell.ensures ∙ c.if-is_cell.true in
    let q = sym c.is_cell-then-is_cell.ensures ∙ c.if-is_cell-2.true in
    let v = cell_within c.args.frame.cells c.args.face.right c.args.counts.now p in
    let w = cell_within c.args.frame.cells c.args.face.left c.args.counts.now q in
    record {
      counts = both_bumped _ _ _ _ p q c.add_one.ensures c.add_one-then-is_cell-2.ensures;
      answer = sides_cells 4 c.args.frame c.args.face v.0 v.1 w.0 w.1;
    }

pub returns-then-is_cell : goal.returns-then-is_cell
returns-then-is_cell c =
    record {
      counts = right_bumped _ _ _ _ (sym c.is_cell.ensures ∙ c.if-is_cell.true) (sym c.is_cell-then-is_cell.ensures ∙ c.if-is_cell-2.false) c.add_one.ensures;
      answer = c.any_side_fault.ensures;
    }

pub tally-requires : goal.tally-requires
tally-requires c = (c.requires.0, λ i h. omega (arith, c.requires.1 i h))

pub returns : goal.returns
returns c =
    record {
      counts = left_bumped _ _ _ _ (sym c.is_cell.ensures ∙ c.if-is_cell.false) c.tally.ensures;
      answer = c.any_side_fault-2.ensures;
    }
