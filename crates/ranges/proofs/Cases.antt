-- Closed cases of the functions that only our own crates call: the right answer, and what a wrong program would have answered there. Assumes nothing.
use mathlib.Core.Path.{◌≡◌, refl}
use mathlib.Core.Bool.{true, false, ◌&&◌}
use Rattle.std.specs.Prelude.{Some, None}
use lib.Dec.{ltb, leb}
use Rattle.sizes.specs.Sizes.{rows, zone_id}
use Rattle.layout.specs.State.{fits_in, decl_range, part_range, zone_fits}
use Rattle.ranges.specs.Ranges.{limit_for}

-- `fits_in_lem`: a table that just fits refused
fits_in_lem : (fits_in (limit_for (Some 4)) 4 ≡ true) × (ltb 4 4 ≡ false)
fits_in_lem = (refl, refl)

-- `decl_range`: a declaration from 0 taken
decl_range_lem : (decl_range 0 4 ≡ false) × ((leb 0 1 && leb 4 rows) ≡ true)
unfolding decl_range
decl_range_lem = (refl, refl)

-- `part_range`: a section of one index refused
part_range_lem : (part_range 4 1 2 2 ≡ true) × ((leb 1 zone_id && (leb 1 2 && (ltb 2 2 && leb 2 4))) ≡ false)
unfolding part_range
part_range_lem = (refl, refl)

-- `zone_fits`: the room of the lent list never asked
zone_fits_lem : (zone_fits (limit_for (Some 2)) 2 ≡ false) × (zone_fits (limit_for None) 2 ≡ true)
unfolding zone_fits
zone_fits_lem = (refl, refl)
