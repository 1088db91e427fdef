-- No second answer of a public function meets its contract. Assumes nothing.
use mathlib.Core.Path.{sym, ◌∙◌}
use Rattle.facts.specs.Only.{Only}
use Rattle.ranges.proofs.decl_range.Reads as decl_range_lem
use Rattle.ranges.proofs.fits_in.Reads as fits_in
use Rattle.ranges.proofs.part_range.Reads as part_range_lem
use Rattle.ranges.proofs.zone_fits.Reads as zone_fits_lem

pub decl_range_only : Only decl_range_lem.Post
decl_range_only κ a r r' x x' p q = p ∙ sym q

pub fits_in_only : Only fits_in.Post
fits_in_only κ a r r' x x' p q = p ∙ sym q

pub part_range_only : Only part_range_lem.Post
part_range_only κ a r r' x x' p q = p ∙ sym q

pub zone_fits_only : Only zone_fits_lem.Post
zone_fits_only κ a r r' x x' p q = p ∙ sym q
