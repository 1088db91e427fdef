-- `records::lay_record` meets its contract: three numbers one behind the other. Assumes nothing.
use mathlib.Core.Path.{refl}
use Rattle.records.proofs.Parts.{record_laid}
use Rattle.records.proofs.lay_record.Goals as goal

pub returns : goal.returns
returns c = record_laid _ _ _ _ _ _ refl c.lay_number.ensures c.lay_number-2.ensures c.lay_extra.ensures
