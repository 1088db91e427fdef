-- No second answer of the reader that answers the zone records as numbers, and no second content of what is lent, meets its contract. Assumes nothing.
use mathlib.Core.Path.{sym, ap, ◌∙◌}
use Rattle.facts.specs.OnlyLeft.{OnlyLeft}
use Rattle.filling.specs.Found.{Tables, Core}
use Rattle.filling.proofs.Few.{told_only}
use Rattle.filling.proofs.flat.read_flat.Reads as flat_reads

pub read_flat_only : OnlyLeft {L = Tables}
    (λ κ x. record { mantissas = x.1.0.now; exponents = x.1.1.0.now; faces = x.1.1.1.0.now; cells = x.1.1.1.1.0.now }) flat_reads.Post
read_flat_only κ a r r' x x' p q = let e = told_only (record { found = r; held = _ }) (record { found = r'; held = _ }) (p ∙ sym q) in (ap (λ (c : Core). c.found) e, ap (λ (c : Core). c.held) e)
