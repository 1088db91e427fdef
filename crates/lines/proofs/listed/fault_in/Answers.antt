use Rattle.lines.proofs.Listing.{fault_is, extra_small}
use native.Mathlib.Omega.{arith}
use Rattle.lines.proofs.listed.fault_in.Goals as goal

-- src/listed.rt:50:9
pub number_in-extra-requires : goal.number_in-extra-requires
number_in-extra-requires c = (extra_small _ _ c.extra_bytes-bytes.ensures, omega (arith, c.requires))

-- src/listed.rt:41:1
pub returns : goal.returns
returns c =
    let a = c.args in fault_is a.list.now a.p _ _ _ _ c.number_in-kind.ensures c.number_in-index.ensures c.extra_bytes-bytes.ensures c.number_in-extra.ensures
