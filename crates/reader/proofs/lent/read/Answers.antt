-- `read` reads with the records as numbers and lays these into the list: that is reading. Assumes nothing.
use Rattle.std.proofs.Common.{◌≡◌, ◌≤◌, ℕ, List, length, sym, ap, subst, ◌∙◌}
use Rattle.mesh.specs.declared.Zone.{Zone}
use Rattle.layout.specs.Rows.{Lent}
use Rattle.layout.specs.Read.{Result, outcome}
use Rattle.filling.specs.Found.{Core, core_of}
use Rattle.filling.proofs.Few.{core_few, core_room, told_only}
use Rattle.filling.proofs.Through.{tables_in, with_zones}
use Rattle.filling.proofs.Zoned.{through_is}
use Rattle.reader.proofs.lent.read.Goals as goal

pub fill-requires : goal.fill-requires
fill-requires c =
    let e = told_only _ _ c.read_flat-c.ensures in
    let lent : Lent = record { mantissas = c.args.mantissas.now; exponents = c.args.exponents.now; faces = c.args.faces.now; cells = c.args.cells.now; zones = c.args.zones.now } in (
      subst (λ (k : Core). k.found.zones ≤ 64) (sym e) (core_few c.args.text.now _ (tables_in lent)),
      subst (λ (k : Core). k.found.zones ≤ length c.args.zones.now) (sym e) (core_room c.args.text.now _ (tables_in lent)),
    )

pub returns : goal.returns
returns c =
    let e = told_only _ _ c.read_flat-c.ensures in
    let r = c.read_flat-c.result in
    let lent : Lent = record { mantissas = c.args.mantissas.now; exponents = c.args.exponents.now; faces = c.args.faces.now; cells = c.args.cells.now; zones = c.args.zones.now } in
    let after : List Zone → Result =
    λ zs. record { reply = r.reply; held = record { mantissas = c.read_flat-c.new.mantissas; exponents = c.read_flat-c.new.exponents; faces = c.read_flat-c.new.faces; cells = c.read_flat-c.new.cells; zones = zs } } in
    ap outcome (ap after c.fill.ensures ∙ ap (λ (k : Core). with_zones k c.args.zones.now) e ∙ through_is c.args.text.now lent)
