-- The three tests together are `writable_of`; and records that fit have their rows. Assumes nothing.
use Prim.Native.Nat.{ℕ, ◌/◌, ◌≤◌, min}
use native.Mathlib.Omega.{arith}
use native.Mathlib.Nat.{min-le_left, min-le_right}
use mathlib.Core.Path.{◌≡◌, refl, sym, ◌∙◌, ap}
use mathlib.Core.List.{List, [], ◌∷◌}
use mathlib.Core.Bool.{Bool, true, false, ◌&&◌}
use borrow.Author.Tests.{leb-true}
use lib.Dec.{leb}
use lib.ListN.{length}
use Rattle.facts.proofs.Decides.{and_split}
use Rattle.sizes.specs.Sizes.{rows, zone_id}
use Rattle.mesh.specs.declared.Zone.{Zone}
use Rattle.layout.specs.Items.{Kind, node, cell, face, id_of, given}
use Rattle.layout.specs.Rows.{room_of}
use Rattle.layout.specs.Says.{Mesh}
use Rattle.layout.specs.State.{Span, dim_listed, part_range}
use Rattle.layout.proofs.Tests.{part_range_is}
use Rattle.texts.specs.Judged.{total_of, total_by, front_by, spans_of, element_by, record_by, record_fits, all_tiled, records_by, all_by, rows_fit, writable_of}
use Rattle.texts.specs.Write.{records_in}
use Rattle.texts.proofs.ByKind.{chosen}
use Rattle.writer.specs.declared.tables.Tables.{Tables}
use Rattle.writer.specs.declared.tables.Totals.{Totals}
use Rattle.writer.specs.inner.Tables.{held, mesh_with}
use Rattle.writer.specs.inner.Records.{records_of}
use Rattle.writer.specs.inner.Sections.{Ranged, AllRanged}

-- the range of a record that fits
module _ (k : Kind) (d total : ℕ) (bs : List Span) (n i : ℕ) (z : Zone) where
  by_range : record_by k d total bs n i z ≡ true → (z.zone ≤ zone_id) × ((1 ≤ z.first) × ((z.first ≤ z.last) × (z.last ≤ total)))
  unfolding record_by
  by_range h =
      let a = (and_split (leb 1 z.zone) _ h).1 in
      let b = (and_split (element_by k z.element) _ a).1 in
      (part_range_is total z.zone z.first z.last).0 (and_split (part_range total z.zone z.first z.last) _ b).0

module _ (n : Totals) (t : Tables) (words : List ℕ) where
  abbrev m : Mesh
  m = mesh_with n t words

  -- the tables that are lent have the totals
  record Lends : Type 0 where
    pub mantissas : n.nodes ≤ length t.mantissas.now / 3
    pub exponents : n.nodes ≤ length t.exponents.now / 3
    pub cell_rows : n.cells ≤ length t.cells.now / 2
    pub face_rows : n.faces ≤ length t.faces.now / 8

  lends : front_by m ≡ true → Lends
  unfolding front_by
  lends h =
      let a = (and_split (dim_listed (given n.dimension)) _ h).1 in
      let b = and_split (total_by (room_of m.held) node n.nodes) _ a in
      let c = and_split (total_by (room_of m.held) cell n.cells) _ b.1 in
      let x = leb-true n.nodes (min (length t.mantissas.now / 3) (length t.exponents.now / 3)) (and_split (leb n.nodes rows) _ b.0).1 in
      record {
        mantissas = omega (arith, x, min-le_left (length t.mantissas.now / 3) (length t.exponents.now / 3));
        exponents = omega (arith, x, min-le_right (length t.mantissas.now / 3) (length t.exponents.now / 3));
        cell_rows = leb-true n.cells (length t.cells.now / 2) (and_split (leb n.cells rows) _ c.0).1;
        face_rows = leb-true n.faces (length t.faces.now / 8) (and_split (leb n.faces rows) _ c.1).1;
      }

  module _ (l : Lends) where
    ranged_by : (k : Kind) (z : Zone) → z.section ≡ id_of k → 1 ≤ z.first → z.first ≤ z.last → z.last ≤ total_of m k → Ranged (held t) z
    ranged_by node z e a b c =
        record {
          node_rows = λ _. ((a, b, omega (arith, l.mantissas)), (a, b, omega (arith, l.exponents)));
          cell_rows = λ q. absurd (omega arith);
          face_rows = λ q. absurd (omega arith);
        }
    ranged_by cell z e a b c =
        record { node_rows = λ q. absurd (omega arith); cell_rows = λ _. (a, b, omega (arith, l.cell_rows)); face_rows = λ q. absurd (omega arith) }
    ranged_by face z e a b c =
        record { node_rows = λ q. absurd (omega arith); cell_rows = λ q. absurd (omega arith); face_rows = λ _. (a, b, omega (arith, l.face_rows)) }

    ranged_one : (before : List Zone) (z : Zone) → record_fits m before z ≡ true → Ranged (held t) z
    unfolding record_fits
    ranged_one before z h =
        let f : Kind → Bool = λ k. record_by k n.dimension (total_of m k) (spans_of (id_of k) before) (length m.held.zones) (length before) z in
        let c = chosen f z.section h in
        let r = by_range c.kind n.dimension (total_of m c.kind) (spans_of (id_of c.kind) before) (length m.held.zones) (length before) z c.holds in
        ranged_by c.kind z c.is r.1.0 r.1.1.0 r.1.1.1

    ranged_all : (zs before : List Zone) → records_by m before zs ≡ true → AllRanged (held t) zs
    unfolding records_by
    ranged_all [] before h = tt
    ranged_all (z ∷ zs) before h = let a = and_split (record_fits m before z) _ h in (ranged_one before z a.0, ranged_all zs (z ∷ before) a.1)

  -- the records are judged without the tables
  records_same : (before zs : List Zone) → records_by (records_of n words) before zs ≡ records_by m before zs
  unfolding records_by record_fits all_tiled
  records_same before [] = refl
  records_same before (z ∷ zs) = ap (λ y. record_fits m before z && y) (records_same (z ∷ before) zs)

  module _ {a : Bool} (front : a ≡ front_by (mesh_with n t [])) where
    front_is : a ≡ front_by m
    unfolding front_by
    front_is = front

    pub verdict_front : a ≡ false → false ≡ writable_of m
    unfolding writable_of
    verdict_front h = ap (λ y. y && (records_by m [] (records_in words) && all_by (rows_fit n.dimension m.held) (records_in words))) (sym h ∙ front_is)

    module _ (yes : a ≡ true) {b : Bool} (records : b ≡ records_by (records_of n words) [] (records_in words)) where
      records_are : b ≡ records_by m [] (records_in words)
      records_are = records ∙ records_same [] (records_in words)

      pub verdict_records : b ≡ false → false ≡ writable_of m
      unfolding writable_of
      verdict_records h = λ i. (sym yes ∙ front_is) i && ((sym h ∙ records_are) i && all_by (rows_fit n.dimension m.held) (records_in words))

      module _ (fit : b ≡ true) where
        pub verdict_ranged : AllRanged (held t) (records_in words)
        verdict_ranged = ranged_all (lends (sym front_is ∙ yes)) (records_in words) [] (sym records_are ∙ fit)

        pub verdict_rows : {c : Bool} → c ≡ all_by (rows_fit n.dimension (held t)) (records_in words) → c ≡ writable_of m
        unfolding writable_of rows_fit
        verdict_rows h = h ∙ (λ i. (sym yes ∙ front_is) i && ((sym fit ∙ records_are) i && all_by (rows_fit n.dimension m.held) (records_in words)))
