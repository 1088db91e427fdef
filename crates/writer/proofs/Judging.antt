-- Records judged one behind the other: the three lists have the ranges of those before. Assumes nothing.
use Prim.Native.Nat.{ℕ, zero, suc, ◌+◌, ◌/◌, ◌≤◌, ◌<◌}
use native.Mathlib.Omega.{arith}
use native.Mathlib.Numerals.{add-one}
use mathlib.Core.Path.{◌≡◌, refl, sym, ◌∙◌, ap}
use mathlib.Core.List.{List, [], ◌∷◌, map}
use mathlib.Core.Bool.{Bool, true, false, ◌&&◌}
use borrow.Author.Tests.{ltb-true}
use lib.Dec.{leb, ltb}
use lib.ListN.{length, drop, get_or, length-set}
use Rattle.std.specs.Simd.{first_chunks}
use Rattle.facts.proofs.Decides.{and_split}
use Rattle.sizes.specs.Sizes.{zones}
use Rattle.mesh.specs.declared.Zone.{Zone}
use Rattle.layout.specs.Items.{Kind, node, cell, face, id_of, given}
use Rattle.layout.specs.State.{Span, every, clear, tiled, part_range, type_listed, fifth_listed, zone_fits}
use Rattle.layout.specs.Says.{Mesh}
use Rattle.spots.specs.declared.Kind as Code
use Rattle.spots.specs.Heads.{kind_for}
use Rattle.sofar.specs.Sofar.{id_for}
use Rattle.kept.specs.declared.Kept.{Kept}
use Rattle.kept.specs.Kept.{Listed, on_top, kept_by_lists}
use Rattle.kept.proofs.StoredByLists.{stored, kept_top}
use Rattle.texts.specs.Tabled.{by_kind, fifth_of}
use Rattle.texts.proofs.ByKind.{chosen}
use Rattle.texts.specs.Judged.{total_of, spans_of, element_by, record_by, record_fits, all_tiled, records_by}
use Rattle.texts.specs.Write.{zone_in, zones_in, records_in}
use Rattle.writer.specs.declared.tables.Totals.{Totals}
use Rattle.writer.proofs.Sections.{zones_rows, zones_next, zones_end}
use Rattle.writer.specs.inner.Records.{records_of, total_in, record_in, tiled_in}

-- ---- one record
module _ (k : Kind) (d total : ℕ) (bs : List Span) (n i : ℕ) (z : Zone) where
  -- one that fits has fewer than the limit before it
  by_few : record_by k d total bs n i z ≡ true → i < zones
  unfolding record_by zone_fits
  by_few h =
      let a = (and_split (leb 1 z.zone) _ h).1 in
      let b = (and_split (element_by k z.element) _ a).1 in
      let c = (and_split (part_range total z.zone z.first z.last) _ b).1 in
      let e = (and_split (every (clear z.first z.last) bs) _ c).1 in
      let f = (and_split (type_listed k z.ztype) _ e).1 in
      let g = (and_split (fifth_listed k (given (fifth_of k d z.element))) _ f).1 in
      ltb-true _ _ (and_split (ltb i zones) _ g).0

pub fits_few : (m : Mesh) (before : List Zone) (z : Zone) → record_fits m before z ≡ true → length before < zones
unfolding record_fits
fits_few m before z h =
    let f : Kind → Bool = λ k. record_by k m.dimension (total_of m k) (spans_of (id_of k) before) (length m.held.zones) (length before) z in
    let c = chosen f z.section h in
    by_few c.kind m.dimension (total_of m c.kind) (spans_of (id_of c.kind) before) (length m.held.zones) (length before) z c.holds

pub id_is : (k : Code.Kind) → id_for k ≡ id_of (kind_for k)
id_is Code.Kind.Node = refl
id_is Code.Kind.Cell = refl
id_is Code.Kind.Face = refl

-- ---- all of them
abbrev kept_as : Zone → Kept
kept_as z = record { id = z.section; first = z.first; last = z.last }

-- each of the three lists has room for as many records as a mesh may have
pub record Long (kept : Listed) : Type 0 where
  pub ids : length kept.ids ≡ zones
  pub firsts : length kept.firsts ≡ zones
  pub lasts : length kept.lasts ≡ zones

-- the records before, the latest first, are what the lists have; rs are the rows of words
pub record Judging (t : Totals) (words : List ℕ) (rs : List (List ℕ)) (kept : Listed) (n i : ℕ) : Type 0 where
  pub before : List Zone
  pub many : length before ≡ i
  pub whole : n ≡ length words / 6
  pub rows : n ≡ length rs
  pub few : i ≤ n
  pub spans : (id : ℕ) → kept_by_lists kept id i ≡ spans_of id before
  pub kept_size : Long kept
  pub same : records_by (records_of t words) before (map zone_in (drop i rs)) ≡ records_by (records_of t words) [] (records_in words)

module _ (t : Totals) (words : List ℕ) (rs : List (List ℕ)) where
  abbrev m : Mesh
  m = records_of t words

  pub judging_start : (kept : Listed) → Long kept → (n : ℕ) → n ≡ length rs → rs ≡ first_chunks 6 (length words / 6) words → length rs ≡ length words / 6
      → Judging t words rs kept n 0
  unfolding kept_by_lists spans_of
  judging_start kept a n e f l =
      record {
        before = [];
        many = refl;
        whole = e ∙ l;
        rows = e;
        few = omega arith;
        spans = λ id. refl;
        kept_size = a;
        same = ap (λ (xs : List (List ℕ)). records_by m [] (map zone_in xs)) f ∙ ap (records_by m []) (zones_rows (length words / 6) words);
      }

  zones_counted : (n : ℕ) (l : List ℕ) → length (zones_in n l) ≡ n
  zones_counted zero l = refl
  zones_counted (suc n) l = ap suc (zones_counted n (drop 6 l))

  total_is : (k : Kind) → total_in t k ≡ total_of m k
  total_is node = refl
  total_is cell = refl
  total_is face = refl

  module _ (kept : Listed) (n i : ℕ) (g : Judging t words rs kept n i) where
    judged_is : (z : Zone) → record_in kept t n i z ≡ record_fits m g.before z
    unfolding record_in record_fits
    judged_is z =
        let e : n ≡ length (records_in words) = g.whole ∙ sym (zones_counted (length words / 6) words) in
        ap (λ f. by_kind z.section f false)
        (λ j y. record_by y t.dimension (total_is y j) (g.spans (id_of y) j) (e j) (sym g.many j) z)

    next : (z : Zone) (r : List ℕ) → z ≡ zone_in (get_or rs i r) → i < length rs
        → records_by m g.before (map zone_in (drop i rs)) ≡ (record_fits m g.before z && records_by m (z ∷ g.before) (map zone_in (drop (i + 1) rs)))
    unfolding records_by
    next z r e h =
        ap (records_by m g.before) (zones_next rs i r h)
        ∙ ap (λ (y : Zone). record_fits m g.before y && records_by m (y ∷ g.before) (map zone_in (drop (i + 1) rs))) (sym e)

    -- a record that does not fit settles it
    pub judging_off : (z : Zone) (r : List ℕ) → z ≡ zone_in (get_or rs i r) → i < length rs → {b : Bool} → b ≡ record_in kept t n i z → b ≡ false
        → false ≡ records_by m [] (records_in words)
    judging_off z r e h p q =
        let f : record_fits m g.before z ≡ false = sym (p ∙ judged_is z) ∙ q in
        sym (ap (λ y. y && records_by m (z ∷ g.before) (map zone_in (drop (i + 1) rs))) f) ∙ sym (next z r e h) ∙ g.same

    -- it has a place in the lists
    pub judging_few : (z : Zone) → {b : Bool} → b ≡ record_in kept t n i z → b ≡ true → i < zones
    judging_few z p q = omega (arith, fits_few m g.before z (sym (p ∙ judged_is z) ∙ q), g.many)

    spans_more : (id : ℕ) (z : Zone) → i < zones → kept_by_lists (stored kept i (kept_as z)) id (suc i) ≡ spans_of id (z ∷ g.before)
    unfolding spans_of
    spans_more id z l = kept_top kept i (kept_as z) (omega (arith, g.kept_size.ids)) (omega (arith, g.kept_size.firsts)) (omega (arith, g.kept_size.lasts)) id ∙ ap (on_top id (kept_as z)) (g.spans id)

    pub judging_more : (z : Zone) (r : List ℕ) → z ≡ zone_in (get_or rs i r) → i < length rs → {b : Bool} → b ≡ record_in kept t n i z → b ≡ true
        → Judging t words rs (stored kept i (kept_as z)) n (i + 1)
    judging_more z r e h p q =
        let f : record_fits m g.before z ≡ true = sym (p ∙ judged_is z) ∙ q in
        record {
          before = z ∷ g.before;
          many = ap suc g.many ∙ sym (add-one i);
          whole = g.whole;
          rows = g.rows;
          few = omega (arith, g.rows);
          spans = λ id. ap (kept_by_lists (stored kept i (kept_as z)) id) (add-one i) ∙ spans_more id z (judging_few z p q);
          kept_size =
              record {
                ids = length-set kept.ids i z.section ∙ g.kept_size.ids;
                firsts = length-set kept.firsts i z.first ∙ g.kept_size.firsts;
                lasts = length-set kept.lasts i z.last ∙ g.kept_size.lasts;
              };
          same = sym (ap (λ y. y && records_by m (z ∷ g.before) (map zone_in (drop (i + 1) rs))) f) ∙ sym (next z r e h) ∙ g.same;
        }

    pub judging_end : length rs ≤ i → {b : Bool} → b ≡ tiled_in kept t n → b ≡ records_by m [] (records_in words)
    unfolding tiled_in all_tiled records_by
    judging_end h p =
        let e : n ≡ i = omega (arith, g.few, g.rows) in
        p ∙ ap (λ j. tiled_in kept t j) e
        ∙ (λ j. tiled (g.spans 10 j) t.nodes && (tiled (g.spans 12 j) t.cells && tiled (g.spans 13 j) t.faces))
        ∙ sym (ap (records_by m g.before) (zones_end rs i h)) ∙ g.same
