-- The computed 18 decides what is writable, and so what some text gives. Assumes nothing.
use Prim.Native.Nat.{ℕ}
use native.Mathlib.Omega.{arith}
use mathlib.Core.Path.{◌≡◌, refl, subst}
use mathlib.Core.Logic.{inl, inr, ◌↔◌}
use mathlib.Core.List.{List, [], ◌∷◌, ◌++◌}
use mathlib.Core.Bool.{true}
use lib.ListN.{length}
use Rattle.facts.proofs.Decides.{Decides, by, either_of}
use Rattle.mesh.specs.declared.Zone.{Zone}
use Rattle.layout.specs.Items.{Kind, node, cell, face, given, Item}
use Rattle.layout.specs.Keeps.{Room, FifthOf, types_of, Fits}
use Rattle.layout.specs.Rows.{Lent, room_of}
use Rattle.layout.specs.Says.{Mesh}
use Rattle.layout.proofs.Sums.{Seen, total_is}
use Rattle.layout.proofs.Each.{Each as EachFits, each_parted, parted_each}
use Rattle.texts.specs.Writes.{Each, Short, Writes}
use Rattle.texts.specs.Tabled.{fifth_of, head_of, section_for, part_of, parts_of, decl_of, items_of}
use Rattle.texts.specs.Writable.{RowsAgain, ZoneAgain, Writable, Given}
use Rattle.texts.specs.Judged.{total_of, writable_of}
use Rattle.texts.proofs.ByKind.{kind_same}
use Rattle.texts.proofs.Tests.{and_then, each_at}
use Rattle.texts.proofs.Held.{part_is}
use Rattle.texts.proofs.Normal.{front}
use Rattle.texts.proofs.Records.{Known, per_of, state_of, sums, more, Recorded, records_is}
use Rattle.texts.proofs.Front.{Fronted, front_is, totals, each_of, seen}
use Rattle.texts.proofs.Sections.{types_short, AllRowed, all_rows}
use Rattle.texts.proofs.Once.{writable_exactly}

module _ (m : Mesh) where
  abbrev d : ℕ
  d = m.dimension

  abbrev l : Lent
  l = m.held

  abbrev room : Room
  room = room_of l

  abbrev heads : List Item
  heads = front d l (total_of m) []

  -- ---- what passes the tests
  abbrev pub Passed : Type 0
  Passed = Fronted m × (Recorded m heads l.zones × Each (AllRowed m) l.zones)

  pub passed_is : Decides (writable_of m) Passed
  unfolding writable_of
  passed_is = and_then (front_is m) (λ f. and_then (records_is m f.0 heads [] l.zones (seen m f)) (λ r. all_rows m f l.zones r.0))

  -- ---- is writable
  module _ (f : Fronted m) where
    dim_short : Short d
    dim_short = either_of f.0 (λ e. omega arith) (λ e. omega arith)

    fifth_short : (k : Kind) (e : ℕ) → FifthOf k (given (fifth_of k d e)) → Short (fifth_of k d e)
    fifth_short node e h = dim_short
    fifth_short cell e h = each_at Short _ (omega arith, (omega arith, (omega arith, (omega arith, (omega arith, (omega arith, (omega arith, tt))))))) h
    fifth_short face e h = each_at Short _ (omega arith, (omega arith, (omega arith, (omega arith, tt)))) h

    part_writes : (z : Zone) → Known m z → AllRowed m z → Writes (part_of d l z)
    part_writes z (k, e, h) r =
        let t = (totals m f k).0 in
        rw (part_is k d l z e) (
          h.zone,
          record {
            zone = omega (arith, h.small);
            first = omega (arith, h.order, h.high);
            last = omega (arith, h.high);
            type = each_at Short (types_of k) (types_short k) h.type;
            fifth = fifth_short k z.element h.fifth;
          },
          (r k e).1,
        )

    zones_again : (zs : List Zone) → Each (Known m) zs → Each (AllRowed m) zs → Each (ZoneAgain d l) zs
    zones_again [] h r = tt
    zones_again (z ∷ zs) h r =
        let (k, e, g) = h.0 in
        (record { kind = k; section = e; element = g.element; rows = (r.0 k e).0 }, zones_again zs h.1 r.1)

    parts_write : (zs : List Zone) → Each (Known m) zs → Each (AllRowed m) zs → Each Writes (parts_of d l zs)
    parts_write [] h r = tt
    parts_write (z ∷ zs) h r = (part_writes z h.0 r.0, parts_write zs h.1 r.1)

    passed_writable : m.zones ≡ length l.zones → Recorded m heads l.zones → Each (AllRowed m) l.zones → Writable m
    unfolding items_of
    passed_writable c r rows =
        record {
          counted = c;
          again = zones_again l.zones r.0 rows;
          writes = (dim_short, (declared node d dim_short, (declared cell 0 (omega arith), (declared face 0 (omega arith), parts_write l.zones r.0 rows))));
          fits = each_parted room [] (items_of m) (each_of m f (parts_of d l l.zones) r.1.0);
          whole = record {
            nodes = m.nodes;
            faces = m.faces;
            dimension = d;
            nodes_declared = inr (inl (refl, refl));
            faces_declared = inr (inr (inr (inl (refl, refl))));
            known = inl refl;
            tiled = r.1.1;
          };
        }
      where
        declared : (k : Kind) (v : ℕ) → Short v → Writes (decl_of k (total_of m k) v)
        declared k v s = (refl, record { zone = omega arith; first = omega arith; last = omega (arith, (totals m f k).0); type = omega arith; fifth = s })

  -- ---- and what is writable passes
  known_of : (f : Fronted m) (done : List Item) (before zs : List Zone) → Seen done (state_of m before)
      → Each (ZoneAgain d l) zs → Each Writes (parts_of d l zs) → EachFits room done (parts_of d l zs) → Each (Known m) zs
  known_of f done before [] seen a w e = tt
  known_of f done before (z ∷ zs) seen a w e =
      let known = one a.0 w.0 e.0 in
      (known, known_of f (done ++ (part_of d l z ∷ [])) (z ∷ before) zs (more m f.0 done before seen z (known, e.0)) a.1 w.1 e.1)
    where
      one : ZoneAgain d l z → Writes (part_of d l z) → Fits room done (part_of d l z) → Known m z
      one a w e =
          let k = a.kind in
          let p = part_is k d l z a.section in
          let x : Writes (section_for k d l z) = rw p at w in
          let y : Fits room done (section_for k d l z) = rw p at e in
          let t = (total_is done k (per_of m k before) (sums m f.0 done before seen k) y.total y.declared).1 in (
            k,
            a.section,
            record {
              zone = x.0;
              element = a.element;
              small = y.zone;
              low = y.low;
              order = y.order;
              high = omega (arith, y.high);
              type = y.type;
              fifth = y.fifth;
            },
          )

  rowed_of : (zs : List Zone) → Each (ZoneAgain d l) zs → Each Writes (parts_of d l zs) → Each (AllRowed m) zs
  rowed_of [] a w = tt
  rowed_of (z ∷ zs) a w = (
    λ k e.
        let x : Writes (section_for k d l z) = rw (part_is k d l z e) at w.0 in
        (subst (λ j. RowsAgain j d l (head_of j d z)) (kind_same z.section a.0.kind k a.0.section e) a.0.rows, x.2),
    rowed_of zs a.1 w.1,
  )

  writable_passed : Writable m → Passed
  unfolding items_of
  writable_passed w =
      let e = parted_each room [] (items_of m) w.fits in
      let f : Fronted m = (e.0.listed, ((e.1.0.small, e.1.0.roomy), ((e.1.1.0.small, e.1.1.0.roomy), (e.1.1.1.0.small, e.1.1.1.0.roomy)))) in
      let v = w.writes.1.1.1.1 in
      (f, ((known_of f heads [] l.zones (seen m f) w.again v e.1.1.1.1, (e.1.1.1.1, w.whole.tiled)), rowed_of l.zones w.again v))

  -- THE TEST DECIDES
  pub writable_is : m.zones ≡ length m.held.zones → Decides (writable_of m) (Writable m)
  writable_is c = by (λ p. passed_writable p.0 c p.1.0 p.1.1, writable_passed) passed_is

-- "18 Unwritable for input that no text of the layout could give, its length apart", and for no other
pub written_exactly : (m : Mesh) → m.zones ≡ length m.held.zones → (writable_of m ≡ true) ↔ Given m
written_exactly m c =
    let d = writable_is m c in
    let w = writable_exactly m in
    (λ e. w.0 (d.0 e), λ g. d.1 (w.1 g))
