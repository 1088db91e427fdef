-- The test of the records decides what the layout asks of their headers, with the reader's own state. Assumes nothing.
use Prim.Native.Nat.{ℕ, suc, ◌+◌, ◌≤◌, ◌<◌}
use native.Mathlib.Omega.{arith}
use mathlib.Core.Path.{◌≡◌, refl, ◌∙◌, ap, subst}
use mathlib.Core.Logic.{◌⊎◌, inl}
use mathlib.Core.List.{List, [], ◌∷◌, ◌++◌, append-nil, append_assoc, Memᴰ}
use mathlib.Core.Bool.{true}
use borrow.Author.Tests.{eq-eqb, ne_eqb}
use lib.Dec.{eqb}
use lib.ListN.{length}
use Rattle.facts.proofs.Decides.{Decides, yes_is, by, eq_is, le_is, and_is, or_right, either_of}
use Rattle.sizes.specs.Sizes.{zone_id, zones}
use Rattle.mesh.specs.declared.Zone.{Zone}
use Rattle.layout.specs.Items.{Kind, node, cell, face, id_of, given, Item, says_dim}
use Rattle.layout.specs.Keeps.{Room, most, All, Apart, FifthOf, WidthFits, DimFits, types_of, PartFits, Fits}
use Rattle.layout.specs.Rows.{Lent, room_of}
use Rattle.layout.specs.Says.{Mesh}
use Rattle.layout.specs.State.{Per, State, after, fifth_listed}
use Rattle.layout.specs.Read.{tiled_per}
use Rattle.layout.proofs.Tests.{among_is, part_range_is, zone_fits_is, listed_is, type_is}
use Rattle.layout.proofs.Sums.{Sums, Seen, declared_is, one_more}
use Rattle.layout.proofs.Each.{Each as EachFits}
use Rattle.layout.proofs.Tiling.{Tiled, tiled_true, tiled_back}
use Rattle.texts.specs.Writes.{Each}
use Rattle.texts.specs.Tabled.{body_of, fifth_of, head_of, section_for, part_of, parts_of}
use Rattle.texts.specs.Writable.{ElementAgain}
use Rattle.texts.specs.Judged.{total_of, spans_of, element_by, record_by, record_fits, all_tiled, records_by}
use Rattle.texts.proofs.ByKind.{kind_test, kind_same, all_kinds}
use Rattle.texts.proofs.Tests.{and_then}
use Rattle.texts.proofs.Held.{part_is}

-- what a record keeps by itself
pub record Headed (m : Mesh) (k : Kind) (z : Zone) : Type 0 where
  pub zone : 1 ≤ z.zone
  pub element : ElementAgain k z
  pub small : z.zone ≤ zone_id
  pub low : 1 ≤ z.first
  pub order : z.first ≤ z.last
  pub high : z.last ≤ total_of m k
  pub type : Memᴰ z.ztype (types_of k)
  pub fifth : FifthOf k (given (fifth_of k m.dimension z.element))

abbrev pub Known : Mesh → Zone → Type 0
Known m z = (k : Kind) × (z.section ≡ id_of k) × Headed m k z

-- ---- the ranges before a record
spans_same : (id : ℕ) (z : Zone) (zs : List Zone) → z.section ≡ id → spans_of id (z ∷ zs) ≡ record { first = z.first; last = z.last } ∷ spans_of id zs
unfolding spans_of
spans_same id z zs e = rw (eq-eqb z.section id e, spans_of)

spans_other : (id : ℕ) (z : Zone) (zs : List Zone) → (z.section ≡ id → ⊥) → spans_of id (z ∷ zs) ≡ spans_of id zs
unfolding spans_of
spans_other id z zs n = rw (ne_eqb z.section id n, spans_of)

module _ (m : Mesh) where
  abbrev d : ℕ
  d = m.dimension

  abbrev l : Lent
  l = m.held

  abbrev room : Room
  room = room_of l

  -- what reading keeps of the declarations and the sections of these records, the latest first
  abbrev pub per_of : Kind → List Zone → Per
  per_of k zs = record { declared = true; total = total_of m k; spans = spans_of (id_of k) zs }

  abbrev pub state_of : List Zone → State
  state_of zs = record { dimension = d; nodes = per_of node zs; cells = per_of cell zs; faces = per_of face zs; zones = length zs }

  state_more : (k : Kind) (z : Zone) (zs : List Zone) → z.section ≡ id_of k → after (state_of zs) (section_for k d l z) ≡ state_of (z ∷ zs)
  state_more node z zs e =
      let n : length zs + 1 ≡ suc (length zs) = omega arith in
      rw (n, spans_same 10 z zs e, spans_other 12 z zs (λ q. omega arith), spans_other 13 z zs (λ q. omega arith))
  state_more cell z zs e =
      let n : length zs + 1 ≡ suc (length zs) = omega arith in
      rw (n, spans_other 10 z zs (λ q. omega arith), spans_same 12 z zs e, spans_other 13 z zs (λ q. omega arith))
  state_more face z zs e =
      let n : length zs + 1 ≡ suc (length zs) = omega arith in
      rw (n, spans_other 10 z zs (λ q. omega arith), spans_other 12 z zs (λ q. omega arith), spans_same 13 z zs e)

  -- ---- one record against the items before it
  module _ (listed : (d ≡ 2) ⊎ (d ≡ 3)) (done : List Item) (before : List Zone) (seen : Seen done (state_of before)) where
    pub sums : (k : Kind) → Sums done k (per_of k before)
    sums = all_kinds (λ k. Sums done k (per_of k before)) (seen.kinds node) (seen.kinds cell) (seen.kinds face)

    fifth_is : (k : Kind) (e : ℕ) → Decides (fifth_listed k (given (fifth_of k d e))) (FifthOf k (given (fifth_of k d e)))
    fifth_is node e = by (λ _. tt, λ _. listed) (listed_is d)
    fifth_is cell e = among_is (0 ∷ 1 ∷ 2 ∷ 3 ∷ 4 ∷ 5 ∷ 6 ∷ []) e
    fifth_is face e = among_is (0 ∷ 2 ∷ 3 ∷ 4 ∷ []) e

    element_is : (k : Kind) (z : Zone) → Decides (element_by k z.element) (ElementAgain k z)
    element_is node z = eq_is z.element 0
    element_is cell z = yes_is
    element_is face z = yes_is

    dim_fits : (k : Kind) (z : Zone) → DimFits done (says_dim (section_for k d l z))
    dim_fits node z =
        let some : 0 < d = either_of listed (λ e. omega arith) (λ e. omega arith) in
        record { listed = listed; same = (seen.dims.same d some).0 (or_right (eqb d 0) (eq-eqb d d refl)) }
    dim_fits cell z = tt
    dim_fits face z = tt

    width_fits : (k : Kind) (z : Zone) → WidthFits done (section_for k d l z) (body_of k d l (head_of k d z))
    width_fits node z = inl refl
    width_fits cell z = tt
    width_fits face z = tt

    module _ (k : Kind) (z : Zone) where
      abbrev Fitting : Type 0
      Fitting = PartFits room done k (head_of k d z) (body_of k d l (head_of k d z))

      -- all that is asked, in the order of the tests
      abbrev Asked : Type 0
      Asked =
          (1 ≤ z.zone)
          × (ElementAgain k z
          × (((z.zone ≤ zone_id) × ((1 ≤ z.first) × ((z.first ≤ z.last) × (z.last ≤ total_of m k))))
          × (All (Apart k z.first z.last) done
          × (Memᴰ z.ztype (types_of k)
          × (FifthOf k (given (fifth_of k d z.element)) × ((length before < zones) × (suc (length before) ≤ length l.zones)))))))

      headed : Asked → Headed m k z × Fitting
      headed p =
          let r = p.1.1.0 in
          let q = p.1.1.1 in (
            record { zone = p.0; element = p.1.0; small = r.0; low = r.1.0; order = r.1.1.0; high = r.1.1.1; type = q.1.0; fifth = q.1.1.0 },
            record {
              total = total_of m k;
              declared = declared_is done k (per_of k before) (sums k) refl;
              zone = r.0;
              low = r.1.0;
              order = r.1.1.0;
              high = r.1.1.1;
              apart = q.0;
              type = q.1.0;
              fifth = q.1.1.0;
              dimension = dim_fits k z;
              width = width_fits k z;
              few = rw (← seen.zones) q.1.1.1.0;
              roomy = rw (← seen.zones) q.1.1.1.1;
            },
          )

      asked : Headed m k z × Fitting → Asked
      asked (h, f) =
          (h.zone, (h.element, ((h.small, (h.low, (h.order, h.high))), (f.apart, (h.type, (h.fifth, (rw seen.zones f.few, rw seen.zones f.roomy)))))))

      record_is : Decides (record_by k d (total_of m k) (spans_of (id_of k) before) (length l.zones) (length before) z) (Headed m k z × Fitting)
      unfolding record_by
      record_is =
          by (headed, asked)
          (and_is (le_is 1 z.zone) (and_is (element_is k z) (and_is (part_range_is (total_of m k) z.zone z.first z.last) (and_is ((sums k).apart z.first z.last) (and_is (type_is k z.ztype) (and_is (fifth_is k z.element) (zone_fits_is (most (length l.zones)) (length before))))))))

    fits_is : (z : Zone) → Decides (record_fits m before z) (Known m z × Fits room done (part_of d l z))
    unfolding record_fits
    fits_is z =
        kind_test _ z.section (Known m z × Fits room done (part_of d l z)) (λ k e.
        let p = part_is k d l z e in
        by (
          λ h. ((k, e, h.0), rw p h.1),
          λ h. (subst (λ j. Headed m j z) (kind_same z.section h.0.0 k h.0.1 e) h.0.2, rw p at h.1),
        )
        (record_is k z)) (λ n h. n h.0.0 h.0.1)

    pub more : (z : Zone) → Known m z × Fits room done (part_of d l z) → Seen (done ++ (part_of d l z ∷ [])) (state_of (z ∷ before))
    more z ((k, e, h), f) = subst (Seen (done ++ (part_of d l z ∷ []))) (ap (after (state_of before)) (part_is k d l z e) ∙ state_more k z before e) (one_more done (state_of before) seen room (part_of d l z) f)

    tiled_one : (k : Kind) → Decides (tiled_per (per_of k before)) (Tiled done k)
    tiled_one k = (tiled_true done k (per_of k before) (sums k), tiled_back done k (per_of k before) (sums k))

    tiled_is : Decides (all_tiled m before) ((k : Kind) → Tiled done k)
    unfolding all_tiled
    tiled_is =
        by (λ h. all_kinds (Tiled done) h.0 h.1.0 h.1.1, λ h. (h node, (h cell, h face))) (and_is (tiled_one node) (and_is (tiled_one cell) (tiled_one face)))

  -- ---- all records
  abbrev pub Recorded : List Item → List Zone → Type 0
  Recorded done zs = Each (Known m) zs × (EachFits room done (parts_of d l zs) × ((k : Kind) → Tiled (done ++ parts_of d l zs) k))

  pub records_is : ((d ≡ 2) ⊎ (d ≡ 3)) → (done : List Item) (before zs : List Zone) → Seen done (state_of before) → Decides (records_by m before zs) (Recorded done zs)
  unfolding records_by
  records_is listed done before [] seen =
      by (λ h. (tt, (tt, λ k. rw (append-nil done) (h k))), λ h k. rw (append-nil done) at (h.1.1 k)) (tiled_is listed done before seen)
  records_is listed done before (z ∷ zs) seen =
      let e = append_assoc done (part_of d l z ∷ []) (parts_of d l zs) in
      by (
        λ h. ((h.0.0, h.1.0), ((h.0.1, h.1.1.0), λ k. rw (← e) (h.1.1.1 k))),
        λ h. ((h.0.0, h.1.0.0), (h.0.1, (h.1.0.1, λ k. rw e (h.1.1 k)))),
      )
      (and_then (fits_is listed done before seen z) (λ p. records_is listed (done ++ (part_of d l z ∷ [])) (z ∷ before) zs (more listed done before seen z p)))
