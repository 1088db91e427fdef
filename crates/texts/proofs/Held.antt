-- Tables hold what their own items say. Assumes nothing.
use Prim.Native.Nat.{ℕ, zero, suc, ◌+◌, ◌-◌, ◌*◌, ◌≤◌, ◌<◌}
use native.Mathlib.Omega.{arith}
use mathlib.Core.Path.{◌≡◌, refl, sym, ◌∙◌, ap}
use mathlib.Core.List.Memᴰ
use mathlib.Core.List.{List, [], ◌∷◌, ◌++◌, map, Memᴰ}
use mathlib.Core.Bool.{true, false≢true}
use lib.IntN.{ℤ, pos}
use lib.ListN.{length, get_or, take, drop, length-drop}
use lib.Seq.{get_or-take, get_or-drop, take-add, length-take-le, take-length}
use Rattle.facts.proofs.Branch.{either}
use Rattle.facts.proofs.Decides.{either_of}
use Rattle.mesh.specs.declared.Zone.{Zone}
use Rattle.mesh.specs.Rows.{places, face_words, cell_words, node_words}
use Rattle.layout.specs.Items.{Kind, node, cell, face, id_of, Header, count_of, Pair, other}
use Rattle.layout.specs.Rows.{Piece, Holding, Table, joined, same_kind, piece_of, pieces_of, mantissa_table, exponent_table, face_row, face_table, cell_table, pad, Lent, zone_of, zones_of, no_zone, Holds}
use Rattle.layout.specs.Says.{Mesh}
use Rattle.texts.specs.Writes.{Each}
use Rattle.texts.proofs.ByKind.{kind_is}
use Rattle.texts.specs.Tabled.{rows_of, section_rows, facet_of, element_of, points_of, body_of, head_of, section_for, part_of, parts_of, items_of}
use Rattle.texts.specs.Writable.{NodeAgain, Inside, RowsAgain, ElementAgain, ZoneAgain}

module _ {A : Type 0} where
  -- rows one behind the other are the table's words
  joined_rows : (w n : ℕ) (l : List A) → n * w ≤ length l → joined (rows_of w n l) ≡ take (n * w) l
  unfolding rows_of
  joined_rows w zero l h = let z : 0 * w ≡ 0 = omega arith in rw z
  joined_rows w (suc n) l h =
      let z : suc n * w ≡ w + n * w = suc_times n w in
      ap (λ r. take w l ++ r) (joined_rows w n (drop w l) (omega (arith, length-drop w l, z))) ∙ sym (take-add w (n * w) l) ∙ ap (λ k. take k l) (sym z)
    where
      suc_times : (n w : ℕ) → suc n * w ≡ w + n * w
      suc_times n w = omega arith

  -- the table has these words there
  abbrev Has : (l : List A) → Piece A → Type 0
  Has l p = (n : ℕ) × (p.at + n ≤ length l) × (p.words ≡ take n (drop p.at l))

  has_at : (d : A) (l : List A) (p : Piece A) → Has l p → (j : ℕ) → j < length p.words → get_or l (p.at + j) d ≡ get_or p.words j d
  has_at d l p (n, h, e) j k =
      let q : length p.words ≡ n = ap length e ∙ length-take-le n (drop p.at l) (omega (arith, length-drop p.at l)) in
      sym (get_or-drop p.at l j d) ∙ sym (get_or-take n (drop p.at l) j d (omega arith)) ∙ ap (λ x. get_or x j d) (sym e)

  -- and so it holds them over itself
  holds_itself : (d : A) (l : List A) (ps : List (Piece A)) → ((p : Piece A) → Memᴰ p ps → Has l p) → Holding d ps l l
  holds_itself d l ps h = record { size = refl; there = λ p m j k. has_at d l p (h p m) j k; stays = λ k f. refl }

-- ---- a record of a known kind
pub part_is : (k : Kind) (d : ℕ) (l : Lent) (z : Zone) → z.section ≡ id_of k → part_of d l z ≡ section_for k d l z
unfolding part_of
part_is k d l z e = kind_is (λ j. section_for j d l z) other z.section k e

-- ---- any table: its rows are those that the items say
module _ {A : Type 0} (t : Table A) (l : Lent) (tbl : List A) (d : ℕ) where
  abbrev Again : Kind → Header → Type 0
  Again k h = (t.rows h (body_of k d l h) ≡ section_rows t.width h tbl) × Inside t.width h tbl

  piece_has : (k : Kind) (h : Header) → Again k h → Has tbl (piece_of t h (body_of k d l h))
  piece_has k h a =
      (count_of h * t.width, a.1, ap joined a.0 ∙ joined_rows t.width (count_of h) (drop (t.width * (h.first - 1)) tbl) (omega (arith, length-drop (t.width * (h.first - 1)) tbl)))

  module _ (again : (k : Kind) (h : Header) → same_kind k t.kind ≡ true → RowsAgain k d l h → Again k h) where
    pieces_have : (zs : List Zone) → Each (ZoneAgain d l) zs → (p : Piece A) → Memᴰ p (pieces_of t (parts_of d l zs)) → Has tbl p
    pieces_have [] h = λ p m. absurd (Memᴰ.not-nil m)
    pieces_have (z ∷ zs) h =
        let k = h.0.kind in
        rw (part_is k d l z h.0.section)
        (either (λ ps. (p : Piece A) → Memᴰ p ps → Has tbl p) (same_kind k t.kind)
        (λ e p m. either_of (Memᴰ.cases_cons m) (λ q. rw q (piece_has k (head_of k d z) (again k (head_of k d z) e h.0.rows))) (λ n. pieces_have zs h.1 p n))
        (λ e. pieces_have zs h.1))

-- ---- the tables
mapped_again : {A B : Type 0} (f : B → A) (g : A → B) (rs : List A) → Each (λ r. f (g r) ≡ r) rs → map f (map g rs) ≡ rs
mapped_again f g [] h = refl
mapped_again f g (r ∷ rs) h = rw h.0 (ap (λ x. r ∷ x) (mapped_again f g rs h.1))

faces_again : (d : ℕ) (l : Lent) (k : Kind) (h : Header) → same_kind k face ≡ true → RowsAgain k d l h → Again face_table l l.faces d k h
faces_again d l node h e r = absurd (false≢true e)
faces_again d l cell h e r = absurd (false≢true e)
faces_again d l face h e r = (mapped_again (face_row places h.type) facet_of (section_rows (face_words places) h l.faces) r.1, r.0)

cells_again : (d : ℕ) (l : Lent) (k : Kind) (h : Header) → same_kind k cell ≡ true → RowsAgain k d l h → Again cell_table l l.cells d k h
cells_again d l node h e r = absurd (false≢true e)
cells_again d l cell h e r = (mapped_again (λ e. e ∷ h.type ∷ []) element_of (section_rows cell_words h l.cells) r.1, r.0)
cells_again d l face h e r = absurd (false≢true e)

points_again : (d : ℕ) (ms es : List (List ℤ)) → NodeAgain d ms es
    → (map (λ p. pad node_words (pos 0) (map (λ (x : Pair). x.mantissa) p)) (points_of d ms es) ≡ ms) × (map (λ p. pad node_words (pos 0) (map (λ (x : Pair). x.exponent) p)) (points_of d ms es) ≡ es)
points_again d [] [] h = (refl, refl)
points_again d [] (e ∷ es) h = absurd h
points_again d (m ∷ ms) [] h = absurd h
points_again d (m ∷ ms) (e ∷ es) h =
    let r = points_again d ms es h.2 in
    (λ i. (h.0 i) ∷ (r.0 i), λ i. (h.1 i) ∷ (r.1 i))

mantissas_again : (d : ℕ) (l : Lent) (k : Kind) (h : Header) → same_kind k node ≡ true → RowsAgain k d l h → Again mantissa_table l l.mantissas d k h
mantissas_again d l node h e r = ((points_again d (section_rows node_words h l.mantissas) (section_rows node_words h l.exponents) r.2).0, r.0)
mantissas_again d l cell h e r = absurd (false≢true e)
mantissas_again d l face h e r = absurd (false≢true e)

exponents_again : (d : ℕ) (l : Lent) (k : Kind) (h : Header) → same_kind k node ≡ true → RowsAgain k d l h → Again exponent_table l l.exponents d k h
exponents_again d l node h e r = ((points_again d (section_rows node_words h l.mantissas) (section_rows node_words h l.exponents) r.2).1, r.1)
exponents_again d l cell h e r = absurd (false≢true e)
exponents_again d l face h e r = absurd (false≢true e)

-- ---- the zone list
zone_same : (k : Kind) (d : ℕ) (z : Zone) → z.section ≡ id_of k → ElementAgain k z → zone_of k (head_of k d z) ≡ z
zone_same node d z s e = λ i. record { section = sym s i; zone = z.zone; first = z.first; last = z.last; ztype = z.ztype; element = sym e i }
zone_same cell d z s e = λ i. record { section = sym s i; zone = z.zone; first = z.first; last = z.last; ztype = z.ztype; element = z.element }
zone_same face d z s e = λ i. record { section = sym s i; zone = z.zone; first = z.first; last = z.last; ztype = z.ztype; element = z.element }

pub zones_same : (d : ℕ) (l : Lent) (zs : List Zone) → Each (ZoneAgain d l) zs → zones_of (parts_of d l zs) ≡ zs
zones_same d l [] h = refl
zones_same d l (z ∷ zs) h =
    rw (part_is h.0.kind d l z h.0.section)
    (λ i. zone_same h.0.kind d z h.0.section h.0.element i ∷ zones_same d l zs h.1 i)

-- ---- all of them
pub held_again : (m : Mesh) → Each (ZoneAgain m.dimension m.held) m.held.zones → Holds (items_of m) m.held m.held
unfolding items_of
held_again m h =
    let d = m.dimension in
    let l = m.held in
    let zs = l.zones in
    record {
      mantissas = holds_itself (pos 0) l.mantissas _ (pieces_have mantissa_table l l.mantissas d (mantissas_again d l) zs h);
      exponents = holds_itself (pos 0) l.exponents _ (pieces_have exponent_table l l.exponents d (exponents_again d l) zs h);
      faces = holds_itself 0 l.faces _ (pieces_have face_table l l.faces d (faces_again d l) zs h);
      cells = holds_itself 0 l.cells _ (pieces_have cell_table l l.cells d (cells_again d l) zs h);
      zones = holds_itself no_zone zs _ (λ p n. either_of (Memᴰ.cases_cons n) (λ q. rw q (length zs, omega arith, zones_same d l zs h ∙ sym (take-length zs))) (λ n. absurd (Memᴰ.not-nil n)));
    }
