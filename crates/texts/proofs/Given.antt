-- Tables that some text gives are writable: "18 Unwritable for input that no text of the layout could give", and for no other. Assumes nothing.
use Prim.Native.Nat.{ℕ, ◌+◌, ◌≤◌}
use native.Mathlib.Omega.{arith}
use mathlib.Core.Path.{◌≡◌, refl, sym, ◌∙◌, ap, subst}
use mathlib.Core.Logic.{◌⊎◌, inl, inr}
use mathlib.Core.List.{List, [], ◌∷◌, ◌++◌, Memᴰ}
use mathlib.Core.Bool.{not, false≢true}
use lib.ListN.{length, get_or}
use lib.Seq.{ext_get_or}
use Rattle.facts.proofs.Decides.{either_of}
use Rattle.sizes.specs.Sizes.{rows}
use Rattle.mesh.specs.Rows.{node_words}
use Rattle.layout.specs.Items.{Kind, node, cell, face, Perhaps, absent, given, Header, count_of, Body, Item, dim, decl, part, other, Wide}
use Rattle.layout.specs.Grammar.{section}
use Rattle.layout.specs.Keeps.{Room, Within, room_for, Some, SaysDim, Declares, Covers, PartFits, Fits, Whole}
use Rattle.layout.specs.Rows.{Lent, room_of, element_in, zone_of, zones_of, no_zone}
use Rattle.layout.specs.Says.{Mesh, CellsAre}
use Rattle.layout.proofs.Bodies.{body_suits, body_length}
use Rattle.layout.proofs.FaceRows.{Stood, file_stood}
use Rattle.layout.specs.State.{start, after_all, per}
use Rattle.layout.proofs.Sums.{Seen, total_is}
use Rattle.layout.proofs.Dims.{dim_is}
use Rattle.layout.proofs.Lists.{all_at, parted, lifted}
use Rattle.layout.proofs.Each.{Each as EachFits, parted_each, laid_seen}
use Rattle.layout.proofs.Room.{HasRoom, laid_has_room}
use Rattle.layout.proofs.Exactly.{zones_length}
use Rattle.texts.specs.Writes.{Each, Short, ShortFifth, Writes, BodyWrites}
use Rattle.texts.specs.Tabled.{body_of, fifth_of, head_of, section_for, parts_of, decl_of, items_of}
use Rattle.texts.specs.Writable.{RowsAgain, ElementAgain, ZoneAgain, Writable, Given}
use Rattle.texts.proofs.Bodies.{body_writes}
use Rattle.texts.specs.Judged.{total_of}
use Rattle.texts.proofs.Normal.{normals, parts_normal, front, all_fit, all_whole}
use Rattle.texts.proofs.Stands.{HeadIs, file_heads, dim_listed_lem, total_small, There, rows_again, within_none, within_less, width_wide, there_of}

module _ (m : Mesh) (g : Given m) where
  abbrev is : List Item
  is = g.items

  abbrev d : ℕ
  d = m.dimension

  abbrev l : Lent
  l = m.held

  abbrev room : Room
  room = room_of g.old

  room_same : room ≡ room_of l
  room_same = rw (g.held.mantissas.size, g.held.exponents.size, g.held.faces.size, g.held.cells.size, g.held.zones.size)

  each : EachFits room [] is
  each = parted_each room [] is g.laid.fits

  seen : Seen is (after_all start is)
  seen = laid_seen room g.laid

  only_dim : (n : ℕ) → Some (SaysDim n) is → n ≡ d
  only_dim n h = sym (dim_is seen.dims n h).0 ∙ (dim_is seen.dims d g.dimension).0

  same_total : (k : Kind) (t n : ℕ) → Some (Declares k t) is → Some (Declares k n) is → t ≡ n
  same_total k t n p q =
      let s = seen.kinds k in
      sym (total_is is k (per (after_all start is) k) s t p).1 ∙ (total_is is k (per (after_all start is) k) s n q).1

  only_cells : CellsAre is m.cells → (t : ℕ) → Some (Declares cell t) is → t ≡ m.cells
  only_cells (inl h) t p = same_total cell t m.cells p h
  only_cells (inr h) t p =
      let s = seen.kinds cell in
      let a = (total_is is cell (per (after_all start is) cell) s t p).0 in
      absurd (false≢true (sym (ap not a) ∙ s.free.1 h.0))

  only_total : (k : Kind) (t : ℕ) → Some (Declares k t) is → t ≡ total_of m k
  only_total node t p = same_total node t m.nodes p g.nodes
  only_total cell t p = only_cells g.cells t p
  only_total face t p = same_total face t m.faces p g.faces

  listed : (d ≡ 2) ⊎ (d ≡ 3)
  listed = dim_listed_lem room [] is d each g.dimension

  dim_small : d ≤ node_words
  dim_small = either_of listed (λ e. omega arith) (λ e. omega arith)

  small : (k : Kind) → total_of m k ≤ rows
  small node = total_small room [] is node m.nodes each g.nodes
  small cell = either_of g.cells (λ h. total_small room [] is cell m.cells each h) (λ h. omega (arith, h.1))
  small face = total_small room [] is face m.faces each g.faces

  has : HasRoom room is
  has = laid_has_room room g.laid

  roomy : (k : Kind) → Within (room_for room k) (total_of m k)
  roomy node = has.tables node m.nodes g.nodes
  roomy cell = either_of g.cells (λ h. has.tables cell m.cells h) (λ h. rw h.1 (within_none room.cells))
  roomy face = has.tables face m.faces g.faces

  element_again : (k : Kind) (h : Header) → ElementAgain k (zone_of k h)
  element_again node h = refl
  element_again cell h = tt
  element_again face h = tt

  -- the header that is written has the same indices and the same type
  again_of : (k : Kind) (h : Header) → RowsAgain k d l h → RowsAgain k d l (head_of k d (zone_of k h))
  again_of node h r = r
  again_of cell h r = r
  again_of face h r = r

  body_of_lem : (k : Kind) (h : Header) {b : Body} → body_of k d l h ≡ b → body_of k d l (head_of k d (zone_of k h)) ≡ b
  body_of_lem node h e = e
  body_of_lem cell h e = e
  body_of_lem face h e = e

  fifth_writes : (k : Kind) (v : Perhaps) → ShortFifth v → Short (fifth_of k d (element_in k v))
  fifth_writes node v s = either_of listed (λ e. omega arith) (λ e. omega arith)
  fifth_writes cell absent s = omega arith
  fifth_writes cell (given e) s = s
  fifth_writes face absent s = omega arith
  fifth_writes face (given e) s = s

  -- ---- one section
  module _ (k : Kind) (h : Header) (b : Body) (stands : Memᴰ (part k h b) is) where
    fits : (before : List Item) × (rest : List Item) × (is ≡ before ++ (part k h b ∷ rest)) × PartFits room before k h b
    fits = let p = parted stands in (p.0, p.1, p.2, g.laid.fits p.0 (part k h b) p.1 p.2)

    stood : Stood k h b
    stood = file_stood g.laid.file stands

    high : h.last ≤ total_of m k
    high = let f = fits.3 in omega (arith, f.high, only_total k f.total (lifted (Declares k f.total) fits.0 (part k h b ∷ fits.1) fits.2 f.declared))

    wide : Wide d b
    wide = width_wide d is only_dim k h fits.0 fits.1 b fits.2 fits.3.width

    room_for_lem : (t : ℕ) → Within (room_for room k) t → h.last ≤ t → Within (room_for room k) h.last
    room_for_lem t w e = within_less (room_for room k) t h.last w e

    last_room : Within (room_for room k) h.last
    last_room = room_for_lem (total_of m k) (roomy k) high

    there : There k l h b
    there = there_of is g.old l g.held k h b stands (body_suits stood.body) (body_length stood.body) fits.3.low fits.3.order last_room

    again : (body_of k d l h ≡ b) × RowsAgain k d l h
    again = rows_again d dim_small l h stood.body fits.3.fifth wide there

    zone_again : ZoneAgain d l (zone_of k h)
    zone_again = record { kind = k; section = refl; element = element_again k h; rows = again_of k h again.1 }

    part_writes : Writes (section_for k d l (zone_of k h))
    part_writes =
        let a = all_at HeadIs (part k h b) is (file_heads g.laid.file) stands in (
          a.0,
          record { zone = a.1.zone; first = a.1.first; last = a.1.last; type = a.1.type; fifth = fifth_writes k h.fifth a.1.fifth },
          subst (BodyWrites k (count_of h) (given (fifth_of k d (element_in k h.fifth)))) (sym (body_of_lem k h again.0)) (body_writes d stood.body),
        )

  -- ---- all of them
  zones_again : (js : List Item) → ((k : Kind) (h : Header) (b : Body) → Memᴰ (part k h b) js → ZoneAgain d l (zone_of k h)) → Each (ZoneAgain d l) (zones_of js)
  zones_again [] f = tt
  zones_again (dim n ∷ js) f = zones_again js (λ k h b s. f k h b (Memᴰ.tail s))
  zones_again (decl j x ∷ js) f = zones_again js (λ k h b s. f k h b (Memᴰ.tail s))
  zones_again (part j x c ∷ js) f = (f j x c (Memᴰ.head refl), zones_again js (λ k h b s. f k h b (Memᴰ.tail s)))
  zones_again (other ∷ js) f = zones_again js (λ k h b s. f k h b (Memᴰ.tail s))

  normals_write : (js : List Item) → ((k : Kind) (h : Header) (b : Body) → Memᴰ (part k h b) js → Writes (section_for k d l (zone_of k h))) → Each Writes (normals d l js)
  normals_write [] f = tt
  normals_write (dim n ∷ js) f = normals_write js (λ k h b s. f k h b (Memᴰ.tail s))
  normals_write (decl j x ∷ js) f = normals_write js (λ k h b s. f k h b (Memᴰ.tail s))
  normals_write (part j x c ∷ js) f = (f j x c (Memᴰ.head refl), normals_write js (λ k h b s. f k h b (Memᴰ.tail s)))
  normals_write (other ∷ js) f = normals_write js (λ k h b s. f k h b (Memᴰ.tail s))

  -- the records lent are those of the sections
  zones_are : l.zones ≡ zones_of is
  zones_are =
      let n : length l.zones ≡ length (zones_of is) = sym g.all ∙ g.zones ∙ sym (zones_length is) in
      ext_get_or no_zone l.zones (zones_of is) n
      (λ i h. let z : 0 + i ≡ i = omega arith in ap (λ (j : ℕ). get_or l.zones j no_zone) (sym z) ∙ g.held.zones.there (record { at = 0; words = zones_of is }) (Memᴰ.head refl) i (omega arith))

  items_are : items_of m ≡ front d l (total_of m) (normals d l is)
  unfolding items_of
  items_are = ap (front d l (total_of m)) (ap (parts_of d l) zones_are ∙ parts_normal d l is)

  declared_writes : (n v : ℕ) → n ≤ rows → Short v → Writes (decl_of node n v)
  declared_writes n v p q = (refl, record { zone = omega arith; first = omega arith; last = omega (arith, p); type = omega arith; fifth = q })

  covered : (k : Kind) (i : ℕ) → 1 ≤ i → i ≤ total_of m k → Some (Covers k i) is
  covered node i p q = g.laid.whole.tiled node m.nodes g.nodes i p q
  covered cell i p q = either_of g.cells (λ h. g.laid.whole.tiled cell m.cells h i p q) (λ h. absurd (omega (arith, h.1)))
  covered face i p q = g.laid.whole.tiled face m.faces g.faces i p q

  pub given_writable : Writable m
  given_writable =
      record {
        counted = g.all;
        again = subst (Each (ZoneAgain d l)) (sym zones_are) (zones_again is zone_again);
        writes = subst (Each Writes) (sym items_are) (either_of listed (λ e. omega arith) (λ e. omega arith), (declared_writes m.nodes d (small node) (either_of listed (λ e. omega arith) (λ e. omega arith)), (declared_writes m.cells 0 (small cell) (omega arith), (declared_writes m.faces 0 (small face) (omega arith), normals_write is part_writes))));
        fits = λ before i after e. subst (λ r. Fits r before i) room_same (all_fit d l (total_of m) room listed is only_total small roomy each before i after (sym items_are ∙ e));
        whole = subst Whole (sym items_are) (all_whole d l (total_of m) is covered);
      }
