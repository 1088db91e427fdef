-- What a laid-out section shows: its header is short, its dimension and totals are listed, its rows stand in the tables. Assumes nothing.
use Prim.Native.Nat.{ℕ, ◌+◌, ◌-◌, ◌*◌, ◌/◌, ◌≤◌, ◌<◌}
use native.Mathlib.Nat.{min-le_left, min-le_right}
use native.Mathlib.Omega.{arith}
use mathlib.Core.Path.{◌≡◌, sym, ◌∙◌, ap}
use mathlib.Core.Logic.{◌⊎◌, inl, inr}
use mathlib.Core.List.{List, [], ◌∷◌, ◌++◌, Memᴰ}
use lib.IntN.{pos}
use lib.ListN.{length, take, drop, replicate, length-drop, take-append-drop}
use lib.Seq.{get_or-take, get_or-drop, length-take-le, ext_get_or}
use Rattle.facts.proofs.Decides.{either_of}
use Rattle.sizes.specs.Sizes.{rows}
use Rattle.tokens.specs.Listed.{Tok}
use Rattle.mesh.specs.Rows.{places, face_words, cell_words, node_words}
use Rattle.layout.specs.Items.{Kind, node, cell, face, Perhaps, absent, given, Header, count_of, Body, points, elements, facets, Item, dim, decl, part, other, says_dim, Wide}
use Rattle.layout.specs.Grammar.{Fifth, present, missing, Heading, heading, BodyOf, node_body, cell_mixed, cell_same, face_mixed, face_same, Section, two, declares, regular, stepped, File, over, section}
use Rattle.layout.specs.Keeps.{Room, Limit, unlimited, most, Within, room_for, DimFits, All, Some, SaysDim, Declares, FifthOf, WidthFits}
use Rattle.layout.specs.Rows.{Holding, Table, piece_of, pieces_of, joined, mantissa_table, exponent_table, face_table, cell_table, Lent, room_of, Holds}
use Rattle.layout.proofs.Bodies.{Suits, size_of}
use Rattle.layout.proofs.Formed.{Formed, piece_end, node_formed, face_formed, cell_formed}
use Rattle.layout.proofs.Pieces.{piece_stands}
use Rattle.layout.proofs.Lists.{some_at, lifted}
use Rattle.layout.proofs.Each.{Each as EachFits}
use Rattle.texts.specs.Writes.{ShortFifth, ShortHeader}
use Rattle.texts.specs.Tabled.{rows_of, section_rows, body_of}
use Rattle.texts.specs.Writable.{Inside, RowsAgain}
use Rattle.texts.proofs.Bodies.{hex_short, body_few, body_points, rows_parted, facets_again, cells_again, points_again}
use Rattle.texts.proofs.Inside.{div_room, inside_of}

-- ---- the rows that a laid section says stand in its table
module _ {A : Type 0} (d : A) (t : Table A) (formed : Formed t) (is : List Item) (old new : List A) (hold : Holding d (pieces_of t is) old new)
    (h : Header) (b : Body) (stands : Memᴰ (part t.kind h b) is) (suits : Suits t.kind b) (sized : size_of b ≡ count_of h)
    (low : 1 ≤ h.first) (order : h.first ≤ h.last) (room : t.width * h.last ≤ length new) where
  abbrev words : List A
  words = joined (t.rows h b)

  abbrev at : ℕ
  at = t.width * (h.first - 1)

  ends : at + length words ≡ t.width * h.last
  ends = piece_end t formed h b suits sized low order

  words_there : take (length words) (drop at new) ≡ words
  words_there =
      let k : length (take (length words) (drop at new)) ≡ length words = length-take-le (length words) (drop at new) (omega (arith, length-drop at new, ends)) in
      ext_get_or d (take (length words) (drop at new)) words k
      (λ i l. let j : i < length words = omega arith in get_or-take (length words) (drop at new) i d j ∙ get_or-drop at new i d ∙ hold.there (piece_of t h b) (piece_stands t h b is stands) i j)

  rows_there : section_rows t.width h new ≡ t.rows h b
  rows_there =
      let r = formed h b suits in
      let e : drop at new ≡ words ++ drop (length words) (drop at new) = sym (take-append-drop (length words) (drop at new)) ∙ ap (λ x. x ++ drop (length words) (drop at new)) words_there in
      ap (rows_of t.width (count_of h)) e ∙ ap (λ n. rows_of t.width n (words ++ drop (length words) (drop at new))) (sym (r.many ∙ sized)) ∙ rows_parted t.width (t.rows h b) (drop (length words) (drop at new)) r.ruled

-- ---- what the grammar knows of a section's header
abbrev pub HeadIs : Item → Type 0
HeadIs (dim n) = Unit
HeadIs (decl k h) = Unit
HeadIs (part k h b) = (0 < h.zone) × ShortHeader h
HeadIs other = Unit

fifth_short : {ts us : List Tok} {v : Perhaps} → Fifth ts v us → ShortFifth v
fifth_short (present h) = hex_short h
fifth_short missing = tt

head_short : {ts us : List Tok} {h : Header} → Heading ts h us → ShortHeader h
head_short (heading a z f l t v r) = record { zone = hex_short z; first = hex_short f; last = hex_short l; type = hex_short t; fifth = fifth_short v }

section_head : {ts us : List Tok} {i : Item} → Section ts i us → HeadIs i
section_head (two i n r) = tt
section_head (declares k i h z r) = tt
section_head (regular k i h z b r) = (z, head_short h)
section_head (stepped i s n) = tt

pub file_heads : {ts : List Tok} {is : List Item} → File ts is → All HeadIs is
file_heads over = tt
file_heads (section s f) = (section_head s, file_heads f)

-- ---- what each item that fits shows
given_listed : (before : List Item) (v : Perhaps) (n : ℕ) → v ≡ given n → DimFits before v → (n ≡ 2) ⊎ (n ≡ 3)
given_listed before v n e f = let a : DimFits before (given n) = rw e at f in a.listed

module _ (room : Room) where
  pub dim_listed_lem : (before is : List Item) (n : ℕ) → EachFits room before is → Some (SaysDim n) is → (n ≡ 2) ⊎ (n ≡ 3)
  dim_listed_lem before [] n e h = absurd h
  dim_listed_lem before (dim m ∷ is) n e (inl h) = given_listed before (given m) n h e.0
  dim_listed_lem before (dim m ∷ is) n e (inr h) = dim_listed_lem _ is n e.1 h
  dim_listed_lem before (decl k g ∷ is) n e (inl h) = given_listed before (says_dim (decl k g)) n h e.0.dimension
  dim_listed_lem before (decl k g ∷ is) n e (inr h) = dim_listed_lem _ is n e.1 h
  dim_listed_lem before (part k g b ∷ is) n e (inl h) = given_listed before (says_dim (part k g b)) n h e.0.dimension
  dim_listed_lem before (part k g b ∷ is) n e (inr h) = dim_listed_lem _ is n e.1 h
  dim_listed_lem before (other ∷ is) n e (inl h) = absurd (let z : ◌≡◌ {A = ℕ} 0 1 = cc in omega arith)
  dim_listed_lem before (other ∷ is) n e (inr h) = dim_listed_lem _ is n e.1 h

  pub total_small : (before is : List Item) (k : Kind) (t : ℕ) → EachFits room before is → Some (Declares k t) is → t ≤ rows
  total_small before [] k t e h = absurd h
  total_small before (dim m ∷ is) k t e (inl h) = absurd h
  total_small before (dim m ∷ is) k t e (inr h) = total_small _ is k t e.1 h
  total_small before (decl j g ∷ is) k t e (inl h) = omega (arith, e.0.small, h.1)
  total_small before (decl j g ∷ is) k t e (inr h) = total_small _ is k t e.1 h
  total_small before (part j g b ∷ is) k t e (inl h) = absurd h
  total_small before (part j g b ∷ is) k t e (inr h) = total_small _ is k t e.1 h
  total_small before (other ∷ is) k t e (inl h) = absurd h
  total_small before (other ∷ is) k t e (inr h) = total_small _ is k t e.1 h

-- ---- the body that the tables say, and its rows
abbrev pub There : Kind → Lent → Header → Body → Type 0
There node l h b =
    (section_rows node_words h l.mantissas ≡ mantissa_table.rows h b) × (section_rows node_words h l.exponents ≡ exponent_table.rows h b)
    × Inside node_words h l.mantissas × Inside node_words h l.exponents
There cell l h b = (section_rows cell_words h l.cells ≡ cell_table.rows h b) × Inside cell_words h l.cells
There face l h b = (section_rows (face_words places) h l.faces ≡ face_table.rows h b) × Inside (face_words places) h l.faces

module _ (d : ℕ) (small : d ≤ node_words) (l : Lent) (h : Header) where
  pub rows_again : {k : Kind} {n : ℕ} {v : Perhaps} {ts us : List Tok} {b : Body} → BodyOf k n v ts b us → FifthOf k v → Wide d b → There k l h b
      → (body_of k d l h ≡ b) × RowsAgain k d l h
  rows_again (node_body {ps = ps} p) f w t =
      let a = points_again d small ps (rw w at (body_points (node_body {v = absent} p))) in
      (rw (t.0, t.1) (ap (points d) a.0 ∙ ap (λ e. points e ps) (sym w)), (t.2, t.3, rw (t.0, t.1) a.1))
  rows_again (cell_mixed {es = es} p) f w t = let a = cells_again h.type es in (rw t.0 (ap elements a.0), (t.1, rw t.0 a.1))
  rows_again (cell_same {n} {e} p) f w t = let a = cells_again h.type (replicate n e) in (rw t.0 (ap elements a.0), (t.1, rw t.0 a.1))
  rows_again (face_mixed {fs = fs} p) f w t = let a = facets_again h.type fs (body_few f (face_mixed p)) in (rw t.0 (ap facets a.0), (t.1, rw t.0 a.1))
  rows_again (face_same {fs = fs} z p) f w t = let a = facets_again h.type fs (body_few f (face_same z p)) in (rw t.0 (ap facets a.0), (t.1, rw t.0 a.1))

pub within_none : (limit : Limit) → Within limit 0
within_none unlimited = tt
within_none (most n) = omega arith

pub within_less : (limit : Limit) (t n : ℕ) → Within limit t → n ≤ t → Within limit n
within_less unlimited t n w e = tt
within_less (most r) t n w e = omega arith

pub width_wide : (d : ℕ) (all : List Item) → ((n : ℕ) → Some (SaysDim n) all → n ≡ d) → (k : Kind) (h : Header) (before rest : List Item) (b : Body)
    → all ≡ before ++ (part k h b ∷ rest) → WidthFits before (part k h b) b → Wide d b
width_wide d all only k h before rest (points w ps) e f =
    only w (either_of f (λ y. rw e (some_at (SaysDim w) before (part k h (points w ps)) rest y)) (λ y. lifted (SaysDim w) before (part k h (points w ps) ∷ rest) e y))
width_wide d all only k h before rest (elements es) e f = tt
width_wide d all only k h before rest (facets fs) e f = tt

-- a section's rows are in every table that holds them
module _ (is : List Item) (old new : Lent) (held : Holds is old new) where
  pub there_of : (k : Kind) (h : Header) (b : Body) → Memᴰ (part k h b) is → Suits k b → size_of b ≡ count_of h → 1 ≤ h.first → h.first ≤ h.last
      → Within (room_for (room_of old) k) h.last → There k new h b
  there_of node h b s u z low order w =
      let a = length old.mantissas / node_words in
      let c = length old.exponents / node_words in
      let p = div_room node_words (length old.mantissas) h.last (omega (arith, min-le_left a c, w)) in
      let q = div_room node_words (length old.exponents) h.last (omega (arith, min-le_right a c, w)) in
      let mf = node_formed (λ x. x.mantissa) in
      let ef = node_formed (λ x. x.exponent) in
      let x : node_words * h.last ≤ length new.mantissas = omega (arith, p, held.mantissas.size) in
      let y : node_words * h.last ≤ length new.exponents = omega (arith, q, held.exponents.size) in (
        rows_there (pos 0) mantissa_table mf is old.mantissas new.mantissas held.mantissas h b s u z low order x,
        rows_there (pos 0) exponent_table ef is old.exponents new.exponents held.exponents h b s u z low order y,
        inside_of node_words h new.mantissas low order x,
        inside_of node_words h new.exponents low order y,
      )
  there_of cell h b s u z low order w =
      let x : cell_words * h.last ≤ length new.cells = omega (arith, div_room cell_words (length old.cells) h.last w, held.cells.size) in (
        rows_there 0 cell_table cell_formed is old.cells new.cells held.cells h b s u z low order x,
        inside_of cell_words h new.cells low order x,
      )
  there_of face h b s u z low order w =
      let x : face_words places * h.last ≤ length new.faces = omega (arith, div_room (face_words places) (length old.faces) h.last w, held.faces.size) in (
        rows_there 0 face_table face_formed is old.faces new.faces held.faces h b s u z low order x,
        inside_of (face_words places) h new.faces low order x,
      )
