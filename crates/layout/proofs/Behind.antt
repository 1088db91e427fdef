-- What comes behind a thing of the grammar is the end of what the thing began with. Assumes nothing.
use Rattle.std.specs.Prelude.{Option}
use Prim.Native.Nat.{ℕ, ◌≤◌, ◌<◌}
use native.Mathlib.Omega.{arith}
use mathlib.Core.List.{List, ◌∷◌}
use lib.ListN.{length}
use Rattle.tokens.specs.Listed.{Tok}
use Rattle.layout.specs.Items.{Kind, Perhaps, Header, Body, Item}
use Rattle.layout.specs.Grammar.{Left, is_left, Right, is_right, Number, number, Hex, Coordinate, coordinate, Fifth, present, missing, Heading, heading, Rows, no_rows, a_row, Enclosed, enclosed, Element, element, Facing, facing, Mixed, mixed, BodyOf, node_body, cell_mixed, cell_same, face_mixed, face_same, Inside, closed, a_word, a_text, nested, Section, two, declares, regular, stepped}

-- us is an end of ts
pub data Behind : List Tok → List Tok → Type 0 where
  all : {ts : List Tok} → Behind ts ts
  on : {t : Tok} {us ts : List Tok} → Behind us ts → Behind us (t ∷ ts)

and_on : {vs us ts : List Tok} → Behind us ts → Behind vs us → Behind vs ts
and_on all q = q
and_on (on p) q = on (and_on p q)

pub behind_length : {us ts : List Tok} → Behind us ts → length us ≤ length ts
behind_length all = omega arith
behind_length (on p) = omega (arith, behind_length p)

-- ---- single tokens
left_behind : {ts us : List Tok} → Left ts us → Behind us ts
left_behind is_left = on all

right_behind : {ts us : List Tok} → Right ts us → Behind us ts
right_behind is_right = on all

number_behind : {f : List ℕ → Option ℕ} {ts us : List Tok} {v : ℕ} → Number f ts v us → Behind us ts
number_behind (number e) = on all

number_less : {f : List ℕ → Option ℕ} {ts us : List Tok} {v : ℕ} → Number f ts v us → length us < length ts
number_less (number e) = omega arith

fifth_behind : {ts us : List Tok} {v : Perhaps} → Fifth ts v us → Behind us ts
fifth_behind (present h) = number_behind h
fifth_behind missing = all

heading_behind : {ts us : List Tok} {h : Header} → Heading ts h us → Behind us ts
heading_behind (heading a z f l t v r) =
    let last = and_on (number_behind t) (and_on (fifth_behind v) (right_behind r)) in
    and_on (left_behind a) (and_on (number_behind z) (and_on (number_behind f) (and_on (number_behind l) last)))

inside_behind : {d : ℕ} {ts us : List Tok} → Inside d ts us → Behind us ts
inside_behind closed = on all
inside_behind (a_word h) = on (inside_behind h)
inside_behind (a_text h) = on (inside_behind h)
inside_behind (nested l h k) = on (and_on (inside_behind h) (inside_behind k))

-- ---- bodies
abbrev Leaves : {A : Type 0} → (List Tok → A → List Tok → Type 0) → Type 0
Leaves {A} R = (ts : List Tok) (a : A) (us : List Tok) → R ts a us → Behind us ts

module _ {A : Type 0} (R : List Tok → A → List Tok → Type 0) (f : Leaves R) where
  rows_behind : {n : ℕ} {ts us : List Tok} {xs : List A} → Rows R n ts xs us → Behind us ts
  rows_behind no_rows = all
  rows_behind (a_row h t) = and_on (f _ _ _ h) (rows_behind t)

  enclosed_behind : {n : ℕ} {ts us : List Tok} {xs : List A} → Enclosed R n ts xs us → Behind us ts
  enclosed_behind (enclosed l h r) = and_on (left_behind l) (and_on (rows_behind h) (right_behind r))

hex_behind : Leaves Hex
hex_behind ts v us h = number_behind h

coordinate_behind : Leaves Coordinate
coordinate_behind ts p us (coordinate h) = on all

element_behind : Leaves Element
element_behind ts e us (element h l m) = number_behind h

facing_behind : (n : ℕ) → Leaves (Facing n)
facing_behind n ts f us (facing p q r) = and_on (rows_behind Hex hex_behind p) (and_on (number_behind q) (number_behind r))

mixed_behind : Leaves Mixed
mixed_behind ts f us (mixed {n} h l m p) = and_on (number_behind h) (facing_behind n _ _ _ p)

point_behind : (d : ℕ) → Leaves (Rows Coordinate d)
point_behind d ts p us h = rows_behind Coordinate coordinate_behind h

body_behind : {k : Kind} {n : ℕ} {v : Perhaps} {ts us : List Tok} {b : Body} → BodyOf k n v ts b us → Behind us ts
body_behind (node_body {d = d} p) = enclosed_behind (Rows Coordinate d) (point_behind d) p
body_behind (cell_mixed p) = enclosed_behind Element element_behind p
body_behind (cell_same h) = all
body_behind (face_mixed p) = enclosed_behind Mixed mixed_behind p
body_behind (face_same {c = c} h p) = enclosed_behind (Facing c) (facing_behind c) p

-- ---- sections
pub section_behind : {ts us : List Tok} {i : Item} → Section ts i us → Behind us ts
section_behind (two i h r) = and_on (number_behind i) (and_on (number_behind h) (right_behind r))
section_behind (declares k i a z q) = and_on (number_behind i) (and_on (heading_behind a) (right_behind q))
section_behind (regular k i a z b q) = and_on (number_behind i) (and_on (heading_behind a) (and_on (body_behind b) (right_behind q)))
section_behind (stepped i s h) = and_on (number_behind i) (inside_behind h)

-- a section takes its id at least, so that a file has no more sections than tokens
pub section_less : {ts us : List Tok} {i : Item} → Section ts i us → length us < length ts
section_less (two i h r) = omega (arith, number_less i, behind_length (and_on (number_behind h) (right_behind r)))
section_less (declares k i a z q) = omega (arith, number_less i, behind_length (and_on (heading_behind a) (right_behind q)))
section_less (regular k i a z b q) = omega (arith, number_less i, behind_length (and_on (heading_behind a) (and_on (body_behind b) (right_behind q))))
section_less (stepped i s h) = omega (arith, number_less i, behind_length (inside_behind h))
