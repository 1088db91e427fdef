-- Each thing of the grammar leaves the parentheses as deep as it found them, and a section closes its own. Assumes nothing.
use Rattle.std.specs.Prelude.{Option}
use Prim.Native.Nat.{ℕ, suc}
use mathlib.Core.Path.{◌≡◌, refl, ◌∙◌}
use mathlib.Core.List.{List}
use Rattle.tokens.specs.Listed.{Tok}
use Rattle.layout.specs.Items.{Kind, Perhaps, Header, Body, Item}
use Rattle.layout.specs.Grammar.{Left, is_left, Right, is_right, Number, number, Hex, Coordinate, coordinate, Fifth, present, missing, Heading, heading, Rows, no_rows, a_row, Enclosed, enclosed, Element, element, Facing, facing, Mixed, mixed, BodyOf, node_body, cell_mixed, cell_same, face_mixed, face_same, Inside, closed, a_word, a_text, nested, Section, two, declares, regular, stepped}
use Rattle.layout.specs.Replies.{opened}

-- ---- single tokens
left_level : {ts us : List Tok} → Left ts us → (d : ℕ) → opened ts (suc d) ≡ opened us (suc (suc d))
left_level is_left d = refl

right_level : {ts us : List Tok} → Right ts us → (d : ℕ) → opened ts (suc d) ≡ opened us d
right_level is_right d = refl

number_level : {f : List ℕ → Option ℕ} {ts us : List Tok} {v : ℕ} → Number f ts v us → (d : ℕ) → opened ts d ≡ opened us d
number_level (number e) d = refl

fifth_level : {ts us : List Tok} {v : Perhaps} → Fifth ts v us → (d : ℕ) → opened ts d ≡ opened us d
fifth_level (present h) d = number_level h d
fifth_level missing d = refl

heading_level : {ts us : List Tok} {h : Header} → Heading ts h us → (d : ℕ) → opened ts (suc d) ≡ opened us (suc d)
heading_level (heading a z f l t v r) d =
    let e = suc (suc d) in
    left_level a d ∙ number_level z e ∙ number_level f e ∙ number_level l e ∙ number_level t e ∙ fifth_level v e ∙ right_level r (suc d)

inside_level : {n : ℕ} {ts us : List Tok} → Inside n ts us → (d : ℕ) → opened ts (suc d) ≡ opened us d
inside_level closed d = refl
inside_level (a_word h) d = inside_level h d
inside_level (a_text h) d = inside_level h d
inside_level (nested l h k) d = inside_level h (suc d) ∙ inside_level k d

-- ---- bodies
abbrev Level : {A : Type 0} → (List Tok → A → List Tok → Type 0) → Type 0
Level {A} R = (ts : List Tok) (a : A) (us : List Tok) → R ts a us → (d : ℕ) → opened ts d ≡ opened us d

module _ {A : Type 0} (R : List Tok → A → List Tok → Type 0) (f : Level R) where
  rows_level : {n : ℕ} {ts us : List Tok} {xs : List A} → Rows R n ts xs us → (d : ℕ) → opened ts d ≡ opened us d
  rows_level no_rows d = refl
  rows_level (a_row h t) d = f _ _ _ h d ∙ rows_level t d

  enclosed_level : {n : ℕ} {ts us : List Tok} {xs : List A} → Enclosed R n ts xs us → (d : ℕ) → opened ts (suc d) ≡ opened us (suc d)
  enclosed_level (enclosed l h r) d = left_level l d ∙ rows_level h (suc (suc d)) ∙ right_level r (suc d)

hex_level : Level Hex
hex_level ts v us h d = number_level h d

coordinate_level : Level Coordinate
coordinate_level ts p us (coordinate h) d = refl

element_level : Level Element
element_level ts e us (element h l m) d = number_level h d

facing_level : (n : ℕ) → Level (Facing n)
facing_level n ts f us (facing p q r) d = rows_level Hex hex_level p d ∙ number_level q d ∙ number_level r d

mixed_level : Level Mixed
mixed_level ts f us (mixed {n} h l m p) d = number_level h d ∙ facing_level n _ _ _ p d

point_level : (n : ℕ) → Level (Rows Coordinate n)
point_level n ts p us h d = rows_level Coordinate coordinate_level h d

body_level : {k : Kind} {n : ℕ} {v : Perhaps} {ts us : List Tok} {b : Body} → BodyOf k n v ts b us → (d : ℕ) → opened ts (suc d) ≡ opened us (suc d)
body_level (node_body {d = n} p) d = enclosed_level (Rows Coordinate n) (point_level n) p d
body_level (cell_mixed p) d = enclosed_level Element element_level p d
body_level (cell_same h) d = refl
body_level (face_mixed p) d = enclosed_level Mixed mixed_level p d
body_level (face_same {c = c} h p) d = enclosed_level (Facing c) (facing_level c) p d

-- ---- sections, behind their `(`
pub section_level : {ts us : List Tok} {i : Item} → Section ts i us → opened ts 1 ≡ opened us 0
section_level (two i h r) = number_level i 1 ∙ number_level h 1 ∙ right_level r 0
section_level (declares k i a z q) = number_level i 1 ∙ heading_level a 0 ∙ right_level q 0
section_level (regular k i a z b q) = number_level i 1 ∙ heading_level a 0 ∙ body_level b 0 ∙ right_level q 0
section_level (stepped i s h) = number_level i 1 ∙ inside_level h 0
