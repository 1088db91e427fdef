-- A body suits its kind and has a row for each index. Assumes nothing.
use Prim.Native.Nat.{ℕ, suc}
use mathlib.Core.Path.{◌≡◌, refl, ap}
use mathlib.Core.List.{List}
use lib.ListN.{length, length-replicate}
use Rattle.tokens.specs.Listed.{Tok}
use Rattle.layout.specs.Items.{Kind, node, cell, face, Perhaps, Body, points, elements, facets}
use Rattle.layout.specs.Grammar.{Rows, no_rows, a_row, Enclosed, enclosed, BodyOf, node_body, cell_mixed, cell_same, face_mixed, face_same}

abbrev pub Suits : Kind → Body → Type 0
Suits node (points d ps) = Unit
Suits node (elements es) = ⊥
Suits node (facets fs) = ⊥
Suits cell (points d ps) = ⊥
Suits cell (elements es) = Unit
Suits cell (facets fs) = ⊥
Suits face (points d ps) = ⊥
Suits face (elements es) = ⊥
Suits face (facets fs) = Unit

pub body_suits : {k : Kind} {n : ℕ} {v : Perhaps} {ts us : List Tok} {b : Body} → BodyOf k n v ts b us → Suits k b
body_suits (node_body p) = tt
body_suits (cell_mixed p) = tt
body_suits (cell_same h) = tt
body_suits (face_mixed p) = tt
body_suits (face_same h p) = tt

abbrev pub size_of : Body → ℕ
size_of (points d ps) = length ps
size_of (elements es) = length es
size_of (facets fs) = length fs

pub rows_length : {A : Type 0} {R : List Tok → A → List Tok → Type 0} {n : ℕ} {ts us : List Tok} {xs : List A} → Rows R n ts xs us → length xs ≡ n
rows_length no_rows = refl
rows_length (a_row h t) = ap suc (rows_length t)

enclosed_length : {A : Type 0} {R : List Tok → A → List Tok → Type 0} {n : ℕ} {ts us : List Tok} {xs : List A} → Enclosed R n ts xs us → length xs ≡ n
enclosed_length (enclosed l h r) = rows_length h

pub body_length : {k : Kind} {n : ℕ} {v : Perhaps} {ts us : List Tok} {b : Body} → BodyOf k n v ts b us → size_of b ≡ n
body_length (node_body p) = enclosed_length p
body_length (cell_mixed p) = enclosed_length p
body_length (cell_same {n = n} {e = e} h) = length-replicate n e
body_length (face_mixed p) = enclosed_length p
body_length (face_same h p) = enclosed_length p
