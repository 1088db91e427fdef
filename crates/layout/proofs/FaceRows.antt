-- The words of a face row; and a face section says no more corners than a row has places for. Assumes nothing.
use Prim.Native.Nat.{ℕ, zero, suc, ◌+◌, ◌≤◌, ◌<◌}
use native.Mathlib.Omega.{arith}
use mathlib.Core.Path.{◌≡◌, refl, ◌∙◌}
use mathlib.Core.List.Memᴰ
use mathlib.Core.List.{List, [], ◌∷◌, ◌++◌, map, Memᴰ}
use lib.ListN.{length, get_or, replicate, get_or-replicate, get_or-append}
use lib.Seq.{get_or-take, get_or-append-add}
use Rattle.facts.proofs.Decides.{either_of}
use Rattle.tokens.specs.Listed.{Tok}
use Rattle.mesh.specs.Rows.{places}
use Rattle.layout.specs.Items.{Kind, face, Perhaps, given, Header, count_of, Facet, Body, facets, Item, part}
use Rattle.layout.specs.Grammar.{Rows, no_rows, a_row, Enclosed, enclosed, Facing, facing, Mixed, mixed, BodyOf, face_mixed, face_same, Section, two, declares, regular, stepped, File, over, section}
use Rattle.layout.specs.Keeps.{FifthOf}
use Rattle.layout.specs.Rows.{pad, face_row}
use Rattle.layout.proofs.Bodies.{rows_length}
use Rattle.layout.proofs.Formed.{pad_length}

-- ---- the words of a row
-- stands where there is no face
abbrev pub no_facet : Facet
no_facet = record { corners = []; right = 0; left = 0 }

pub map_at : {A B : Type 0} (f : A → B) (xs : List A) (j : ℕ) (a : A) (b : B) → j < length xs → get_or (map f xs) j b ≡ f (get_or xs j a)
map_at f [] j a b l = absurd (omega arith)
map_at f (x ∷ xs) zero a b l = refl
map_at f (x ∷ xs) (suc j) a b l = map_at f xs j a b (omega arith)

zeros_at : (n : ℕ) (l : List ℕ) (c : ℕ) → c < n → get_or (l ++ replicate n 0) c 0 ≡ get_or l c 0
zeros_at n [] c h = get_or-replicate n c 0 0 h
zeros_at n (x ∷ l) zero h = refl
zeros_at n (x ∷ l) (suc c) h = zeros_at n l c (omega arith)

module _ (n t : ℕ) (f : Facet) where
  pub corner_at : (c : ℕ) → c < n → get_or (face_row n t f) (suc c) 0 ≡ get_or f.corners c 0
  corner_at c h =
      get_or-append (pad n 0 f.corners) _ 0 c (omega (arith, pad_length n 0 f.corners))
      ∙ (get_or-take n (f.corners ++ replicate n 0) c 0 h ∙ zeros_at n f.corners c h)

  pub behind_at : (c : ℕ) → get_or (face_row n t f) (n + suc c) 0 ≡ get_or (f.right ∷ f.left ∷ t ∷ []) c 0
  behind_at c =
      let z : n + suc c ≡ suc (length (pad n 0 f.corners) + c) = omega (arith, pad_length n 0 f.corners) in
      rw z (get_or-append-add (pad n 0 f.corners) (f.right ∷ f.left ∷ t ∷ []) c 0)

-- ---- at most so many corners
abbrev Few : Facet → Type 0
Few f = length f.corners ≤ places

facing_few : (n : ℕ) → n ≤ places → (ts : List Tok) (f : Facet) (us : List Tok) → Facing n ts f us → Few f
facing_few n l ts f us (facing p r q) = omega (arith, rows_length p)

mixed_few : (ts : List Tok) (f : Facet) (us : List Tok) → Mixed ts f us → Few f
mixed_few ts f us (mixed {n} h l m p) = facing_few n m _ _ _ p

module _ (R : List Tok → Facet → List Tok → Type 0) (few : (ts : List Tok) (f : Facet) (us : List Tok) → R ts f us → Few f) where
  rows_few : {n : ℕ} {ts us : List Tok} {fs : List Facet} → Rows R n ts fs us → (j : ℕ) → j < length fs → Few (get_or fs j no_facet)
  rows_few no_rows j l = absurd (omega arith)
  rows_few (a_row h t) zero l = few _ _ _ h
  rows_few (a_row h t) (suc j) l = rows_few t j (omega arith)

  enclosed_few : {n : ℕ} {ts us : List Tok} {fs : List Facet} → Enclosed R n ts fs us → (j : ℕ) → j < length fs → Few (get_or fs j no_facet)
  enclosed_few (enclosed a h r) = rows_few h

pub same_few : (c : ℕ) → FifthOf face (given c) → c ≤ places
same_few c m =
    either_of (Memᴰ.cases_cons m) (λ e. omega arith) λ m₁. either_of (Memᴰ.cases_cons m₁) (λ e. omega arith) λ m₂.
    either_of (Memᴰ.cases_cons m₂) (λ e. omega arith) λ m₃. either_of (Memᴰ.cases_cons m₃) (λ e. omega arith) λ m₄. absurd (Memᴰ.not-nil m₄)

pub body_few : {n : ℕ} {v : Perhaps} {ts us : List Tok} {fs : List Facet} → BodyOf face n v ts (facets fs) us → FifthOf face v → (j : ℕ) → j < length fs
    → Few (get_or fs j no_facet)
body_few (face_mixed p) e = enclosed_few Mixed mixed_few p
body_few (face_same {c = c} h p) e = enclosed_few (Facing c) (facing_few c (same_few c e)) p

-- the tokens of a section's body
pub record Stood (k : Kind) (h : Header) (b : Body) : Type 0 where
  pub from : List Tok
  pub to : List Tok
  pub body : BodyOf k (count_of h) h.fifth from b to

section_stood : {k : Kind} {h : Header} {b : Body} {i : Item} {ts us : List Tok} → Section ts i us → part k h b ≡ i → Stood k h b
section_stood (two i n r) e = absurd (let z : ◌≡◌ {A = ℕ} 0 1 = cc in omega arith)
section_stood (declares j i a z r) e = absurd (let z : ◌≡◌ {A = ℕ} 0 1 = cc in omega arith)
section_stood {k} {h} {b} (regular {h = g} {b = c} j i a z p r) e =
    let x : k ≡ j = cc in
    let y : h ≡ g = cc in
    let w : b ≡ c = cc in
    rw (x, y, w) (record { from = _; to = _; body = p })
section_stood (stepped i p n) e = absurd (let z : ◌≡◌ {A = ℕ} 0 1 = cc in omega arith)

pub file_stood : {k : Kind} {h : Header} {b : Body} {ts : List Tok} {is : List Item} → File ts is → Memᴰ (part k h b) is → Stood k h b
file_stood over m = absurd (Memᴰ.not-nil m)
file_stood (section s f) m = either_of (Memᴰ.cases_cons m) (section_stood s) (file_stood f)
