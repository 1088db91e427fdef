-- [01:Tokens], [01:Sections that are read]. The shape of a file: which tokens are which items. Each relation says that a list of tokens
-- begins with a thing, and that `us` comes behind it. To be believed: all of this file. Assumes nothing.
use Rattle.std.specs.Prelude.{ℕ, zero, suc, ◌≤◌, ◌<◌, ◌≡◌, ◌⊎◌, List, [], ◌∷◌, ℤ, replicate, Option, Some}
use Rattle.sizes.specs.Sizes.{depth}
use Rattle.tokens.specs.Listed.{Tok, left, right, text, word}
use Rattle.numbers.specs.Whole.{hexadecimal_of, section_id_of}
use Rattle.decimals.specs.Value.{Means}
use Rattle.layout.specs.Items.{Kind, node, cell, face, id_of, Perhaps, absent, given, Header, count_of, Pair, Facet, Body, points, elements, facets, Item, dim, decl, part, other}

pub data Left : List Tok → List Tok → Type 0 where
  is_left : {o : ℕ} {us : List Tok} → Left (left o ∷ us) us

pub data Right : List Tok → List Tok → Type 0 where
  is_right : {o : ℕ} {us : List Tok} → Right (right o ∷ us) us

-- a word that is a whole number of a sort
pub data Number (f : List ℕ → Option ℕ) : List Tok → ℕ → List Tok → Type 0 where
  number : {o : ℕ} {w : List ℕ} {v : ℕ} {us : List Tok} → f w ≡ Some v → Number f (word o w ∷ us) v us

-- "The id is 1 to 5 decimal digits. All other whole numbers are hexadecimal"
abbrev pub Id : List Tok → ℕ → List Tok → Type 0
Id = Number section_id_of

abbrev pub Hex : List Tok → ℕ → List Tok → Type 0
Hex = Number hexadecimal_of

-- a word that means a coordinate
pub data Coordinate : List Tok → Pair → List Tok → Type 0 where
  coordinate : {o : ℕ} {w : List ℕ} {m e : ℤ} {us : List Tok} → Means w m e → Coordinate (word o w ∷ us) (record { mantissa = m; exponent = e }) us

-- a header, with its parentheses; its fifth word may be absent
pub data Fifth : List Tok → Perhaps → List Tok → Type 0 where
  present : {ts us : List Tok} {v : ℕ} → Hex ts v us → Fifth ts (given v) us
  missing : {o : ℕ} {us : List Tok} → Fifth (right o ∷ us) absent (right o ∷ us)

pub data Heading : List Tok → Header → List Tok → Type 0 where
  heading : {z f l t : ℕ} {v : Perhaps} {ts t₀ t₁ t₂ t₃ t₄ t₅ us : List Tok}
      → Left ts t₀ → Hex t₀ z t₁ → Hex t₁ f t₂ → Hex t₂ l t₃ → Hex t₃ t t₄ → Fifth t₄ v t₅ → Right t₅ us
      → Heading ts (record { zone = z; first = f; last = l; type = t; fifth = v }) us

-- n things one behind the other, each by R
pub data Rows {A : Type 0} (R : List Tok → A → List Tok → Type 0) : ℕ → List Tok → List A → List Tok → Type 0 where
  no_rows : {ts : List Tok} → Rows R zero ts [] ts
  a_row : {n : ℕ} {a : A} {xs : List A} {ts us vs : List Tok} → R ts a us → Rows R n us xs vs → Rows R (suc n) ts (a ∷ xs) vs

-- n things in a pair of parentheses of their own
pub data Enclosed {A : Type 0} (R : List Tok → A → List Tok → Type 0) (n : ℕ) : List Tok → List A → List Tok → Type 0 where
  enclosed : {xs : List A} {ts t₁ t₂ us : List Tok} → Left ts t₁ → Rows R n t₁ xs t₂ → Right t₂ us → Enclosed R n ts xs us

-- "one element, 1 to 6, for each cell"
pub data Element : List Tok → ℕ → List Tok → Type 0 where
  element : {e : ℕ} {ts us : List Tok} → Hex ts e us → 1 ≤ e → e ≤ 6 → Element ts e us

-- "Each face is that many node words, then the right cell, then the left cell."
pub data Facing (n : ℕ) : List Tok → Facet → List Tok → Type 0 where
  facing : {ns : List ℕ} {r l : ℕ} {ts t₁ t₂ us : List Tok} → Rows Hex n ts ns t₁ → Hex t₁ r t₂ → Hex t₂ l us
      → Facing n ts (record { corners = ns; right = r; left = l }) us

-- "With element 0 each face starts with its own 2, 3 or 4."
pub data Mixed : List Tok → Facet → List Tok → Type 0 where
  mixed : {n : ℕ} {f : Facet} {ts t₁ us : List Tok} → Hex ts n t₁ → 2 ≤ n → n ≤ 4 → Facing n t₁ f us → Mixed ts f us

-- the body of n things that a header with this fifth word calls for
pub data BodyOf : Kind → ℕ → Perhaps → List Tok → Body → List Tok → Type 0 where
  -- "as many coordinates per node as the mesh has dimensions"
  node_body : {n d : ℕ} {v : Perhaps} {ps : List (List Pair)} {ts us : List Tok} → Enclosed (Rows Coordinate d) n ts ps us → BodyOf node n v ts (points d ps) us
  -- "Element 0 has a body with one element, 1 to 6, for each cell. Others have no body."
  cell_mixed : {n : ℕ} {es : List ℕ} {ts us : List Tok} → Enclosed Element n ts es us → BodyOf cell n (given 0) ts (elements es) us
  cell_same : {n e : ℕ} {ts : List Tok} → 0 < e → BodyOf cell n (given e) ts (elements (replicate n e)) ts
  face_mixed : {n : ℕ} {fs : List Facet} {ts us : List Tok} → Enclosed Mixed n ts fs us → BodyOf face n (given 0) ts (facets fs) us
  face_same : {n c : ℕ} {fs : List Facet} {ts us : List Tok} → 0 < c → Enclosed (Facing c) n ts fs us → BodyOf face n (given c) ts (facets fs) us

-- "Nesting in a stepped-over section": its contents at this depth, with its `)`
pub data Inside : ℕ → List Tok → List Tok → Type 0 where
  closed : {d o : ℕ} {us : List Tok} → Inside d (right o ∷ us) us
  a_word : {d o : ℕ} {w : List ℕ} {ts us : List Tok} → Inside d ts us → Inside d (word o w ∷ ts) us
  a_text : {d o : ℕ} {ts us : List Tok} → Inside d ts us → Inside d (text o ∷ ts) us
  nested : {d o : ℕ} {ts us vs : List Tok} → d < depth → Inside (suc d) ts us → Inside d us vs → Inside d (left o ∷ ts) vs

-- "Sections 2, 10, 12 and 13 are read. Every other section is stepped over .. Ids 2000 to 3999 are refused"
pub record Stepped (n : ℕ) : Type 0 where
  pub not_dimension : n ≡ 2 → ⊥
  pub not_kind : (k : Kind) → n ≡ id_of k → ⊥
  pub not_binary : (n < 2000) ⊎ (3999 < n)

-- "A section is `(`, an id word, its contents, `)`": behind its `(`
pub data Section : List Tok → Item → List Tok → Type 0 where
  two : {n : ℕ} {ts t₁ t₂ us : List Tok} → Id ts 2 t₁ → Hex t₁ n t₂ → Right t₂ us → Section ts (dim n) us
  -- "Zone 0 is a declaration: .. no body follows."
  declares : {h : Header} {ts t₁ t₂ us : List Tok} (k : Kind) → Id ts (id_of k) t₁ → Heading t₁ h t₂ → h.zone ≡ 0 → Right t₂ us → Section ts (decl k h) us
  -- "A regular section has zone 1 or more."
  regular : {h : Header} {b : Body} {ts t₁ t₂ t₃ us : List Tok} (k : Kind)
      → Id ts (id_of k) t₁ → Heading t₁ h t₂ → 0 < h.zone → BodyOf k (count_of h) h.fifth t₂ b t₃ → Right t₃ us → Section ts (part k h b) us
  stepped : {n : ℕ} {ts t₁ us : List Tok} → Id ts n t₁ → Stepped n → Inside 1 t₁ us → Section ts other us

-- "A file is sections, with any blanks or none around them."
pub data File : List Tok → List Item → Type 0 where
  over : File [] []
  section : {o : ℕ} {i : Item} {is : List Item} {ts us : List Tok} → Section ts i us → File us is → File (left o ∷ ts) (i ∷ is)
