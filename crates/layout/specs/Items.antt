-- [01:Sections that are read]. What the sections of a file say, with no place, no order of checks and no refusal in it. Assumes nothing.
use Rattle.std.specs.Prelude.{ℕ, suc, ◌-◌, ◌≡◌, List, ℤ}

-- nodes, cells and faces: "(10 ..)", "(12 ..)", "(13 ..)"
pub data Kind : Type 0 where
  node cell face : Kind

abbrev pub id_of : Kind → ℕ
id_of node = 10
id_of cell = 12
id_of face = 13

-- a word that may be absent
pub data Perhaps : Type 0 where
  absent : Perhaps
  given : ℕ → Perhaps

-- "(zone first last type [ND])", "(zone first last type element)"
pub record Header : Type 0 where
  pub zone : ℕ
  pub first : ℕ
  pub last : ℕ
  pub type : ℕ
  pub fifth : Perhaps

-- "Indices run first to last, both included."
abbrev pub count_of : Header → ℕ
count_of h = suc h.last - h.first

-- a coordinate's exact decimal
pub record Pair : Type 0 where
  pub mantissa : ℤ
  pub exponent : ℤ

-- "Each face is that many node words, then the right cell, then the left cell."
pub record Facet : Type 0 where
  pub corners : List ℕ
  pub right : ℕ
  pub left : ℕ

-- one thing for each index of a section: `points d` are nodes of d coordinates each
pub data Body : Type 0 where
  points : ℕ → List (List Pair) → Body
  elements : List ℕ → Body
  facets : List Facet → Body

-- its nodes, if it has any, have d coordinates each
abbrev pub Wide : ℕ → Body → Type 0
Wide d (points e ps) = e ≡ d
Wide d (elements es) = Unit
Wide d (facets fs) = Unit

-- a file is a list of these: section 2, a declaration, a regular section, and a section that is stepped over
pub data Item : Type 0 where
  dim : ℕ → Item
  decl : Kind → Header → Item
  part : Kind → Header → Body → Item
  other : Item

-- the dimension that a header's fifth word gives: "for nodes it is ND or absent"
abbrev pub dim_word : Kind → Perhaps → Perhaps
dim_word node v = v
dim_word cell v = absent
dim_word face v = absent

-- the N or ND of an item
abbrev pub says_dim : Item → Perhaps
says_dim (dim n) = given n
says_dim (decl k h) = dim_word k h.fifth
says_dim (part k h b) = dim_word k h.fifth
says_dim other = absent
