-- [01:Sections that are read]. What the items of a file must keep, said of every way to part them: no order of checks. To be believed: all of this file. Assumes nothing.
use Rattle.std.specs.Prelude.{ℕ, suc, ◌+◌, ◌≤◌, ◌<◌, ◌≡◌, ◌⊎◌}
use mathlib.Core.List.{List, [], ◌∷◌, ◌++◌, map, Memᴰ}
use Rattle.sizes.specs.Sizes.{rows, zone_id, zones}
use Rattle.tokens.specs.Listed.{Tok}
use Rattle.layout.specs.Items.{Kind, node, cell, face, Perhaps, absent, given, Header, Body, points, elements, facets, Item, dim, decl, part, other, says_dim}
use Rattle.layout.specs.Grammar.{File}

-- ---- room, as a value: so many, or no limit
pub data Limit : Type 0 where
  unlimited : Limit
  most : ℕ → Limit

abbrev pub Within : Limit → ℕ → Type 0
Within unlimited n = Unit
Within (most m) n = n ≤ m

-- whole rows of each kind, and zone records
pub record Room : Type 0 where
  pub nodes : Limit
  pub cells : Limit
  pub faces : Limit
  pub zones : Limit

abbrev pub room_for : Room → Kind → Limit
room_for r node = r.nodes
room_for r cell = r.cells
room_for r face = r.faces

-- ---- of a list of items
abbrev pub All : (Item → Type 0) → List Item → Type 0
All P [] = Unit
All P (i ∷ is) = P i × All P is

abbrev pub Some : (Item → Type 0) → List Item → Type 0
Some P [] = ⊥
Some P (i ∷ is) = P i ⊎ Some P is

-- ---- the dimension: "The dimension is the first N or ND met. A later one must agree." "N is 2 or 3."
abbrev pub SaysDim : ℕ → Item → Type 0
SaysDim n i = says_dim i ≡ given n

abbrev pub SameDim : ℕ → Item → Type 0
SameDim n i = (m : ℕ) → SaysDim m i → m ≡ n

pub record Agrees (before : List Item) (n : ℕ) : Type 0 where
  pub listed : (n ≡ 2) ⊎ (n ≡ 3)
  pub same : All (SameDim n) before

abbrev pub DimFits : List Item → Perhaps → Type 0
DimFits before absent = Unit
DimFits before (given n) = Agrees before n

-- ---- declarations and ranges
abbrev pub Declares : Kind → ℕ → Item → Type 0
Declares k t (dim n) = ⊥
Declares k t (decl j h) = (j ≡ k) × (h.last ≡ t)
Declares k t (part j h b) = ⊥
Declares k t other = ⊥

abbrev pub Undeclared : Kind → Item → Type 0
Undeclared k (dim n) = Unit
Undeclared k (decl j h) = j ≡ k → ⊥
Undeclared k (part j h b) = Unit
Undeclared k other = Unit

-- shares no index from f to l
abbrev pub Apart : Kind → ℕ → ℕ → Item → Type 0
Apart k f l (dim n) = Unit
Apart k f l (decl j h) = Unit
Apart k f l (part j h b) = j ≡ k → (h.last < f) ⊎ (l < h.first)
Apart k f l other = Unit

-- holds the index i
abbrev pub Covers : Kind → ℕ → Item → Type 0
Covers k i (dim n) = ⊥
Covers k i (decl j h) = ⊥
Covers k i (part j h b) = (j ≡ k) × (h.first ≤ i) × (i ≤ h.last)
Covers k i other = ⊥

-- how many regular sections
abbrev pub parts_in : List Item → ℕ
parts_in [] = 0
parts_in (dim n ∷ is) = parts_in is
parts_in (decl k h ∷ is) = parts_in is
parts_in (part k h b ∷ is) = suc (parts_in is)
parts_in (other ∷ is) = parts_in is

-- ---- types and elements
-- "Type is 2, 3, 4, 5, 7, 8, 9, 10, 12, 14, 20, 24, 31, 36 or 37 (decimal here), or one of these plus 1000."
abbrev pub boundaries : List ℕ
boundaries = 2 ∷ 3 ∷ 4 ∷ 5 ∷ 7 ∷ 8 ∷ 9 ∷ 10 ∷ 12 ∷ 14 ∷ 20 ∷ 24 ∷ 31 ∷ 36 ∷ 37 ∷ []

abbrev pub types_of : Kind → List ℕ
types_of node = 0 ∷ 1 ∷ 2 ∷ []
types_of cell = 0 ∷ 1 ∷ 32 ∷ []
types_of face = boundaries ++ map (λ t. t + 1000) boundaries

-- "element 0 to 6", "element 0, 2, 3 or 4"; "The fifth word may be absent only for nodes."
abbrev pub FifthOf : Kind → Perhaps → Type 0
FifthOf node v = Unit
FifthOf cell absent = ⊥
FifthOf cell (given e) = Memᴰ e (0 ∷ 1 ∷ 2 ∷ 3 ∷ 4 ∷ 5 ∷ 6 ∷ [])
FifthOf face absent = ⊥
FifthOf face (given e) = Memᴰ e (0 ∷ 2 ∷ 3 ∷ 4 ∷ [])

-- "as many coordinates per node as the mesh has dimensions": its own ND or one met before
abbrev pub WidthFits : List Item → Item → Body → Type 0
WidthFits before i (points d ps) = SaysDim d i ⊎ Some (SaysDim d) before
WidthFits before i (elements es) = Unit
WidthFits before i (facets fs) = Unit

-- ---- an item against those before it
-- "first is 1, last is the total (0 is allowed)"; "Each kind is declared once"
pub record DeclFits (room : Room) (before : List Item) (k : Kind) (h : Header) : Type 0 where
  pub once : All (Undeclared k) before
  pub first : h.first ≡ 1
  pub small : h.last ≤ rows
  pub roomy : Within (room_for room k) h.last
  pub dimension : DimFits before (says_dim (decl k h))

pub record PartFits (room : Room) (before : List Item) (k : Kind) (h : Header) (b : Body) : Type 0 where
  -- "before its regular sections"
  pub total : ℕ
  pub declared : Some (Declares k total) before
  pub zone : h.zone ≤ zone_id
  pub low : 1 ≤ h.first
  pub order : h.first ≤ h.last
  pub high : h.last ≤ total
  pub apart : All (Apart k h.first h.last) before
  pub type : Memᴰ h.type (types_of k)
  pub fifth : FifthOf k h.fifth
  pub dimension : DimFits before (says_dim (part k h b))
  pub width : WidthFits before (part k h b) b
  pub few : parts_in before < zones
  pub roomy : Within room.zones (suc (parts_in before))

abbrev pub Fits : Room → List Item → Item → Type 0
Fits room before (dim n) = Agrees before n
Fits room before (decl k h) = DeclFits room before k h
Fits room before (part k h b) = PartFits room before k h b
Fits room before other = Unit

-- ---- the file as a whole: "Nodes and faces must be declared"; no declared index is in no section
pub record Whole (is : List Item) : Type 0 where
  pub nodes : ℕ
  pub faces : ℕ
  pub dimension : ℕ
  pub nodes_declared : Some (Declares node nodes) is
  pub faces_declared : Some (Declares face faces) is
  pub known : Some (SaysDim dimension) is
  pub tiled : (k : Kind) (t : ℕ) → Some (Declares k t) is → (i : ℕ) → 1 ≤ i → i ≤ t → Some (Covers k i) is

-- the tokens are these items, and the items keep all this
pub record Laid (room : Room) (ts : List Tok) (is : List Item) : Type 0 where
  pub file : File ts is
  pub fits : (before : List Item) (i : Item) (after : List Item) → is ≡ before ++ (i ∷ after) → Fits room before i
  pub whole : Whole is
