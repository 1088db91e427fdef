-- [02:M-101]. Items whose text says them again: numbers that have room in their words, bodies that suit their headers. Assumes nothing.
use Rattle.std.specs.Prelude.{ℕ, suc, ◌^◌, ◌≤◌, ◌<◌, ◌≡◌, List, [], ◌∷◌, length, replicate}
use Rattle.decimals.specs.Value.{Canonical}
use Rattle.layout.specs.Items.{Kind, node, cell, face, Perhaps, absent, given, Header, count_of, Pair, Facet, Body, points, elements, facets, Item, dim, decl, part, other}

abbrev pub Each : {A : Type 0} → (A → Type 0) → List A → Type 0
Each P [] = Unit
Each P (x ∷ xs) = P x × Each P xs

abbrev pub Short : ℕ → Type 0
Short n = n < 16 ^ 8

abbrev pub ShortFifth : Perhaps → Type 0
ShortFifth absent = Unit
ShortFifth (given v) = Short v

pub record ShortHeader (h : Header) : Type 0 where
  pub zone : Short h.zone
  pub first : Short h.first
  pub last : Short h.last
  pub type : Short h.type
  pub fifth : ShortFifth h.fifth

abbrev pub CanonicalPair : Pair → Type 0
CanonicalPair p = Canonical p.mantissa p.exponent

abbrev pub Point : ℕ → List Pair → Type 0
Point d p = (length p ≡ d) × Each CanonicalPair p

abbrev pub ElementIs : ℕ → Type 0
ElementIs e = (1 ≤ e) × (e ≤ 6)

abbrev pub FacetIs : ℕ → Facet → Type 0
FacetIs n f = (length f.corners ≡ n) × Each Short f.corners × Short f.right × Short f.left

abbrev pub MixedIs : Facet → Type 0
MixedIs f = (2 ≤ length f.corners) × (length f.corners ≤ 4) × FacetIs (length f.corners) f

-- n rows, as a header with this fifth word calls for
pub data BodyWrites : Kind → ℕ → Perhaps → Body → Type 0 where
  points_write : {d : ℕ} {v : Perhaps} {xs : List (List Pair)} → Each (Point d) xs → BodyWrites node (length xs) v (points d xs)
  mixed_cells : {es : List ℕ} → Each ElementIs es → BodyWrites cell (length es) (given 0) (elements es)
  same_cells : {n e : ℕ} → BodyWrites cell n (given (suc e)) (elements (replicate n (suc e)))
  mixed_faces : {fs : List Facet} → Each MixedIs fs → BodyWrites face (length fs) (given 0) (facets fs)
  same_faces : {c : ℕ} {fs : List Facet} → Each (FacetIs (suc c)) fs → BodyWrites face (length fs) (given (suc c)) (facets fs)

abbrev pub Writes : Item → Type 0
Writes (dim n) = Short n
Writes (decl k h) = (h.zone ≡ 0) × ShortHeader h
Writes (part k h b) = (0 < h.zone) × ShortHeader h × BodyWrites k (count_of h) h.fifth b
Writes other = ⊥
