-- What reading keeps of the sections so far, and the tests on it. Assumes nothing.
use Rattle.std.specs.Prelude.{ℕ, zero, suc, ◌+◌, List, [], ◌∷◌, Bool, true, false, ◌&&◌, ◌||◌, not, ltb, leb, eqb}
use Rattle.sizes.specs.Sizes.{rows, zone_id, zones}
use Rattle.layout.specs.Items.{Kind, node, cell, face, Perhaps, absent, given, Header, Item, dim, decl, part, other, dim_word}
use Rattle.layout.specs.Keeps.{Limit, unlimited, most, types_of}

pub record Span : Type 0 where
  pub first : ℕ
  pub last : ℕ

-- of one kind
pub record Per : Type 0 where
  pub declared : Bool
  pub total : ℕ
  pub spans : List Span

-- `dimension` is 0 where none is known
pub record State : Type 0 where
  pub dimension : ℕ
  pub nodes : Per
  pub cells : Per
  pub faces : Per
  pub zones : ℕ

abbrev pub unseen : Per
unseen = record { declared = false; total = 0; spans = [] }

abbrev pub start : State
start = record { dimension = 0; nodes = unseen; cells = unseen; faces = unseen; zones = 0 }

abbrev pub per : State → Kind → Per
per x node = x.nodes
per x cell = x.cells
per x face = x.faces

-- ---- the state after an item
abbrev pub dim_after : ℕ → Perhaps → ℕ
dim_after n absent = n
dim_after n (given m) = m

abbrev pub put : State → Kind → Per → ℕ → ℕ → State
put x node p d z = record { dimension = d; nodes = p; cells = x.cells; faces = x.faces; zones = z }
put x cell p d z = record { dimension = d; nodes = x.nodes; cells = p; faces = x.faces; zones = z }
put x face p d z = record { dimension = d; nodes = x.nodes; cells = x.cells; faces = p; zones = z }

abbrev pub spanned : Per → Header → Per
spanned p h = record { declared = p.declared; total = p.total; spans = record { first = h.first; last = h.last } ∷ p.spans }

abbrev pub declared_as : Per → Header → Per
declared_as p h = record { declared = true; total = h.last; spans = p.spans }

abbrev pub after : State → Item → State
after x (dim n) = record { dimension = n; nodes = x.nodes; cells = x.cells; faces = x.faces; zones = x.zones }
after x (decl k h) = put x k (declared_as (per x k) h) (dim_after x.dimension (dim_word k h.fifth)) x.zones
after x (part k h b) = put x k (spanned (per x k) h) (dim_after x.dimension (dim_word k h.fifth)) (x.zones + 1)
after x other = x

abbrev pub after_all : State → List Item → State
after_all x [] = x
after_all x (i ∷ is) = after_all (after x i) is

-- ---- tests on lists
unfoldable pub every : (Span → Bool) → List Span → Bool
every f [] = true
every f (b ∷ bs) = f b && every f bs

unfoldable pub some_of : (Span → Bool) → List Span → Bool
some_of f [] = false
some_of f (b ∷ bs) = f b || some_of f bs

unfoldable pub among : List ℕ → ℕ → Bool
among [] t = false
among (u ∷ us) t = eqb t u || among us t

abbrev pub clear : ℕ → ℕ → Span → Bool
clear f l b = ltb b.last f || ltb l b.first

abbrev pub covers : ℕ → Span → Bool
covers i b = leb b.first i && leb i b.last

-- 1 to n, each in a span
unfoldable pub tiled : List Span → ℕ → Bool
tiled bs zero = true
tiled bs (suc n) = some_of (covers (suc n)) bs && tiled bs n

-- ---- tests of the table of refusals
abbrev pub fits_in : Limit → ℕ → Bool
fits_in unlimited n = true
fits_in (most m) n = leb n m

-- "declaration with first not 1 or total over 65,535"
unfoldable pub decl_range : ℕ → ℕ → Bool
decl_range f l = eqb f 1 && leb l rows

-- "zone over 65,535; .. regular with first 0, last below first, last above the total"
unfoldable pub part_range : ℕ → ℕ → ℕ → ℕ → Bool
part_range total z f l = leb z zone_id && (leb 1 f && (leb f l && leb l total))

-- "N, ND, type or element not listed above"
abbrev pub dim_listed : Perhaps → Bool
dim_listed absent = true
dim_listed (given n) = eqb n 2 || eqb n 3

abbrev pub type_listed : Kind → ℕ → Bool
type_listed k t = among (types_of k) t

abbrev pub fifth_listed : Kind → Perhaps → Bool
fifth_listed node v = dim_listed v
fifth_listed cell absent = false
fifth_listed cell (given e) = among (0 ∷ 1 ∷ 2 ∷ 3 ∷ 4 ∷ 5 ∷ 6 ∷ []) e
fifth_listed face absent = false
fifth_listed face (given e) = among (0 ∷ 2 ∷ 3 ∷ 4 ∷ []) e

-- "disagrees; or none known at a regular node section"
abbrev pub dim_agrees : State → Perhaps → Bool
dim_agrees x absent = true
dim_agrees x (given n) = eqb x.dimension 0 || eqb x.dimension n

abbrev pub is_node : Kind → Bool
is_node node = true
is_node cell = false
is_node face = false

abbrev pub dim_known : Kind → ℕ → Bool
dim_known k d = not (is_node k) || not (eqb d 0)

-- "65th regular section, or one more than the lent list holds"
unfoldable pub zone_fits : Limit → ℕ → Bool
zone_fits room z = ltb z zones && fits_in room (suc z)
