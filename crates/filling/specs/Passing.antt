-- The filling pass, section by section: what it leaves of each regular section of a good file. Assumes nothing.
use Rattle.std.specs.Prelude.{◌≡◌, ℕ, suc, ◌+◌, ◌*◌, ◌<◌, ◌≤◌, true, false, ◌||◌, List, [], ◌∷◌, length, ℤ, ◌==◌, nat_lt, slice_index}
use Rattle.std.proofs.lemmas.List.Edits.{sets}
use Rattle.mesh.specs.declared.Zone.{Zone}
use Rattle.mesh.specs.Rows.{places}
use Rattle.sizes.specs.Sizes.{zones}
use Rattle.tokens.specs.Listed.{Tok, tokens_from}
use Rattle.layout.specs.Items.{Kind, Header, count_of, Body, Wide, Item, dim, decl, part, other}
use Rattle.layout.specs.Grammar.{Heading, BodyOf}
use Rattle.layout.specs.Keeps.{FifthOf, parts_in}
use Rattle.layout.specs.Rows.{Table, joined, pieces_of, zones_of, zone_of, mantissa_table, exponent_table, face_table, cell_table}
use Rattle.layout.specs.Sections.{body_of}
use Rattle.layout.specs.Read.{lay}
use Rattle.survey.specs.Sites.{Stands, AllStand}
use Rattle.rows.specs.declared.row.Form.{Form}
use Rattle.tables.specs.Places.{words_of}
use Rattle.filling.specs.declared.parts.Lent.{Lent}
use Rattle.filling.specs.Found.{flat_of}
use Rattle.again.specs.Again.{Then}

-- a face section's element as the form of its rows
abbrev pub face_form : ℕ → Form
face_form e = elim (e == 0 || nat_lt places e) [ true ↦ Form.Mixed | false ↦ Form.Facing e ]

-- a body of n rows, stored from place k on: what is in the table if the section's record is `zone`
pub record Bodied (s : List ℕ) (at : ℕ) (t : Table ℕ) (n : ℕ) (zone : Zone) (k : ℕ) (old new : List ℕ) : Type 0 where
  pub says : (h : Header) → FifthOf t.kind h.fifth → zone ≡ zone_of t.kind h
      → Then (body_of (length s) t.kind 0 n h.fifth (tokens_from s at)) (λ b us. new ≡ sets old k (joined (t.rows h b)))

-- ---- what a good file keeps, as far as this pass needs it: z regular sections come before, nodes have d coordinates
pub record Fitting (d z : ℕ) (k : Kind) (h : Header) (b : Body) : Type 0 where
  pub few : z < zones
  pub low : 1 ≤ h.first
  pub order : h.first ≤ h.last
  pub fifth : FifthOf k h.fifth
  pub wide : Wide d b

abbrev pub Fit : ℕ → ℕ → Item → Type 0
Fit d z (dim n) = Unit
Fit d z (decl k h) = Unit
Fit d z (part k h b) = Fitting d z k h b
Fit d z other = Unit

abbrev pub AllFit : ℕ → ℕ → List Item → Type 0
AllFit d z [] = Unit
AllFit d z (i ∷ is) = Fit d z i × AllFit d (z + parts_in (i ∷ [])) is

-- a regular section of a kind, behind its id
pub record Regular (k : Kind) (ts : List Tok) (h : Header) (b : Body) : Type 0 where
  pub inside : List Tok
  pub behind : List Tok
  pub heading : Heading ts h inside
  pub body : BodyOf k (count_of h) h.fifth inside b behind

-- ---- one section
abbrev pub laid_by : {A : Type 0} → Table A → Item → List A → List A
laid_by t i old = lay (pieces_of t (i ∷ [])) old

-- from `old` to `new`: its record is in the list, behind z others
abbrev pub Recorded : ℕ → Kind → Header → List ℕ → List ℕ → Type 0
Recorded z k h old new = new ≡ sets old (6 * z) (words_of (zone_of k h))

-- Q is what the tables hold
pub record Passes (s : List ℕ) (at z d : ℕ) (k : Kind) (old new : List ℕ) (Q : Item → Type 0) : Type 0 where
  pub says : (h : Header) (b : Body) → Regular k (tokens_from s at) h b → Fitting d z k h b → Q (part k h b) × Recorded z k h old new

-- cells and faces are the same in every dimension
abbrev pub PassesAny : List ℕ → ℕ → ℕ → Kind → List ℕ → List ℕ → (Item → Type 0) → Type 0
PassesAny s at z k old new Q = (d : ℕ) → Passes s at z d k old new Q

-- of any kind, from behind its `(`
pub record PassesAt (s : List ℕ) (at z d : ℕ) (old new : List ℕ) (Q : Item → Type 0) : Type 0 where
  pub says : (k : Kind) (h : Header) (b : Body) → Stands s at (part k h b) → Fitting d z k h b → Q (part k h b) × Recorded z k h old new

-- ---- all sections
pub record Tabled : Type 0 where
  pub mantissas : List ℤ
  pub exponents : List ℤ
  pub faces : List ℕ
  pub cells : List ℕ
  pub list : List ℕ

-- what the lent slices hold
abbrev pub tabled : Lent → Tabled
tabled l = record { mantissas = l.mantissas.now; exponents = l.exponents.now; faces = l.faces.now; cells = l.cells.now; list = l.list.now }

-- the same slices are still lent
abbrev pub Kept : Lent → Lent → Type 0
Kept x y =
    (y.mantissas.ghost_name ≡ x.mantissas.ghost_name) × (y.exponents.ghost_name ≡ x.exponents.ghost_name) × (y.faces.ghost_name ≡ x.faces.ghost_name)
    × (y.cells.ghost_name ≡ x.cells.ghost_name) × (y.list.ghost_name ≡ x.list.ghost_name)

-- from `old` to `new`: an item's rows are in the tables
abbrev pub Laid : Tabled → Tabled → Item → Type 0
Laid old new i =
    (new.mantissas ≡ laid_by mantissa_table i old.mantissas) × (new.exponents ≡ laid_by exponent_table i old.exponents)
    × (new.faces ≡ laid_by face_table i old.faces) × (new.cells ≡ laid_by cell_table i old.cells)

-- the tables with these items in them, z records being in the list
abbrev pub laid_from : List Item → ℕ → Tabled → Tabled
laid_from is z t =
    record {
      mantissas = lay (pieces_of mantissa_table is) t.mantissas;
      exponents = lay (pieces_of exponent_table is) t.exponents;
      faces = lay (pieces_of face_table is) t.faces;
      cells = lay (pieces_of cell_table is) t.cells;
      list = sets t.list (6 * z) (flat_of (zones_of is));
    }

-- the list has these words from z on
abbrev pub Has : List ℕ → ℕ → List ℕ → Type 0
Has l z [] = Unit
Has l z (p ∷ ps) = (slice_index l z ≡ p) × Has l (suc z) ps

-- from `old` to `new`: whatever items have their regular sections at the first n of the places, if they keep what a good file keeps, they are in the tables
abbrev pub Fills : List ℕ → List ℕ → ℕ → ℕ → Tabled → Tabled → Type 0
Fills s places n d old new = (is : List Item) (ps : List ℕ) → AllStand s is ps → Has places 0 ps → length ps ≡ n → AllFit d 0 is → new ≡ laid_from is 0 old
