-- A file that was accepted is a good one for the second pass: its items, their widths, their places, the records so far. So the two passes together are reading. Assumes nothing.
use Rattle.layout.specs.Replies.{Reply, accepts, refuses}
use Rattle.std.specs.Prelude.{◌≡◌, ℕ, suc, ◌+◌, ◌<◌, ◌≤◌, ◌⊎◌, List, [], ◌∷◌, ◌++◌, length, get_or, set, replicate, Ok, Err}
use Prim.Native.Nat.{zero-le}
use native.Mathlib.Omega.{arith}
use native.Mathlib.Nat.{min-eq_left}
use mathlib.Core.Path.{refl, sym, ◌∙◌, ap, subst}
use mathlib.Core.Logic.{inl, inr}
use mathlib.Core.List.{append_assoc}
use lib.ListN.{length-set}
use lib.Seq.{sets, get_or-set_same, get_or-set_other}
use Rattle.facts.proofs.Decides.{either_of}
use Rattle.mesh.specs.Rows.{node_words}
use Rattle.sizes.specs.Sizes.{zones}
use Rattle.tokens.specs.Listed.{Tok, tokens_from}
use Rattle.tokens.proofs.Text.{text_exactly}
use Rattle.layout.specs.declared.Refusal.{Refusal}
use Rattle.layout.specs.Items.{Perhaps, absent, given, Body, points, elements, facets, Wide, Item, dim, decl, part, other, says_dim}
use Rattle.layout.specs.Keeps.{Room, Some, SaysDim, DimFits, WidthFits, Fits, parts_in, Laid}
use Rattle.layout.specs.State.{State, start, after_all}
use Rattle.layout.specs.Read.{Answer, accepted, refused, answer_of}
use Rattle.layout.proofs.Lists.{some_at, lifted, parts_append}
use Rattle.layout.proofs.Dims.{dim_is}
use Rattle.layout.proofs.Sums.{Seen}
use Rattle.layout.proofs.Each.{laid_seen}
use Rattle.layout.proofs.Accepts.{laid_of, stated}
use Rattle.endings.specs.Endings.{verdict}
use Rattle.survey.specs.Sites.{sites_of, places_of}
use Rattle.survey.proofs.Sites.{sites_stand, all_stand}
use Rattle.points.specs.Points.{coordinates_in}
use Rattle.filling.specs.Found.{blank, Tables, Core, core_by}
use Rattle.filling.specs.Passing.{Fit, AllFit, Tabled, laid_from, Has, Fills}

-- ---- the items of a file that is laid out
module _ (room : Room) (ts : List Tok) (is : List Item) (l : Laid room ts is) where
  abbrev end : State
  end = after_all start is

  seen : Seen is end
  seen = laid_seen room l

  onward : (before rest : List Item) (i : Item) → is ≡ before ++ (i ∷ rest) → is ≡ (before ++ (i ∷ [])) ++ rest
  onward before rest i e = e ∙ sym (append_assoc before (i ∷ []) rest)

  -- ---- 2 or 3
  abbrev Listed : ℕ → Type 0
  Listed n = (n ≡ 2) ⊎ (n ≡ 3)

  fits_listed : (before : List Item) (n : ℕ) (v : Perhaps) → v ≡ given n → DimFits before v → Listed n
  fits_listed before n absent q f = absurd (let z : ◌≡◌ {A = ℕ} 0 1 = cc in omega arith)
  fits_listed before n (given m) q f = let z : m ≡ n = cc in subst Listed z f.listed

  item_listed : (before : List Item) (n : ℕ) (i : Item) → SaysDim n i → Fits room before i → Listed n
  item_listed before n (dim m) q f = let z : m ≡ n = cc in subst Listed z f.listed
  item_listed before n (decl k h) q f = fits_listed before n (says_dim (decl k h)) q f.dimension
  item_listed before n (part k h b) q f = fits_listed before n (says_dim (part k h b)) q f.dimension
  item_listed before n other q f = absurd (let z : ◌≡◌ {A = ℕ} 0 1 = cc in omega arith)

  pub some_listed : (before rest : List Item) (n : ℕ) → is ≡ before ++ rest → Some (SaysDim n) rest → Listed n
  some_listed before [] n e y = absurd y
  some_listed before (i ∷ rest) n e (inl y) = item_listed before n i y (l.fits before i rest e)
  some_listed before (i ∷ rest) n e (inr y) = some_listed (before ++ (i ∷ [])) rest n (onward before rest i e) y

  width_is : coordinates_in end.dimension ≡ end.dimension
  width_is =
      let d = dim_is seen.dims l.whole.dimension l.whole.known in
      let y : end.dimension ≤ node_words = either_of (some_listed [] is l.whole.dimension refl l.whole.known) (λ q. omega (arith, d.0)) (λ q. omega (arith, d.0)) in
      min-eq_left y

  -- ---- what the second pass needs of each
  width_of : (before rest : List Item) (i : Item) (b : Body) → is ≡ before ++ (i ∷ rest) → WidthFits before i b → Wide end.dimension b
  width_of before rest i (points e ps) q f =
      either_of f (λ y. sym (dim_is seen.dims e (rw q (some_at (SaysDim e) before i rest y))).0) (λ y. sym (dim_is seen.dims e (lifted (SaysDim e) before (i ∷ rest) q y)).0)
  width_of before rest i (elements es) q f = tt
  width_of before rest i (facets fs) q f = tt

  fit_of : (before rest : List Item) (i : Item) → is ≡ before ++ (i ∷ rest) → Fits room before i → Fit end.dimension (parts_in before) i
  fit_of before rest (dim n) q f = tt
  fit_of before rest (decl k h) q f = tt
  fit_of before rest (part k h b) q f = record { few = f.few; low = f.low; order = f.order; fifth = f.fifth; wide = width_of before rest (part k h b) b q f.width }
  fit_of before rest other q f = tt

  pub all_fit : (before rest : List Item) → is ≡ before ++ rest → AllFit end.dimension (parts_in before) rest
  all_fit before [] e = tt
  all_fit before (i ∷ rest) e =
      (fit_of before rest i e (l.fits before i rest e), subst (λ z. AllFit end.dimension z rest) (parts_append before (i ∷ [])) (all_fit (before ++ (i ∷ [])) rest (onward before rest i e)))

-- ---- how many records
parts_few : (d z : ℕ) (is : List Item) → z ≤ zones → AllFit d z is → z + parts_in is ≤ zones
parts_few d z [] l f = omega arith
parts_few d z (dim n ∷ is) l f = omega (arith, parts_few d (z + 0) is (omega arith) f.1)
parts_few d z (decl k h ∷ is) l f = omega (arith, parts_few d (z + 0) is (omega arith) f.1)
parts_few d z (part k h b ∷ is) l f = omega (arith, parts_few d (z + 1) is (omega (arith, f.0.few)) f.1)
parts_few d z (other ∷ is) l f = omega (arith, parts_few d (z + 0) is (omega arith) f.1)

module _ (room : Room) (s : List ℕ) (x : State) (is : List Item) (e : answer_of room s ≡ accepted x is) where
  pub zones_are : x.zones ≡ parts_in is
  zones_are = ap (λ (y : State). y.zones) (stated room s x is e) ∙ (laid_seen room (laid_of room s x is e).laid).zones

  pub few_zones : parts_in is ≤ zones
  few_zones = let l = laid_of room s x is e in omega (arith, parts_few _ 0 is zero-le (all_fit room l.tokens is l.laid [] is refl))

-- ---- their places
sets_before : (ps l : List ℕ) (i k : ℕ) → k < i → get_or (sets l i ps) k 0 ≡ get_or l k 0
sets_before [] l i k h = refl
sets_before (p ∷ ps) l i k h = sets_before ps (set l i p) (suc i) k (omega arith) ∙ get_or-set_other l i k p 0 (λ e. omega arith)

has_sets : (ps l : List ℕ) (z : ℕ) → z + length ps ≤ length l → Has (sets l z ps) z ps
has_sets [] l z h = tt
has_sets (p ∷ ps) l z h =
    (sets_before ps (set l z p) (suc z) z (omega arith) ∙ get_or-set_same l z p 0 (omega arith), has_sets ps (set l z p) (suc z) (omega (arith, length-set l z p)))

-- ---- the two passes
abbrev dim_of : Reply → ℕ
dim_of (Ok a) = a.dim
dim_of (Err b) = 0

abbrev zones_in : Reply → ℕ
zones_in (Ok a) = a.zones
zones_in (Err b) = 0

abbrev wanted : Reply → ℕ
wanted (Ok a) = 1
wanted (Err b) = 0

pub core_refused : (a : Answer) (r : Reply) (t : Tables) → r ≡ verdict a → (w : Refusal) (k o : ℕ) → r ≡ refuses w k o
    → ◌≡◌ {A = Core} (record { found = record { reply = r; zones = 0; flat = blank }; held = t }) (core_by a t)
core_refused (accepted x is) r t e w k o q = absurd (let z : ◌≡◌ {A = ℕ} 1 0 = ap wanted (sym e ∙ q) in omega arith)
core_refused (refused v j p) r t e w k o q = ap (λ y. record { found = record { reply = y; zones = 0; flat = blank }; held = t }) e

module _ (room : Room) (s : List ℕ) (t : Tables) (r : Reply) (e : r ≡ verdict (answer_of room s)) (d n f c z : ℕ) (q : r ≡ accepts d n f c z) where
  few_by : (a : Answer) → answer_of room s ≡ a → z ≤ zones
  few_by (refused w k o) u = absurd (let y : ◌≡◌ {A = ℕ} 1 0 = ap wanted (sym q ∙ e ∙ ap verdict u) in omega arith)
  few_by (accepted x is) u = let y : z ≡ x.zones = ap zones_in (sym q ∙ e ∙ ap verdict u) in omega (arith, zones_are room s x is u, few_zones room s x is u)

  pub few_accepted : z ≤ zones
  few_accepted = few_by (answer_of room s) refl

  by_answer : (a : Answer) → answer_of room s ≡ a → (width : ℕ) → width ≡ coordinates_in d → (places : List ℕ) → places ≡ places_of room s → (count : ℕ) → count ≡ z
      → (new : Tabled) → Fills s places count width (record { mantissas = t.mantissas; exponents = t.exponents; faces = t.faces; cells = t.cells; list = blank }) new
      → ◌≡◌ {A = Core} (record { found = record { reply = accepts d n f c z; zones = count; flat = new.list }; held = record { mantissas = new.mantissas; exponents = new.exponents; faces = new.faces; cells = new.cells } }) (core_by a t)
  by_answer (refused w k o) u width v places pl count m new g = absurd (let y : ◌≡◌ {A = ℕ} 1 0 = ap wanted (sym q ∙ e ∙ ap verdict u) in omega arith)
  by_answer (accepted x is) u width v places pl count m new g =
      let l = laid_of room s x is u in
      let h = (text_exactly s l.tokens).1 l.text in
      let k : Laid room (tokens_from s 0) is = subst (λ y. Laid room y is) (sym h) l.laid in
      let y : r ≡ accepts x.dimension x.nodes.total x.faces.total x.cells.total x.zones = e ∙ ap verdict u in
      let a : d ≡ x.dimension = ap dim_of (sym q ∙ y) in
      let b : x.dimension ≡ (after_all start is).dimension = ap (λ (i : State). i.dimension) (stated room s x is u) in
      let w : width ≡ (after_all start is).dimension = v ∙ ap coordinates_in (a ∙ b) ∙ width_is room (tokens_from s 0) is k in
      let o : count ≡ x.zones = m ∙ ap zones_in (sym q ∙ y) in
      let stand = sites_stand room s x is u in
      let long : length (sites_of room s) ≡ parts_in is = all_stand s is (sites_of room s) stand in
      let has = subst (λ i. Has i 0 (sites_of room s)) (sym pl) (has_sets (sites_of room s) (replicate zones 0) 0 (omega (arith, long, few_zones room s x is u))) in
      let new_is : new ≡ laid_from is 0 (record { mantissas = t.mantissas; exponents = t.exponents; faces = t.faces; cells = t.cells; list = blank }) =
      g is (sites_of room s) stand has (long ∙ sym (zones_are room s x is u) ∙ sym o) (subst (λ i. AllFit i 0 is) (sym w) (all_fit room (tokens_from s 0) is k [] is refl)) in
      ap (λ i. record { found = record { reply = i; zones = count; flat = new.list }; held = record { mantissas = new.mantissas; exponents = new.exponents; faces = new.faces; cells = new.cells } }) (sym q ∙ y)
      ∙ ap (λ i. record { found = record { reply = accepts x.dimension x.nodes.total x.faces.total x.cells.total x.zones; zones = i; flat = new.list }; held = record { mantissas = new.mantissas; exponents = new.exponents; faces = new.faces; cells = new.cells } }) o
      ∙ ap (λ (i : Tabled). record { found = record { reply = accepts x.dimension x.nodes.total x.faces.total x.cells.total x.zones; zones = x.zones; flat = i.list }; held = record { mantissas = i.mantissas; exponents = i.exponents; faces = i.faces; cells = i.cells } }) new_is

  pub core_accepted : (width : ℕ) → width ≡ coordinates_in d → (places : List ℕ) → places ≡ places_of room s → (count : ℕ) → count ≡ z
      → (new : Tabled) → Fills s places count width (record { mantissas = t.mantissas; exponents = t.exponents; faces = t.faces; cells = t.cells; list = blank }) new
      → ◌≡◌ {A = Core} (record { found = record { reply = accepts d n f c z; zones = count; flat = new.list }; held = record { mantissas = new.mantissas; exponents = new.exponents; faces = new.faces; cells = new.cells } }) (core_by (answer_of room s) t)
  core_accepted = by_answer (answer_of room s) refl
