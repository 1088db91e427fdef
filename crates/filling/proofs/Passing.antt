-- A section of a kind: its header, its rows, its record. Assumes nothing.
use Rattle.std.specs.Prelude.{◌≡◌, ℕ, zero, suc, ◌+◌, ◌-◌, ◌*◌, ◌≤◌, Bool, true, false, ◌||◌, eqb, ltb, List, [], ◌∷◌, map, length, replicate}
use native.Mathlib.Omega.{arith}
use native.Mathlib.Nat.{min-eq_left}
use mathlib.Core.Path.{refl, sym, ◌∙◌, ap, subst}
use mathlib.Core.List.Memᴰ
use mathlib.Core.Bool.{false≢true}
use borrow.Author.Tests.{ne_eqb, ltb-false, le-ltb}
use lib.Seq.{sets}
use Rattle.facts.proofs.Branch.{either}
use Rattle.facts.proofs.Decides.{either_of, or_none}
use Rattle.mesh.specs.declared.Zone.{Zone}
use Rattle.mesh.specs.Rows.{places, node_words}
use Rattle.tokens.specs.Listed.{Tok, tokens_from}
use Rattle.layout.specs.Items.{Kind, node, cell, face, Perhaps, absent, given, Header, count_of, Pair, Body, points, elements, facets, Item, part}
use Rattle.layout.specs.Grammar.{Heading}
use Rattle.layout.specs.Keeps.{FifthOf}
use Rattle.layout.specs.Rows.{Piece, Table, joined, pad, same_kind, piece_of, zone_of, node_rows, cell_rows, face_row, face_rows, cell_table, face_table}
use Rattle.layout.specs.Reading.{left_of, pair_word, rows_of, enclosed_of}
use Rattle.layout.specs.Sections.{header_of, head_of, element_of, facing_of, mixed_of, body_of}
use Rattle.layout.specs.Read.{lay}
use Rattle.layout.proofs.Lists.{same_self}
use Rattle.layout.proofs.CompleteWords.{body_is, Heads, head_is, lacks_part}
use Rattle.sofar.specs.Sofar.{count_for}
use Rattle.sofar.proofs.Counting.{count_some}
use Rattle.rows.specs.declared.row.Form.{Form}
use Rattle.rows.specs.Rows.{rows_at, same_rows}
use Rattle.rows.proofs.Good.{row_read, Placed, rows_good}
use Rattle.points.specs.Points.{Both, set_pairs, origin, points_taken, coordinates_in}
use Rattle.points.proofs.Good.{points_good}
use Rattle.again.specs.Again.{Then, Steps}
use Rattle.again.proofs.Then.{then_is, then_more, then_pure, then_enclosed}
use Rattle.again.proofs.Puts.{map_replicate, map_joined}
use Rattle.facts.specs.declared.Taken.{Taken}
use Rattle.tables.specs.Places.{words_of}
use Rattle.filling.specs.Passing.{face_form, Bodied, Fitting, Regular, laid_by, Recorded, Passes}
use Rattle.filling.proofs.Mapped.{enclosed_unmapped}

-- ---- one item's rows
pub picked : {A : Type 0} (p : Piece A) (b : Bool) (old : List A) → b ≡ true → sets old p.at p.words ≡ lay (elim b [ true ↦ p ∷ [] | false ↦ [] ]) old
unfolding lay
picked p true old e = refl
picked p false old e = absurd (false≢true e)

pub left_out : {A : Type 0} (p : Piece A) (b : Bool) (old : List A) → b ≡ false → old ≡ lay (elim b [ true ↦ p ∷ [] | false ↦ [] ]) old
unfolding lay
left_out p true old e = absurd (false≢true (sym e))
left_out p false old e = refl

pub laid_part : {A : Type 0} (t : Table A) (h : Header) (b : Body) (old : List A) → sets old (t.width * (h.first - 1)) (joined (t.rows h b)) ≡ laid_by t (part t.kind h b) old
laid_part t h b old = picked (piece_of t h b) (same_kind t.kind t.kind) old (same_self t.kind)

-- rows that were stored at the section's first index
pub rows_put : {A : Type 0} (t : Table A) (h : Header) (b : Body) (zone : Zone) (before k : ℕ) (old new : List A) → zone ≡ zone_of t.kind h → before ≡ zone.first - 1 → k ≡ t.width * before
    → new ≡ sets old k (joined (t.rows h b)) → new ≡ laid_by t (part t.kind h b) old
rows_put t h b zone before k old new w p q e =
    let i : k ≡ t.width * (h.first - 1) = q ∙ ap (λ y. t.width * y) (p ∙ ap (λ (u : Zone). u.first - 1) w) in
    e ∙ ap (λ y. sets old y (joined (t.rows h b))) i ∙ laid_part t h b old

-- ---- cells and faces are the same in every dimension
body_any : (size d n : ℕ) (k : Kind) (v : Perhaps) (ts : List Tok) → (k ≡ node → ⊥) → body_of size k 0 n v ts ≡ body_of size k d n v ts
unfolding body_of
body_any size d n node v ts c = absurd (c refl)
body_any size d n cell absent ts c = refl
body_any size d n cell (given zero) ts c = refl
body_any size d n cell (given (suc e)) ts c = refl
body_any size d n face absent ts c = refl
body_any size d n face (given zero) ts c = refl
body_any size d n face (given (suc e)) ts c = refl

pub then_any : (size d n : ℕ) (k : Kind) (v : Perhaps) (ts : List Tok) (Q : Body → Type 0) → (k ≡ node → ⊥) → Then (body_of size k 0 n v ts) (λ b us. Q b) → Then (body_of size k d n v ts) (λ b us. Q b)
then_any size d n k v ts Q c h = subst (λ y. Then y (λ b us. Q b)) (body_any size d n k v ts c) h

-- ---- a section, from behind its id
module _ (s : List ℕ) (at z d : ℕ) (k : Kind) (top : Taken Zone)
    (h₀ : Steps s top.next (head_of (length s) k (tokens_from s at)) (λ x. top.value ≡ zone_of k (header_of x))) where
  record Headed (h : Header) (t₁ : List Tok) : Type 0 where
    zone : top.value ≡ zone_of k h
    behind : tokens_from s top.next ≡ t₁

  headed : (h : Header) (t₁ : List Tok) → Heads (length s) k (tokens_from s at) t₁ h → Headed h t₁
  headed h t₁ w =
      let y = then_is (λ x us. (top.value ≡ zone_of k (header_of x)) × (tokens_from s top.next ≡ us)) w.head t₁ w.reads h₀ in
      record { zone = y.0 ∙ ap (zone_of k) w.says; behind = y.1 }

  as_filled : (h : Header) (t₁ : List Tok) → Heading (tokens_from s at) h t₁ → FifthOf k h.fifth → Headed h t₁
  as_filled h t₁ a f = headed h t₁ (head_is (length s) a k (lacks_part (length s) (eqb h.zone 0) k h.fifth f))

  module _ (n : ℕ) (old new : List ℕ) (B : Header → Body → Type 0) (Q : Item → Type 0)
      (count : n ≡ count_for top.value.first top.value.last) (list : new ≡ sets old (6 * z) (words_of top.value))
      (body : (h : Header) → FifthOf k h.fifth → top.value ≡ zone_of k h → Then (body_of (length s) k d n h.fifth (tokens_from s top.next)) (λ b us. B h b))
      (q : (h : Header) (b : Body) → top.value ≡ zone_of k h → B h b → Q (part k h b)) where
    counted : (h : Header) → 1 ≤ h.first → h.first ≤ h.last → count_for h.first h.last ≡ count_of h
    counted h p o = let x : h.last - h.first + 1 ≡ suc h.last - h.first = omega arith in sym (count_some h.first h.last p o) ∙ x

    by_filled : (h : Header) (b : Body) → Regular k (tokens_from s at) h b → Fitting d z k h b → Q (part k h b) × Recorded z k h old new
    by_filled h b r f =
        let w = as_filled h r.inside r.heading f.fifth in
        let g : top.value.first ≡ h.first = ap (λ (u : Zone). u.first) w.zone in
        let j : top.value.last ≡ h.last = ap (λ (u : Zone). u.last) w.zone in
        let x : n ≡ count_of h = count ∙ ap (λ y. count_for y top.value.last) g ∙ ap (count_for h.first) j ∙ counted h f.low f.order in
        let v = then_is (λ y us. B h y) b r.behind
        (ap (λ y. body_of (length s) k d y h.fifth (tokens_from s top.next)) x ∙ ap (body_of (length s) k d (count_of h) h.fifth) w.behind ∙ body_is (length s) d r.body f.wide)
        (body h f.fifth w.zone) in
        (q h b w.zone v, list ∙ ap (λ y. sets old (6 * z) (words_of y)) w.zone)

    pub passes_filled : Passes s at z d k old new Q
    passes_filled = record { says = by_filled }

-- ---- bodies
pub nodes_body : (s : List ℕ) (at inside d n k : ℕ) (v : Perhaps) (h : Header) (old new : Both) → d ≤ node_words → Steps s inside (left_of (length s) (tokens_from s at)) (λ u. Unit)
    → new ≡ set_pairs old k (points_taken (length s) (coordinates_in d) n (tokens_from s inside))
    → Then (body_of (length s) node d n v (tokens_from s at))
    (λ b us. (new.mantissas ≡ sets old.mantissas k (joined (node_rows (λ p. p.mantissa) h b))) × (new.exponents ≡ sets old.exponents k (joined (node_rows (λ p. p.exponent) h b))))
unfolding body_of
nodes_body s at inside d n k v h old new l left e =
    let stored : new ≡ set_pairs old k (points_taken (length s) d n (tokens_from s inside)) = e ∙ ap (λ y. set_pairs old k (points_taken (length s) y n (tokens_from s inside))) (min-eq_left l) in
    then_pure (enclosed_of (length s) (rows_of (length s) (pair_word (length s)) d) n (tokens_from s at)) (points d)
    (λ b us. (new.mantissas ≡ sets old.mantissas k (joined (node_rows (λ p. p.mantissa) h b))) × (new.exponents ≡ sets old.exponents k (joined (node_rows (λ p. p.exponent) h b))))
    (then_enclosed s inside (tokens_from s at) (rows_of (length s) (pair_word (length s)) d) n (λ xs. new ≡ set_pairs old k (joined (map (pad node_words origin) xs))) left
    (then_more (rows_of (length s) (rows_of (length s) (pair_word (length s)) d) n (tokens_from s inside)) (λ xs us p. stored ∙ ap (set_pairs old k) p) (points_good (length s) d n (tokens_from s inside))))
    (λ xs us q. (
      ap (λ (y : Both). y.mantissas) q ∙ ap (sets old.mantissas k) (map_joined (λ (p : Pair). p.mantissa) node_words origin xs),
      ap (λ (y : Both). y.exponents) q ∙ ap (sets old.exponents k) (map_joined (λ (p : Pair). p.exponent) node_words origin xs),
    ))

abbrev is_node_of : Kind → ℕ
is_node_of node = 1
is_node_of cell = 0
is_node_of face = 0

pub cell_node : cell ≡ node → ⊥
cell_node e = let z : ◌≡◌ {A = ℕ} 0 1 = ap is_node_of e in omega arith

pub face_node : face ≡ node → ⊥
face_node e = let z : ◌≡◌ {A = ℕ} 0 1 = ap is_node_of e in omega arith

face_few : (e : ℕ) → FifthOf face (given e) → e ≤ places
face_few e m =
    either_of (Memᴰ.cases_cons m) (λ q. omega arith)
    (λ m₁. either_of (Memᴰ.cases_cons m₁) (λ q. omega arith)
    (λ m₂. either_of (Memᴰ.cases_cons m₂) (λ q. omega arith)
    (λ m₃. either_of (Memᴰ.cases_cons m₃) (λ q. omega arith) (λ m₄. absurd (Memᴰ.not-nil m₄)))))

pub form_mixed : (e : ℕ) (b : Bool) → b ≡ (eqb e 0 || ltb places e) → b ≡ true → Form.Mixed ≡ face_form e
form_mixed e b p q = rw (face_form, sym p ∙ q)

pub form_facing : (e : ℕ) (b : Bool) → b ≡ (eqb e 0 || ltb places e) → b ≡ false → Form.Facing e ≡ face_form e
form_facing e b p q = rw (face_form, sym p ∙ q)

pub form_placed : (e : ℕ) → Placed (face_form e)
form_placed e = either Placed (eqb e 0 || ltb places e) (λ _. tt) (λ q. ltb-false places e (or_none (eqb e 0) (ltb places e) q).1)

element_at_lem : (k : Kind) (h : Header) (zone : Zone) (e : ℕ) → (k ≡ node → ⊥) → h.fifth ≡ given e → zone ≡ zone_of k h → zone.element ≡ e
element_at_lem node h zone e c q w = absurd (c refl)
element_at_lem cell h zone e c q w = ap (λ (u : Zone). u.element) w ∙ rw q
element_at_lem face h zone e c q w = ap (λ (u : Zone). u.element) w ∙ rw q

module _ (s : List ℕ) (at n k : ℕ) (zone : Zone) (old new : List ℕ) where
  typed : (h : Header) (j : Kind) → zone ≡ zone_of j h → zone.ztype ≡ h.type
  typed h j w = ap (λ (u : Zone). u.ztype) w

  -- rows that were stored as they were taken
  rows_stored : (form : Form) (inside : ℕ) → Placed form → Steps s inside (left_of (length s) (tokens_from s at)) (λ u. Unit) → new ≡ sets old k (rows_at s form zone.ztype n inside)
      → Then (enclosed_of (length s) (row_read (length s) form zone.ztype) n (tokens_from s at)) (λ xs us. new ≡ sets old k (joined xs))
  rows_stored form inside h left e =
      then_enclosed s inside (tokens_from s at) (row_read (length s) form zone.ztype) n (λ xs. new ≡ sets old k (joined xs)) left
      (then_more (rows_of (length s) (row_read (length s) form zone.ztype) n (tokens_from s inside)) (λ xs us p. e ∙ ap (sets old k) p) (rows_good s form zone.ztype n inside h))

  abbrev CellsOf : Header → Body → Type 0
  CellsOf h b = new ≡ sets old k (joined (cell_rows h b))

  -- one element for each cell
  pub cells_mixed : (inside : ℕ) → zone.element ≡ 0 → Steps s inside (left_of (length s) (tokens_from s at)) (λ u. Unit) → new ≡ sets old k (rows_at s Form.Element zone.ztype n inside)
      → Bodied s at cell_table n zone k old new
  unfolding body_of
  cells_mixed inside e left g = record { says = λ h f w. by h h.fifth refl f w }
    where
      by : (h : Header) (v : Perhaps) → h.fifth ≡ v → FifthOf cell v → zone ≡ zone_of cell h → Then (body_of (length s) cell 0 n v (tokens_from s at)) (λ b us. CellsOf h b)
      by h absent q f w = absurd f
      by h (given zero) q f w =
          then_pure (enclosed_of (length s) (element_of (length s)) n (tokens_from s at)) elements (λ b us. CellsOf h b)
          (enclosed_unmapped (length s) (λ e. e ∷ zone.ztype ∷ []) (element_of (length s)) n (tokens_from s at) (λ xs. new ≡ sets old k (joined xs)) (rows_stored Form.Element inside tt left g))
          (λ xs us p. p ∙ ap (λ t. sets old k (joined (map (λ e. e ∷ t ∷ []) xs))) (typed h cell w))
      by h (given (suc m)) q f w = absurd (let y = element_at_lem cell h zone (suc m) (λ x. cell_node x) q w in omega arith)

  -- the same for all
  pub cells_same : (zone.element ≡ 0 → ⊥) → new ≡ sets old k (same_rows zone.element zone.ztype n) → Bodied s at cell_table n zone k old new
  unfolding body_of same_rows
  cells_same e g = record { says = λ h f w. by h h.fifth refl f w }
    where
      by : (h : Header) (v : Perhaps) → h.fifth ≡ v → FifthOf cell v → zone ≡ zone_of cell h → Then (body_of (length s) cell 0 n v (tokens_from s at)) (λ b us. CellsOf h b)
      by h absent q f w = absurd f
      by h (given zero) q f w = absurd (e (element_at_lem cell h zone 0 (λ x. cell_node x) q w))
      by h (given (suc m)) q f w =
          g ∙ ap (λ y. sets old k (joined (replicate n (y ∷ zone.ztype ∷ [])))) (element_at_lem cell h zone (suc m) (λ x. cell_node x) q w)
          ∙ ap (λ y. sets old k (joined (replicate n (suc m ∷ y ∷ [])))) (typed h cell w)
          ∙ ap (λ y. sets old k (joined y)) (sym (map_replicate (λ e. e ∷ h.type ∷ []) n (suc m)))

  abbrev FacesOf : Header → Body → Type 0
  FacesOf h b = new ≡ sets old k (joined (face_rows h b))

  pub faces_body : (form : Form) (inside : ℕ) → form ≡ face_form zone.element → Steps s inside (left_of (length s) (tokens_from s at)) (λ u. Unit)
      → new ≡ sets old k (rows_at s form zone.ztype n inside) → Bodied s at face_table n zone k old new
  unfolding body_of
  faces_body form inside z left g = record { says = λ h f w. by h h.fifth refl f w }
    where
      taken : (e : ℕ) → zone.element ≡ e → Then (enclosed_of (length s) (row_read (length s) (face_form e) zone.ztype) n (tokens_from s at)) (λ xs us. new ≡ sets old k (joined xs))
      taken e q = rows_stored (face_form e) inside (form_placed e) left (g ∙ ap (λ y. sets old k (rows_at s y zone.ztype n inside)) (z ∙ ap face_form q))

      facing : (m : ℕ) → suc m ≤ places → face_form (suc m) ≡ Form.Facing (suc m)
      facing m l = sym (form_facing (suc m) false (sym (rw (ne_eqb (suc m) 0 (λ e. omega arith), le-ltb places (suc m) l))) refl)

      by : (h : Header) (v : Perhaps) → h.fifth ≡ v → FifthOf face v → zone ≡ zone_of face h → Then (body_of (length s) face 0 n v (tokens_from s at)) (λ b us. FacesOf h b)
      by h absent q f w = absurd f
      by h (given zero) q f w =
          then_pure (enclosed_of (length s) (mixed_of (length s)) n (tokens_from s at)) facets (λ b us. FacesOf h b)
          (enclosed_unmapped (length s) (face_row places zone.ztype) (mixed_of (length s)) n (tokens_from s at) (λ xs. new ≡ sets old k (joined xs)) (taken 0 (element_at_lem face h zone 0 (λ x. face_node x) q w)))
          (λ xs us p. p ∙ ap (λ t. sets old k (joined (map (face_row places t) xs))) (typed h face w))
      by h (given (suc m)) q f w =
          then_pure (enclosed_of (length s) (facing_of (length s) (suc m)) n (tokens_from s at)) facets (λ b us. FacesOf h b)
          (enclosed_unmapped (length s) (face_row places zone.ztype) (facing_of (length s) (suc m)) n (tokens_from s at) (λ xs. new ≡ sets old k (joined xs))
          (subst (λ y. Then (enclosed_of (length s) (row_read (length s) y zone.ztype) n (tokens_from s at)) (λ xs us. new ≡ sets old k (joined xs))) (facing m (face_few (suc m) f))
          (taken (suc m) (element_at_lem face h zone (suc m) (λ x. face_node x) q w))))
          (λ xs us p. p ∙ ap (λ t. sets old k (joined (map (face_row places t) xs))) (typed h face w))
