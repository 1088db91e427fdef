-- Two tables that hold the same items agree in every row up to the total. Assumes nothing.
use Prim.Native.Nat.{ℕ, suc, ◌+◌, ◌-◌, ◌*◌, ◌/◌, ◌%◌, ◌≤◌, ◌<◌}
use native.Mathlib.Nat.{mul-le-mul_left, mul_comm, mul-add, div-lt_iff_lt-mul, div-add-mod', mod-lt}
use native.Mathlib.Omega.{arith}
use mathlib.Core.Path.{◌≡◌, refl, sym, ◌∙◌, ap}
use mathlib.Core.Logic.{inl, inr}
use mathlib.Core.List.{List, [], ◌∷◌, ◌++◌, Memᴰ}
use lib.ListN.{length, get_or}
use Rattle.layout.specs.Items.{Kind, Header, Body, Item, dim, decl, part, other}
use Rattle.layout.specs.Keeps.{Room, All, Some, Covers, PartFits, Fits}
use Rattle.layout.specs.Rows.{Holding, Table, piece_of, pieces_of}
use Rattle.layout.proofs.Formed.{Formed, piece_end}
use Rattle.layout.proofs.Pieces.{Sized, piece_stands}
use Rattle.layout.proofs.Lists.{all_at, parted}
use Rattle.layout.specs.Says.{Mesh}
use Rattle.texts.specs.Same.{SameWords, SameMesh}

-- the section that holds an index
record Holder (k : Kind) (i : ℕ) (is : List Item) : Type 0 where
  pub header : Header
  pub body : Body
  pub stands : Memᴰ (part k header body) is
  pub low : header.first ≤ i
  pub high : i ≤ header.last

held_later : {k : Kind} {i : ℕ} {is : List Item} (j : Item) → Holder k i is → Holder k i (j ∷ is)
held_later j h = record { header = h.header; body = h.body; stands = Memᴰ.tail h.stands; low = h.low; high = h.high }

holder : (k : Kind) (i : ℕ) (is : List Item) → Some (Covers k i) is → Holder k i is
holder k i [] h = absurd h
holder k i (dim n ∷ is) (inl h) = absurd h
holder k i (dim n ∷ is) (inr h) = held_later (dim n) (holder k i is h)
holder k i (decl j g ∷ is) (inl h) = absurd h
holder k i (decl j g ∷ is) (inr h) = held_later (decl j g) (holder k i is h)
holder k i (part j g b ∷ is) (inl h) = record { header = g; body = b; stands = rw (← h.0) (Memᴰ.head refl); low = h.1; high = h.2 }
holder k i (part j g b ∷ is) (inr h) = held_later (part j g b) (holder k i is h)
holder k i (other ∷ is) (inl h) = absurd h
holder k i (other ∷ is) (inr h) = held_later other (holder k i is h)

module _ {A : Type 0} (d : A) (t : Table A) (formed : Formed t) (room : Room) (is : List Item) (sized : All Sized is)
    (fits : (before : List Item) (i : Item) (after : List Item) → is ≡ before ++ (i ∷ after) → Fits room before i)
    {old new old' new' : List A} (p : Holding d (pieces_of t is) old new) (q : Holding d (pieces_of t is) old' new') where
  same_at : (i n c : ℕ) → i ≡ t.width * n + c → c < t.width → Holder t.kind (suc n) is → get_or new i d ≡ get_or new' i d
  same_at i n c e s h =
      let x = parted h.stands in
      let f : PartFits room x.0 t.kind h.header h.body = fits x.0 (part t.kind h.header h.body) x.1 x.2 in
      let z = all_at Sized (part t.kind h.header h.body) is sized h.stands in
      let at = t.width * (h.header.first - 1) in
      let end = piece_end t formed h.header h.body z.0 z.1 f.low f.order in
      let lo = mul-le-mul_left {m = h.header.first - 1} {n = n} t.width (omega (arith, h.low)) in
      let hi = mul-le-mul_left {m = n + 1} {n = h.header.last} t.width (omega (arith, h.high)) in
      let j = i - at in
      let here : at + j ≡ i = omega (arith, lo) in
      let inside : j < length (piece_of t h.header h.body).words = omega (arith, end, lo, hi, mul-add t.width n 1) in
      let m = piece_stands t h.header h.body is h.stands in
      ap (λ (k : ℕ). get_or new k d) (sym here) ∙ p.there (piece_of t h.header h.body) m j inside
      ∙ sym (q.there (piece_of t h.header h.body) m j inside) ∙ ap (λ (k : ℕ). get_or new' k d) here

  pub same_rows : (total : ℕ) → ((i : ℕ) → 1 ≤ i → i ≤ total → Some (Covers t.kind i) is) → 0 < t.width → SameWords d (t.width * total) new new'
  same_rows total tiled some i l =
      let w = t.width in
      let n = i / w in
      let e : n < total = (div-lt_iff_lt-mul {k = w} {x = i} {y = total} some).1 (omega (arith, mul_comm w total)) in
      same_at i n (i % w) (omega (arith, div-add-mod' i w, mul_comm w n)) (mod-lt i some) (holder t.kind (suc n) is (tiled (suc n) (omega arith) (omega arith)))

-- ---- the same mesh is an equivalence
pub same_refl : (m : Mesh) → SameMesh m m
same_refl m =
    record {
      dimension = refl;
      nodes = refl;
      faces = refl;
      cells = refl;
      zones = refl;
      mantissas = λ i l. refl;
      exponents = λ i l. refl;
      face_rows = λ i l. refl;
      cell_rows = λ i l. refl;
      records = λ i l. refl;
    }

pub same_sym : (m n : Mesh) → SameMesh m n → SameMesh n m
same_sym m n s =
    record {
      dimension = sym s.dimension;
      nodes = sym s.nodes;
      faces = sym s.faces;
      cells = sym s.cells;
      zones = sym s.zones;
      mantissas = λ i l. sym (s.mantissas i (omega (arith, s.nodes)));
      exponents = λ i l. sym (s.exponents i (omega (arith, s.nodes)));
      face_rows = λ i l. sym (s.face_rows i (omega (arith, s.faces)));
      cell_rows = λ i l. sym (s.cell_rows i (omega (arith, s.cells)));
      records = λ i l. sym (s.records i (omega (arith, s.zones)));
    }

pub same_trans : (m n o : Mesh) → SameMesh m n → SameMesh n o → SameMesh m o
same_trans m n o s t =
    record {
      dimension = s.dimension ∙ t.dimension;
      nodes = s.nodes ∙ t.nodes;
      faces = s.faces ∙ t.faces;
      cells = s.cells ∙ t.cells;
      zones = s.zones ∙ t.zones;
      mantissas = λ i l. s.mantissas i l ∙ t.mantissas i (omega (arith, s.nodes));
      exponents = λ i l. s.exponents i l ∙ t.exponents i (omega (arith, s.nodes));
      face_rows = λ i l. s.face_rows i l ∙ t.face_rows i (omega (arith, s.faces));
      cell_rows = λ i l. s.cell_rows i l ∙ t.cell_rows i (omega (arith, s.cells));
      records = λ i l. s.records i l ∙ t.records i (omega (arith, s.zones));
    }
