-- The rows of a laid-out file lie apart and within their table: one argument for every table. Assumes nothing.
use Prim.Native.Nat.{ℕ, ◌+◌, ◌-◌, ◌*◌, ◌≤◌}
use native.Mathlib.Nat.{mul-le-mul_left}
use native.Mathlib.Omega.{arith}
use mathlib.Core.Path.{◌≡◌, refl, sym, ◌∙◌}
use mathlib.Core.Logic.{inl, inr}
use mathlib.Core.List.{List, [], ◌∷◌, ◌++◌, append_assoc, Memᴰ}
use mathlib.Core.Bool.{true}
use lib.ListN.{length}
use Rattle.facts.proofs.Branch.{either}
use Rattle.facts.proofs.Decides.{either_of}
use Rattle.tokens.specs.Listed.{Tok}
use Rattle.layout.specs.Items.{Header, count_of, Body, Item, dim, decl, part, other}
use Rattle.layout.specs.Grammar.{Section, two, declares, regular, stepped, File, over, section}
use Rattle.layout.specs.Keeps.{Room, All, Some, Declares, Apart, PartFits}
use Rattle.layout.specs.Rows.{Piece, Table, same_kind, piece_of, pieces_of}
use Rattle.layout.proofs.Lists.{all_at, lifted, same_true, kinds_differ}
use Rattle.layout.proofs.Bodies.{Suits, body_suits, size_of, body_length}
use Rattle.layout.proofs.Each.{Each}
use Rattle.layout.proofs.Formed.{Formed, piece_end}
use Rattle.layout.proofs.Laying.{Clear, Good}

-- ---- a section has as many things as indices
abbrev pub Sized : Item → Type 0
Sized (dim n) = Unit
Sized (decl k h) = Unit
Sized (part k h b) = Suits k b × (size_of b ≡ count_of h)
Sized other = Unit

section_sized : {ts us : List Tok} {i : Item} → Section ts i us → Sized i
section_sized (two i h r) = tt
section_sized (declares k i a z r) = tt
section_sized (regular k i a z b r) = (body_suits b, body_length b)
section_sized (stepped i p h) = tt

pub file_sized : {ts : List Tok} {is : List Item} → File ts is → All Sized is
file_sized over = tt
file_sized (section s f) = (section_sized s, file_sized f)

-- ---- the pieces of a table are those of the sections of its kind
module _ {A : Type 0} (t : Table A) where
  pieces_more : (p : Piece A) (i : Item) (is : List Item) → Memᴰ p (pieces_of t is) → Memᴰ p (pieces_of t (i ∷ is))
  pieces_more p (dim n) is m = m
  pieces_more p (decl k h) is m = m
  pieces_more p (part k h b) is m = either (Memᴰ p) (same_kind k t.kind) (λ _. mathlib.Core.List.Memᴰ.tail m) (λ _. m)
  pieces_more p other is m = m

  piece_first : (h : Header) (b : Body) (is : List Item) → Memᴰ (piece_of t h b) (pieces_of t (part t.kind h b ∷ is))
  piece_first h b is =
      either (Memᴰ (piece_of t h b)) (same_kind t.kind t.kind) (λ _. mathlib.Core.List.Memᴰ.head refl) (λ e. absurd (kinds_differ {j = t.kind} e refl))

  pub piece_stands : (h : Header) (b : Body) (is : List Item) → Memᴰ (part t.kind h b) is → Memᴰ (piece_of t h b) (pieces_of t is)
  piece_stands h b [] m = absurd (mathlib.Core.List.Memᴰ.not-nil m)
  piece_stands h b (i ∷ is) m =
      either_of (mathlib.Core.List.Memᴰ.cases_cons m) (λ e. rw (← e) (piece_first h b is)) (λ n. pieces_more (piece_of t h b) i is (piece_stands h b is n))

  -- a section of the table's kind that the piece p is of
  pub record From (p : Piece A) (is : List Item) : Type 0 where
    pub header : Header
    pub body : Body
    pub stands : Memᴰ (part t.kind header body) is
    pub same : p ≡ piece_of t header body

  from_more : (p : Piece A) (i : Item) (is : List Item) → From p is → From p (i ∷ is)
  from_more p i is f = record { header = f.header; body = f.body; stands = mathlib.Core.List.Memᴰ.tail f.stands; same = f.same }

  pub piece_from : (p : Piece A) (is : List Item) → Memᴰ p (pieces_of t is) → From p is
  piece_from p [] m = absurd (mathlib.Core.List.Memᴰ.not-nil m)
  piece_from p (dim n ∷ is) m = from_more p (dim n) is (piece_from p is m)
  piece_from p (decl k h ∷ is) m = from_more p (decl k h) is (piece_from p is m)
  piece_from p (part k h b ∷ is) m =
      let go : Memᴰ p (pieces_of t is) → From p (part k h b ∷ is) = λ n. from_more p (part k h b) is (piece_from p is n) in
      either (λ ps. Memᴰ p ps → From p (part k h b ∷ is)) (same_kind k t.kind) (λ y n. either_of (mathlib.Core.List.Memᴰ.cases_cons n) (here y) go) (λ _. go) m
    where
      here : same_kind k t.kind ≡ true → p ≡ piece_of t h b → From p (part k h b ∷ is)
      here y e = record { header = h; body = b; stands = rw (same_true k t.kind y) (mathlib.Core.List.Memᴰ.head refl); same = e }
  piece_from p (other ∷ is) m = from_more p other is (piece_from p is m)

module _ {A : Type 0} (d : A) (t : Table A) (formed : Formed t) where
  module _ (size : ℕ) (room : Room) where
    -- an earlier section of the kind
    record Earlier (before : List Item) (h : Header) (b : Body) : Type 0 where
      pub stands : Memᴰ (part t.kind h b) before
      pub low : 1 ≤ h.first
      pub order : h.first ≤ h.last
      pub suits : Suits t.kind b
      pub sized : size_of b ≡ count_of h

    clear : (h g : Header) (b c : Body) (before : List Item) → Earlier before h b → PartFits room before t.kind g c → Suits t.kind c
        → size_of c ≡ count_of g
        → Clear d (piece_of t h b) (piece_of t g c)
    clear h g b c before e f s z =
        let p = piece_end t formed h b e.suits e.sized e.low e.order in
        let q = piece_end t formed g c s z f.low f.order in
        either_of (all_at (Apart t.kind g.first g.last) (part t.kind h b) before f.apart e.stands refl)
        (λ y. inl (omega (arith, p, mul-le-mul_left {m = h.last} {n = g.first - 1} t.width (omega arith))))
        (λ y. inr (omega (arith, q, mul-le-mul_left {m = g.last} {n = h.first - 1} t.width (omega arith))))

    earlier_more : (before : List Item) (h : Header) (b : Body) (i : Item) → Earlier before h b → Earlier (before ++ (i ∷ [])) h b
    earlier_more before h b i e = record { stands = mathlib.Core.List.Memᴰ.append_left _ e.stands; low = e.low; order = e.order; suits = e.suits; sized = e.sized }

    later : (h : Header) (b : Body) (before is : List Item) → Earlier before h b → Each room before is → All Sized is
        → (q : Piece A) → Memᴰ q (pieces_of t is) → Clear d (piece_of t h b) q
    later h b before [] e f z q m = absurd (mathlib.Core.List.Memᴰ.not-nil m)
    later h b before (dim n ∷ is) e f z q m = later h b _ is (earlier_more before h b (dim n) e) f.1 z.1 q m
    later h b before (decl k g ∷ is) e f z q m = later h b _ is (earlier_more before h b (decl k g) e) f.1 z.1 q m
    later h b before (part k g c ∷ is) e f z q m =
        let go = later h b _ is (earlier_more before h b (part k g c) e) f.1 z.1 q in
        either (λ ps. Memᴰ q ps → Clear d (piece_of t h b) q) (same_kind k t.kind)
        (λ y n. let w = same_true k t.kind y in either_of (mathlib.Core.List.Memᴰ.cases_cons n) (λ v. rw v (here w)) go) (λ _. go) m
      where
        here : k ≡ t.kind → Clear d (piece_of t h b) (piece_of t g c)
        here w = clear h g b c before e (rw w at f.0) (rw w at z.0.0) z.0.1
    later h b before (other ∷ is) e f z q m = later h b _ is (earlier_more before h b other e) f.1 z.1 q m

    -- "more whole rows than a slice of its kind has": every declared total has its rows
    module _ (all : List Item) (rooms : (n : ℕ) → Some (Declares t.kind n) all → t.width * n ≤ size) where
      pub pieces_good : (before is : List Item) → all ≡ before ++ is → Each room before is → All Sized is → Good d size (pieces_of t is)
      pieces_good before [] q e z = tt
      pieces_good before (dim n ∷ is) q e z = pieces_good _ is (q ∙ sym (append_assoc before (dim n ∷ []) is)) e.1 z.1
      pieces_good before (decl k h ∷ is) q e z = pieces_good _ is (q ∙ sym (append_assoc before (decl k h ∷ []) is)) e.1 z.1
      pieces_good before (part k h b ∷ is) q e z =
          let go = pieces_good _ is (q ∙ sym (append_assoc before (part k h b ∷ []) is)) e.1 z.1 in
          either (Good d size) (same_kind k t.kind) (λ y. let w = same_true k t.kind y in (fits_here w, apart_here w, go)) (λ _. go)
        where
          fits_here : k ≡ t.kind → (piece_of t h b).at + length (piece_of t h b).words ≤ size
          fits_here w =
              let f : PartFits room before t.kind h b = rw w at e.0 in
              let p = piece_end t formed h b (rw w at z.0.0) z.0.1 f.low f.order in
              omega (arith, p, mul-le-mul_left {m = h.last} {n = f.total} t.width f.high, rooms f.total (lifted _ before _ q f.declared))

          apart_here : k ≡ t.kind → (q : Piece A) → Memᴰ q (pieces_of t is) → Clear d (piece_of t h b) q
          apart_here w =
              later h b (before ++ (part k h b ∷ [])) is
              (record {
                stands = rw (← w) (mathlib.Core.List.Memᴰ.append_right before (mathlib.Core.List.Memᴰ.head refl));
                low = e.0.low;
                order = e.0.order;
                suits = rw w at z.0.0;
                sized = z.0.1;
              })
              e.1 z.1
      pieces_good before (other ∷ is) q e z = pieces_good _ is (q ∙ sym (append_assoc before (other ∷ []) is)) e.1 z.1
