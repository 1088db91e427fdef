-- The same mesh in other tables has the same text: what lies behind the totals is not looked at. Assumes nothing.
use Prim.Native.Nat.{ℕ, zero, suc, ◌+◌, ◌-◌, ◌*◌, ◌≤◌, ◌<◌}
use native.Mathlib.Nat.{mul-le-mul_left, mul_comm, mul-add}
use native.Mathlib.Omega.{arith}
use mathlib.Core.Path.{◌≡◌, refl, sym, ◌∙◌, ap}
use mathlib.Core.List.{List, [], ◌∷◌, map}
use mathlib.Core.Bool.{true}
use lib.IntN.{pos}
use lib.ListN.{length, take, drop, length-drop}
use lib.Seq.{get_or-take, get_or-drop, length-take-le, ext_get_or}
use Rattle.mesh.specs.declared.Zone.{Zone}
use Rattle.mesh.specs.Rows.{places, face_words, cell_words, node_words}
use Rattle.layout.specs.Items.{Kind, node, cell, face, Header, count_of, points, elements, facets, dim, part}
use Rattle.layout.specs.Rows.{no_zone}
use Rattle.layout.specs.Says.{Mesh}
use Rattle.texts.specs.Writes.{Each}
use Rattle.texts.specs.Tabled.{rows_of, section_rows, facet_of, element_of, points_of, body_of, head_of, part_of, parts_of, decl_of, items_of}
use Rattle.texts.specs.Writable.{Inside}
use Rattle.texts.specs.Same.{SameWords, SameMesh}
use Rattle.texts.specs.Judged.{writable_of}
use Rattle.texts.specs.Write.{mesh_text}
use Rattle.texts.specs.Texts.{text_of}
use Rattle.texts.proofs.Held.{part_is}
use Rattle.texts.proofs.Records.{Headed, Known}
use Rattle.texts.proofs.Sections.{Rowed, AllRowed}
use Rattle.texts.proofs.Written.{passed_is}

-- ---- rows of two tables that agree
module _ {A : Type 0} (d : A) (w : ℕ) where
  rows_alike : (n : ℕ) (l r : List A) → n * w ≤ length l → n * w ≤ length r → SameWords d (n * w) l r → rows_of w n l ≡ rows_of w n r
  unfolding rows_of
  rows_alike zero l r h k s = refl
  rows_alike (suc n) l r h k s =
      let z : suc n * w ≡ w + n * w = suc_times n w in
      let a = length-take-le w l (omega arith) in
      let b = length-take-le w r (omega arith) in
      let first : take w l ≡ take w r = ext_get_or d (take w l) (take w r) (a ∙ sym b) (λ i j. let y : i < w = omega arith in get_or-take w l i d y ∙ s i (omega arith) ∙ sym (get_or-take w r i d y)) in
      let rest : rows_of w n (drop w l) ≡ rows_of w n (drop w r) =
      rows_alike n (drop w l) (drop w r) (omega (arith, length-drop w l)) (omega (arith, length-drop w r)) (λ i j. get_or-drop w l i d ∙ s (w + i) (omega arith) ∙ sym (get_or-drop w r i d)) in
      λ i. first i ∷ rest i
    where
      suc_times : (n w : ℕ) → suc n * w ≡ w + n * w
      suc_times n w = omega arith

  section_alike : (h : Header) (total : ℕ) (l r : List A) → 1 ≤ h.first → h.first ≤ h.last → h.last ≤ total → Inside w h l → Inside w h r
      → SameWords d (w * total) l r → section_rows w h l ≡ section_rows w h r
  section_alike h total l r low order high x y s =
      let a = w * (h.first - 1) in
      let z : h.first - 1 + count_of h ≡ h.last = omega arith in
      let end : a + count_of h * w ≡ w * h.last = omega (arith, mul_comm (count_of h) w, sym (mul-add w (h.first - 1) (count_of h)) ∙ ap (λ n. w * n) z) in
      let less = mul-le-mul_left {m = h.last} {n = total} w high in
      rows_alike (count_of h) (drop a l) (drop a r) (omega (arith, length-drop a l)) (omega (arith, length-drop a r))
      (λ i j. get_or-drop a l i d ∙ s (a + i) (omega arith) ∙ sym (get_or-drop a r i d))

-- ---- the items
module _ (m n : Mesh) (s : SameMesh m n) where
  abbrev d : ℕ
  d = m.dimension

  body_alike : (k : Kind) (z : Zone) → Headed m k z → Rowed m k z → Rowed n k z → body_of k d m.held (head_of k d z) ≡ body_of k d n.held (head_of k d z)
  body_alike node z h a b =
      let g = head_of node d z in
      let x = section_alike (pos 0) node_words g m.nodes m.held.mantissas n.held.mantissas h.low h.order h.high a.0.0 b.0.0 s.mantissas in
      let y = section_alike (pos 0) node_words g m.nodes m.held.exponents n.held.exponents h.low h.order h.high a.0.1 b.0.1 s.exponents in
      λ i. points d (points_of d (x i) (y i))
  body_alike cell z h a b =
      ap (λ r. elements (map element_of r)) (section_alike 0 cell_words (head_of cell d z) m.cells m.held.cells n.held.cells h.low h.order h.high a.0.0 b.0.0 s.cell_rows)
  body_alike face z h a b =
      ap (λ r. facets (map facet_of r)) (section_alike 0 (face_words places) (head_of face d z) m.faces m.held.faces n.held.faces h.low h.order h.high a.0.0 b.0.0 s.face_rows)

  parts_alike : (zs : List Zone) → Each (Known m) zs → Each (AllRowed m) zs → Each (AllRowed n) zs → parts_of d m.held zs ≡ parts_of d n.held zs
  parts_alike [] h a b = refl
  parts_alike (z ∷ zs) h a b =
      let (k, e, g) = h.0 in
      let one : part_of d m.held z ≡ part_of d n.held z = part_is k d m.held z e ∙ ap (part k (head_of k d z)) (body_alike k z g (a.0 k e) (b.0 k e)) ∙ sym (part_is k d n.held z e) in
      λ i. one i ∷ parts_alike zs h.1 a.1 b.1 i

  pub text_alike : m.zones ≡ length m.held.zones → n.zones ≡ length n.held.zones → writable_of m ≡ true → writable_of n ≡ true → mesh_text m ≡ mesh_text n
  unfolding items_of
  text_alike c e v w = ap text_of items
    where
      zones_same : m.held.zones ≡ n.held.zones
      zones_same = ext_get_or no_zone m.held.zones n.held.zones (sym c ∙ s.zones ∙ e) (λ i l. s.records i (omega arith))

      parts : parts_of d m.held m.held.zones ≡ parts_of n.dimension n.held n.held.zones
      parts =
          let p = (passed_is m).0 v in
          let q = (passed_is n).0 w in
          parts_alike m.held.zones p.1.0.0 p.1.1 (rw zones_same q.1.1) ∙ (λ i. parts_of (s.dimension i) n.held (zones_same i))

      items : items_of m ≡ items_of n
      items = λ i. dim (s.dimension i) ∷ decl_of node (s.nodes i) (s.dimension i) ∷ decl_of cell (s.cells i) 0 ∷ decl_of face (s.faces i) 0 ∷ parts i
