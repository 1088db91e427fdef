-- Where the dimension, the totals and a record fit, the test of its rows decides that they can be written. Assumes nothing.
use Prim.Native.Nat.{ℕ, ◌/◌, ◌*◌, ◌≤◌, ◌+◌, ◌-◌}
use native.Mathlib.Nat.{min-le_left, min-le_right}
use native.Mathlib.Omega.{arith}
use mathlib.Core.Path.{◌≡◌, refl, sym, subst}
use mathlib.Core.List.{List}
use mathlib.Core.Bool.{false}
use lib.ListN.{length, drop, length-drop}
use Rattle.facts.proofs.Decides.{Decides, by, lt_is, either_of}
use Rattle.mesh.specs.declared.Zone.{Zone}
use Rattle.mesh.specs.Rows.{places, face_words, cell_words, node_words}
use Rattle.layout.specs.Items.{Kind, node, cell, face, id_of, given, count_of}
use Rattle.layout.specs.Keeps.{types_of}
use Rattle.layout.specs.Rows.{Lent}
use Rattle.layout.specs.Says.{Mesh}
use Rattle.layout.proofs.FaceRows.{same_few}
use Rattle.texts.specs.Writes.{Each, Short, BodyWrites}
use Rattle.texts.specs.Tabled.{body_of, head_of}
use Rattle.texts.specs.Writable.{RowsAgain}
use Rattle.texts.specs.Judged.{all_by, short_by, rows_by, rows_fit}
use Rattle.texts.proofs.ByKind.{kind_is, kind_same}
use Rattle.texts.proofs.Tests.{each_is, all_is, each_map, each_at}
use Rattle.texts.proofs.Inside.{div_room, inside_of}
use Rattle.texts.proofs.Records.{Headed, Known}
use Rattle.texts.proofs.Front.{Fronted, totals}
use Rattle.texts.proofs.RowTest.{faces_is, cells_is}
use Rattle.texts.proofs.NodeTest.{nodes_is}

pub types_short : (k : Kind) → Each Short (types_of k)
unfolding all_by
types_short node = (all_is short_by Short (λ n. lt_is n _) (types_of node)).0 refl
types_short cell = (all_is short_by Short (λ n. lt_is n _) (types_of cell)).0 refl
types_short face = (all_is short_by Short (λ n. lt_is n _) (types_of face)).0 refl

-- its rows are those that its own body says, and the body can be written
abbrev pub Rowed : Mesh → Kind → Zone → Type 0
Rowed m k z =
    let d = m.dimension in
    let h = head_of k d z in
    RowsAgain k d m.held h × BodyWrites k (count_of h) h.fifth (body_of k d m.held h)

abbrev pub AllRowed : Mesh → Zone → Type 0
AllRowed m z = (k : Kind) → z.section ≡ id_of k → Rowed m k z

module _ (m : Mesh) (f : Fronted m) where
  abbrev d : ℕ
  d = m.dimension

  abbrev l : Lent
  l = m.held

  dim_small : d ≤ node_words
  dim_small = either_of f.0 (λ e. omega arith) (λ e. omega arith)

  behind : {A : Type 0} (w a n : ℕ) (t : List A) → a + n * w ≤ length t → n * w ≤ length (drop a t)
  behind w a n t h = omega (arith, length-drop a t)

  rows_is : (k : Kind) (z : Zone) → Headed m k z → Decides (rows_by k d l z) (Rowed m k z)
  rows_is node z h =
      let g = head_of node d z in
      let a = length l.mantissas / node_words in
      let b = length l.exponents / node_words in
      let i = inside_of node_words g l.mantissas h.low h.order (div_room node_words (length l.mantissas) z.last (omega (arith, min-le_left a b, h.high, (totals m f node).1))) in
      let j = inside_of node_words g l.exponents h.low h.order (div_room node_words (length l.exponents) z.last (omega (arith, min-le_right a b, h.high, (totals m f node).1))) in
      by (λ p. ((i, j, p.0), p.1), λ p. (p.0.2, p.1))
      (nodes_is d dim_small (count_of g) (given d) (drop (node_words * (z.first - 1)) l.mantissas) (drop (node_words * (z.first - 1)) l.exponents) (behind node_words _ (count_of g) l.mantissas i) (behind node_words _ (count_of g) l.exponents j))
  rows_is cell z h =
      let g = head_of cell d z in
      let i = inside_of cell_words g l.cells h.low h.order (div_room cell_words (length l.cells) z.last (omega (arith, h.high, (totals m f cell).1))) in
      by (λ p. ((i, p.0), p.1), λ p. (p.0.1, p.1)) (cells_is z.element z.ztype (count_of g) (drop (cell_words * (z.first - 1)) l.cells) (behind cell_words _ (count_of g) l.cells i))
  rows_is face z h =
      let g = head_of face d z in
      let i = inside_of (face_words places) g l.faces h.low h.order (div_room (face_words places) (length l.faces) z.last (omega (arith, h.high, (totals m f face).1))) in
      by (λ p. ((i, p.0), p.1), λ p. (p.0.1, p.1))
      (faces_is z.element z.ztype (same_few z.element h.fifth) (each_at Short (types_of face) (types_short face) h.type) (count_of g) (drop (face_words places * (z.first - 1)) l.faces) (behind (face_words places) _ (count_of g) l.faces i))

  -- ---- every record's rows
  rows_fit_lem : (z : Zone) → Known m z → Decides (rows_fit d l z) (AllRowed m z)
  unfolding rows_fit
  rows_fit_lem z (k, e, h) =
      subst (λ b. Decides b (AllRowed m z)) (sym (kind_is (λ j. rows_by j d l z) false z.section k e))
      (by (λ p j q. subst (λ i. Rowed m i z) (kind_same z.section k j e q) p, λ p. p k e) (rows_is k z h))

  pub all_rows : (zs : List Zone) → Each (Known m) zs → Decides (all_by (rows_fit d l) zs) (Each (AllRowed m) zs)
  all_rows zs h = each_is (rows_fit d l) (AllRowed m) zs (each_map (Known m) (λ z. Decides (rows_fit d l z) (AllRowed m z)) rows_fit_lem zs h)
