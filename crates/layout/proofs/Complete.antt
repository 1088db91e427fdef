-- What is laid out as the grammar says is accepted. Assumes nothing.
use Prim.Native.Nat.{ℕ, zero, suc, ◌<◌}
use native.Mathlib.Omega.{arith}
use mathlib.Core.Path.{◌≡◌, sym, ◌∙◌}
use mathlib.Core.List.{List, [], ◌∷◌, ◌++◌, append-nil, append_assoc}
use mathlib.Core.Bool.{Bool, true}
use lib.ListN.{length}
use Rattle.facts.proofs.Decides.{ne_is, and_join}
use Rattle.tokens.specs.Listed.{Tok}
use Rattle.layout.specs.Items.{node, cell, face, Item}
use Rattle.layout.specs.Grammar.{File, over, section}
use Rattle.layout.specs.Keeps.{Room, Whole as Whole-of, Laid}
use Rattle.layout.specs.State.{State, start, after as afterItem, after_all}
use Rattle.layout.specs.Read.{Answer, accepted, ending, end_of, file_of, tokens_answer}
use Rattle.layout.proofs.Dims.{dim_is}
use Rattle.layout.proofs.Sums.{Seen, none_seen, one_more, total_is}
use Rattle.layout.proofs.Tiling.{tiled_back}
use Rattle.layout.proofs.Each.{Each, parted_each}
use Rattle.layout.proofs.Behind.{section_less}
use Rattle.layout.proofs.CompleteSections.{section_is}

module _ (size : ℕ) where
  module _ (before : List Item) (x : State) (s : Seen before x) where
    ending_is : (a b c : Bool) (r : Answer) (k : ℕ) → a ≡ true → b ≡ true → c ≡ true → ending a b c r k size ≡ r
    ending_is a b c r k p q t = rw (p, q, t)

    end_is : (k : ℕ) → Whole-of before → end_of size x k ≡ accepted x []
    unfolding end_of
    end_is k w =
        let n = total_is before node x.nodes (s.kinds node) w.nodes w.nodes_declared in
        let f = total_is before face x.faces (s.kinds face) w.faces w.faces_declared in
        let d = dim_is s.dims w.dimension w.known in
        ending_is _ _ _ _ k (and_join n.0 f.0) ((ne_is x.dimension 0).1 (λ z. d.1 (sym d.0 ∙ z)))
        (and_join (tiled_back before node x.nodes (s.kinds node) (w.tiled node))
        (and_join (tiled_back before cell x.cells (s.kinds cell) (w.tiled cell)) (tiled_back before face x.faces (s.kinds face) (w.tiled face))))

  file_is : (room : Room) {ts : List Tok} {is : List Item} → File ts is → (before : List Item) (x : State) → Seen before x → Each room before is
      → Whole-of (before ++ is)
      → (n k : ℕ) → length ts < n → file_of size room n x k ts ≡ accepted (after_all x is) is
  unfolding file_of
  file_is room over before x s e w zero k l = absurd (omega arith)
  file_is room over before x s e w (suc n) k l = end_is before x s k (rw (append-nil before) at w)
  file_is room (section q f) before x s e w zero k l = absurd (omega arith)
  file_is room (section {i = i} {is = is} q f) before x s e w (suc n) k l =
      rw (
        section_is size before x s room q e.0,
        file_is room f (before ++ (i ∷ [])) (afterItem x i) (one_more before x s room i e.0) e.1
            (rw (append_assoc before (i ∷ []) is) w) n (suc k) (omega (arith, section_less q)),
      )

  pub complete : (room : Room) (ts : List Tok) (is : List Item) → Laid room ts is → tokens_answer size room ts ≡ accepted (after_all start is) is
  complete room ts is l = file_is room l.file [] start none_seen (parted_each room [] is l.fits) l.whole _ 0 (omega arith)
