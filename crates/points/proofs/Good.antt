-- On a good file the node rows that are stored are those that the text says. Assumes nothing.
use Prim.Native.Nat.{ℕ, zero, suc, ◌≤◌}
use native.Mathlib.Nat.{min-le_right}
use mathlib.Core.Path.{◌≡◌, refl, sym, ap, subst, ◌∙◌}
use mathlib.Core.List.{List, ◌∷◌, map}
use Rattle.mesh.specs.Rows.{node_words}
use Rattle.tokens.specs.Listed.{Tok}
use Rattle.layout.specs.Items.{Pair}
use Rattle.layout.specs.Rows.{joined, pad}
use Rattle.layout.specs.Reading.{Got, got, bad, pair_word, rows_of}
use Rattle.again.specs.Again.{Then, Taken, many, Takes}
use Rattle.again.proofs.Then.{then_more}
use Rattle.again.proofs.Many.{many_takes}
use Rattle.points.specs.Points.{origin, taken_by, pair_taken, pairs_taken, point_taken, points_taken, coordinates_in}

taken_is : (g : Got Pair) (ts : List Tok) → Then g (λ p us. ((taken_by g ts).thing ≡ p) × ((taken_by g ts).next ≡ us))
taken_is (got p us) ts = (refl, refl)
taken_is (bad w o) ts = tt

module _ (size : ℕ) where
  pair_takes : Takes (λ ts. ts) (pair_taken size) (pair_word size)
  unfolding pair_taken
  pair_takes ts = taken_is (pair_word size ts) ts

  -- padding can wait until all rows are there
  padded : (d n : ℕ) (ts : List Tok)
      → ◌≡◌ {A = Taken (List Tok) (List (List Pair))} (many (λ us. point_taken size d us) n ts)
      (record { thing = map (pad node_words origin) (many (λ us. pairs_taken size d us) n ts).thing; next = (many (λ us. pairs_taken size d us) n ts).next })
  unfolding many
  padded d zero ts = refl
  padded d (suc n) ts = let r = padded d n (pairs_taken size d ts).next in λ i. record { thing = pad node_words origin (pairs_taken size d ts).thing ∷ (r i).thing; next = (r i).next }

  pub points_good : (d n : ℕ) (ts : List Tok) → Then (rows_of size (rows_of size (pair_word size) d) n ts) (λ xs us. points_taken size d n ts ≡ joined (map (pad node_words origin) xs))
  unfolding points_taken
  points_good d n ts =
      then_more (rows_of size (rows_of size (pair_word size) d) n ts)
      (λ xs us p. ap (λ (y : Taken (List Tok) (List (List Pair))). joined y.thing) (padded d n ts) ∙ ap (λ ys. joined (map (pad node_words origin) ys)) p.0)
      (many_takes (λ us. us) (λ us. pairs_taken size d us) (rows_of size (pair_word size) d) size (many_takes (λ us. us) (pair_taken size) (pair_word size) size pair_takes d) n ts)

pub few_coordinates : (d w : ℕ) → w ≡ coordinates_in d → w ≤ node_words
few_coordinates d w e = subst (λ y. y ≤ node_words) (sym e) (min-le_right d node_words)
