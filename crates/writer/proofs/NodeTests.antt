-- Tests of the rows of nodes, pair by pair and row by row. Assumes nothing.
use Prim.Native.Nat.{ℕ, zero, suc, ◌-◌}
use native.Mathlib.Omega.{arith}
use mathlib.Core.Path.{◌≡◌, refl, sym, ◌∙◌, ap}
use mathlib.Core.List.{List, [], ◌∷◌}
use mathlib.Core.Bool.{Bool, true, false, ◌&&◌, cond}
use borrow.Author.Tests.{lt-ltb, le-ltb, ltb-true, ltb-false}
use lib.Dec.{ltb}
use lib.IntN.{ℤ, pos}
use lib.ListN.{take, drop, get_or}
use lib.Seq.{get_or-drop, take-nil}
use Rattle.std.specs.List.{list_all, zip}
use Rattle.texts.specs.Tabled.{rows_of}
use Rattle.facts.proofs.Branch.{split}
use Rattle.mesh.specs.Rows.{node_words}
use Rattle.texts.specs.Judged.{canonical_by, nought_by, pairs_by, nodes_by}

abbrev pub pair_by : Bool → ℤ → ℤ → Bool
pair_by b m e = cond b (canonical_by m e) (nought_by m e)

first_pair : (w d : ℕ) (ms es : List ℤ)
    → pairs_by (suc w) d ms es ≡ (pair_by (ltb 0 d) (get_or ms 0 (pos 0)) (get_or es 0 (pos 0)) && pairs_by w (d - 1) (drop 1 ms) (drop 1 es))
unfolding pairs_by
first_pair w zero ms es = refl
first_pair w (suc d) ms es = let z : suc d - 1 ≡ d = omega arith in rw (z, lt-ltb 0 (suc d) (omega arith))

below : (i d : ℕ) → ltb 0 (d - i) ≡ ltb i d
below i d =
    split (ltb i d) (λ t. lt-ltb 0 (d - i) (omega (arith, ltb-true i d t)) ∙ sym t) (λ f. le-ltb 0 (d - i) (omega (arith, ltb-false i d f)) ∙ sym f)

second : (l : List ℤ) → get_or (drop 1 l) 0 (pos 0) ≡ get_or l 1 (pos 0)
second l = get_or-drop 1 l 0 (pos 0)

third : (l : List ℤ) → get_or (drop 1 (drop 1 l)) 0 (pos 0) ≡ get_or l 2 (pos 0)
third l = get_or-drop 1 (drop 1 l) 0 (pos 0) ∙ get_or-drop 1 l 1 (pos 0)

last_is : (b : Bool) → (b && true) ≡ b
last_is true = refl
last_is false = refl

-- the three pairs of a row
pub pairs_is : (d : ℕ) (ms es : List ℤ)
    → pairs_by node_words d ms es
    ≡ (pair_by (ltb 0 d) (get_or ms 0 (pos 0)) (get_or es 0 (pos 0)) && (pair_by (ltb 1 d) (get_or ms 1 (pos 0)) (get_or es 1 (pos 0)) && pair_by (ltb 2 d) (get_or ms 2 (pos 0)) (get_or es 2 (pos 0))))
unfolding pairs_by
pairs_is d ms es =
    let z : d - 1 - 1 ≡ d - 2 = omega arith in
    let one = first_pair 1 (d - 1) (drop 1 ms) (drop 1 es) in
    let two = first_pair 0 (d - 1 - 1) (drop 1 (drop 1 ms)) (drop 1 (drop 1 es)) in
    first_pair 2 d ms es
    ∙ ap (λ (r : Bool). pair_by (ltb 0 d) (get_or ms 0 (pos 0)) (get_or es 0 (pos 0)) && r)
    (one
    ∙ (λ j. pair_by (below 1 d j) (second ms j) (second es j) && (two ∙ last_is _ ∙ (λ k. pair_by ((ap (ltb 0) z ∙ below 2 d) k) (third ms k) (third es k))) j))

-- ---- nodes: a row of mantissas, and its row of exponents
first_taken : (w : ℕ) (l : List ℤ) → get_or (take (suc w) l) 0 (pos 0) ≡ get_or l 0 (pos 0)
first_taken w [] = refl
first_taken w (x ∷ l) = refl

rest_taken : (w : ℕ) (l : List ℤ) → drop 1 (take (suc w) l) ≡ take w (drop 1 l)
rest_taken w [] = sym (take-nil w)
rest_taken w (x ∷ l) = refl

pairs_taken : (w d : ℕ) (ms es : List ℤ) → pairs_by w d (take w ms) (take w es) ≡ pairs_by w d ms es
unfolding pairs_by
pairs_taken zero d ms es = refl
pairs_taken (suc w) d ms es =
    first_pair w d (take (suc w) ms) (take (suc w) es)
    ∙ (λ j. pair_by (ltb 0 d) (first_taken w ms j) (first_taken w es j) && ((λ k. pairs_by w (d - 1) (rest_taken w ms k) (rest_taken w es k)) ∙ pairs_taken w (d - 1) (drop 1 ms) (drop 1 es)) j)
    ∙ sym (first_pair w d ms es)

pub nodes_are : (d n : ℕ) (ms es : List ℤ) → list_all (λ row. pairs_by node_words d row.0 row.1) (zip (rows_of node_words n ms) (rows_of node_words n es)) ≡ nodes_by d n ms es
unfolding nodes_by rows_of
nodes_are d zero ms es = refl
nodes_are d (suc n) ms es = λ j. pairs_taken node_words d ms es j && nodes_are d n (drop node_words ms) (drop node_words es) j
