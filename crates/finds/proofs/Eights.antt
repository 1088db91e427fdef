-- The first byte that does not go on with what is passed, looked for in eight bytes at once. Assumes nothing.
use Prim.Native.Nat.{ℕ, zero, suc, ◌+◌, ◌-◌, ◌*◌, ◌/◌, ◌^◌, ◌≤◌, ◌<◌}
use native.Mathlib.Omega.{arith}
use mathlib.Core.Path.{◌≡◌, refl, sym, ap, ap₂, subst, ◌∙◌}
use mathlib.Core.List.{List, [], ◌∷◌, ◌++◌, map}
use mathlib.Core.Bool.{Bool, true, false}
use lib.ListN.{length, replicate, take, drop, length-drop, length-take, take-append-drop}
use lib.Count.{count_trailing_zeros}
use Rattle.facts.proofs.Branch.{split}
use Rattle.facts.proofs.First.{first_inside, first_is, first_behind}
use Rattle.digits.specs.declared.group.Base.{Base}
use Rattle.std.specs.Prelude.{Result, Ok, Err}
use Rattle.tokens.specs.declared.Run.{Run}
use Rattle.tokens.specs.Tokens.{run_at}
use Rattle.finds.specs.Eights.{off, Shows, Searched}
use Rattle.finds.proofs.Passing.{Passes}
use Rattle.digits.specs.Lanes.{lanes, Laned}
use Rattle.digits.proofs.Laning.{padded, padded_eight, padded_under, padded_same}
use Rattle.digits.proofs.Gathered.{passed, stopped}

abbrev chosen : Bool → ℕ → ℕ → ℕ
chosen q a b = elim q [ true ↦ a | false ↦ b ]

module _ (goes : ℕ → Bool) where
  -- ---- where it stands among some bytes
  abbrev first : List ℕ → ℕ
  first [] = 0
  first (b ∷ w) = chosen (goes b) (suc (first w)) 0

  abbrev shown : List ℕ → ℕ
  shown w = lanes 8 (map (λ b. off (goes b)) w)

  first_step : (w : List ℕ) → count_trailing_zeros (8 * length w) (shown w) / 8 ≡ first w → (q : Bool)
      → count_trailing_zeros (8 * suc (length w)) (shown w * 2 ^ 8 + off q) / 8 ≡ chosen q (suc (first w)) 0
  first_step w ih true = ap (λ (z : ℕ). z / 8) (passed Base.Sixteen w (shown w)) ∙ omega (arith, ih)
  first_step w ih false = ap (λ (z : ℕ). z / 8) (stopped Base.Sixteen w (shown w)) ∙ omega arith

  zeros_first : (w : List ℕ) → count_trailing_zeros (8 * length w) (shown w) / 8 ≡ first w
  unfolding lanes count_trailing_zeros
  zeros_first [] = refl
  zeros_first (b ∷ w) = first_step w (zeros_first w) (goes b)

  first_on : (w v : List ℕ) → first w < length w → first (w ++ v) ≡ first w
  first_on [] v h = absurd (omega (arith, h))
  first_on (b ∷ w) v h = step (goes b) h (first_on w v)
    where
      step : (q : Bool) → chosen q (suc (first w)) 0 < suc (length w) → (first w < length w → first (w ++ v) ≡ first w) → chosen q (suc (first (w ++ v))) 0 ≡ chosen q (suc (first w)) 0
      step true h ih = ap suc (ih (omega (arith, h)))
      step false h ih = refl

  -- ---- where it stands in the file
  module _ (to : List ℕ → ℕ → ℕ) (pass : Passes goes to) (s : List ℕ) where
    module _ (i b : ℕ) (rest : List ℕ) (here : drop i s ≡ b ∷ rest) where
      passed_by : goes b ≡ true → to s (i + 1) ≡ to s i
      passed_by e = pass.more s i (first_inside s i b rest here) (ap goes (first_is s i b rest here) ∙ e)

      found_at : goes b ≡ false → i ≡ to s i
      found_at e = pass.stop s i (first_inside s i b rest here) (ap goes (first_is s i b rest here) ∙ e)

    none_there : (w rest : List ℕ) (i : ℕ) → drop i s ≡ w ++ rest → shown w ≡ 0 → to s (i + length w) ≡ to s i
    unfolding lanes
    none_there [] rest i d z = let k : i + 0 ≡ i = omega arith in ap (to s) k
    none_there (b ∷ w) rest i d z =
        split (goes b)
        (λ p. let k : i + suc (length w) ≡ i + 1 + length w = omega arith in
        ap (to s) k ∙ none_there w rest (i + 1) (first_behind s i b (w ++ rest) d) (omega (arith, z)) ∙ passed_by i b (w ++ rest) d p)
        (λ p. absurd (omega (arith, z, ap off p)))

    found_step : (w rest : List ℕ) (i b : ℕ) (d : drop i s ≡ b ∷ (w ++ rest)) → (0 < shown w → (first w < length w) × (i + 1 + first w ≡ to s (i + 1))) → (q : Bool) → goes b ≡ q
        → 0 < shown w * 2 ^ 8 + off q → (chosen q (suc (first w)) 0 < suc (length w)) × (i + chosen q (suc (first w)) 0 ≡ to s i)
    found_step w rest i b d ih true p o =
        let y = ih (omega (arith, o)) in
        (omega (arith, y.0), (let k : i + suc (first w) ≡ i + 1 + first w = omega arith in k) ∙ y.1 ∙ passed_by i b (w ++ rest) d p)
    found_step w rest i b d ih false p o = (omega arith, (let k : i + 0 ≡ i = omega arith in k) ∙ found_at i b (w ++ rest) d p)

    found_there : (w rest : List ℕ) (i : ℕ) → drop i s ≡ w ++ rest → 0 < shown w → (first w < length w) × (i + first w ≡ to s i)
    unfolding lanes
    found_there [] rest i d o = absurd (omega (arith, o))
    found_there (b ∷ w) rest i d o = found_step w rest i b d (found_there w rest (i + 1) (first_behind s i b (w ++ rest) d)) (goes b) refl o

  module _ (answers : ℕ → ℕ → Type 0) (show : Shows goes answers) where
    -- ---- fewer than eight bytes are followed by zeros
    zeros_shown : (m : ℕ) → shown (replicate m 0) ≡ 0
    unfolding lanes
    zeros_shown zero = refl
    zeros_shown (suc m) = ap₂ (λ (k : ℕ) (q : Bool). k * 2 ^ 8 + off q) (zeros_shown m) show.nought

    padded_shown : (w : List ℕ) (m : ℕ) → shown (w ++ replicate m 0) ≡ shown w
    unfolding lanes
    padded_shown [] m = zeros_shown m
    padded_shown (b ∷ w) m = ap (λ (k : ℕ). k * 2 ^ 8 + off (goes b)) (padded_shown w m)

    module _ (x : ℕ) (w : List ℕ) (l : Laned w x) (h : length w ≤ 8) (here : ℕ) (e : answers x here) where
      padded_is : here ≡ shown (padded w)
      padded_is = show.lanewise (padded w) here (padded_eight w h) (padded_under x w l) (subst (λ (y : ℕ). answers y here) (padded_same x w l) e)

      shown_is : here ≡ shown w
      unfolding padded
      shown_is = padded_is ∙ padded_shown w (8 - length w)

      step_is : first w < length w → count_trailing_zeros 64 here / 8 ≡ first w
      unfolding padded
      step_is y =
          let n : 8 * length (padded w) ≡ 64 = ap (λ (k : ℕ). 8 * k) (padded_eight w h) in
          ap₂ (λ (k z : ℕ). count_trailing_zeros k z / 8) (sym n) padded_is ∙ zeros_first (padded w) ∙ first_on w (replicate (8 - length w) 0) y

-- ---- a loop's steps
module _ {goes : ℕ → Bool} {to : List ℕ → ℕ → ℕ} {answers : ℕ → ℕ → Type 0} (pass : Passes goes to) (show : Shows goes answers) (s : List ℕ) (i x here : ℕ) (l : Laned (take 8 (drop i s)) x) (e : answers x here) (o : i < length s) where
  abbrev block : List ℕ
  block = take 8 (drop i s)

  parts : drop i s ≡ block ++ drop 8 (drop i s)
  parts = sym (take-append-drop 8 (drop i s))

  size : length block ≤ 8
  size = omega (arith, length-take 8 (drop i s))

  here_is : here ≡ shown goes block
  here_is = shown_is goes answers show x block l size here e

  none_here : here ≡ 0 → to s (i + length block) ≡ to s i
  none_here z = none_there goes to pass s block (drop 8 (drop i s)) i parts (sym here_is ∙ z)

  pub pass_further : here ≡ 0 → i + 8 ≤ length s → to s (i + 8) ≡ to s i
  pass_further z h =
      let n : length block ≡ 8 = omega (arith, length-take 8 (drop i s), length-drop i s) in
      ap (λ (k : ℕ). to s (i + k)) (sym n) ∙ none_here z

  pub pass_nowhere : here ≡ 0 → length s ≤ i + 8 → length s ≡ to s i
  pass_nowhere z h =
      let n : i + length block ≡ length s = omega (arith, length-take 8 (drop i s), length-drop i s) in
      pass.out s (length s) (omega arith) ∙ ap (to s) (sym n) ∙ none_here z

  there : (here ≡ 0 → ⊥) → (first goes block < length block) × (i + first goes block ≡ to s i)
  there z = found_there goes to pass s block (drop 8 (drop i s)) i parts (omega (arith, z, here_is))

  pub pass_here : (here ≡ 0 → ⊥) → (i + count_trailing_zeros 64 here / 8 ≡ to s i) × (i + count_trailing_zeros 64 here / 8 ≤ length s)
  pass_here z =
      let y = there z in
      let q = step_is goes answers show x block l size here e y.0 in
      (ap (λ (k : ℕ). i + k) q ∙ y.1, omega (arith, q, y.0, length-take 8 (drop i s), length-drop i s))

-- ---- what a search answers
module _ (k : Run) (s : List ℕ) (at : ℕ) {r : Result ℕ ℕ} (h : Searched k s at r) where
  pub searched_ok : (found : ℕ) → r ≡ Ok found → found ≡ run_at k s at
  searched_ok found e = subst (Searched k s at) e h

  pub searched_err : (last : ℕ) → r ≡ Err last → (run_at k s last ≡ run_at k s at) × (length s < last + 8)
  searched_err last e = subst (Searched k s at) e h
