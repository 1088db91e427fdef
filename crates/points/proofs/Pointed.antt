-- Rows of pairs stored as they are read: what each of the storing steps leaves, and what the loops keep. Assumes nothing.
use Prim.Native.Nat.{ℕ, suc, ◌+◌, ◌-◌, ◌≤◌, ◌<◌, ◌*◌}
use native.Mathlib.Omega.{arith}
use mathlib.Core.Path.{◌≡◌, refl, sym, ◌∙◌, ap, subst}
use mathlib.Core.List.{List, [], ◌∷◌, ◌++◌, map}
use lib.IntN.{ℤ, pos}
use lib.ListN.{length, set, replicate}
use lib.Seq.{sets}
use Rattle.facts.proofs.Sets.{sets_out}
use Rattle.mesh.specs.Rows.{node_words}
use Rattle.tokens.specs.Listed.{Tok, tokens_from}
use Rattle.layout.specs.Items as Items
use Rattle.layout.specs.Rows.{joined}
use Rattle.layout.specs.Reading.{Got, got, bad, pair_word}
use Rattle.layout.proofs.Formed.{pad_length}
use Rattle.spots.specs.declared.Bad.{Bad}
use Rattle.std.specs.Prelude.{Result, Ok, Err}
use Rattle.facts.specs.declared.Taken as facts
use Rattle.decimals.specs.declared.decimal.Decimal.{Decimal}
use Rattle.steps.specs.Views.{pair_for, pair_view, PairAt}
use Rattle.again.specs.Again.{many}
use Rattle.again.proofs.Puts.{pad_is, repeated}
use Rattle.again.proofs.Many.{Going, many_length, going_start, going_more, single_more, single_end, row_end}
use Rattle.points.specs.Points.{Both, set_pairs, origin, taken_by, pair_taken, pairs_taken, point_taken, points_taken, coordinates_in, Took, Puts}

both_is : {m n e f : List ℤ} → m ≡ n → e ≡ f → ◌≡◌ {A = Both} (record { mantissas = m; exponents = e }) (record { mantissas = n; exponents = f })
both_is {m = m} {f = f} p q = ap (λ y. record { mantissas = m; exponents = y }) q ∙ ap (λ x. record { mantissas = x; exponents = f }) p

mapped_behind : (f : Items.Pair → ℤ) (xs ys : List Items.Pair) (l : List ℤ) (k j : ℕ) → j ≡ k + length xs → sets (sets l k (map f xs)) j (map f ys) ≡ sets l k (map f (xs ++ ys))
mapped_behind f [] ys l k j e = let z : j ≡ k = omega arith in rw z
mapped_behind f (x ∷ xs) ys l k j e = mapped_behind f xs ys (set l k (f x)) (suc k) j (omega arith)

pub no_pairs : (o : Both) (k : ℕ) → set_pairs o k [] ≡ o
no_pairs o k = refl

pub pairs_behind : (xs ys : List Items.Pair) (o : Both) (k j : ℕ) → j ≡ k + length xs → set_pairs (set_pairs o k xs) j ys ≡ set_pairs o k (xs ++ ys)
pairs_behind xs ys o k j e = both_is (mapped_behind (λ p. p.mantissa) xs ys o.mantissas k j e) (mapped_behind (λ p. p.exponent) xs ys o.exponents k j e)

-- ---- one coordinate
module _ (s : List ℕ) (at : ℕ) {r : Result (facts.Taken Decimal) Bad} (h : PairAt s at r (pair_word (length s) (tokens_from s at))) where
  took_by : (g : Got Items.Pair) → g ≡ pair_word (length s) (tokens_from s at) → (c : facts.Taken Decimal) → Took s (taken_by g (tokens_from s at)) c → Took s (pair_taken (length s) (tokens_from s at)) c
  unfolding pair_taken
  took_by g e c t = subst (λ y. Took s (taken_by y (tokens_from s at)) c) e t

  pub took_err : (b : Bad) → r ≡ Err b → Took s (pair_taken (length s) (tokens_from s at)) (record { value = record { mantissa = pos 0; exponent = pos 0 }; next = at })
  took_err b q = took_by (bad b.why b.offset) (ap (pair_view s) (sym q) ∙ h.says) _ (refl, refl)

  pub took_ok : (t : facts.Taken Decimal) → r ≡ Ok t → Took s (pair_taken (length s) (tokens_from s at)) t
  took_ok t q = took_by (got (pair_for t.value) (tokens_from s t.next)) (ap (pair_view s) (sym q) ∙ h.says) _ (refl, refl)

pub pair_put : (s : List ℕ) (ts : List Tok) (c : facts.Taken Decimal) (k : ℕ) (old : Both) {new : Both} → Took s (pair_taken (length s) ts) c → new ≡ set_pairs old k (pair_for c.value ∷ []) → Puts s (pairs_taken (length s) 1 ts) k old new c.next
unfolding many
pair_put s ts c k old t e = (e ∙ ap (λ (y : Items.Pair). set_pairs old k (y ∷ [])) t.0, t.1)

-- ---- coordinates one behind the other
abbrev pub Pairing : List ℕ → ℕ → ℕ → ℕ → Both → ℕ → ℕ → ℕ → Both → Type 0
Pairing s at n k old c left i cur = Going set_pairs (pair_taken (length s)) (λ p. p ∷ []) (tokens_from s at) n k old (tokens_from s c) left i cur

module _ (s : List ℕ) (at n k : ℕ) (old : Both) where
  pub pairing_start : Pairing s at n k old at (k + n - k) k old
  pairing_start = going_start set_pairs no_pairs pairs_behind (pair_taken (length s)) (λ p. p ∷ []) (tokens_from s at) n k old (k + n - k) k (omega arith) refl

  module _ (c i : ℕ) (cur : Both) (g : Pairing s at n k old c (k + n - i) i cur) where
    pub pairing_more : (c' : ℕ) (cur' : Both) → i < k + n → Puts s (pairs_taken (length s) 1 (tokens_from s c)) i cur cur' c' → Pairing s at n k old c' (k + n - (i + 1)) (i + 1) cur'
    pairing_more c' cur' l h =
        single_more set_pairs no_pairs pairs_behind (pair_taken (length s)) (tokens_from s at) n k old (tokens_from s c) (k + n - i) i cur g (tokens_from s c') (k + n - (i + 1)) (i + 1) cur' (omega (arith, l)) refl h.1 h.0

    pub pairing_end : k + n ≤ i → Puts s (pairs_taken (length s) n (tokens_from s at)) k old cur c
    pairing_end l = single_end set_pairs no_pairs pairs_behind (pair_taken (length s)) (tokens_from s at) n k old (tokens_from s c) (k + n - i) i cur g (omega (arith, l))

-- ---- 0, 0
abbrev pub naught : List Items.Pair
naught = origin ∷ []

pub origins_are : (n : ℕ) → joined (replicate n naught) ≡ replicate n origin
origins_are n = repeated origin n

-- ---- nodes
pub point_put : (s : List ℕ) (ts : List Tok) (d k j to : ℕ) (old mid new : Both) → d ≤ node_words → j ≡ k + d → Puts s (pairs_taken (length s) d ts) k old mid to → new ≡ set_pairs mid j (replicate (3 - d) origin)
    → Puts s (point_taken (length s) d ts) k old new to
point_put s ts d k j to old mid new l i h q =
    let ps = (pairs_taken (length s) d ts).thing in
    let n : length ps ≡ d = many_length (pair_taken (length s)) d ts in (
      q ∙ ap (λ o. set_pairs o j (replicate (3 - d) origin)) h.0 ∙ pairs_behind ps (replicate (3 - d) origin) old k j (omega (arith, n))
          ∙ ap (λ m. set_pairs old k (ps ++ replicate (3 - m) origin)) (sym n) ∙ ap (set_pairs old k) (sym (pad_is node_words origin ps (omega (arith, n)))),
      h.1,
    )

abbrev pub Pointing : List ℕ → ℕ → ℕ → ℕ → ℕ → Both → ℕ → ℕ → Both → Type 0
Pointing s d at n k old c j cur = Going set_pairs (λ us. point_taken (length s) d us) (λ row. row) (tokens_from s at) n k old (tokens_from s c) (n - j) (k + j * 3) cur

module _ (s : List ℕ) (d at n k : ℕ) (old : Both) where
  pub pointing_start : Pointing s d at n k old at 0 old
  pointing_start = going_start set_pairs no_pairs pairs_behind (λ us. point_taken (length s) d us) (λ row. row) (tokens_from s at) n k old (n - 0) (k + 0 * 3) (omega arith) (omega arith)

  module _ (c j : ℕ) (cur : Both) (g : Pointing s d at n k old c j cur) where
    pub pointing_more : (c' : ℕ) (cur' : Both) → j < n → Puts s (point_taken (length s) d (tokens_from s c)) (k + j * 3) cur cur' c' → Pointing s d at n k old c' (j + 1) cur'
    pointing_more c' cur' l h =
        going_more set_pairs no_pairs pairs_behind (λ us. point_taken (length s) d us) (λ row. row) (tokens_from s at) n k old (tokens_from s c) (n - j) (k + j * 3) cur g (tokens_from s c') (n - (j + 1)) (k + (j + 1) * 3) cur'
        (omega (arith, l)) (omega (arith, pad_length node_words origin (pairs_taken (length s) d (tokens_from s c)).thing)) h.1 h.0

    pub pointing_end : n ≤ j → cur ≡ set_pairs old k (points_taken (length s) d n (tokens_from s at))
    unfolding points_taken
    pointing_end l = row_end set_pairs no_pairs pairs_behind (λ us. point_taken (length s) d us) (tokens_from s at) n k old (tokens_from s c) (n - j) (k + j * 3) cur g (omega (arith, l))

pub points_by : (size d w : ℕ) (n : ℕ) (ts : List Tok) (k : ℕ) (old : Both) {new : Both} → w ≡ coordinates_in d → new ≡ set_pairs old k (points_taken size w n ts) → new ≡ set_pairs old k (points_taken size (coordinates_in d) n ts)
points_by size d w n ts k old e h = h ∙ ap (λ y. set_pairs old k (points_taken size y n ts)) e

-- ---- behind the end of both nothing is stored
pub pairs_out : (ps : List Items.Pair) (ms es : List ℤ) (k : ℕ) → length ms ≤ k → length es ≤ k → ◌≡◌ {A = Both} (record { mantissas = ms; exponents = es }) (set_pairs (record { mantissas = ms; exponents = es }) k ps)
pairs_out ps ms es k p q = both_is (sym (sets_out (map (λ x. x.mantissa) ps) ms k p)) (sym (sets_out (map (λ x. x.exponent) ps) es k q))
