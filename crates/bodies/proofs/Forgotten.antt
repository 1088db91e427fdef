-- Rows judged one behind the other. Assumes nothing.
use Rattle.std.specs.Prelude.{Result, Ok, Err}
use Prim.Native.Nat.{ℕ, suc, ◌-◌, ◌≤◌, ◌<◌}
use native.Mathlib.Omega.{arith}
use mathlib.Core.Path.{◌≡◌, refl, sym, ◌∙◌, ap}
use mathlib.Core.List.{List, ◌∷◌}
use lib.ListN.{length}
use Rattle.facts.specs.declared.Taken.{Taken}
use Rattle.tokens.specs.Listed.{Tok, tokens_from}
use Rattle.layout.specs.declared.Refusal.{Refusal}
use Rattle.layout.specs.Reading as R
use Rattle.layout.specs.Reading.{Got, got, bad, Reader, next, rows_of}
use Rattle.spots.specs.declared.Bad.{Bad}
use Rattle.spots.specs.Pasts.{past_view, taken_view, TakenAt}
use Rattle.steps.proofs.Chain.{taken_ahead}
use Rattle.steps.proofs.Pairing.{Paired}
use Rattle.bodies.specs.Bodies.{forget, pair_unit, LooseAt}

-- ---- single words
module _ (s : List ℕ) (at : ℕ) where
  -- what was read and is not kept
  module _ {T A : Type 0} {v : T → A} {g : Got A} {r : Result (Taken T) Bad} (h : TakenAt v s at r g) where
    pub drop_no : (b : Bad) → r ≡ Err b → LooseAt s at (Err b) (forget g)
    drop_no b q = record { says = ap (λ y. forget (taken_view v s y)) (sym q) ∙ ap forget h.says; from = tt }

    pub drop_to : (t : Taken T) → r ≡ Ok t → LooseAt s at (Ok t.next) (forget g)
    drop_to t q = record { says = ap (λ y. forget (taken_view v s y)) (sym q) ∙ ap forget h.says; from = omega (arith, taken_ahead s at t h q) }

  -- a coordinate of which only its place is known
  pub decimal_went : (n : ℕ) → Paired s at n → LooseAt s at (Ok n) (pair_unit (length s) (tokens_from s at))
  decimal_went n p = drop_to p.pair (record { value = p.decimal; next = n }) refl

-- ---- n things, each by r
pub dropped : {A : Type 0} (a : A) (g : Got (List A)) → forget (next g (λ xs. R.pure (a ∷ xs))) ≡ forget g
dropped a (got xs us) = refl
dropped a (bad w o) = refl

module _ (size : ℕ) (r : Reader Unit) where
  pub rows_more : (n : ℕ) (ts us : List Tok) → r ts ≡ got tt us → forget (rows_of size r n us) ≡ forget (rows_of size r (suc n) ts)
  unfolding rows_of
  rows_more n ts us e = rw e (sym (dropped tt (rows_of size r n us)))

  pub rows_stop : (n : ℕ) (ts : List Tok) (w : Refusal) (o : ℕ) → r ts ≡ bad w o → bad w o ≡ forget (rows_of size r (suc n) ts)
  unfolding rows_of
  rows_stop n ts w o e = rw e

  pub rows_none : (ts : List Tok) → got tt ts ≡ forget (rows_of size r 0 ts)
  unfolding rows_of
  rows_none ts = refl

-- what is left of n rows, from c on, is what there was
pub record Going (s : List ℕ) (r : Reader Unit) (at n c left : ℕ) : Type 0 where
  pub from : at ≤ c
  pub same : forget (rows_of (length s) r left (tokens_from s c)) ≡ forget (rows_of (length s) r n (tokens_from s at))

module _ (s : List ℕ) (r : Reader Unit) (at n : ℕ) where
  pub going_start : Going s r at n at n
  going_start = record { from = omega arith; same = refl }

  module _ (c left : ℕ) (g : Going s r at n c left) where
    pub going_end : left ≤ 0 → LooseAt s at (Ok c) (forget (rows_of (length s) r n (tokens_from s at)))
    going_end l =
        let z : left ≡ 0 = omega arith in
        record { says = rows_none (length s) r (tokens_from s c) ∙ ap (λ k. forget (rows_of (length s) r k (tokens_from s c))) (sym z) ∙ g.same; from = g.from }

    module _ (l : 0 < left) (p : Result ℕ Bad) (h : LooseAt s c p (r (tokens_from s c))) where
      one : suc (left - 1) ≡ left
      one = omega arith

      pub going_stop : (b : Bad) → p ≡ Err b → LooseAt s at (Err b) (forget (rows_of (length s) r n (tokens_from s at)))
      going_stop b q =
          record {
            says = rows_stop (length s) r (left - 1) (tokens_from s c) b.why b.offset (sym h.says ∙ ap (past_view s) q)
                ∙ ap (λ k. forget (rows_of (length s) r k (tokens_from s c))) one ∙ g.same;
            from = tt;
          }

      pub going_more : (m : ℕ) → p ≡ Ok m → Going s r at n m (left - 1)
      going_more m q =
          let f : c ≤ m = rw q at h.from in
          record {
            from = omega (arith, g.from);
            same = rows_more (length s) r (left - 1) (tokens_from s c) (tokens_from s m) (sym h.says ∙ ap (past_view s) q)
                ∙ ap (λ k. forget (rows_of (length s) r k (tokens_from s c))) one ∙ g.same;
          }
