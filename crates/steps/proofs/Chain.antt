-- A reader that reads one thing and goes on with another: what the code owes at each end. Assumes nothing.
use Rattle.std.specs.Prelude.{Result, Ok, Err}
use Prim.Native.Nat.{ℕ, ◌≤◌, ◌<◌}
use native.Mathlib.Omega.{arith}
use mathlib.Core.Path.{◌≡◌, sym, ◌∙◌, ap}
use mathlib.Core.List.{List}
use lib.ListN.{length}
use Rattle.facts.specs.declared.Taken.{Taken}
use Rattle.tokens.specs.Listed.{tokens_from}
use Rattle.layout.specs.Reading.{Got, got, bad, Reader, next, pure}
use Rattle.spots.specs.declared.Bad.{Bad}
use Rattle.spots.specs.Pasts.{past_view, PastAt, taken_view, TakenAhead, TakenAt}

-- ---- any reader behind a thing that was read
module _ {A : Type 0} (s : List ℕ) (at : ℕ) where
  module _ {g : Got Unit} {r : Result ℕ Bad} (f : Unit → Reader A) (h : PastAt s at r g) where
    pub past_no : (b : Bad) → r ≡ Err b → bad b.why b.offset ≡ next g f
    past_no b q = ap (λ y. next y f) (ap (past_view s) (sym q) ∙ h.says)

    pub past_to : (n : ℕ) → r ≡ Ok n → f tt (tokens_from s n) ≡ next g f
    past_to n q = ap (λ y. next y f) (ap (past_view s) (sym q) ∙ h.says)

  module _ {T B : Type 0} {v : T → B} {g : Got B} {r : Result (Taken T) Bad} (f : B → Reader A) (h : TakenAt v s at r g) where
    pub taken_no : (b : Bad) → r ≡ Err b → bad b.why b.offset ≡ next g f
    taken_no b q = ap (λ y. next y f) (ap (taken_view v s) (sym q) ∙ h.says)

    pub taken_to : (t : Taken T) → r ≡ Ok t → f (v t.value) (tokens_from s t.next) ≡ next g f
    taken_to t q = ap (λ y. next y f) (ap (taken_view v s) (sym q) ∙ h.says)

module _ (s : List ℕ) (at : ℕ) where
  pub past_ahead : {g : Got Unit} {r : Result ℕ Bad} (n : ℕ) → PastAt s at r g → r ≡ Ok n → (at < n) × (n ≤ length s)
  past_ahead n h q = rw q at h.ahead

  pub taken_ahead : {T B : Type 0} {v : T → B} {g : Got B} {r : Result (Taken T) Bad} (t : Taken T) → TakenAt v s at r g → r ≡ Ok t → (at < t.next) × (t.next ≤ length s)
  taken_ahead t h q = rw q at h.ahead

-- ---- the same, of an answer that has a value and the place behind it
module _ {U C : Type 0} (w : U → C) (s : List ℕ) where
  pub later : (at n : ℕ) (y : Result (Taken U) Bad) → at ≤ n → TakenAhead n s y → TakenAhead at s y
  later at n (Ok t) l p = omega arith
  later at n (Err b) l p = tt

  module _ (at : ℕ) {g : Got Unit} {r : Result ℕ Bad} (f : Unit → Reader C) (h : PastAt s at r g) where
    pub open_no : (b : Bad) → r ≡ Err b → TakenAt w s at (Err b) (next g f)
    open_no b q = record { says = past_no s at f h b q; ahead = tt }

    pub open_to : (n : ℕ) → r ≡ Ok n → {y : Result (Taken U) Bad} → TakenAt w s n y (f tt (tokens_from s n)) → TakenAt w s at y (next g f)
    open_to n q {y = y} k = record { says = k.says ∙ past_to s at f h n q; ahead = later at n y (omega (arith, past_ahead s at n h q)) k.ahead }

  module _ (at : ℕ) {T B : Type 0} {v : T → B} {g : Got B} {r : Result (Taken T) Bad} (f : B → Reader C) (h : TakenAt v s at r g) where
    pub then_no : (b : Bad) → r ≡ Err b → TakenAt w s at (Err b) (next g f)
    then_no b q = record { says = taken_no s at f h b q; ahead = tt }

    pub then_to : (t : Taken T) → r ≡ Ok t → {y : Result (Taken U) Bad} → TakenAt w s t.next y (f (v t.value) (tokens_from s t.next)) → TakenAt w s at y (next g f)
    then_to t q {y = y} k = record { says = k.says ∙ taken_to s at f h t q; ahead = later at t.next y (omega (arith, taken_ahead s at t h q)) k.ahead }

  -- where nothing more is read
  pub then_last : (at : ℕ) {T B : Type 0} {v : T → B} {g : Got B} {r : Result (Taken T) Bad} (m : B → C) → TakenAt v s at r g → (t : Taken T) → r ≡ Ok t → (u : U) → w u ≡ m (v t.value)
      → TakenAt w s at (Ok (record { value = u; next = t.next })) (next g (λ a. pure (m a)))
  then_last at m h t q u e = record { says = ap (λ c. got c (tokens_from s t.next)) e ∙ taken_to s at (λ a. pure (m a)) h t q; ahead = taken_ahead s at t h q }
