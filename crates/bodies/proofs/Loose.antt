-- Readers whose things are forgotten, one behind the other. Assumes nothing.
use Rattle.std.specs.Prelude.{Result, Ok, Err}
use Prim.Native.Nat.{ℕ, zero, suc, ◌≤◌}
use native.Mathlib.Omega.{arith}
use mathlib.Core.Path.{◌≡◌, refl, sym, ◌∙◌, ap}
use mathlib.Core.List.{List, ◌∷◌}
use mathlib.Core.Bool.{Bool, true, false, ◌&&◌}
use lib.Dec.{leb}
use lib.ListN.{length}
use Rattle.facts.specs.declared.Taken.{Taken}
use Rattle.tokens.specs.Listed.{Tok, tokens_from}
use Rattle.layout.specs.declared.Refusal.{Refusal}
use Rattle.layout.specs.Reading as R
use Rattle.layout.specs.Reading.{Got, got, bad, Reader, ◌>>=◌, ◌>>◌, next, pure, check, hex_word, left_of, right_of, rows_of, enclosed_of}
use Rattle.layout.specs.Sections.{hex_of, element_of, facing_of, mixed_of}
use Rattle.spots.specs.declared.Bad.{Bad}
use Rattle.spots.specs.declared.Read.{Read}
use Rattle.spots.specs.Heads.{read_for}
use Rattle.spots.specs.Pasts.{TakenAt}
use Rattle.steps.specs.Views.{NumAt}
use Rattle.steps.proofs.Chain.{taken_no, taken_to, taken_ahead}
use Rattle.bodies.specs.Bodies.{forget, hex_unit, listed_of, NotBefore, LooseAt}
use Rattle.bodies.proofs.Forgotten.{dropped}

pub later : (at n : ℕ) (y : Result ℕ Bad) → at ≤ n → NotBefore n y → NotBefore at y
later at n (Ok m) l h = omega arith
later at n (Err b) l h = tt

-- ---- what the code owes behind a thing that was taken
module _ (s : List ℕ) (at : ℕ) where
  module _ {T B : Type 0} {v : T → B} {g : Got B} (f : B → Reader Unit) {r : Result (Taken T) Bad} (h : TakenAt v s at r g) where
    pub read_no : (b : Bad) → r ≡ Err b → LooseAt s at (Err b) (next g f)
    read_no b q = record { says = taken_no s at f h b q; from = tt }

    pub read_to : (t : Taken T) → r ≡ Ok t → (y : Result ℕ Bad) → LooseAt s t.next y (f (v t.value) (tokens_from s t.next)) → LooseAt s at y (next g f)
    read_to t q y k = record { says = k.says ∙ taken_to s at f h t q; from = later at t.next y (omega (arith, taken_ahead s at t h q)) k.from }

  -- the same answer by an equal reader
  pub loose_is : {g k : Got Unit} {p : Result ℕ Bad} → g ≡ k → LooseAt s at p g → LooseAt s at p k
  loose_is e h = record { says = h.says ∙ e; from = h.from }

  -- ---- a number from lo to hi
  module _ (lo hi : ℕ) {r : Result (Taken Read) Bad} (h : NumAt s at r (hex_word (length s) (tokens_from s at))) where
    module _ (w : Taken Read) (q : r ≡ Ok w) (t : Bool) (e : t ≡ (leb lo w.value.value && leb w.value.value hi)) where
      abbrev checked : Got R.Read
      checked = check (leb lo w.value.value && leb w.value.value hi) Refusal.Type w.value.at (pure (read_for w.value)) (tokens_from s w.next)

      pub listed_in : t ≡ true → NumAt s at (Ok w) (listed_of (length s) lo hi (tokens_from s at))
      listed_in z =
          let y : ◌≡◌ {A = Got R.Read} (got (read_for w.value) (tokens_from s w.next)) checked = rw (sym e ∙ z) in
          record { says = y ∙ taken_to s at _ h w q; ahead = taken_ahead s at w h q }

-- ---- forgetting and going on
pub forget_next : {A B : Type 0} (g : Got A) (f : A → Reader B) (k : Reader Unit) → ((a : A) (us : List Tok) → k us ≡ forget (f a us)) → next (forget g) (λ u. k) ≡ forget (next g f)
forget_next (got a us) f k e = e a us
forget_next (bad w o) f k e = refl

pub kept : {A B : Type 0} (g : Got A) (F : A → B) → forget g ≡ forget (next g (λ a. pure (F a)))
kept (got a us) F = refl
kept (bad w o) F = refl

check_kept : {A B : Type 0} (b : Bool) (w : Refusal) (o : ℕ) (a : A) (F : A → B) (us : List Tok) → forget (check b w o (pure a) us) ≡ forget (check b w o (pure (F a)) us)
check_kept true w o a F us = refl
check_kept false w o a F us = refl

check_on : {A B : Type 0} (b : Bool) (w : Refusal) (o : ℕ) (a : A) (f : A → Reader B) (us : List Tok) → next (check b w o (pure a) us) (λ v vs. forget (f v vs)) ≡ forget (check b w o (f a) us)
check_on true w o a f us = refl
check_on false w o a f us = refl

module _ (size : ℕ) where
  rows_by_lem : {A : Type 0} (r : Reader A) (n : ℕ) → ((us : List Tok) → forget (rows_of size (λ ws. forget (r ws)) n us) ≡ forget (rows_of size r n us)) → (g : Got A)
      → forget (next (forget g) (λ a us. next (rows_of size (λ ws. forget (r ws)) n us) (λ xs. pure (a ∷ xs)))) ≡ forget (next g (λ a us. next (rows_of size r n us) (λ xs. pure (a ∷ xs))))
  rows_by_lem r n h (got a us) = dropped tt (rows_of size (λ ws. forget (r ws)) n us) ∙ h us ∙ sym (dropped a (rows_of size r n us))
  rows_by_lem r n h (bad w o) = refl

  pub rows_forget : {A : Type 0} (r : Reader A) (n : ℕ) (ts : List Tok) → forget (rows_of size (λ us. forget (r us)) n ts) ≡ forget (rows_of size r n ts)
  unfolding rows_of
  rows_forget r zero ts = refl
  rows_forget r (suc n) ts = rows_by_lem r n (rows_forget r n) (r ts)

  -- ---- rows
  pub hex_is : (ts : List Tok) → forget (hex_word size ts) ≡ forget (hex_of size ts)
  unfolding hex_of
  hex_is ts = kept (hex_word size ts) (λ (v : R.Read). v.value)

  one_by : {A : Type 0} (F : ℕ → A) (g : Got ℕ) → forget (next g (λ a us. next (rows_of size (hex_of size) 0 us) (λ xs. pure (a ∷ xs)))) ≡ forget (next g (λ l. pure (F l)))
  unfolding rows_of
  one_by F (got a us) = refl
  one_by F (bad w o) = refl

  two_by_lem : {A : Type 0} (F : ℕ → ℕ → A) (g : Got ℕ)
      → forget (next g (λ a us. next (rows_of size (hex_of size) 1 us) (λ xs. pure (a ∷ xs)))) ≡ forget (next g (λ r us. next (hex_of size us) (λ l. pure (F r l))))
  unfolding rows_of
  two_by_lem F (got a us) = dropped a (rows_of size (hex_of size) 1 us) ∙ one_by (F a) (hex_of size us)
  two_by_lem F (bad w o) = refl

  two_is : {A : Type 0} (F : ℕ → ℕ → A) (us : List Tok)
      → forget (rows_of size (hex_unit size) 2 us) ≡ forget (next (hex_of size us) (λ r vs. next (hex_of size vs) (λ l. pure (F r l))))
  unfolding rows_of
  two_is F us = rows_forget (hex_of size) 2 us ∙ two_by_lem F (hex_of size us)

  pub facing_is : (n : ℕ) (ts : List Tok)
      → next (forget (rows_of size (hex_unit size) n ts)) (λ u us. forget (rows_of size (hex_unit size) 2 us)) ≡ forget (facing_of size n ts)
  unfolding facing_of
  facing_is n ts =
      ap (λ g. next g (λ u us. forget (rows_of size (hex_unit size) 2 us))) (rows_forget (hex_of size) n ts)
      ∙ forget_next (rows_of size (hex_of size) n ts) _ _ (λ ns us. two_is (λ r l. record { corners = ns; right = r; left = l }) us)

  element_by_lem : (g : Got R.Read)
      → forget (next g (λ e. check (leb 1 e.value && leb e.value 6) Refusal.Type e.at (pure e))) ≡ forget (next g (λ e. check (leb 1 e.value && leb e.value 6) Refusal.Type e.at (pure e.value)))
  element_by_lem (got e us) = check_kept (leb 1 e.value && leb e.value 6) Refusal.Type e.at e (λ (v : R.Read). v.value) us
  element_by_lem (bad w o) = refl

  pub element_is : (ts : List Tok) → forget (listed_of size 1 6 ts) ≡ forget (element_of size ts)
  unfolding element_of
  element_is ts = element_by_lem (hex_word size ts)

  mixed_by : (g : Got R.Read)
      → next (next g (λ e. check (leb 2 e.value && leb e.value 4) Refusal.Type e.at (pure e))) (λ (v : R.Read) us. forget (facing_of size v.value us))
      ≡ forget (next g (λ e. check (leb 2 e.value && leb e.value 4) Refusal.Type e.at (facing_of size e.value)))
  mixed_by (got e us) = check_on (leb 2 e.value && leb e.value 4) Refusal.Type e.at e (λ (v : R.Read). facing_of size v.value) us
  mixed_by (bad w o) = refl

  pub mixed_is : (ts : List Tok) → next (listed_of size 2 4 ts) (λ (v : R.Read) us. forget (facing_of size v.value us)) ≡ forget (mixed_of size ts)
  unfolding mixed_of
  mixed_is ts = mixed_by (hex_word size ts)

  -- ---- enclosed rows
  -- behind its `(`
  abbrev pub closed_of : {A : Type 0} → Reader A → ℕ → Reader (List A)
  closed_of r n = do
    xs ← rows_of size r n
    right_of size
    pure xs

  module _ {A : Type 0} (r : Reader A) (n : ℕ) where
    closed_is : (ts : List Tok) → next (forget (rows_of size r n ts)) (λ u us. forget (right_of size us)) ≡ forget (closed_of r n ts)
    closed_is ts = forget_next (rows_of size r n ts) _ _ (λ xs us. kept (right_of size us) (λ o. xs))

  module _ {A : Type 0} (r : Reader A) (n : ℕ) where
    closed_forget : (ts : List Tok) → forget (closed_of (λ us. forget (r us)) n ts) ≡ forget (closed_of r n ts)
    closed_forget ts =
        sym (closed_is (λ us. forget (r us)) n ts) ∙ ap (λ g. next g (λ u us. forget (right_of size us))) (rows_forget r n ts) ∙ closed_is r n ts

    enclosed_by : (g : Got Unit) → forget (next g (λ u. closed_of (λ us. forget (r us)) n)) ≡ forget (next g (λ u. closed_of r n))
    enclosed_by (got u us) = closed_forget us
    enclosed_by (bad w o) = refl

    pub enclosed_forget : (ts : List Tok) → forget (enclosed_of size (λ us. forget (r us)) n ts) ≡ forget (enclosed_of size r n ts)
    enclosed_forget ts = enclosed_by (left_of size ts)
