-- Rows of words, one behind the other, are words one behind the other, where none is kept. Assumes nothing.
use Prim.Native.Nat.{ℕ, zero, suc, ◌+◌, ◌*◌}
use native.Mathlib.Omega.{arith}
use native.Mathlib.Nat.{suc-mul, zero-mul}
use mathlib.Core.Path.{◌≡◌, refl, sym, ◌∙◌, ap}
use mathlib.Core.List.{List, ◌∷◌}
use Rattle.tokens.specs.Listed.{Tok}
use Rattle.layout.specs.Reading.{Got, got, bad, Reader, next, pure, pair_word, rows_of}
use Rattle.layout.specs.Sections.{facing_of}
use Rattle.bodies.specs.declared.rows.Row.{Row}
use Rattle.bodies.specs.Bodies.{forget, hex_unit, pair_unit, row_unit}
use Rattle.bodies.proofs.Forgotten.{dropped, rows_more, rows_stop, rows_none}
use Rattle.bodies.proofs.Loose.{rows_forget, facing_is}

module _ (size : ℕ) (r : Reader Unit) where
  abbrev many : ℕ → Reader Unit
  many n ts = forget (rows_of size r n ts)

  abbrev Plus : ℕ → ℕ → List Tok → Type 0
  Plus a b ts = next (many a ts) (λ u us. many b us) ≡ many (a + b) ts

  plus_by : (a b : ℕ) (ts : List Tok) (g : Got Unit) → r ts ≡ g → ((us : List Tok) → Plus a b us) → Plus (suc a) b ts
  plus_by a b ts (got u us) e h =
      let z : suc (a + b) ≡ suc a + b = omega arith in
      ap (λ g. next g (λ u us. many b us)) (sym (rows_more size r a ts us e)) ∙ h us ∙ rows_more size r (a + b) ts us e ∙ ap (λ n. many n ts) z
  plus_by a b ts (bad w o) e h =
      let z : suc (a + b) ≡ suc a + b = omega arith in
      ap (λ g. next g (λ u us. many b us)) (sym (rows_stop size r a ts w o e)) ∙ rows_stop size r (a + b) ts w o e ∙ ap (λ n. many n ts) z

  -- a of them and then b
  pub rows_plus : (a b : ℕ) (ts : List Tok) → Plus a b ts
  rows_plus zero b ts = let z : 0 + b ≡ b = omega arith in ap (λ g. next g (λ u us. many b us)) (sym (rows_none size r ts)) ∙ ap (λ n. many n ts) (sym z)
  rows_plus (suc a) b ts = plus_by a b ts (r ts) refl (rows_plus a b)

  first_by : (n : ℕ) (R : Reader Unit) (g : Got Unit) → forget (next g (λ a us. next (rows_of size R n us) (λ xs. pure (a ∷ xs)))) ≡ next g (λ u us. forget (rows_of size R n us))
  first_by n R (got u us) = dropped u (rows_of size R n us)
  first_by n R (bad w o) = refl

  -- n rows of k of them
  pub rows_flat : (k n : ℕ) (ts : List Tok) → forget (rows_of size (many k) n ts) ≡ many (n * k) ts
  unfolding rows_of
  rows_flat k zero ts = ap (λ m. many m ts) (sym (zero-mul k))
  rows_flat k (suc n) ts =
      first_by n (many k) (many k ts) ∙ (λ i. next (many k ts) (λ u us. rows_flat k n us i)) ∙ rows_plus k (n * k) ts
      ∙ ap (λ m. many m ts) (let z : k + n * k ≡ suc n * k = omega (arith, suc-mul n k) in z)

module _ (size : ℕ) where
  abbrev hexes : ℕ → Reader Unit
  hexes n ts = forget (rows_of size (hex_unit size) n ts)

  abbrev decimals : ℕ → Reader Unit
  decimals n ts = forget (rows_of size (pair_unit size) n ts)

  -- a face is its nodes and two cells
  pub facing_words : (k : ℕ) (ts : List Tok) → hexes (k + 2) ts ≡ forget (facing_of size k ts)
  facing_words k ts = sym (rows_plus size (hex_unit size) k 2 ts) ∙ facing_is size k ts

  pub facings_flat : (k n : ℕ) (ts : List Tok) → hexes (n * (k + 2)) ts ≡ forget (rows_of size (row_unit size (Row.Facing k)) n ts)
  facings_flat k n ts =
      sym (rows_flat size (hex_unit size) (k + 2) n ts) ∙ ap (λ (R : Reader Unit). forget (rows_of size R n ts)) (λ i us. facing_words k us i)

  pub points_flat : (d n : ℕ) (ts : List Tok) → decimals (n * d) ts ≡ forget (rows_of size (row_unit size (Row.Point d)) n ts)
  points_flat d n ts =
      sym (rows_flat size (pair_unit size) d n ts) ∙ ap (λ (R : Reader Unit). forget (rows_of size R n ts)) (λ i us. rows_forget size (pair_word size) d us i)
