-- Hexadecimal digits at the start of some bytes: that they are the number of the word that they make. Assumes nothing.
use Rattle.std.specs.Prelude.{Some}
use Prim.Native.Nat.{ℕ, suc, zero, ◌+◌, ◌≤◌, ◌<◌}
use native.Mathlib.Omega.{arith}
use mathlib.Core.Path.{◌≡◌, sym, ap, subst, ◌∙◌}
use mathlib.Core.List.{List, [], ◌∷◌, ◌++◌}
use borrow.Author.Tests.{le-leb, leb-true}
use lib.Dec.{leb}
use lib.ListN.{length, take, get_or, length-append}
use lib.Seq.{take-append_seam}
use Rattle.facts.proofs.Branch.{split, either}
use Rattle.digits.specs.declared.quick.Hexes.{Hexes}
use Rattle.digits.specs.Digits.{within, digit_of, Digits, digits_in, Figures}
use Rattle.digits.specs.Hexes.{hexes_by, hexes_of}
use Rattle.digits.proofs.Digits.{within_is, Run, digits_in_part, digits_in_exact, Begins, NoDigit}
use Rattle.numbers.specs.Whole.{hexadecimal_of}
use Rattle.numbers.proofs.Wholes.{whole_of_exact, whole_of_exactly}

figure_at_lem : (run rest : List ℕ) (i : ℕ) → Figures 16 run → i < length run → digit_of (get_or (run ++ rest) i 0) < 16
figure_at_lem [] rest i f h = absurd (omega arith)
figure_at_lem (b ∷ run) rest zero f h = f.0
figure_at_lem (b ∷ run) rest (suc i) f h = figure_at_lem run rest i f.1 (omega arith)

pub record Worded (w : List ℕ) (h : Hexes) : Type 0 where
  pub within : h.count ≤ length w
  pub number : hexadecimal_of (take h.count w) ≡ Some h.value
  pub digit : (i : ℕ) → i < h.count → digit_of (get_or w i 0) < 16

run_worded : (w : List ℕ) (d : Digits) → Run 16 w 0 0 d → 1 ≤ d.count → d.count ≤ 8 → Worded w (hexes_by d)
run_worded w d r low high =
    let long : d.count ≡ length r.run = omega (arith, r.count) in
    let word : take d.count w ≡ r.run = ap (λ n. take n w) long ∙ ap (λ l. take (length r.run) l) r.parted ∙ take-append_seam r.run d.rest in
    record {
      within = omega (arith, long, ap length r.parted, length-append r.run d.rest);
      number = ap (λ l. hexadecimal_of l) word ∙ whole_of_exact 16 8 r.run r.figures (omega (arith, long, low)) (omega (arith, long, high)) ∙ ap Some (sym r.value);
      digit = λ i h. subst (λ l. digit_of (get_or l i 0) < 16) (sym r.parted) (figure_at_lem r.run d.rest i r.figures (omega (arith, h, long)));
    }

-- digits that are read are the number of the word that they make
pub hexes_worded : (w : List ℕ) → 1 ≤ (hexes_of w).count → Worded w (hexes_of w)
unfolding hexes_of
hexes_worded w h =
    split (leb (length w) 8)
    (λ p. let e : hexes_of w ≡ hexes_by (digits_in 16 0 0 w) = rw (p, hexes_of) in
    let r = digits_in_part 16 w 0 0 in
    let low : 1 ≤ (digits_in 16 0 0 w).count = omega (arith, h, ap (λ (y : Hexes). y.count) e) in
    subst (Worded w) (sym e) (run_worded w (digits_in 16 0 0 w) r low (omega (arith, leb-true (length w) 8 p, r.count, ap length r.parted, length-append r.run (digits_in 16 0 0 w).rest))))
    (λ p. absurd (let e : hexes_of w ≡ record { value = 0; count = 0 } = rw (p, hexes_of) in omega (arith, h, ap (λ (y : Hexes). y.count) e)))

-- a hexadecimal word at the start of the bytes is what is read
pub hexes_all : (w rest : List ℕ) (v : ℕ) → hexadecimal_of w ≡ Some v → Begins (NoDigit 16) rest → length (w ++ rest) ≤ 8 → hexes_of (w ++ rest) ≡ record { value = v; count = length w }
unfolding hexes_of
hexes_all w rest v e b h =
    let is = (whole_of_exactly 16 8 w v).0 e in
    let zero_more : 0 + length w ≡ length w = omega arith in
    rw (le-leb (length (w ++ rest)) 8 h, hexes_of)
    (ap hexes_by (digits_in_exact 16 w rest 0 0 is.figures b) ∙ (λ i. record { value = sym is.value i; count = zero_more i }))

-- a digit is a byte from `0` on
pub digit_high : (b : ℕ) → digit_of b < 16 → 48 ≤ b
unfolding digit_of
digit_high b =
    either Goal (within 48 57 b) (λ p _. (within_is 48 57 b p).0)
    (λ _. either Goal (within 65 70 b) (λ p _. omega (arith, within_is 65 70 b p))
    (λ _. either Goal (within 97 102 b) (λ p _. omega (arith, within_is 97 102 b p)) (λ _ h. absurd (omega arith))))
  where
    Goal : ℕ → Type 0
    Goal d = d < 16 → 48 ≤ b
