-- What is read of a coordinate word is what is written there: reading_of w ≡ is p exactly when Written w p. Assumes nothing.
use Rattle.std.specs.Prelude.{Option, Some, None}
use Prim.Native.Nat.{ℕ, ◌+◌, ◌≤◌}
use native.Mathlib.Omega.{arith}
use mathlib.Core.Path.{◌≡◌, refl, sym, ap, ◌∙◌}
use mathlib.Core.Logic.{◌↔◌}
use mathlib.Core.List.{List, [], ◌∷◌, ◌++◌, append-nil, append_assoc}
use mathlib.Core.Bool.{Bool}
use borrow.Author.Tests.{ne_eqb, eqb-false}
use lib.Dec.{eqb}
use lib.ListN.{length}
use lib.IntN.{ℤ}
use Rattle.facts.proofs.Branch.{either}
use Rattle.digits.specs.Digits.{digit_of, Digits, digits, digits_in, Figures, worth}
use Rattle.decimals.specs.Coordinate.{Signed, signed, sign_in, fraction_in, power_of, Reading, Parts, is, parts_of, reading_by, front_of, back_of, reading_of}
use Rattle.decimals.specs.Value.{SignText, PointText, plain, pointed, PowerText, Written}
use Rattle.digits.proofs.Digits.{NoDigit, digits_in_exact, digits_in_part, worth_append, figures_append, figures_left, figures_right}
use Rattle.decimals.proofs.Pieces.{
  NoSign,
  NoPoint,
  digits_unsigned,
  power_begins,
  sign_in_exact,
  Signs,
  sign_in_part,
  power_of_exact,
  Powers,
  power_of_all,
  fraction_in_none,
  Fraction,
  no_point,
  a_point,
  fraction_in_part,
}

-- the parts of a reading, one behind the other
abbrev by_back : Bool → ℕ → Digits → Reading
by_back n c b = reading_by n c b (power_of b.rest)

abbrev by_front : Bool → Digits → Reading
by_front n d = by_back n d.count (fraction_in d.value d.rest)

abbrev by_sign : Signed → Reading
by_sign x = by_front x.negative (digits_in 10 0 0 x.rest)

some_digit : (n : Bool) (k : ℤ) (c : ℕ) (b : Digits) → (c + b.count ≡ 0 → ⊥) → reading_by n c b (Some k) ≡ is (parts_of n b.value b.count k)
some_digit n k c b h = rw (ne_eqb (c + b.count) 0 h, reading_by)

read_steps : (w u : List ℕ) (n : Bool) (k : ℤ) (before behind : Digits)
    → sign_in w ≡ signed n u → digits_in 10 0 0 u ≡ before → fraction_in before.value before.rest ≡ behind → power_of behind.rest ≡ Some k
    → (before.count + behind.count ≡ 0 → ⊥) → reading_of w ≡ is (parts_of n behind.value behind.count k)
unfolding reading_of
read_steps w u n k before behind a b c d e =
    ap by_sign a ∙ ap (by_front n) b ∙ ap (by_back n before.count) c ∙ ap (reading_by n before.count behind) d ∙ some_digit n k before.count behind e

module _ {s t : List ℕ} {n : Bool} {k : ℤ} (g : SignText s n) (h : PowerText t k) (a : List ℕ) where
  unpointed : Figures 10 a → 1 ≤ length a → reading_of (s ++ (a ++ t)) ≡ is (parts_of n (worth 10 0 a) 0 k)
  unfolding digit_of
  unpointed f l =
      read_steps (s ++ (a ++ t)) (a ++ t) n k (digits (worth 10 0 a) (0 + length a) t) (digits (worth 10 0 a) 0 t)
      (sign_in_exact (a ++ t) g (digits_unsigned a t f (power_begins NoSign (refl, refl) (refl, refl) h)))
      (digits_in_exact 10 a t 0 0 f (power_begins (NoDigit 10) refl refl h))
      (fraction_in_none (worth 10 0 a) t (power_begins NoPoint refl refl h))
      (power_of_exact h)
      (λ e. omega arith)

  with_point : (b : List ℕ) → Figures 10 a → Figures 10 b → 1 ≤ length a + length b
      → reading_of (s ++ (a ++ (46 ∷ (b ++ t)))) ≡ is (parts_of n (worth 10 (worth 10 0 a) b) (length b) k)
  unfolding digit_of fraction_in
  with_point b f f' l =
      let z : 0 + length b ≡ length b = omega arith in
      read_steps (s ++ (a ++ (46 ∷ (b ++ t)))) (a ++ (46 ∷ (b ++ t))) n k
      (digits (worth 10 0 a) (0 + length a) (46 ∷ (b ++ t))) (digits (worth 10 (worth 10 0 a) b) (0 + length b) t)
      (sign_in_exact (a ++ (46 ∷ (b ++ t))) g (digits_unsigned a (46 ∷ (b ++ t)) f (refl, refl)))
      (digits_in_exact 10 a (46 ∷ (b ++ t)) 0 0 f refl)
      (digits_in_exact 10 b t (worth 10 0 a) 0 f' (power_begins (NoDigit 10) refl refl h))
      (power_of_exact h)
      (λ e. omega arith)
      ∙ ap (λ (m : ℕ). is (parts_of n (worth 10 (worth 10 0 a) b) m k)) z

written_read : (w : List ℕ) (p : Parts) → Written w p → reading_of w ≡ is p
written_read w p h = ap reading_of h.whole ∙ by_points h.points h.digits h.some ∙ ap is (sym h.says)
  where
    by_points : {text before behind : List ℕ} → PointText text before behind → Figures 10 (before ++ behind) → 1 ≤ length before + length behind
        → reading_of (h.sign ++ (text ++ h.power)) ≡ is (parts_of h.negative (worth 10 0 (before ++ behind)) (length behind) h.tens)
    by_points (plain {a}) f l = rw append-nil (unpointed h.signs h.powers a (rw append-nil at f) (omega arith))
    by_points (pointed {a} {b}) f l =
        rw (append_assoc a (46 ∷ b) h.power, worth_append 10 a b 0)
        (with_point h.signs h.powers a b (figures_left 10 a b f) (figures_right 10 a b f) l)

pub record Read (n : Bool) (c : ℕ) (b : Digits) (q : Option ℤ) (p : Parts) : Type 0 where
  pub tens : ℤ
  pub power : q ≡ Some tens
  pub some : 1 ≤ c + b.count
  pub says : p ≡ parts_of n b.value b.count tens

pub read_is : (n : Bool) (c : ℕ) (b : Digits) (q : Option ℤ) (p : Parts) → reading_by n c b q ≡ is p → Read n c b q p
read_is n c b None p e = absurd (let z : ◌≡◌ {A = ℕ} 0 1 = cc in omega arith)
read_is n c b (Some k) p e =
    either (λ r. r ≡ is p → Read n c b (Some k) p) (eqb (c + b.count) 0) (λ _ e. absurd (let z : ◌≡◌ {A = ℕ} 0 1 = cc in omega arith))
    (λ z e. record { tens = k; power = refl; some = omega (arith, eqb-false (c + b.count) 0 z); says = cc }) e

-- a word that is written so, and these bytes behind it
pub record Begun (w : List ℕ) (p : Parts) (rest : List ℕ) : Type 0 where
  pub word : List ℕ
  pub parted : w ≡ word ++ rest
  pub written : Written word p

seam : (a b c r : List ℕ) → a ++ (b ++ (c ++ r)) ≡ (a ++ (b ++ c)) ++ r
seam a b c r = sym (append_assoc a (b ++ c) r ∙ ap (λ l. a ++ l) (append_assoc b c r))

module _ (w : List ℕ) (p : Parts) {g : Signed} (s : Signs w g) {c : ℕ} (run : List ℕ) (f : Figures 10 run) (count : c ≡ 0 + length run) where
  by_fraction : {v : ℕ} {r : List ℕ} {b : Digits} {x : Option ℤ} {rest : List ℕ} → g.rest ≡ run ++ r → v ≡ worth 10 0 run → Fraction v r b
      → (q : Read g.negative c b x p) → Powers b.rest q.tens rest → Begun w p rest
  by_fraction {rest = rest} e v no_point r t =
      record {
        word = s.text ++ (run ++ t.text);
        parted = s.parted ∙ ap (λ l. s.text ++ l) (e ∙ ap (λ l. run ++ l) t.parted) ∙ seam s.text run t.text rest;
        written = record {
          sign = s.text;
          text = run;
          power = t.text;
          before = run;
          behind = [];
          negative = g.negative;
          tens = r.tens;
          whole = refl;
          signs = s.signs;
          points = plain;
          powers = t.powers;
          digits = rw append-nil f;
          some = omega (arith, r.some, count);
          says = r.says ∙ ap (λ v. parts_of g.negative v 0 r.tens) (v ∙ ap (worth 10 0) (sym (append-nil run)));
        };
      }
  by_fraction {b = d} {rest = rest} e v (a_point {b = c} {r = y} q u) r t =
      let behind : run ++ (c ∷ y) ≡ run ++ (46 ∷ (u.run ++ d.rest)) = ap (λ l. run ++ l) (rw q (ap (λ l. 46 ∷ l) u.parted)) in
      let text = run ++ (46 ∷ u.run) in
      let n : d.count ≡ length u.run = omega (arith, u.count) in
      let x : d.value ≡ worth 10 0 (run ++ u.run) = u.value ∙ ap (λ v. worth 10 v u.run) v ∙ sym (worth_append 10 run u.run 0) in
      record {
        word = s.text ++ (text ++ t.text);
        parted =
            s.parted
            ∙ ap (λ l. s.text ++ l) (e ∙ behind ∙ sym (append_assoc run (46 ∷ u.run) d.rest) ∙ ap (λ l. text ++ l) t.parted)
            ∙ seam s.text text t.text rest;
        written = record {
          sign = s.text;
          text = text;
          power = t.text;
          before = run;
          behind = u.run;
          negative = g.negative;
          tens = r.tens;
          whole = refl;
          signs = s.signs;
          points = pointed;
          powers = t.powers;
          digits = figures_append 10 run u.run f u.figures;
          some = omega (arith, r.some, count, n);
          says = r.says ∙ rw (x, n);
        };
      }

-- the parts that are read are written at the start of the bytes
pub begun : (w : List ℕ) (p : Parts) {x : Option ℤ} {rest : List ℕ} (q : Read (sign_in w).negative (front_of w).count (back_of w) x p)
    → Powers (back_of w).rest q.tens rest → Begun w p rest
begun w p q t =
    let f = digits_in_part 10 (sign_in w).rest 0 0 in
    by_fraction w p (sign_in_part w) f.run f.figures f.count f.parted f.value (fraction_in_part _ _) q t

read_written : (w : List ℕ) (p : Parts) → reading_of w ≡ is p → Written w p
unfolding reading_of
read_written w p e =
    let q = read_is (sign_in w).negative (front_of w).count (back_of w) (power_of (back_of w).rest) p e in
    let b = begun w p q (power_of_all (back_of w).rest q.tens q.power) in
    rw (b.parted ∙ append-nil b.word) b.written

-- the word is read as these parts exactly when it is written so
pub reading_of_exactly : (w : List ℕ) (p : Parts) → (reading_of w ≡ is p) ↔ Written w p
reading_of_exactly w p = (read_written w p, written_read w p)
