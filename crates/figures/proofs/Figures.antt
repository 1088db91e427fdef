-- Figures over the base: they write the number, are few, begin with no zero, and are bytes of words. Assumes nothing.
use Rattle.std.specs.Prelude.{Some}
use Prim.Native.Nat.{ℕ, zero, suc, ◌+◌, ◌*◌, ◌/◌, ◌%◌, ◌^◌, ◌≤◌, ◌<◌}
use native.Mathlib.Nat.{pow-suc, pow-zero, mod-lt, div-add-mod', div-lt_self, div-lt_iff_lt-mul, le-div_iff_mul-le}
use native.Mathlib.Omega.{arith}
use mathlib.Core.Path.{◌≡◌, ap, subst, ◌∙◌}
use mathlib.Core.List.{List, [], ◌∷◌}
use borrow.Author.Tests.{lt-ltb, le-ltb, ltb-true, ltb-false, le-leb}
use lib.Dec.{ltb}
use lib.ListN.{length}
use Rattle.facts.proofs.Branch.{either, differ}
use Rattle.facts.proofs.Decides.{and_join}
use Rattle.digits.specs.Digits.{within, digit_of, Figures, worth}
use Rattle.digits.proofs.Digits.{within_is, Begins}
use Rattle.numbers.specs.Whole.{whole_of}
use Rattle.numbers.proofs.Wholes.{whole_of_exact}
use Rattle.figures.specs.Figures.{figure, figures_on, figures, From}

pub figure_low : (d : ℕ) → 48 ≤ figure d
unfolding figure
figure_low d = either (λ b. 48 ≤ b) (ltb d 10) (λ _. omega arith) (λ _. omega arith)

figure_high : (d : ℕ) → 0 < d → 48 < figure d
unfolding figure
figure_high d h = either (λ b. 48 < b) (ltb d 10) (λ _. omega arith) (λ _. omega arith)

decimal_digit : (d : ℕ) → d < 10 → digit_of (48 + d) ≡ d
unfolding digit_of
decimal_digit d h = rw (le-leb 48 (48 + d) (omega arith), le-leb (48 + d) 57 (omega arith), digit_of) (omega arith)

letter_digit : (d : ℕ) → 10 ≤ d → d < 16 → digit_of (87 + d) ≡ d
unfolding digit_of
letter_digit d l h =
    either Goal (within 48 57 (87 + d)) (λ p. absurd (omega (arith, within_is 48 57 (87 + d) p)))
    (λ _. either Goal (within 65 70 (87 + d)) (λ p. absurd (omega (arith, within_is 65 70 (87 + d) p)))
    (λ _. either Goal (within 97 102 (87 + d)) (λ _. omega arith) (λ p. differ _ (and_join (le-leb 97 (87 + d) (omega arith)) (le-leb (87 + d) 102 (omega arith))) p)))
  where
    Goal : ℕ → Type 0
    Goal x = x ≡ d

-- a figure is the digit of its value
pub figure_digit : (d : ℕ) → d < 16 → digit_of (figure d) ≡ d
unfolding figure
figure_digit d h = either (λ b. digit_of b ≡ d) (ltb d 10) (λ p. decimal_digit d (ltb-true d 10 p)) (λ p. letter_digit d (ltb-false d 10 p) h)

zero_mul_add : (b d : ℕ) → 0 * b + d ≡ d
zero_mul_add b d = omega arith

one_power : (b : ℕ) → b ^ suc 0 ≡ b
one_power b = let e : b ^ 0 ≡ 1 = pow-zero b in pow-suc b 0 ∙ ap (λ x. x * b) e ∙ (let z : 1 * b ≡ b = omega arith in z)

module _ (base : ℕ) where
  pub on_one : (f n : ℕ) (w : List ℕ) → n < base → figures_on base (suc f) n w ≡ figure n ∷ w
  unfolding figures_on
  on_one f n w h = rw (lt-ltb n base h, figures_on)

  pub on_more : (f n : ℕ) (w : List ℕ) → base ≤ n → figures_on base (suc f) n w ≡ figures_on base f (n / base) (figure (n % base) ∷ w)
  unfolding figures_on
  on_more f n w h = rw (le-ltb n base h, figures_on)

  -- a statement about the figures of n before w: that of one figure, and that it may be put back by one figure
  module _ (P : ℕ → List ℕ → List ℕ → Type 0) (low : 2 ≤ base)
      (one : (n : ℕ) (w : List ℕ) → n < base → P n w (figure n ∷ w))
      (more : (n : ℕ) (w r : List ℕ) → base ≤ n → P (n / base) (figure (n % base) ∷ w) r → P n w r) where
    pub on_all : (f n : ℕ) (w : List ℕ) → n < f → P n w (figures_on base f n w)
    unfolding figures_on
    on_all zero n w h = absurd (omega arith)
    on_all (suc f) n w h =
        either (P n w) (ltb n base) (λ p. one n w (ltb-true n base p))
        (λ p. let q : base ≤ n = ltb-false n base p in more n w _ q (on_all f (n / base) (figure (n % base) ∷ w) (omega (arith, div-lt_self {n = n} {k = base} (omega arith) (omega arith)))))

  module _ (low : 2 ≤ base) (high : base ≤ 16) where
    last_digit : (n : ℕ) → n % base < base
    last_digit n = mod-lt n (omega arith)

    -- behind v digits: what the figures write, v aside, is n
    on_worth : (f n : ℕ) (w : List ℕ) → n < f → worth base 0 (figures_on base f n w) ≡ worth base n w
    on_worth =
        on_all (λ n w r. worth base 0 r ≡ worth base n w) low
        (λ n w h. ap (λ v. worth base v w) (zero_mul_add base _ ∙ figure_digit n (omega arith)))
        (λ n w r h e. e ∙ ap (λ v. worth base v w) (ap (λ d. n / base * base + d) (figure_digit (n % base) (omega (arith, last_digit n))) ∙ div-add-mod' n base))

    on_figures : (f n : ℕ) (w : List ℕ) → n < f → Figures base w → Figures base (figures_on base f n w)
    on_figures =
        on_all (λ n w r. Figures base w → Figures base r) low
        (λ n w h g. (rw (figure_digit n (omega arith)) h, g))
        (λ n w r h e g. e (rw (figure_digit (n % base) (omega (arith, last_digit n))) (last_digit n), g))

    on_long : (f n : ℕ) (w : List ℕ) → n < f → length w < length (figures_on base f n w)
    on_long = on_all (λ n w r. length w < length r) low (λ n w h. omega arith) (λ n w r h e. omega arith)

    -- n < base ^ k has at most k figures
    on_short : (f n : ℕ) (w : List ℕ) → n < f → (k : ℕ) → n < base ^ suc k → length (figures_on base f n w) ≤ suc k + length w
    on_short = on_all (λ n w r. (k : ℕ) → n < base ^ suc k → length r ≤ suc k + length w) low (λ n w h k l. omega arith) more
      where
        more : (n : ℕ) (w r : List ℕ) → base ≤ n → ((k : ℕ) → n / base < base ^ suc k → length r ≤ suc k + suc (length w)) → (k : ℕ) → n < base ^ suc k → length r ≤ suc k + length w
        more n w r h e zero l = absurd (omega (arith, one_power base))
        more n w r h e (suc k) l = omega (arith, e k ((div-lt_iff_lt-mul {k = base} {x = n} {y = base ^ suc k} (omega arith)).1 (subst (λ p. n < p) (pow-suc base (suc k)) l)))

    on_from : (f n : ℕ) (w : List ℕ) → n < f → From 48 w → From 48 (figures_on base f n w)
    on_from = on_all (λ n w r. From 48 w → From 48 r) low (λ n w h g. (figure_low n, g)) (λ n w r h e g. e (figure_low (n % base), g))

    on_front : (f n : ℕ) (w : List ℕ) → n < f → 0 < n → Begins (λ b. 48 < b) (figures_on base f n w)
    on_front =
        on_all (λ n w r. 0 < n → Begins (λ b. 48 < b) r) low (λ n w h g. figure_high n g)
        (λ n w r h e g. e ((le-div_iff_mul-le {k = base} {x = 1} {y = n} (omega arith)).1 (omega arith)))

    pub figures_worth : (n : ℕ) → worth base 0 (figures base n) ≡ n
    unfolding figures
    figures_worth n = on_worth (suc n) n [] (omega arith)

    pub figures_digits : (n : ℕ) → Figures base (figures base n)
    unfolding figures
    figures_digits n = on_figures (suc n) n [] (omega arith) tt

    pub figures_some : (n : ℕ) → 1 ≤ length (figures base n)
    unfolding figures
    figures_some n = on_long (suc n) n [] (omega arith)

    pub figures_few : (n k : ℕ) → n < base ^ suc k → length (figures base n) ≤ suc k
    unfolding figures
    figures_few n k h = omega (arith, on_short (suc n) n [] (omega arith) k h)

    pub figures_from : (n : ℕ) → From 48 (figures base n)
    unfolding figures
    figures_from n = on_from (suc n) n [] (omega arith) tt

    -- "without leading zeros"
    pub figures_front : (n : ℕ) → 0 < n → Begins (λ b. 48 < b) (figures base n)
    unfolding figures
    figures_front n = on_front (suc n) n [] (omega arith)

    -- they are read back
    pub figures_back : (n k : ℕ) → n < base ^ suc k → whole_of base (suc k) (figures base n) ≡ Some n
    figures_back n k h =
        whole_of_exact base (suc k) (figures base n) (figures_digits n) (figures_some n) (figures_few n k h) ∙ ap Some (figures_worth n)
