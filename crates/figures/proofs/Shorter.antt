-- A number's figures are those of its front and the last one: their number by division. Assumes nothing.
use Prim.Native.Nat.{ℕ, zero, suc, ◌+◌, ◌*◌, ◌/◌, ◌%◌, ◌^◌, ◌≤◌, ◌<◌}
use native.Mathlib.Nat.{mul_comm, mul-le-mul_left, div-one, div-lt_self, div-div-eq-div-mul, le-div_iff_mul-le, div-lt_iff_lt-mul, pow-zero, pow-suc, one-le-pow}
use native.Mathlib.Omega.{arith}
use mathlib.Core.Path.{◌≡◌, sym, ap, subst, ◌∙◌}
use mathlib.Core.List.{List, [], ◌∷◌, ◌++◌}
use lib.ListN.{length, length-append}
use Rattle.figures.specs.Figures.{figure, figures_on, figures}
use Rattle.figures.proofs.Figures.{on_one, on_more, on_all}

module _ (base : ℕ) (low : 2 ≤ base) where
  -- what comes behind is put behind, whatever the fuel
  behind : (f n : ℕ) (w : List ℕ) → n < f → (g : ℕ) → n < g → (u : List ℕ) → figures_on base g n (w ++ u) ≡ figures_on base f n w ++ u
  behind = on_all base (λ n w r. (g : ℕ) → n < g → (u : List ℕ) → figures_on base g n (w ++ u) ≡ r ++ u) low one more
    where
      one : (n : ℕ) (w : List ℕ) → n < base → (g : ℕ) → n < g → (u : List ℕ) → figures_on base g n (w ++ u) ≡ figure n ∷ (w ++ u)
      one n w h zero l u = absurd (omega arith)
      one n w h (suc g) l u = on_one base g n (w ++ u) h

      more : (n : ℕ) (w r : List ℕ) → base ≤ n → ((g : ℕ) → n / base < g → (u : List ℕ) → figures_on base g (n / base) (figure (n % base) ∷ (w ++ u)) ≡ r ++ u)
          → (g : ℕ) → n < g → (u : List ℕ) → figures_on base g n (w ++ u) ≡ r ++ u
      more n w r h e zero l u = absurd (omega arith)
      more n w r h e (suc g) l u = on_more base g n (w ++ u) h ∙ e g (omega (arith, div-lt_self {n = n} {k = base} (omega arith) (omega arith))) u

  pub figures_one : (n : ℕ) → n < base → figures base n ≡ figure n ∷ []
  unfolding figures
  figures_one n h = on_one base n n [] h

  pub figures_more : (n : ℕ) → base ≤ n → figures base n ≡ figures base (n / base) ++ (figure (n % base) ∷ [])
  unfolding figures
  figures_more n h =
      let d = div-lt_self {n = n} {k = base} (omega arith) (omega arith) in
      on_more base n n [] h ∙ behind (suc (n / base)) (n / base) [] (omega arith) n d (figure (n % base) ∷ [])

  -- ---- how many they are
  pub count_one : (n : ℕ) → n < base → length (figures base n) ≡ 1
  count_one n h = ap length (figures_one n h)

  -- a number that is not below p has k figures more than its quotient by p
  abbrev pub Fewer : ℕ → ℕ → Type 0
  Fewer p k = (n : ℕ) → p ≤ n → length (figures base n) ≡ k + length (figures base (n / p))

  pub fewer_base : Fewer base 1
  fewer_base n h = let e = length-append (figures base (n / base)) (figure (n % base) ∷ []) in ap length (figures_more n h) ∙ omega (arith, e)

  pub fewer_more : (p q j k : ℕ) → 0 < p → 0 < q → Fewer p j → Fewer q k → Fewer (p * q) (j + k)
  fewer_more p q j k a b x y n h =
      let c : q * p ≡ p * q = mul_comm q p in
      let d : q ≤ n / p = (le-div_iff_mul-le {k = p} {x = q} {y = n} a).1 (omega (arith, c)) in
      let e : p ≤ n = omega (arith, mul-le-mul_left {m = 1} {n = q} p b) in
      let f : length (figures base (n / p / q)) ≡ length (figures base (n / (p * q))) = ap (λ m. length (figures base m)) (div-div-eq-div-mul n p q) in
      omega (arith, x n e, y (n / p) d, f)

  pub count_last : (p k n : ℕ) → 0 < p → Fewer p k → p ≤ n → n < p * base → length (figures base n) ≡ k + 1
  count_last p k n a x l h = omega (arith, x n l, count_one (n / p) ((div-lt_iff_lt-mul {k = p} {x = n} {y = base} a).1 (omega (arith, mul_comm p base))))

  -- a number that is not below the k-th power has more than k figures
  fewer_power : (k : ℕ) → Fewer (base ^ k) k
  fewer_power zero n h =
      let e : n / base ^ 0 ≡ n = ap (λ (p : ℕ). n / p) (pow-zero base) ∙ div-one n in
      omega (arith, ap (λ m. length (figures base m)) e)
  fewer_power (suc k) n h =
      let e : base ^ k * base ≡ base ^ suc k = sym (pow-suc base k) in
      let z : k + 1 ≡ suc k = omega arith in
      subst (λ p. length (figures base n) ≡ suc k + length (figures base (n / p))) e
      (rw z at (fewer_more (base ^ k) base k 1 (one-le-pow k base (omega arith)) (omega arith) (fewer_power k) fewer_base n (omega (arith, e))))

  pub count_power : (k n : ℕ) → base ^ k ≤ n → n < base ^ suc k → length (figures base n) ≡ suc k
  count_power k n l h = omega (arith, count_last (base ^ k) k n (one-le-pow k base (omega arith)) (fewer_power k) l (omega (arith, pow-suc base k)))
