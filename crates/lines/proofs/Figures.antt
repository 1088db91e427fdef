-- A number's figures from the last to the first: what is left to write. Assumes nothing.
use Prim.Native.Nat.{ℕ, zero, suc, ◌+◌, ◌-◌, ◌*◌, ◌/◌, ◌%◌, ◌^◌, ◌≤◌, ◌<◌}
use native.Mathlib.Omega.{arith}
use native.Mathlib.Nat.{pow-suc}
use mathlib.Core.Path.{◌≡◌, sym, ◌∙◌, ap, subst}
use mathlib.Core.List.{List, [], ◌∷◌, ◌++◌, append_assoc, append-nil}
use borrow.Author.Tests.{lt-ltb, le-ltb}
use lib.ListN.{length, take, length-drop, drop, set, length-set, drop_of_length-le}
use lib.Seq.{take_all, drop-cons, drop-set-lt, get_or-set_same}
use Rattle.lines.specs.Writing.{Wrote, figures, decimal}

pub figures_more : (w n : ℕ) → 10 ≤ n → figures (suc w) n ≡ figures w (n / 10) ++ ((48 + n % 10) ∷ [])
unfolding figures
figures_more w n h = rw (figures, le-ltb n 10 h)

pub figures_one : (w n : ℕ) → n < 10 → figures (suc w) n ≡ (48 + n) ∷ []
unfolding figures
figures_one w n h = rw (figures, lt-ltb n 10 h)

-- the figures of v go before i, those behind are there
pub record Figuring (n v i : ℕ) (b : List ℕ) : Type 0 where
  pub size : length b ≡ 20
  pub low : i < 20
  pub small : v < 10 ^ suc i
  pub same : figures (suc i) v ++ drop (suc i) b ≡ decimal n

drop_set_here : (b : List ℕ) (i v : ℕ) → i < length b → drop i (set b i v) ≡ v ∷ drop (suc i) b
drop_set_here b i v h = drop-cons (set b i v) i 0 (omega (arith, length-set b i v)) ∙ ap (λ y. y ∷ drop (suc i) (set b i v)) (get_or-set_same b i v 0 h) ∙ ap (λ y. v ∷ y) (drop-set-lt (suc i) b i v (omega arith))

module _ (n : ℕ) where
  pub figuring_start : (b : List ℕ) → length b ≡ 20 → n < 2 ^ 64 → Figuring n n 19 b
  figuring_start b h l =
      record { size = h; low = omega arith; small = omega arith; same = ap (λ y. decimal n ++ y) (drop_of_length-le b {i = 20} (omega arith)) ∙ append-nil (decimal n) }

  module _ (v i : ℕ) (b : List ℕ) (g : Figuring n v i b) where
    pub figuring_room : 10 ≤ v → 1 ≤ i
    figuring_room h = by i g.small
      where
        by : (j : ℕ) → v < 10 ^ suc j → 1 ≤ j
        by zero l = absurd (omega arith)
        by (suc j) l = omega arith

    pub figuring_more : (f : ℕ) → f ≡ 48 + v % 10 → 10 ≤ v → Figuring n (v / 10) (i - 1) (set b i f)
    figuring_more f e h =
        let r = figuring_room h in
        let z : suc (i - 1) ≡ i = omega arith in
        record {
          size = length-set b i f ∙ g.size;
          low = omega (arith, g.low);
          small = (let p : 10 ^ suc i ≡ 10 ^ i * 10 = pow-suc 10 i in let q : v / 10 < 10 ^ i = omega (arith, g.small, p) in subst (λ y. v / 10 < 10 ^ y) (sym z) q);
          same = ap (λ y. figures y (v / 10) ++ drop y (set b i f)) z ∙ ap (λ y. figures i (v / 10) ++ y) (drop_set_here b i f (omega (arith, g.low, g.size)))
              ∙ ap (λ y. figures i (v / 10) ++ (y ∷ drop (suc i) b)) e ∙ sym (append_assoc (figures i (v / 10)) ((48 + v % 10) ∷ []) (drop (suc i) b))
              ∙ ap (λ y. y ++ drop (suc i) b) (sym (figures_more i v h)) ∙ g.same;
        }

    pub figuring_kept : (f : ℕ) → length (set b i f) ≡ 20
    figuring_kept f = length-set b i f ∙ g.size

    pub figuring_end : (f : ℕ) → f ≡ 48 + v → v < 10 → drop i (set b i f) ≡ decimal n
    figuring_end f e h =
        drop_set_here b i f (omega (arith, g.low, g.size)) ∙ ap (λ y. y ∷ drop (suc i) b) e ∙ ap (λ y. y ++ drop (suc i) b) (sym (figures_one i v h)) ∙ g.same

-- the part of the array that has the figures
pub wrote_figures : (old : List ℕ) (at : ℕ) (b : List ℕ) (i n : ℕ) (new : List ℕ) (r : ℕ) → length b ≡ 20 → drop i b ≡ decimal n
    → Wrote old at (take (20 - i) (drop i b)) new r → Wrote old at (decimal n) new r
wrote_figures old at b i n new r h e w =
    subst (λ y. Wrote old at y new r) (take_all (20 - i) (drop i b) (omega (arith, length-drop i b, h)) ∙ e) w
