-- Words read in blocks: the bytes one by one, a word where a blank stands behind digits. Assumes nothing.
use Rattle.std.specs.Prelude.{Option, Some, Ok}
use Prim.Native.Nat.{ℕ, zero, suc, ◌+◌, ◌-◌, ◌≤◌, ◌<◌, zero-le}
use native.Mathlib.Omega.{arith}
use mathlib.Core.Path.{◌≡◌, refl, sym, ap, subst, ◌∙◌}
use mathlib.Core.List.{List, [], ◌∷◌, ◌++◌, append_assoc}
use mathlib.Core.Bool.{Bool, true, false, not}
use borrow.Author.Tests.{ltb-true, leb-true}
use lib.Dec.{leb}
use lib.ListN.{length, take, drop, get_or, length-append, length-drop, length-take, take-append-drop}
use lib.Seq.{take-append-add, length-take-le}
use Rattle.facts.proofs.First.{first_inside, first_is, first_behind}
use Rattle.facts.proofs.Decides.{and_split}
use Rattle.tokens.specs.Tokens.{is_blank, start_of}
use Rattle.tokens.specs.Listed.{tokens_from}
use Rattle.tokens.proofs.Blanked.{blank_on, blank_ends, start_here}
use Rattle.layout.specs.Reading.{Reader, rows_of}
use Rattle.digits.specs.declared.quick.Hexes.{Hexes}
use Rattle.digits.specs.Digits.{digit_of, Figures, worth}
use Rattle.digits.specs.Hexes.{hexes_of}
use Rattle.digits.specs.Lanes.{Laned}
use Rattle.digits.proofs.Digits.{Begins, NoDigit, figures_append}
use Rattle.numbers.proofs.Wholes.{whole_of_exact}
use Rattle.numbers.proofs.AtOnce.{hexes_all, digit_high}
use Rattle.quick.specs.Quick.{hexes_from}
use Rattle.quick.proofs.Ending.{quick_is, quick_from}
use Rattle.steps.proofs.Quickly.{quick_number}
use Rattle.blocks.specs.declared.block.Block.{Block}
use Rattle.bodies.specs.Bodies.{forget, hex_unit}
use Rattle.blocks.specs.Blocks.{is_hex, Plain, one, ends, tail, Fair, Read, BlockIs, block_of}
use Rattle.bodies.specs.Hexes.{goes_for}
use Rattle.bodies.proofs.Forgotten.{Going, going_more, drop_to}
use Rattle.blocks.proofs.Blocked.{Chosen, ends_few, block_is}
use Rattle.blocks.proofs.Counted.{chosen}
use Rattle.bodies.proofs.Loose.{loose_is, hex_is}

-- ---- one word more
module _ (s : List ℕ) (at n : ℕ) where
  abbrev unit : Reader Unit
  unit = hex_unit (length s)

  going_blank : (c left : ℕ) → Going s unit at n c left → c < length s → is_blank (get_or s c 0) ≡ true → Going s unit at n (c + 1) left
  going_blank c left g h e =
      record { from = omega (arith, g.from); same = ap (λ ts. forget (rows_of (length s) unit left ts)) (sym (blank_on s c h e)) ∙ g.same }

  -- t digits at c, and a blank behind them
  module _ (c t left : ℕ) (run rest : List ℕ) (long : length run ≡ t) (f : Figures 16 run) (few : t ≤ 8) (some : 1 ≤ t)
      (parted : drop c s ≡ run ++ rest) (inside : c + t < length s) (e : is_blank (get_or s (c + t) 0) ≡ true) (front : Begins (NoDigit 16) rest) where
    value : ℕ
    value = worth 16 0 run

    window_parts : take 8 (drop c s) ≡ run ++ take (8 - t) rest
    window_parts =
        let k : 8 ≡ length run + (8 - t) = omega (arith, long, few) in
        ap (take 8) parted ∙ ap (λ (m : ℕ). take m (run ++ rest)) k ∙ take-append-add run rest (8 - t)

    begins_take : (m : ℕ) (l : List ℕ) → Begins (NoDigit 16) l → Begins (NoDigit 16) (take m l)
    begins_take zero l b = tt
    begins_take (suc m) [] b = tt
    begins_take (suc m) (x ∷ l) b = b

    hexes : hexes_of (take 8 (drop c s)) ≡ record { value = value; count = t }
    unfolding value
    hexes =
        let total : length (run ++ take (8 - t) rest) ≤ 8 = omega (arith, ap length window_parts, length-take 8 (drop c s)) in
        ap hexes_of window_parts
        ∙ hexes_all run (take (8 - t) rest) (worth 16 0 run) (whole_of_exact 16 8 run f (omega (arith, long, some)) (omega (arith, long, few))) (begins_take (8 - t) rest front) total
        ∙ ap (λ (k : ℕ). record { value = worth 16 0 run; count = k }) long

    high : 42 ≤ get_or s c 0
    high = first run rest (omega (arith, long, some)) f parted
      where
        first : (run rest : List ℕ) → 1 ≤ length run → Figures 16 run → drop c s ≡ run ++ rest → 42 ≤ get_or s c 0
        first [] rest h f p = absurd (omega (arith, h))
        first (b ∷ run) rest h f p =
            omega (arith, first_is s c b (run ++ rest) p, digit_high b f.0)

    starts : c ≡ start_of s c
    starts = start_here s c (omega (arith, inside)) high

    pub going_word : Going s unit at n c left → 0 < left → Going s unit at n (c + t) (left - 1)
    unfolding hexes_from
    going_word g o =
        let h : Hexes = record { value = value; count = t } in
        let q = quick_is s c h (λ z. omega (arith, z, some)) (blank_ends s (c + t) inside e) ∙ quick_from s c h c starts (sym hexes) in
        let num = quick_number s c _ q value (c + t) refl in
        going_more s unit at n c left g o (Ok (c + t)) (loose_is s c (hex_is (length s) (tokens_from s c)) (drop_to s c num _ refl)) (c + t) refl

-- ---- byte by byte: t digits stand before c, and what is left is to be read from their first on
pub record Partial (s : List ℕ) (at n c t left : ℕ) : Type 0 where
  pub going : Going s (hex_unit (length s)) at n (c - t) left
  pub run : List ℕ
  pub long : length run ≡ t
  pub figures : Figures 16 run
  pub parted : drop (c - t) s ≡ run ++ drop c s
  pub few : t ≤ 8
  pub back : t ≤ c

module _ (s : List ℕ) (at n : ℕ) where
  abbrev At : ℕ → ℕ → ℕ → Type 0
  At c t left = Partial s at n c t left

  module _ (c : ℕ) (b : ℕ) (rest : List ℕ) (here : drop c s ≡ b ∷ rest) where
    digit_more : (t left : ℕ) → At c t left → is_hex b ≡ true → suc t ≤ 8 → At (c + 1) (suc t) left
    digit_more t left p e h =
        let z : c - t ≡ c + 1 - suc t = omega (arith, p.back) in
        record {
          going = subst (λ (k : ℕ). Going s (hex_unit (length s)) at n k left) z p.going;
          run = p.run ++ (b ∷ []);
          long = length-append p.run (b ∷ []) ∙ omega (arith, p.long);
          figures = figures_append 16 p.run (b ∷ []) p.figures (ltb-true (digit_of b) 16 e, tt);
          parted = ap (λ (k : ℕ). drop k s) (sym z) ∙ p.parted ∙ ap (λ l. p.run ++ l) (here ∙ ap (λ l. b ∷ l) (sym (first_behind s c b rest here))) ∙ sym (append_assoc p.run (b ∷ []) (drop (c + 1) s));
          few = h;
          back = omega (arith, p.back);
        }

    blank_here : is_blank b ≡ true → is_blank (get_or s c 0) ≡ true
    blank_here e = ap is_blank (first_is s c b rest here) ∙ e

    nothing : (left : ℕ) → Going s (hex_unit (length s)) at n (c + 1) left → At (c + 1) 0 left
    nothing left g =
        let z : c + 1 ≡ c + 1 - 0 = omega arith in
        record { going = subst (λ (k : ℕ). Going s (hex_unit (length s)) at n k left) z g; run = []; long = refl; figures = tt; parted = ap (λ (k : ℕ). drop k s) (sym z); few = zero-le; back = zero-le }

    blank_more : (t left : ℕ) → At c t left → is_hex b ≡ false → is_blank b ≡ true → one t ≤ left → At (c + 1) 0 (left - one t)
    blank_more zero left p d e h =
        let z : c - 0 ≡ c = omega arith in
        let y : left ≡ left - 0 = omega arith in
        subst (λ (k : ℕ). At (c + 1) 0 k) y (nothing left (going_blank s at n c left (subst (λ (k : ℕ). Going s (hex_unit (length s)) at n k left) z p.going) (first_inside s c b rest here) (blank_here e)))
    blank_more (suc t) left p d e h =
        let z : c - suc t + suc t ≡ c = omega (arith, p.back) in
        let inn : c - suc t + suc t < length s = omega (arith, z, first_inside s c b rest here) in
        let blank : is_blank (get_or s (c - suc t + suc t) 0) ≡ true = ap (λ (k : ℕ). is_blank (get_or s k 0)) z ∙ blank_here e in
        let front : Begins (NoDigit 16) (drop c s) = subst (Begins (NoDigit 16)) (sym here) d in
        let g = going_word s at n (c - suc t) (suc t) left p.run (drop c s) p.long p.figures p.few (omega arith) p.parted inn blank front p.going (omega (arith, h)) in
        nothing (left - 1) (going_blank s at n c (left - 1) (subst (λ (k : ℕ). Going s (hex_unit (length s)) at n k (left - 1)) z g) (first_inside s c b rest here) (blank_here e))

    -- one byte, and then the others
    abbrev Behind : List ℕ → ℕ → ℕ → Type 0
    Behind w t left = At (c + 1) t left → Fair t w → ends t w ≤ left → At (c + 1 + length w) (tail t w) (left - ends t w)

    byte_step : (w : List ℕ) (t left : ℕ) → At c t left → ((k l : ℕ) → Behind w k l) → (q : Bool) → is_hex b ≡ q → is_blank b ≡ not q
        → Chosen q ((suc t ≤ 8) × Fair (suc t) w) (Fair 0 w) → chosen q (ends (suc t) w) (one t + ends 0 w) ≤ left
        → At (c + 1 + length w) (chosen q (tail (suc t) w) (tail 0 w)) (left - chosen q (ends (suc t) w) (one t + ends 0 w))
    byte_step w t left p ih true e y f l = ih (suc t) left (digit_more t left p e f.0) f.1 l
    byte_step w t left p ih false e y f l =
        let z : left - one t - ends 0 w ≡ left - (one t + ends 0 w) = omega arith in
        subst (λ (k : ℕ). At (c + 1 + length w) (tail 0 w) k) z (ih 0 (left - one t) (blank_more t left p e y (omega (arith, l))) f (omega (arith, l)))

  bytes_all : (w rest : List ℕ) (c t left : ℕ) → drop c s ≡ w ++ rest → At c t left → Plain w → Fair t w → ends t w ≤ left → At (c + length w) (tail t w) (left - ends t w)
  bytes_all [] rest c t left d p y f l =
      let z : c ≡ c + 0 = omega arith in
      let o : left ≡ left - 0 = omega arith in
      subst (λ (k : ℕ). At k t (left - 0)) z (subst (λ (k : ℕ). At c t k) o p)
  bytes_all (b ∷ w) rest c t left d p y f l =
      let z : c + 1 + length w ≡ c + suc (length w) = omega arith in
      subst (λ (k : ℕ). At k (tail t (b ∷ w)) (left - ends t (b ∷ w))) z
      (byte_step c b (w ++ rest) d w t left p (λ k m q g h. bytes_all w rest (c + 1) k m (first_behind s c b (w ++ rest) d) q y.1 g h) (is_hex b) refl y.0 f l)

  pub block_more : (x c t left k t' : ℕ) → At c t left → ((w : List ℕ) → Laned w x → length w ≡ 8 → Read t w k t') → Laned (take 8 (drop c s)) x → 8 ≤ left → c + 8 ≤ length s
      → (k ≤ 8) × At (c + 8) t' (left - k)
  block_more x c t left k t' p r l o h =
      let w = take 8 (drop c s) in
      let n : length w ≡ 8 = length-take-le 8 (drop c s) (omega (arith, length-drop c s)) in
      let y = r w l n in
      let few : ends t w ≤ 8 = omega (arith, ends_few w t, n) in
      let all = bytes_all w (drop 8 (drop c s)) c t left (sym (take-append-drop 8 (drop c s))) p y.plain y.fair (omega (arith, few)) in
      (omega (arith, few, y.words), subst (λ (m : ℕ). At (c + 8) t' (left - m)) (sym y.words) (subst (λ (m : ℕ). At (c + 8) m (left - ends t w)) (sym y.last) (subst (λ (m : ℕ). At (c + m) (tail t w) (left - ends t w)) n all)))

-- ---- where the blocks stop
module _ (left c size : ℕ) where
  goes_true : goes_for left c size ≡ true → (8 ≤ left) × (c + 8 ≤ size)
  goes_true e = let b = and_split (leb 8 left) (leb (c + 8) size) e in (leb-true 8 left b.0, leb-true (c + 8) size b.1)

pub record Next (s : List ℕ) (at n c left k t' : ℕ) : Type 0 where
  pub few : k ≤ left
  pub within : c + 8 ≤ length s
  pub more : Partial s at n (c + 8) t' (left - k)

pub block_next : (s : List ℕ) (at n x c t left : ℕ) (r : Option Block) → Partial s at n c t left → r ≡ block_of x t → Laned (take 8 (drop c s)) x → goes_for left c (length s) ≡ true
    → (y : Block) → r ≡ Some y → Next s at n c left y.words y.tail
block_next s at n x c t left r p b l g y e =
    let o = goes_true left c (length s) g in
    let m = block_more s at n x c t left y.words y.tail p (subst (BlockIs x t) (sym b ∙ e) (block_is x t)) l o.0 o.1 in
    record { few = omega (arith, m.0, o.0); within = o.1; more = m.1 }
