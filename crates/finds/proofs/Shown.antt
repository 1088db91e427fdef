-- The end of a string, and that of what stands before a mark, are shown by the highest bits of eight lanes: every byte is tried. Assumes nothing.
use Prim.Native.Nat.{ℕ}
use native.Mathlib.Nat.{lt_of_le_of_lt}
use mathlib.Core.Path.{◌≡◌, refl, ap, ◌∙◌}
use mathlib.Core.List.{List, map}
use mathlib.Core.Bool.{true}
use borrow.Author.Tests.{eqb-true}
use lib.Dec.{eqb, lit<}
use lib.ListN.{length}
use lib.Bits.{bit_and, bit_or, bit_xor, and_block, or_block, xor_block, and_le_r, or_lt}
use Rattle.tokens.specs.declared.Run.{Run}
use Rattle.tokens.specs.Tokens.{class_of}
use Rattle.digits.specs.Lanes.{lanes, Under, unlike_of}
use Rattle.digits.proofs.Laning.{Small}
use Rattle.digits.proofs.Grouping.{each, each_is, map_same, small_and, both, same, whole, unlike, small_unlike, unlike_in}
use Rattle.finds.specs.Quotes.{quotes_of}
use Rattle.finds.specs.Marks.{marks_of}
use Rattle.finds.specs.Eights.{off, goes, Shows}

-- the highest bit of a lane, turned over
abbrev turned : ℕ → ℕ
turned a = bit_xor (bit_and a 128) 128

module _ (run : Run) (g : ℕ → ℕ) (tried : each 256 (λ b. eqb (turned (g b)) (off (goes run b))) ≡ true) where
  turned_in : (w : List ℕ) (n : length w ≡ 8) (u : Under 256 w) {x : ℕ} → Small g → x ≡ lanes 8 (map g w) → bit_xor (bit_and x 0x8080808080808080) 0x8080808080808080 ≡ lanes 8 (map (λ b. off (goes run b)) w)
  unfolding lanes
  turned_in w n u s p =
      let top = same w n u 128 0x8080808080808080 refl in
      let high = both w n u bit_and and_block refl g (λ _. 128) s (λ b h. lit< tt) p top in
      both w n u bit_xor xor_block refl (λ b. bit_and (g b) 128) (λ _. 128) (small_and g 128 (lit< tt)) (λ b h. lit< tt) high top
      ∙ ap (lanes 8) (map_same (λ b. turned (g b)) (λ b. off (goes run b)) (λ b h. eqb-true _ _ (each_is 256 (λ c. eqb (turned (g c)) (off (goes run c))) tried b h)) w u)

alone : Small (λ b. b)
alone b h = h

-- ---- no quote
abbrev no_quote : ℕ → ℕ
no_quote b = unlike b 34

small_quote : Small no_quote
small_quote = small_unlike (λ b. b) 34 alone (lit< tt)

quote_tried : each 256 (λ b. eqb (turned (no_quote b)) (off (goes Run.Text b))) ≡ true
unfolding class_of
quote_tried = refl

no_quote_lem : (w : List ℕ) → length w ≡ 8 → Under 256 w → unlike_of (lanes 8 w) 0x2222222222222222 ≡ lanes 8 (map no_quote w)
unfolding lanes
no_quote_lem w n u = unlike_in w n u (λ b. b) 34 0x2222222222222222 alone (lit< tt) refl (whole w n u)

quotes_in : (w : List ℕ) → length w ≡ 8 → Under 256 w → quotes_of (lanes 8 w) ≡ lanes 8 (map (λ b. off (goes Run.Text b)) w)
quotes_in w n u = turned_in Run.Text no_quote quote_tried w n u small_quote (no_quote_lem w n u)

pub quotes_show : (answers : ℕ → ℕ → Type 0) → ((x r : ℕ) → answers x r → r ≡ quotes_of x) → Shows (goes Run.Text) answers
unfolding class_of
quotes_show answers is = record { lanewise = λ w r n u a. is (lanes 8 w) r a ∙ quotes_in w n u; nought = refl }

-- ---- no mark: no quote, and no parenthesis; these two differ in the lowest bit only
abbrev no_mark : ℕ → ℕ
no_mark b = bit_and (no_quote b) (unlike (bit_or b 1) 41)

small_odd : Small (λ b. bit_or b 1)
small_odd b h = or_lt 8 b 1 h (lit< tt)

small_round : Small (λ b. unlike (bit_or b 1) 41)
small_round = small_unlike (λ b. bit_or b 1) 41 small_odd (lit< tt)

small_mark : Small no_mark
small_mark b h = lt_of_le_of_lt (and_le_r (no_quote b) (unlike (bit_or b 1) 41)) (small_round b h)

mark_tried : each 256 (λ b. eqb (turned (no_mark b)) (off (goes Run.Plain b))) ≡ true
unfolding class_of
mark_tried = refl

marks_in : (w : List ℕ) → length w ≡ 8 → Under 256 w → marks_of (lanes 8 w) ≡ lanes 8 (map (λ b. off (goes Run.Plain b)) w)
unfolding lanes
marks_in w n u =
    let odd = both w n u bit_or or_block refl (λ b. b) (λ _. 1) alone (λ b h. lit< tt) (whole w n u) (same w n u 1 0x0101010101010101 refl) in
    let round = unlike_in w n u (λ b. bit_or b 1) 41 0x2929292929292929 small_odd (lit< tt) refl odd in
    turned_in Run.Plain no_mark mark_tried w n u small_mark (both w n u bit_and and_block refl no_quote (λ b. unlike (bit_or b 1) 41) small_quote small_round (no_quote_lem w n u) round)

pub marks_show : (answers : ℕ → ℕ → Type 0) → ((x r : ℕ) → answers x r → r ≡ marks_of x) → Shows (goes Run.Plain) answers
unfolding class_of
marks_show answers is = record { lanewise = λ w r n u a. is (lanes 8 w) r a ∙ marks_in w n u; nought = refl }
