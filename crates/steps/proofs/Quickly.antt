-- The usual number word: what is found by its bytes is the number that the token's word is. Assumes nothing.
use Rattle.std.specs.Prelude.{Option, Some, None, Ok}
use Prim.Native.Nat.{ℕ, ◌+◌, ◌≤◌}
use native.Mathlib.Omega.{arith}
use mathlib.Core.Path.{◌≡◌, refl, sym, ap, subst, ◌∙◌}
use mathlib.Core.List.{List}
use mathlib.Core.Bool.{Bool, true, false, ◌&&◌, ◌||◌}
use borrow.Author.Tests.{ltb-true, eqb-true}
use lib.Dec.{ltb, eqb}
use lib.ListN.{length, take}
use Rattle.facts.proofs.Branch.{split, either, differ}
use Rattle.facts.proofs.Decides.{and_split, or_split, either_of}
use Rattle.tokens.specs.declared.Token.{Token}
use Rattle.tokens.specs.Tokens.{start_of, ends_word, step_of}
use Rattle.tokens.specs.Listed.{tokens_from}
use Rattle.digits.specs.declared.quick.Hexes.{Hexes}
use Rattle.numbers.specs.declared.sort.Sort.{Sort}
use Rattle.decimals.specs.declared.decimal.Decimal.{Decimal}
use Rattle.facts.specs.declared.Taken.{Taken}
use Rattle.decimals.specs.Coordinate.{coordinate_of}
use Rattle.decimals.specs.Lead.{is_part, lead_of}
use Rattle.digits.specs.Digits.{within}
use Rattle.digits.specs.Hexes.{hexes_of}
use Rattle.digits.proofs.Digits.{within_is}
use Rattle.decimals.proofs.Led.{lead_is, lead_next, lead_parts}
use Rattle.numbers.proofs.AtOnce.{hexes_worded, digit_high}
use Rattle.quick.specs.Quick.{known, quick_of}
use Rattle.quick.proofs.Alone.{is_quick, value_of, next_of}
use Rattle.pairs.specs.Pairs.{window, leads_by, leads_of}
use Rattle.pairs.proofs.Windows.{word_bytes, word_here}
use Rattle.layout.specs.Reading.{number_by, pair_word}
use Rattle.steps.specs.Views.{num_read, NumAt, PairAt, whole_for}
use Rattle.steps.proofs.Taken.{number_is, pair_is}

-- ---- what is found is the number there
module _ (s : List ℕ) (at : ℕ) where
  abbrev found : Hexes
  found = hexes_of (window s at 8)

  abbrev Number : ℕ → ℕ → Type 0
  Number v n = NumAt s at (num_read v (start_of s at) n) (number_by (length s) (whole_for Sort.Hexadecimal) Sort.Hexadecimal (tokens_from s at))

  number_found : 1 ≤ found.count → ends_word s (start_of s at + found.count) ≡ true → Number found.value (start_of s at + found.count)
  number_found some e =
      let w = window s at 8 in
      let h = hexes_worded w some in
      let t = word_here s at 8 found.count some h.within (λ j l. omega (arith, digit_high _ (h.digit j l))) e in
      number_is s at (step_of Token.Word (start_of s at) (start_of s at + found.count)) t Sort.Hexadecimal refl (whole_for Sort.Hexadecimal (take found.count w))
      (ap (whole_for Sort.Hexadecimal) (sym (word_bytes s at 8 found.count some h.within))) found.value h.number

  abbrev pick_found : Bool → Option (Taken ℕ)
  pick_found t = elim t [ true ↦ known found.value (start_of s at + found.count) | false ↦ None ]

  pub quick_number : (q : Option (Taken ℕ)) → q ≡ quick_of s at → (v n : ℕ) → q ≡ known v n → Number v n
  unfolding quick_of
  quick_number q f v n e =
      let test = ltb 0 found.count && ends_word s (start_of s at + found.count) in
      split test
      (λ p. let both = and_split (ltb 0 found.count) (ends_word s (start_of s at + found.count)) p in
      let same : known v n ≡ known found.value (start_of s at + found.count) = sym e ∙ f ∙ ap pick_found p in
      let it = number_found (ltb-true 0 found.count both.0) both.1 in
      subst (λ k. Number v k) (sym (ap next_of same)) (subst (λ k. Number k (start_of s at + found.count)) (sym (ap value_of same)) it))
      (λ p. let none : known v n ≡ None = sym e ∙ f ∙ ap pick_found p in
      differ true refl (ap is_quick none))

-- ---- coordinates
abbrev is_led : Option (Taken Decimal) → Bool
is_led (Some t) = true
is_led None = false

abbrev led_or : Taken Decimal → Option (Taken Decimal) → Taken Decimal
led_or t (Some u) = u
led_or t None = t

part_high : (b : ℕ) → is_part b ≡ true → 42 ≤ b
part_high b h =
    either_of (or_split (within 48 57 b) _ h) (λ p. omega (arith, within_is 48 57 b p))
    (λ q. either_of (or_split (eqb b 46) _ q) (λ p. omega (arith, eqb-true b 46 p))
    (λ r. either_of (or_split (eqb b 101 || eqb b 69) _ r)
    (λ m. either_of (or_split (eqb b 101) (eqb b 69) m) (λ p. omega (arith, eqb-true b 101 p)) (λ p. omega (arith, eqb-true b 69 p)))
    (λ t. either_of (or_split (eqb b 43) (eqb b 45) t) (λ p. omega (arith, eqb-true b 43 p)) (λ p. omega (arith, eqb-true b 45 p)))))

module _ (s : List ℕ) (at : ℕ) where
  abbrev Pair : Taken Decimal → Type 0
  Pair t = PairAt s at (Ok t) (pair_word (length s) (tokens_from s at))

  module _ (d : Decimal) (e : (lead_of (window s at 64)).value ≡ Some d) where
    abbrev behind : ℕ
    behind = (lead_of (window s at 64)).next

    pair_there : ends_word s (start_of s at + behind) ≡ true → Pair (record { value = d; next = start_of s at + behind })
    pair_there ends =
        let w = window s at 64 in
        let n = lead_next w d.mantissa d.exponent e in
        let t = word_here s at 64 behind n.0 n.1 (λ j h. part_high _ (lead_parts w d.mantissa d.exponent e j h)) ends in
        pair_is s at (step_of Token.Word (start_of s at) (start_of s at + behind)) t refl (coordinate_of (take behind w)) (ap coordinate_of (sym (word_bytes s at 64 behind n.0 n.1))) d (lead_is w d.mantissa d.exponent e)

  pub pair_found : (i : ℕ) (l : Taken (Option Decimal)) → i ≡ start_of s at → l ≡ lead_of (window s at 64) → (d : Decimal) → l.value ≡ Some d → ends_word s (i + l.next) ≡ true
      → Pair (record { value = d; next = i + l.next })
  pair_found i l b f d h ends =
      let e : (lead_of (window s at 64)).value ≡ Some d = ap (λ (y : Taken (Option Decimal)). y.value) (sym f) ∙ h in
      let k : i + l.next ≡ start_of s at + (lead_of (window s at 64)).next = λ j. b j + (f j).next in
      subst (λ n. Pair (record { value = d; next = n })) (sym k) (pair_there d e (ap (λ n. ends_word s n) (sym k) ∙ ends))

  leads_by_lem : (d : Option Decimal) → (lead_of (window s at 64)).value ≡ d → (t : Taken Decimal)
      → leads_by s (start_of s at) (lead_of (window s at 64)).next d ≡ Some t → Pair t
  leads_by_lem (Some d) f t =
      either (λ r. r ≡ Some t → Pair t) (ends_word s (start_of s at + (lead_of (window s at 64)).next))
      (λ p q. subst Pair (ap (led_or t) q) (pair_there d f p)) (λ _ q. differ false (ap is_led q) refl)
  leads_by_lem None f t = λ q. differ false (ap is_led q) refl

  pub leads_pair : (r : Option (Taken Decimal)) → r ≡ leads_of s at → (t : Taken Decimal) → r ≡ Some t → Pair t
  unfolding leads_of
  leads_pair r f t e = leads_by_lem (lead_of (window s at 64)).value refl t (sym f ∙ e)
