-- A word of one decimal digit behind one blank: what the code finds is what the definition says. Assumes nothing.
use Prim.Native.Nat.{ℕ, ◌+◌, ◌-◌, ◌≤◌, ◌<◌}
use mathlib.Core.Path.{◌≡◌, ◌∙◌}
use mathlib.Core.List.{List}
use Rattle.std.specs.Prelude.{Option, None}
use mathlib.Core.Bool.{Bool, true, false}
use borrow.Author.Tests.{le-leb, lt-leb}
use lib.ListN.{length, get_or}
use Rattle.tokens.specs.Tokens.{is_blank, ends_word}
use Rattle.facts.specs.declared.Taken.{Taken}
use Rattle.quick.specs.Quick.{known, figure_of, digit_hex}

-- ---- the digit that a byte is
module _ (b n : ℕ) where
  abbrev pub figured : Bool → Option (Taken ℕ)
  figured t = elim t [ true ↦ known (b - 48) n | false ↦ None ]

-- ---- the word
module _ (s : List ℕ) (at : ℕ) where
  abbrev byte : ℕ
  byte = get_or s (at + 1) 0

  pub digit_short : length s < at + 3 → None ≡ digit_hex s at
  unfolding digit_hex
  digit_short l = rw (lt-leb (at + 3) (length s) l, digit_hex)

  module _ (l : at + 3 ≤ length s) where
    pub digit_solid : is_blank (get_or s at 0) ≡ false → None ≡ digit_hex s at
    unfolding digit_hex
    digit_solid b = rw (le-leb (at + 3) (length s) l, b, digit_hex)

    module _ (b : is_blank (get_or s at 0) ≡ true) where
      pub digit_on : ends_word s (at + 2) ≡ false → None ≡ digit_hex s at
      unfolding digit_hex
      digit_on e = rw (le-leb (at + 3) (length s) l, b, e, digit_hex)

      pub digit_is : ends_word s (at + 2) ≡ true → (q : Option (Taken ℕ)) → q ≡ figure_of byte (at + 2) → q ≡ digit_hex s at
      unfolding digit_hex
      digit_is e q f = f ∙ rw (le-leb (at + 3) (length s) l, b, e, digit_hex)
