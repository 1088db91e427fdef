-- A word of one decimal digit behind one blank: it is the number there. Assumes nothing.
use Rattle.std.specs.Prelude.{Option, Some}
use Rattle.facts.specs.declared.Taken.{Taken}
use Prim.Native.Nat.{ℕ, ◌+◌}
use mathlib.Core.Path.{◌≡◌, refl, sym}
use mathlib.Core.List.{List}
use lib.ListN.{length}
use Rattle.tokens.specs.declared.Token.{Token}
use Rattle.tokens.specs.Tokens.{step_of}
use Rattle.tokens.specs.Listed.{tokens_from}
use Rattle.numbers.specs.declared.sort.Sort.{Sort}
use Rattle.layout.specs.Reading.{number_by}
use Rattle.quick.specs.Quick.{known, digit_hex}
use Rattle.quick.proofs.Alone.{digit_alone}
use Rattle.steps.specs.Views.{num_read, NumAt, whole_for}
use Rattle.steps.proofs.Taken.{number_is}

module _ (s : List ℕ) (at : ℕ) where
  pub digit_number : (q : Option (Taken ℕ)) → q ≡ digit_hex s at → (v n : ℕ) → q ≡ known v n
      → NumAt s at (num_read v (at + 1) n) (number_by (length s) (whole_for Sort.Hexadecimal) Sort.Hexadecimal (tokens_from s at))
  digit_number q f v n e =
      let a = digit_alone s at q f v n e in
      number_is s at (step_of Token.Word (at + 1) n) a.token Sort.Hexadecimal refl (Some v) (sym a.number) v refl
