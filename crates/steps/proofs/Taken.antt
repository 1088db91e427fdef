-- What the code owes once it has taken a token apart: as expected, or Grammar at that token. Assumes nothing.
use Rattle.std.specs.Prelude.{Option, Some, None, Ok, Err}
use Prim.Native.Nat.{ℕ, ◌+◌, ◌-◌, ◌≤◌}
use native.Mathlib.Omega.{arith}
use mathlib.Core.Path.{◌≡◌, refl, sym, ◌∙◌, ap}
use mathlib.Core.List.{List, [], ◌∷◌}
use lib.ListN.{length, take, drop, length-drop}
use lib.Seq.{length-take-le}
use types.Run.{OneOf, miss}
use denote.Enum.Declared.{tag_of}
use Rattle.tokens.specs.declared.Token.{Token}
use Rattle.tokens.specs.declared.Step.{Step}
use Rattle.tokens.specs.Tokens.{token_at}
use Rattle.tokens.specs.Listed.{tokens_from}
use Rattle.tokens.specs.contracts.Token.{the_type}
use Rattle.tokens.proofs.Bounds.{Moved}
use Rattle.tokens.proofs.Listed.{tokens_kind, moved, ended}
use Rattle.decimals.specs.declared.decimal.Decimal.{Decimal}
use Rattle.numbers.specs.declared.sort.Sort.{Sort}
use Rattle.decimals.specs.Coordinate.{coordinate_of}
use Rattle.numbers.specs.Bad.{bad_at}
use Rattle.numbers.proofs.Bad.{bad_at_within}
use Rattle.layout.specs.declared.Refusal.{Refusal}
use Rattle.layout.specs.Reading.{bad, Reader, left_of, right_of, word_of, numbered, paired, number_by, pair_word}
use Rattle.spots.specs.declared.Bad.{Bad}
use Rattle.steps.specs.Views.{num_read, CloseAt, NumAt, PairAt, whole_for}
use Rattle.spots.specs.Pasts.{taken, PastAt}

abbrev grammar : ℕ → Bad
grammar o = record { why = Refusal.Grammar; offset = o }

module _ (s : List ℕ) (at : ℕ) (t : Step) (e : t ≡ token_at s at) where
  -- ---- parentheses
  pub left_is : t.token ≡ Token.Left → PastAt s at (Ok t.next.at) (left_of (length s) (tokens_from s at))
  unfolding left_of
  left_is q = let m = moved s at t Token.Left e q tt in record { says = rw (tokens_kind s at t Token.Left e q); ahead = omega arith }

  left_by_lem : (k : Token) → t.token ≡ k → OneOf (1 ∷ 2 ∷ 3 ∷ 4 ∷ 5 ∷ []) (tag_of the_type k) → PastAt s at (Err (grammar t.start)) (left_of (length s) (tokens_from s at))
  unfolding left_of
  left_by_lem Token.Left q o = absurd (miss (1 ∷ 2 ∷ 3 ∷ 4 ∷ 5 ∷ []) 0 tt o)
  left_by_lem Token.Right q o = record { says = rw (tokens_kind s at t Token.Right e q); ahead = tt }
  left_by_lem Token.Text q o = record { says = rw (tokens_kind s at t Token.Text e q); ahead = tt }
  left_by_lem Token.Word q o = record { says = rw (tokens_kind s at t Token.Word e q); ahead = tt }
  left_by_lem Token.Unclosed q o = record { says = rw (tokens_kind s at t Token.Unclosed e q); ahead = tt }
  left_by_lem Token.End q o = record { says = rw (tokens_kind s at t Token.End e q, ended s at t e q); ahead = tt }

  pub left_not : OneOf (1 ∷ 2 ∷ 3 ∷ 4 ∷ 5 ∷ []) (tag_of the_type t.token) → PastAt s at (Err (grammar t.start)) (left_of (length s) (tokens_from s at))
  left_not o = left_by_lem t.token refl o

  pub right_is : t.token ≡ Token.Right → CloseAt s at (taken t.start t.next.at) (right_of (length s) (tokens_from s at))
  unfolding right_of
  right_is q = let m = moved s at t Token.Right e q tt in record { says = rw (tokens_kind s at t Token.Right e q); ahead = omega arith }

  right_by : (k : Token) → t.token ≡ k → OneOf (0 ∷ 2 ∷ 3 ∷ 4 ∷ 5 ∷ []) (tag_of the_type k) → CloseAt s at (Err (grammar t.start)) (right_of (length s) (tokens_from s at))
  unfolding right_of
  right_by Token.Left q o = record { says = rw (tokens_kind s at t Token.Left e q); ahead = tt }
  right_by Token.Right q o = absurd (miss (0 ∷ 2 ∷ 3 ∷ 4 ∷ 5 ∷ []) 1 tt o)
  right_by Token.Text q o = record { says = rw (tokens_kind s at t Token.Text e q); ahead = tt }
  right_by Token.Word q o = record { says = rw (tokens_kind s at t Token.Word e q); ahead = tt }
  right_by Token.Unclosed q o = record { says = rw (tokens_kind s at t Token.Unclosed e q); ahead = tt }
  right_by Token.End q o = record { says = rw (tokens_kind s at t Token.End e q, ended s at t e q); ahead = tt }

  pub right_not : OneOf (0 ∷ 2 ∷ 3 ∷ 4 ∷ 5 ∷ []) (tag_of the_type t.token) → CloseAt s at (Err (grammar t.start)) (right_of (length s) (tokens_from s at))
  right_not o = right_by t.token refl o

  -- ---- words
  abbrev here : List ℕ
  here = take (t.next.at - t.start) (drop t.start s)

  pub word_moves : t.token ≡ Token.Word → Moved at (length s) t
  word_moves q = moved s at t Token.Word e q tt

  word_by : {A : Type 0} (f : ℕ → List ℕ → Reader A) (k : Token) → t.token ≡ k → OneOf (0 ∷ 1 ∷ 2 ∷ 4 ∷ 5 ∷ []) (tag_of the_type k)
      → bad Refusal.Grammar t.start ≡ word_of (length s) f (tokens_from s at)
  unfolding word_of
  word_by f Token.Left q o = rw (tokens_kind s at t Token.Left e q)
  word_by f Token.Right q o = rw (tokens_kind s at t Token.Right e q)
  word_by f Token.Text q o = rw (tokens_kind s at t Token.Text e q)
  word_by f Token.Word q o = absurd (miss (0 ∷ 1 ∷ 2 ∷ 4 ∷ 5 ∷ []) 3 tt o)
  word_by f Token.Unclosed q o = rw (tokens_kind s at t Token.Unclosed e q)
  word_by f Token.End q o = rw (tokens_kind s at t Token.End e q, ended s at t e q)

  word_is : {A : Type 0} (f : ℕ → List ℕ → Reader A) → t.token ≡ Token.Word → f t.start here (tokens_from s t.next.at) ≡ word_of (length s) f (tokens_from s at)
  unfolding word_of
  word_is f q = rw (tokens_kind s at t Token.Word e q)

  pub offset_in : (k : Sort) (b : ℕ) → t.token ≡ Token.Word → b ≡ bad_at k here → t.start + b ≤ length s
  offset_in k b q h =
      let m = word_moves q in
      omega (arith, bad_at_within k here, length-take-le (t.next.at - t.start) (drop t.start s) (omega (arith, length-drop t.start s)))

  module _ (k : Sort) where
    pub number_not : OneOf (0 ∷ 1 ∷ 2 ∷ 4 ∷ 5 ∷ []) (tag_of the_type t.token)
        → NumAt s at (Err (grammar t.start)) (number_by (length s) (whole_for k) k (tokens_from s at))
    number_not o = record { says = word_by _ t.token refl o; ahead = tt }

    module _ (q : t.token ≡ Token.Word) (v : Option ℕ) (h : v ≡ whole_for k here) where
      number_by_lem : (u : Option ℕ) → v ≡ u → numbered (length s) k u t.start here (tokens_from s t.next.at) ≡ number_by (length s) (whole_for k) k (tokens_from s at)
      number_by_lem u y = ap (λ z. numbered (length s) k z t.start here (tokens_from s t.next.at)) (sym y ∙ h) ∙ word_is (λ o w. numbered (length s) k (whole_for k w) o w) q

      pub number_is : (n : ℕ) → v ≡ Some n → NumAt s at (num_read n t.start t.next.at) (number_by (length s) (whole_for k) k (tokens_from s at))
      number_is n y = let m = word_moves q in record { says = number_by_lem (Some n) y; ahead = omega arith }

      pub number_bad : v ≡ None → (b : ℕ) → b ≡ bad_at k here
          → NumAt s at (Err (record { why = Refusal.Number; offset = t.start + b })) (number_by (length s) (whole_for k) k (tokens_from s at))
      number_bad y b z = record { says = rw z (number_by_lem None y); ahead = tt }

  pub pair_not : OneOf (0 ∷ 1 ∷ 2 ∷ 4 ∷ 5 ∷ []) (tag_of the_type t.token) → PairAt s at (Err (grammar t.start)) (pair_word (length s) (tokens_from s at))
  pair_not o = record { says = word_by _ t.token refl o; ahead = tt }

  module _ (q : t.token ≡ Token.Word) (v : Option Decimal) (h : v ≡ coordinate_of here) where
    pair_by_lem : (u : Option Decimal) → v ≡ u → paired (length s) u t.start here (tokens_from s t.next.at) ≡ pair_word (length s) (tokens_from s at)
    pair_by_lem u y = ap (λ z. paired (length s) z t.start here (tokens_from s t.next.at)) (sym y ∙ h) ∙ word_is (λ o w. paired (length s) (coordinate_of w) o w) q

    pub pair_is : (d : Decimal) → v ≡ Some d → PairAt s at (taken d t.next.at) (pair_word (length s) (tokens_from s at))
    pair_is d y = let p = word_moves q in record { says = pair_by_lem (Some d) y; ahead = omega arith }

    pub pair_bad : v ≡ None → (b : ℕ) → b ≡ bad_at Sort.Coordinate here
        → PairAt s at (Err (record { why = Refusal.Number; offset = t.start + b })) (pair_word (length s) (tokens_from s at))
    pair_bad y b z = record { says = rw z (pair_by_lem None y); ahead = tt }
