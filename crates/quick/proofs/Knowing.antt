-- Where a hexadecimal word stands, the digits there are all of it. Assumes nothing.
use Rattle.std.specs.Prelude.{Some}
use Prim.Native.Nat.{ℕ, ◌+◌, ◌-◌, ◌≤◌, ◌<◌}
use native.Mathlib.Omega.{arith}
use mathlib.Core.Path.{◌≡◌, sym, ap, subst, ◌∙◌}
use mathlib.Core.List.{List, ◌++◌}
use borrow.Author.Tests.{ltb-true, ltb-false}
use lib.Dec.{ltb}
use lib.ListN.{length, take, drop, get_or, drop_of_length-le, length-take, length-drop, take-append-drop}
use lib.Seq.{take-take, drop-cons, length-take-le, get_or-take, get_or-drop}
use Rattle.facts.proofs.Branch.{split}
use Rattle.tokens.specs.declared.Token.{Token}
use Rattle.tokens.specs.declared.Step.{Step}
use Rattle.tokens.specs.Tokens.{start_of, token_at}
use Rattle.tokens.proofs.Bounds.{Moved}
use Rattle.tokens.proofs.Ended.{word_token, ended_low}
use Rattle.tokens.proofs.Listed.{moved}
use Rattle.digits.specs.declared.quick.Hexes.{Hexes}
use Rattle.digits.specs.Digits.{digit_of}
use Rattle.numbers.specs.Whole.{hexadecimal_of}
use Rattle.digits.specs.Hexes.{hexes_of}
use Rattle.digits.proofs.Digits.{Begins, NoDigit}
use Rattle.numbers.proofs.Wholes.{whole_of_exactly}
use Rattle.numbers.proofs.AtOnce.{digit_high, hexes_all}
use Rattle.quick.specs.Quick.{hexes_from, known_by, known_of}

low_byte : (b : ℕ) → b < 42 → NoDigit 16 b
low_byte b h = split (ltb (digit_of b) 16) (λ p. absurd (omega (arith, h, digit_high b (ltb-true (digit_of b) 16 p)))) (λ p. p)

-- what stands from k on begins with no digit, if the byte there is none
begins_at : (l : List ℕ) (k : ℕ) → (k < length l → get_or l k 0 < 42) → Begins (NoDigit 16) (drop k l)
begins_at l k h =
    split (ltb k (length l))
    (λ p. let i = ltb-true k (length l) p in subst (Begins (NoDigit 16)) (sym (drop-cons l k 0 i)) (low_byte (get_or l k 0) (h i)))
    (λ p. subst (Begins (NoDigit 16)) (sym (drop_of_length-le l (ltb-false k (length l) p))) tt)

module _ (s : List ℕ) (at : ℕ) (t : Step) (e : t ≡ token_at s at) (q : t.token ≡ Token.Word) (v : ℕ)
    (h : hexadecimal_of (take (t.next.at - t.start) (drop t.start s)) ≡ Some v) where
  abbrev size : ℕ
  size = t.next.at - t.start

  abbrev from : List ℕ
  from = drop t.start s

  moves : Moved at (length s) t
  moves = moved s at t Token.Word e q tt

  long : length (take size from) ≡ size
  long = let m = moves in length-take-le size from (omega (arith, m.more, m.most, length-drop t.start s))

  short : size ≤ 8
  short = omega (arith, long, ((whole_of_exactly 16 8 (take size from) v).0 h).high)

  parted : take size from ++ drop size (take 8 from) ≡ take 8 from
  parted = ap (λ w. w ++ drop size (take 8 from)) (sym (take-take size 8 from short)) ∙ take-append-drop size (take 8 from)

  -- the byte behind the word
  behind : size < length (take 8 from) → get_or (take 8 from) size 0 < 42
  behind l =
      let m = moves in
      let n : t.start + size ≡ t.next.at = omega (arith, m.more) in
      let inside : t.next.at < length s = omega (arith, l, m.more, length-take 8 from, length-drop t.start s) in
      let same : get_or (take 8 from) size 0 ≡ get_or s t.next.at 0 =
      get_or-take 8 from size 0 (omega (arith, l, length-take 8 from)) ∙ get_or-drop t.start s size 0 ∙ ap (λ k. get_or s k 0) n in
      subst (λ b. b < 42) (sym same) (ended_low s t.next.at (word_token s at t e q).ends inside)

  found : hexes_of (take 8 from) ≡ record { value = v; count = size }
  found =
      ap hexes_of (sym parted) ∙ hexes_all (take size from) (drop size (take 8 from)) v h (begins_at (take 8 from) size behind) (omega (arith, ap length parted, length-take 8 from))
      ∙ ap (λ k. record { value = v; count = k }) long

  pub known_word : known_of s at ≡ record { value = v; next = t.next.at }
  unfolding known_of
  known_word =
      let m = moves in
      let w = word_token s at t e q in
      let n : t.start + size ≡ t.next.at = omega (arith, m.more) in
      ap (λ i. known_by i (hexes_of (take 8 (drop i s)))) (sym w.starts) ∙ ap (known_by t.start) found ∙ ap (λ k. record { value = v; next = k }) n

pub known_from : (s : List ℕ) (at i : ℕ) (h : Hexes) → i ≡ start_of s at → h ≡ hexes_from s i → known_by i h ≡ known_of s at
unfolding hexes_from known_of
known_from s at i h b f = ap (known_by i) f ∙ ap (λ k. known_by k (hexes_from s k)) b
