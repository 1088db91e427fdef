-- Digits from a place on, at most 8, and the usual case that one blank stands before them: then the next token starts there. Assumes nothing.
use Prim.Native.Nat.{ℕ, ◌+◌, ◌-◌, ◌≤◌, ◌<◌}
use native.Mathlib.Omega.{arith}
use mathlib.Core.Path.{◌≡◌, sym, ap, ap₂, subst, ◌∙◌}
use mathlib.Core.List.{List}
use mathlib.Core.Bool.{Bool, true, false, ◌&&◌}
use borrow.Author.Tests.{le-leb, lt-leb, leb-true, eqb-true, eqb-false, eq-eqb, ne_eqb}
use lib.Dec.{leb, eqb}
use lib.ListN.{length, take, drop, get_or, drop_of_length-le, length-take, length-drop}
use lib.Seq.{take_all, get_or-take, get_or-drop}
use Rattle.facts.proofs.Branch.{split}
use Rattle.facts.proofs.Decides.{and_split}
use Rattle.tokens.specs.Tokens.{is_blank, start_of}
use Rattle.tokens.proofs.Runner.{start_next}
use Rattle.digits.specs.declared.quick.Hexes.{Hexes}
use Rattle.digits.specs.Digits.{digits_in}
use Rattle.digits.specs.Hexes.{hexes_of}
use Rattle.digits.specs.Lanes.{Laned}
use Rattle.digits.specs.Couples.{end_in}
use Rattle.numbers.proofs.AtOnce.{hexes_worded, digit_high}
use Rattle.quick.specs.Quick.{hexes_from, guessed, near_hexes}

abbrev none : Hexes
none = record { value = 0; count = 0 }

module _ (s : List ℕ) (i : ℕ) where
  pub from_end : length s ≤ i → none ≡ hexes_from s i
  unfolding hexes_from hexes_of digits_in
  from_end h = rw (drop_of_length-le s h)

  module _ (h : Hexes) where
    -- fewer bytes are left
    pub from_few : length s - i < 8 → h ≡ hexes_of (take (length s - i) (drop i s)) → h ≡ hexes_from s i
    unfolding hexes_from
    from_few l f =
        let d = length-drop i s in
        f ∙ ap hexes_of (take_all (length s - i) (drop i s) (omega (arith, d)) ∙ sym (take_all 8 (drop i s) (omega (arith, l, d))))

    pub from_whole : h ≡ hexes_of (take (i + 8 - i) (drop i s)) → h ≡ hexes_from s i
    unfolding hexes_from
    from_whole f = let z : i + 8 - i ≡ 8 = omega arith in f ∙ ap (λ k. hexes_of (take k (drop i s))) z

    -- the place behind the digits
    pub from_below : (b : ℕ) → i < b → length s < b → h ≡ hexes_from s i → i + h.count < b
    unfolding hexes_from
    from_below b l m f =
        let w = take 8 (drop i s) in
        let c : h.count ≡ (hexes_of w).count = ap (λ (y : Hexes). y.count) f in
        split (eqb h.count 0)
        (λ p. omega (arith, l, eqb-true h.count 0 p))
        (λ p. let some : 1 ≤ (hexes_of w).count = omega (arith, c, eqb-false h.count 0 p) in
        omega (arith, c, m, some, (hexes_worded w some).within, length-take 8 (drop i s), length-drop i s))

-- ---- behind one blank
module _ (s : List ℕ) (at : ℕ) where
  pub near_short : length s < at + 9 → none ≡ near_hexes s at
  unfolding near_hexes
  near_short l = rw (lt-leb (at + 9) (length s) l, near_hexes)

  module _ (l : at + 9 ≤ length s) where
    pub near_solid : is_blank (get_or s at 0) ≡ false → none ≡ near_hexes s at
    unfolding near_hexes
    near_solid b = rw (le-leb (at + 9) (length s) l, b, near_hexes)

    -- the guess, and what the digits are
    module _ (b : is_blank (get_or s at 0) ≡ true) (x g : ℕ) (n : Laned (take 8 (drop (at + 1) s)) x) (e : g ≡ end_in x) (h : Hexes) (f : h ≡ hexes_from s (at + 1)) where
      abbrev pick : Bool → Hexes
      pick t = elim t [ true ↦ hexes_from s (at + 1) | false ↦ none ]

      near_test : (t : Bool) → eqb g h.count ≡ t → pick t ≡ near_hexes s at
      unfolding near_hexes
      near_test t q =
          let same : guessed s (at + 1) ≡ t = sym (ap₂ (λ (k : ℕ) (y : Hexes). eqb k y.count) (e ∙ ap end_in n.same) f) ∙ q in
          sym (λ i. pick (le-leb (at + 9) (length s) l i && (b i && same i)))

      pub near_blank : g ≡ h.count → record { value = h.value; count = g } ≡ near_hexes s at
      near_blank q = (λ i. record { value = h.value; count = q i }) ∙ f ∙ near_test true (eq-eqb g h.count q)

      pub near_other : (g ≡ h.count → ⊥) → none ≡ near_hexes s at
      near_other q = near_test false (ne_eqb g h.count q)

  pub record Near (h : Hexes) : Type 0 where
    pub within : at + 9 ≤ length s
    pub starts : at + 1 ≡ start_of s at
    pub found : h ≡ hexes_from s (at + 1)

  -- a digit is no blank
  pub near_starts : at + 2 ≤ length s → is_blank (get_or s at 0) ≡ true → 1 ≤ (hexes_from s (at + 1)).count → at + 1 ≡ start_of s at
  unfolding hexes_from
  near_starts l b some =
      let w = take 8 (drop (at + 1) s) in
      let z : at + 1 + 0 ≡ at + 1 = omega arith in
      let same : get_or w 0 0 ≡ get_or s (at + 1) 0 = get_or-take 8 (drop (at + 1) s) 0 0 (omega arith) ∙ get_or-drop (at + 1) s 0 0 ∙ ap (λ k. get_or s k 0) z in
      start_next s at (omega (arith, l)) b (subst (λ d. 42 ≤ d) same (omega (arith, digit_high (get_or w 0 0) ((hexes_worded w some).digit 0 some))))

  pub near_found : (h : Hexes) → h ≡ near_hexes s at → 0 < h.count → Near h
  unfolding near_hexes
  near_found h f some =
      let room = leb (at + 9) (length s) in
      let blank = is_blank (get_or s at 0) in
      split (room && (blank && guessed s (at + 1)))
      (λ p. let both = and_split room (blank && guessed s (at + 1)) p in
      let e : h ≡ hexes_from s (at + 1) = f ∙ rw (p, near_hexes) in
      let l = leb-true (at + 9) (length s) both.0 in
      record {
        within = l;
        starts = near_starts (omega (arith, l)) (and_split blank (guessed s (at + 1)) both.1).0 (omega (arith, some, ap (λ (y : Hexes). y.count) e));
        found = e;
      })
      (λ p. absurd (let e : h ≡ none = f ∙ rw (p, near_hexes) in omega (arith, some, ap (λ (y : Hexes). y.count) e)))
