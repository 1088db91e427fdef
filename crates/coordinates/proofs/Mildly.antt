-- A coordinate that is good whatever it says: what the code that looks at its shape finds. Assumes nothing.
use Rattle.std.specs.Prelude.{Option, Some, None}
use Prim.Native.Nat.{ℕ, ◌+◌, ◌-◌, ◌*◌, ◌≤◌, ◌<◌, max}
use native.Mathlib.Numerals.{add-one}
use native.Mathlib.Omega.{arith}
use mathlib.Core.Path.{◌≡◌, sym, ap, subst, ◌∙◌}
use mathlib.Core.List.{List, []}
use mathlib.Core.Bool.{Bool, true, false, ◌&&◌}
use borrow.Author.Tests.{ltb-true, ltb-false, le-leb, lt-leb}
use lib.Dec.{ltb, leb}
use lib.IntN.{ℤ, pos}
use lib.ListN.{length, drop, get_or, length-append, length-drop, drop_of_length-le}
use lib.Seq.{drop-cons, drop-drop, drop_at}
use Rattle.facts.proofs.Branch.{split, either, differ}
use Rattle.facts.specs.declared.Taken.{Taken}
use Rattle.coordinates.specs.declared.sign.Sign.{Sign}
use Rattle.digits.specs.Digits.{within, digit_of, Digits, digits_in}
use Rattle.decimals.specs.Coordinate.{Signed, sign_in, fraction_in, is_mark, front_of, back_of}
use Rattle.decimals.specs.Lead.{Leading, leading, tens_by, marked_in, power_in, tens_of, lead_of}
use Rattle.coordinates.specs.Parts.{starts, SignAt, PowerAt}
use Rattle.decimals.specs.Mild.{few_digits, small_power, mild_of}
use Rattle.coordinates.specs.Behind.{behind_of, point_of, tens_to}
use Rattle.digits.proofs.Digits.{Begins, NoDigit, digits_in_exact, digits_in_part, digits_in_alike, digits_in_stops}
use Rattle.numbers.proofs.Places.{digits_in_more, digits_in_stop, digits_in_past}
use Rattle.coordinates.proofs.Places.{not_point, starts_past, point_here}
use Rattle.decimals.proofs.Pieces.{fraction_in_none}
use Rattle.coordinates.proofs.Leading.{past_lead, marked_lead, plain_lead}

-- ---- digits
module _ (w : List ℕ) (i : ℕ) where
  pub behind_past : length w ≤ i → i ≡ behind_of w i
  unfolding behind_of
  behind_past h = omega (arith, ap (λ (d : Digits). d.count) (digits_in_past w i 10 0 0 h))

  module _ (d : ℕ) (h : i < length w) (e : d ≡ digit_of (get_or w i 0)) where
    pub behind_stop : 10 ≤ d → i ≡ behind_of w i
    unfolding behind_of
    behind_stop t = omega (arith, ap (λ (d : Digits). d.count) (digits_in_stop w i 10 0 0 d h e t))

    pub behind_more : d < 10 → behind_of w (i + 1) ≡ behind_of w i
    unfolding behind_of
    behind_more t =
        let m = digits_in_more w i 10 0 0 d h e t in
        let a = digits_in_alike 10 (drop (i + 1) w) (0 * 10 + d) 0 (0 + 1) 0 in
        omega (arith, a.0, ap (λ (d : Digits). d.count) m)

-- digits up to the end
pub behind_end : (w : List ℕ) (at i m : ℕ) → m ≡ max at (length w) → at ≤ i → (at ≤ length w → i ≤ length w) → length w ≤ i → behind_of w i ≡ behind_of w at
    → m ≡ behind_of w at
behind_end w at i m e low high end b =
    split (ltb (length w) at)
    (λ p. let h = ltb-true (length w) at p in let z : m ≡ at = omega arith in z ∙ behind_past w at (omega arith))
    (λ p. let h = ltb-false (length w) at p in let z : m ≡ i = omega (arith, high h) in z ∙ behind_past w i end ∙ b)

-- the place behind digits, and the bytes from there on
pub behind_rest : (w : List ℕ) (at : ℕ) → drop (behind_of w at) w ≡ (digits_in 10 0 0 (drop at w)).rest
unfolding behind_of
behind_rest w at =
    let d = digits_in 10 0 0 (drop at w) in
    let p = digits_in_part 10 (drop at w) 0 0 in
    sym (drop-drop d.count at w) ∙ ap (drop d.count) p.parted ∙ drop_at p.run d.rest d.count (omega (arith, p.count))

pub behind_within : (w : List ℕ) (at : ℕ) → at ≤ length w → behind_of w at ≤ length w
unfolding behind_of
behind_within w at h =
    let d = digits_in 10 0 0 (drop at w) in
    let p = digits_in_part 10 (drop at w) 0 0 in
    omega (arith, length-drop at w, ap length p.parted ∙ length-append p.run d.rest, p.count)

-- ---- a point
module _ (w : List ℕ) (at : ℕ) where
  pub point_in : starts 46 (drop at w) ≡ true → at < length w
  point_in t =
      split (ltb at (length w)) (λ p. ltb-true _ _ p)
      (λ p. differ (starts 46 (drop at w)) t (sym (starts_past w at 46 (ltb-false _ _ p))))

  pub point_yes : starts 46 (drop at w) ≡ true → at + 1 ≡ point_of w at
  unfolding point_of
  point_yes t = rw (t, point_of)

  pub point_no : starts 46 (drop at w) ≡ false → at ≡ point_of w at
  unfolding point_of
  point_no t = rw (t, point_of)

  -- the digits behind it, where no digit stands before it
  fraction_here : Begins (NoDigit 10) (drop at w) → (v : ℕ) → digits_in 10 v 0 (drop (point_of w at) w) ≡ fraction_in v (drop at w)
  fraction_here n v =
      split (starts 46 (drop at w)) (λ t. ap (λ i. digits_in 10 v 0 (drop i w)) (sym (point_yes t)) ∙ point_here w at v t)
      (λ t. ap (λ i. digits_in 10 v 0 (drop i w)) (sym (point_no t)) ∙ digits_in_exact 10 [] (drop at w) v 0 tt n
      ∙ sym (fraction_in_none v (drop at w) (not_point (drop at w) t)))

  point_within : at ≤ length w → point_of w at ≤ length w
  unfolding point_of
  point_within h = either (λ i. i ≤ length w) (starts 46 (drop at w)) (λ t. omega (arith, point_in t)) (λ _. h)

-- ---- a power
abbrev chosen : Bool → ℕ → Option ℕ
chosen t n = elim t [ true ↦ Some n | false ↦ None ]

module _ (w l : List ℕ) where
  tens_not : small_power l ≡ false → None ≡ tens_to w l
  unfolding tens_to
  tens_not h = rw (h, tens_to)

  tens_led : small_power l ≡ true → (p : Taken (Option ℤ)) → PowerAt w p (power_in l) → Some p.next ≡ tens_to w l
  unfolding tens_to
  tens_led h p t =
      let n : p.next ≡ length w - length (power_in l).rest = omega (arith, t.within, length-drop p.next w, ap (λ (x : Leading). length x.rest) t.says) in
      rw (h, tens_to) (ap Some n)

abbrev none_to : ℕ → Taken (Option ℤ)
none_to n = record { value = Some (pos 0); next = n }

module _ (w : List ℕ) (at : ℕ) where
  pub power_past : length w ≤ at → at ≤ length w → Some at ≡ tens_to w (drop at w)
  unfolding small_power
  power_past h l = tens_led w (drop at w) (ap small_power (drop_of_length-le w h)) (none_to at) (past_lead w at h l)

  module _ (h : at < length w) where
    pub power_plain : is_mark (get_or w at 0) ≡ false → Some at ≡ tens_to w (drop at w)
    unfolding small_power
    power_plain m = tens_led w (drop at w) (rw (drop-cons w at 0 h, m, small_power)) (none_to at) (plain_lead w at h m)

    module _ (m : is_mark (get_or w at 0) ≡ true) (s : Sign) (g : SignAt w (at + 1) s) (n : ℕ) (e : n ≡ behind_of w s.next) where
      abbrev marked : Digits
      marked = front_of (drop (at + 1) w)

      marked_is : digits_in 10 0 0 (drop s.next w) ≡ marked
      marked_is = ap (λ (x : Signed). digits_in 10 0 0 x.rest) g.says

      marked_at : n ≡ s.next + marked.count
      unfolding behind_of
      marked_at = omega (arith, e, ap (λ (d : Digits). d.count) marked_is)

      pub count_fits : s.next ≤ n
      count_fits = omega (arith, marked_at)

      small_is : small_power (drop at w) ≡ within 1 2 marked.count
      unfolding small_power
      small_is = rw (drop-cons w at 0 h, add-one at, m, small_power)

      pub power_few : n - s.next < 1 → None ≡ tens_to w (drop at w)
      power_few l = tens_not w (drop at w) (small_is ∙ ap (λ t. t && leb marked.count 2) (lt-leb 1 marked.count (omega (arith, marked_at))))

      pub power_many : 2 < n - s.next → None ≡ tens_to w (drop at w)
      power_many l =
          tens_not w (drop at w)
          (small_is ∙ (λ i. le-leb 1 marked.count (omega (arith, marked_at)) i && lt-leb marked.count 2 (omega (arith, marked_at)) i))

      pub power_found : 1 ≤ n - s.next → n - s.next ≤ 2 → Some n ≡ tens_to w (drop at w)
      unfolding marked_in
      power_found l k =
          let p = tens_by (sign_in (drop (at + 1) w)).negative marked in
          let r : drop n w ≡ marked.rest = ap (λ i. drop i w) e ∙ behind_rest w s.next ∙ ap (λ (d : Digits). d.rest) marked_is in
          tens_led w (drop at w)
          (small_is ∙ (λ i. le-leb 1 marked.count (omega (arith, marked_at)) i && le-leb marked.count 2 (omega (arith, marked_at)) i))
          (record { value = p; next = n })
          (marked_lead w at h m _ (record { says = ap (leading p) r; within = subst (λ i. i ≤ length w) (sym e) (behind_within w s.next g.within) }))

-- ---- all of it
module _ (w : List ℕ) where
  abbrev test : Bool
  test = leb (length w) 64 && (few_digits w && small_power (back_of w).rest)

  mild_not : test ≡ false → None ≡ mild_of w
  unfolding mild_of
  mild_not h = rw (h, mild_of)

  pub mild_long : 64 < length w → None ≡ mild_of w
  mild_long h = mild_not (ap (λ t. t && (few_digits w && small_power (back_of w).rest)) (lt-leb (length w) 64 h))

  next_is : length w ≤ 64 → (lead_of w).next ≡ length w - length (tens_of w).rest
  unfolding lead_of
  next_is h = rw (le-leb (length w) 64 h, lead_of)

  module _ (l : length w ≤ 64) (s : Sign) (g : SignAt w 0 s) (point : ℕ) (a : point ≡ behind_of w s.next) (behind : ℕ) (b : behind ≡ point_of w point) (end : ℕ) (e : end ≡ behind_of w behind) where
    front_is : digits_in 10 0 0 (drop s.next w) ≡ front_of w
    front_is = ap (λ (x : Signed). digits_in 10 0 0 x.rest) g.says

    point_at : point ≡ s.next + (front_of w).count
    unfolding behind_of
    point_at = omega (arith, a, ap (λ (d : Digits). d.count) front_is)

    point_rest : drop point w ≡ (front_of w).rest
    point_rest = ap (λ i. drop i w) a ∙ behind_rest w s.next ∙ ap (λ (d : Digits). d.rest) front_is

    back_is : digits_in 10 (front_of w).value 0 (drop behind w) ≡ back_of w
    back_is =
        let v = (front_of w).value in
        let n : Begins (NoDigit 10) (drop point w) = subst (Begins (NoDigit 10)) (sym point_rest) (digits_in_stops 10 (sign_in w).rest 0 0) in
        ap (λ i. digits_in 10 v 0 (drop i w)) b ∙ fraction_here w point n v ∙ ap (fraction_in v) point_rest

    -- the value of the digits before the point changes nothing here
    end_at : end ≡ behind + (back_of w).count
    unfolding behind_of
    end_at = omega (arith, e, (digits_in_alike 10 (drop behind w) 0 (front_of w).value 0 0).0, ap (λ (d : Digits). d.count) back_is)

    end_rest : drop end w ≡ (back_of w).rest
    end_rest =
        ap (λ i. drop i w) e ∙ behind_rest w behind ∙ (digits_in_alike 10 (drop behind w) 0 (front_of w).value 0 0).1 ∙ ap (λ (d : Digits). d.rest) back_is

    pub front_fits : s.next ≤ point
    front_fits = omega (arith, point_at)

    pub back_fits : behind ≤ end
    back_fits = omega (arith, end_at)

    pub point_inside : point ≤ length w
    point_inside = subst (λ i. i ≤ length w) (sym a) (behind_within w s.next g.within)

    pub end_inside : end ≤ length w
    end_inside =
        subst (λ i. i ≤ length w) (sym e) (behind_within w behind (subst (λ i. i ≤ length w) (sym b) (point_within w point point_inside)))

    digits_are : point - s.next + (end - behind) ≡ (front_of w).count + (back_of w).count
    digits_are = omega (arith, point_at, end_at)

    short : {A : Type 0} (f : Bool → A) → f test ≡ f (few_digits w && small_power (back_of w).rest)
    short f = ap (λ t. f (t && (few_digits w && small_power (back_of w).rest))) (le-leb (length w) 64 l)

    pub mild_none : point - s.next + (end - behind) < 1 → None ≡ mild_of w
    mild_none h =
        mild_not
        (short (λ t. t) ∙ ap (λ t. t && leb ((front_of w).count + (back_of w).count) 18 && small_power (back_of w).rest) (lt-leb 1 ((front_of w).count + (back_of w).count) (omega (arith, digits_are))))

    pub mild_many : 18 < point - s.next + (end - behind) → None ≡ mild_of w
    mild_many h =
        mild_not
        (short (λ t. t)
        ∙ (λ i. (le-leb 1 ((front_of w).count + (back_of w).count) (omega (arith, digits_are)) i && lt-leb ((front_of w).count + (back_of w).count) 18 (omega (arith, digits_are)) i) && small_power (back_of w).rest))

    pub mild_found : 1 ≤ point - s.next + (end - behind) → point - s.next + (end - behind) ≤ 18 → (r : Option ℕ) → r ≡ tens_to w (drop end w) → r ≡ mild_of w
    unfolding mild_of tens_to
    mild_found h k r q =
        let few : few_digits w ≡ true = λ i. le-leb 1 ((front_of w).count + (back_of w).count) (omega (arith, digits_are)) i && le-leb ((front_of w).count + (back_of w).count) 18 (omega (arith, digits_are)) i in
        q ∙ ap (tens_to w) end_rest ∙ ap (chosen (small_power (back_of w).rest)) (sym (next_is l))
        ∙ sym (short (λ t. chosen t (lead_of w).next) ∙ ap (λ t. chosen (t && small_power (back_of w).rest) (lead_of w).next) few)

-- what `digits_behind` passes
pub ruleset digits_passed = (behind_more, behind_stop, behind_end)

-- what `point_behind` passes
pub ruleset point_passed = (point_in, point_yes, point_no)

-- what `power_behind` passes
pub ruleset power_passed = (power_past, power_plain, count_fits, power_few, power_many, power_found)
