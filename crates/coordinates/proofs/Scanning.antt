-- The scan of a coordinate's digits: its state stands for the number that they write. Assumes nothing.
use Prim.Native.Nat.{ℕ, zero, suc, ◌+◌, ◌-◌, ◌*◌, ◌^◌, ◌≤◌, ◌<◌}
use native.Mathlib.Nat.{pow-zero, mul-one}
use native.Mathlib.Numerals.{add-one}
use native.Mathlib.Omega.{arith}
use mathlib.Core.Path.{◌≡◌, refl, sym, ap, ◌∙◌}
use mathlib.Core.List.{List}
use mathlib.Core.Bool.{true}
use borrow.Author.Tests.{ltb-true, ltb-false, eqb-true, eqb-false}
use lib.Dec.{ltb, eqb}
use lib.ListN.{length, take, drop, get_or, length-drop}
use lib.Seq.{take_all, get_or-drop}
use Rattle.facts.proofs.Branch.{split, either, differ}
use Rattle.coordinates.specs.declared.scan.Scan.{Scan}
use Rattle.digits.specs.Digits.{digit_of, Digits, digits, digits_in}
use Rattle.coordinates.specs.Parts.{Wide, Stands, grown, Fair, Shows, Scanned}
use Rattle.decimals.proofs.Tens.{at_least, times_ten}
use Rattle.numbers.proofs.Places.{digits_in_more, digits_in_stop, digits_in_past}

-- ---- one more digit
pub wide_more : (v d : ℕ) → Wide v → d < 10 → Wide (v * 10 + d)
wide_more v zero w h =
    record { core = w.core; zeros = suc w.zeros; whole = omega (arith, times_ten w.core w.zeros, w.whole); ends = w.ends; many = w.many }
wide_more v (suc d) w h =
    record {
      core = v * 10 + suc d;
      zeros = 0;
      whole = rw (pow-zero, mul-one);
      ends = omega arith;
      many = omega (arith, w.whole, at_least w.core w.zeros);
    }

module _ (m t v d : ℕ) (e : v ≡ m * 10 ^ t) where
  into_room : t ≡ 0 → v * 10 + d ≡ (m * 10 + d) * 10 ^ t
  into_room z = rw (e, z, pow-zero, mul-one m, mul-one (m * 10 + d))

  into_tail : d ≡ 0 → v * 10 + d ≡ m * 10 ^ (t + 1)
  into_tail z = rw (add-one, z, e) (omega (arith, times_ten m t))

  no_room : 10 ^ 17 ≤ m → (d ≡ 0 → ⊥) → d < 10 → Wide (v * 10 + d)
  no_room h z s = record { core = v * 10 + d; zeros = 0; whole = rw (pow-zero, mul-one); ends = omega arith; many = omega (arith, e, at_least m t) }

stands_grown : (x : Scan) (v d : ℕ) → d < 10 → Stands x v → Stands (grown x d) (v * 10 + d)
unfolding grown
stands_grown x v d s h =
    either (λ r. Stands r (v * 10 + d)) (ltb x.m (10 ^ 17))
    (λ p. let l = ltb-true x.m (10 ^ 17) p in
    record {
      less = omega arith;
      room = λ _. h.room l;
      exact = λ o. into_room x.m x.tail v d (h.exact o) (h.room l);
      wide = λ o. wide_more v d (h.wide o) s;
    })
    (λ p. let l = ltb-false x.m (10 ^ 17) p in
    either (λ r. Stands r (v * 10 + d)) (eqb d 0)
    (λ q. record {
      less = h.less;
      room = λ r. absurd (omega arith);
      exact = λ o. into_tail x.m x.tail v d (h.exact o) (eqb-true d 0 q);
      wide = λ o. wide_more v d (h.wide o) s;
    })
    (λ q. record {
      less = h.less;
      room = h.room;
      exact = λ o. differ true refl o;
      wide = λ _.
          split x.over (λ o. wide_more v d (h.wide o) s) (λ o. no_room x.m x.tail v d (h.exact o) l (eqb-false d 0 q) s);
    }))

fair_grown : (w : List ℕ) (x : Scan) (d : ℕ) → Fair w x → x.next < length w → Fair w (grown x d)
unfolding grown
fair_grown w x d f h =
    either (Fair w) (ltb x.m (10 ^ 17)) (λ _. omega arith) (λ _. either (Fair w) (eqb d 0) (λ _. omega arith) (λ _. omega arith))

abbrev OneMore : Scan → Scan → Type 0
OneMore x r = (r.next ≡ x.next + 1) × (r.count ≡ x.count + 1)

grown_more : (x : Scan) (d : ℕ) → OneMore x (grown x d)
unfolding grown
grown_more x d =
    either (OneMore x) (ltb x.m (10 ^ 17)) (λ _. (refl, refl)) (λ _. either (OneMore x) (eqb d 0) (λ _. (refl, refl)) (λ _. (refl, refl)))

-- ---- on the way: what is left, behind what the state stands for, is what there was
pub record Going (w : List ℕ) (x : Scan) (d : Digits) : Type 0 where
  pub number : ℕ
  pub stands : Stands x number
  pub same : digits_in 10 number x.count (drop x.next w) ≡ d

abbrev pub Runs : List ℕ → Scan → Scan → Type 0
Runs w from x = (v : ℕ) → Stands from v → Going w x (digits_in 10 v from.count (drop from.next w))

pub scan_start : (w : List ℕ) (x : Scan) → Fair w x → Fair w x × Runs w x x
scan_start w x f = (f, λ v h. record { number = v; stands = h; same = refl })

pub scan_next : (x r : Scan) (d n i : ℕ) → r ≡ grown x d → x.next ≡ n + i → r.next ≡ n + (i + 1)
scan_next x r d n i q e = omega (arith, ap (λ (r : Scan). r.next) q, (grown_more x d).0)

-- the bytes from a place on are those behind it
pub rest_is : (w : List ℕ) (n : ℕ) → take (length w - n) (drop n w) ≡ drop n w
rest_is w n = take_all (length w - n) (drop n w) (omega (arith, length-drop n w))

module _ (w : List ℕ) (n i k : ℕ) (e : k ≡ n + i) where
  pub rest_more : i < length (take (length w - n) (drop n w)) → k < length w
  rest_more h = omega (arith, h, ap length (rest_is w n), length-drop n w)

  pub rest_end : n ≤ length w → length (take (length w - n) (drop n w)) ≤ i → length w ≤ k
  rest_end l h = omega (arith, h, ap length (rest_is w n), length-drop n w)

  pub rest_at : get_or (take (length w - n) (drop n w)) i 0 ≡ get_or w k 0
  rest_at = ap (λ l. get_or l i 0) (rest_is w n) ∙ get_or-drop n w i 0 ∙ ap (λ k. get_or w k 0) (sym e)

module _ (w : List ℕ) (from x : Scan) (f : Fair w x) (g : Runs w from x) where
  pub shown : ((v : ℕ) → digits v x.count (drop x.next w) ≡ digits_in 10 v x.count (drop x.next w))
      → Scanned w from x (λ v. digits_in 10 v from.count (drop from.next w))
  shown e = record { fair = f; shows = λ v h. shows (g v h) }
    where
      shows : {d : Digits} → Going w x d → Shows w x d
      shows k =
          let q = e k.number ∙ k.same in
          record {
            value = rw (sym (ap (λ (d : Digits). d.value) q)) k.stands;
            count = ap (λ (d : Digits). d.count) q;
            rest = ap (λ (d : Digits). d.rest) q;
          }

  pub scan_past : length w ≤ x.next → Scanned w from x (λ v. digits_in 10 v from.count (drop from.next w))
  scan_past h = shown (λ v. digits_in_past w x.next 10 v x.count h)

  module _ (d : ℕ) (h : x.next < length w) (e : d ≡ digit_of (get_or w x.next 0)) where
    pub scan_stop : 10 ≤ d → Scanned w from x (λ v. digits_in 10 v from.count (drop from.next w))
    scan_stop t = shown (λ v. digits_in_stop w x.next 10 v x.count d h e t)

    pub scan_more : d < 10 → (r : Scan) → r ≡ grown x d → Fair w r × Runs w from r
    scan_more t r q =
        rw q (
          fair_grown w x d f h,
          λ v s. let k = g v s in record {
            number = k.number * 10 + d;
            stands = stands_grown x k.number d t k.stands;
            same = rw ((grown_more x d).0, (grown_more x d).1) (digits_in_more w x.next 10 k.number x.count d h e t) ∙ k.same;
          },
        )
