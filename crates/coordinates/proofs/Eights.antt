-- Digits of a coordinate taken eight at a time: the same number as one by one. Assumes nothing.
use Prim.Native.Nat.{ℕ, suc, ◌+◌, ◌-◌, ◌*◌, ◌^◌, ◌≤◌, ◌<◌, min}
use native.Mathlib.Nat.{pow-zero, pow-succ', mul-one, mul_assoc, add-mul, pow-le-pow_right, mul-le-mul_right}
use native.Mathlib.Omega.{arith}
use mathlib.Core.Path.{◌≡◌, refl, sym, ap, ap₂, subst, ◌∙◌}
use mathlib.Core.List.{List, [], ◌∷◌, ◌++◌, append_assoc}
use borrow.Author.Tests.{lt-ltb, ltb-true, ltb-false}
use lib.Dec.{ltb, lit<}
use lib.ListN.{length, take, drop, length-append, length-take, length-drop, take-append-drop, drop_of_length-le}
use lib.Seq.{drop-drop, drop-append_seam}
use Rattle.facts.proofs.Branch.{split}
use Rattle.coordinates.specs.declared.scan.Scan.{Scan}
use Rattle.digits.specs.declared.group.Group.{Group}
use Rattle.digits.specs.Digits.{digit_of, Digits, digits, digits_in, Figures, worth}
use Rattle.coordinates.specs.Behind.{behind_of}
use Rattle.digits.specs.declared.group.Base.{Base}
use Rattle.digits.specs.Lanes.{Laned, group_by, Grouped}
use Rattle.coordinates.specs.Parts.{Wide, Stands, joined, Roomy, Fair, Shows, Scanned}
use Rattle.digits.proofs.Digits.{Run, Begins, NoDigit, digits_in_part, digits_in_below, digits_in_alike, digits_in_stops}
use Rattle.coordinates.proofs.Scanning.{Runs, wide_more, shown}

-- ---- some digits in front
module _ (base : ℕ) where
  pub digits_in_figures : (a r : List ℕ) (v n : ℕ) → Figures base a → digits_in base v n (a ++ r) ≡ digits_in base (worth base v a) (n + length a) r
  unfolding digits_in
  digits_in_figures [] r v n f = let z : n ≡ n + 0 = omega arith in ap (λ (k : ℕ). digits_in base v k r) z
  digits_in_figures (b ∷ a) r v n f =
      let z : suc n + length a ≡ n + suc (length a) = omega arith in
      rw (lt-ltb _ base f.0, digits_in) (digits_in_figures a r (v * base + digit_of b) (suc n) f.1 ∙ ap (λ (k : ℕ). digits_in base (worth base v (b ∷ a)) k r) z)

  digits_in_none : (w : List ℕ) (v n : ℕ) → Begins (NoDigit base) w → digits v n w ≡ digits_in base v n w
  unfolding digits_in
  digits_in_none [] v n b = refl
  digits_in_none (c ∷ w) v n b = rw (b, digits_in) refl

  pub worth_from : (a : List ℕ) (v : ℕ) → worth base v a ≡ v * base ^ length a + worth base 0 a
  worth_from [] v = let z : v ≡ v * 1 + 0 = omega arith in z ∙ ap (λ (k : ℕ). v * k + 0) (sym (pow-zero base))
  worth_from (b ∷ a) v =
      let p : ℕ = base ^ length a in
      let d : ℕ = digit_of b in
      worth_from a (v * base + d)
      ∙ omega (arith, worth_from a (0 * base + d), add-mul (v * base) d p, mul_assoc v base p, ap (λ (k : ℕ). v * k) (pow-succ' base (length a)), add-mul (0 * base) d p)

-- ---- what a group of eight bytes says of the bytes from a place on
pub record Found (w : List ℕ) (at : ℕ) (g : Group) : Type 0 where
  pub run : List ℕ
  pub figures : Figures 10 run
  pub long : length run ≡ g.count
  pub few : g.count ≤ 8
  pub within : at ≤ length w → at + g.count ≤ length w
  pub value : g.value ≡ worth 10 0 run
  pub small : g.value < 10 ^ g.count
  pub parted : drop at w ≡ run ++ drop (at + g.count) w
  pub ended : g.count < 8 → Begins (NoDigit 10) (drop (at + g.count) w)

module _ (w : List ℕ) (at : ℕ) where
  abbrev front : List ℕ
  front = take 8 (drop at w)

  abbrev behind : List ℕ
  behind = drop 8 (drop at w)

  found_by : (g : Group) (d : Digits) → g ≡ group_by d → Run 10 front 0 0 d → Begins (NoDigit 10) d.rest → g.value < 10 ^ g.count → Found w at g
  found_by g d e r b s =
      let count : length r.run ≡ g.count = omega (arith, r.count, ap (λ (x : Group). x.count) e) in
      let size : length r.run + length d.rest ≡ min 8 (length w - at) = sym (length-append r.run d.rest) ∙ sym (ap length r.parted) ∙ length-take 8 (drop at w) ∙ ap (min 8) (length-drop at w) in
      let two : drop at w ≡ r.run ++ (d.rest ++ behind) = sym (take-append-drop 8 (drop at w)) ∙ ap (λ l. l ++ behind) r.parted ∙ append_assoc r.run d.rest behind in
      let rest : drop (at + g.count) w ≡ d.rest ++ behind =
      ap (λ (k : ℕ). drop (at + k) w) (sym count) ∙ sym (drop-drop (length r.run) at w) ∙ ap (drop (length r.run)) two ∙ drop-append_seam r.run (d.rest ++ behind) in
      record {
        run = r.run;
        figures = r.figures;
        long = count;
        few = omega (arith, size, count);
        within = λ h. omega (arith, size, count);
        value = ap (λ (x : Group). x.value) e ∙ r.value;
        small = s;
        parted = two ∙ ap (λ l. r.run ++ l) (sym rest);
        ended = λ h. subst (Begins (NoDigit 10)) (sym rest) (goes d.rest b (omega (arith, size, count)));
      }
    where
      goes : (l : List ℕ) → Begins (NoDigit 10) l → (length l ≡ 0 → length w - at ≤ 8) → Begins (NoDigit 10) (l ++ behind)
      goes [] b h = subst (Begins (NoDigit 10)) (sym (drop_of_length-le (drop at w) {i = 8} (omega (arith, length-drop at w, h refl)))) tt
      goes (c ∷ l) b h = b

  pub found : (x : ℕ) (g : Group) → Laned front x → Grouped Base.Ten x g → Found w at g
  found x g l s =
      let e = s.says front l (omega (arith, length-take 8 (drop at w))) in
      found_by g (digits_in 10 0 0 front) e (digits_in_part 10 front 0 0) (digits_in_stops 10 front 0 0)
      (subst (λ (d : Group). d.value < 10 ^ d.count) (sym e) (digits_in_below 10 front 0 0 (rw pow-zero (lit< tt))))

-- ---- the state behind them
wide_run : (a : List ℕ) (v : ℕ) → Figures 10 a → Wide v → Wide (worth 10 v a)
wide_run [] v f h = h
wide_run (b ∷ a) v f h = wide_run a (v * 10 + digit_of b) f.1 (wide_more v (digit_of b) h f.0)

below : (m n v : ℕ) → m < 10 ^ 10 → n ≤ 8 → v < 10 ^ n → m * 10 ^ n + v < 10 ^ 18
below m n v h l s =
    let p : 10 ^ n ≤ 10 ^ 8 = pow-le-pow_right (lit< tt) l in
    omega (arith, mul-le-mul_right (10 ^ n) h, add-mul m 1 (10 ^ n), p)

module _ (w : List ℕ) (x : Scan) (g : Group) (o : Found w x.next g) (f : Fair w x) (room : x.m < 10 ^ 10) where
  pub roomy : Roomy x g
  roomy = record { less = room; few = o.few; small = o.small; within = omega (arith, f.within, f.short); count = f.count }

  stands_joined : (v : ℕ) → Stands x v → Stands (joined x g) (worth 10 v o.run)
  stands_joined v s =
      let z = s.room (omega arith) in
      record {
        less = below x.m g.count g.value room o.few o.small;
        room = λ _. z;
        exact = λ t.
            let here : v ≡ x.m = s.exact t ∙ ap (λ (k : ℕ). x.m * 10 ^ k) z ∙ omega (arith, pow-zero 10, mul-one x.m) in
            worth_from 10 o.run v
            ∙ ap₂ (λ (k a : ℕ). a * 10 ^ k + worth 10 0 o.run) o.long here
            ∙ ap (λ (k : ℕ). x.m * 10 ^ g.count + k) (sym o.value)
            ∙ sym (ap (λ (k : ℕ). (x.m * 10 ^ g.count + g.value) * 10 ^ k) z ∙ omega (arith, pow-zero 10, mul-one (x.m * 10 ^ g.count + g.value)));
        wide = λ t. wide_run o.run v o.figures (s.wide t);
      }

  fair_joined : Fair w (joined x g)
  fair_joined = record { short = f.short; within = o.within f.within; tail = omega (arith, f.tail); count = omega (arith, f.count) }

  module _ (from : Scan) (k : Runs w from x) where
    runs_joined : Runs w from (joined x g)
    runs_joined v s =
        let q = k v s in
        record {
          number = worth 10 q.number o.run;
          stands = stands_joined q.number q.stands;
          same = sym (ap (λ l. digits_in 10 q.number x.count l) o.parted
              ∙ digits_in_figures 10 o.run (drop (x.next + g.count) w) q.number x.count o.figures
              ∙ ap (λ (c : ℕ). digits_in 10 (worth 10 q.number o.run) (x.count + c) (drop (x.next + g.count) w)) o.long)
              ∙ q.same;
        }

    many_stop : g.count < 8 → Scanned w from (joined x g) (λ v. digits_in 10 v from.count (drop from.next w))
    many_stop h = shown w from (joined x g) fair_joined runs_joined (λ v. digits_in_none 10 (drop (x.next + g.count) w) v (x.count + g.count) (o.ended h))

    module _ (r : Scan) (e : r ≡ joined x g) where
      pub many_stopped : g.count < 8 → Scanned w from r (λ v. digits_in 10 v from.count (drop from.next w))
      many_stopped h = subst (λ (y : Scan). Scanned w from y (λ v. digits_in 10 v from.count (drop from.next w))) (sym e) (many_stop h)

      pub many_more : Fair w r × Runs w from r
      many_more = subst (λ (y : Scan). Fair w y × Runs w from y) (sym e) (fair_joined, runs_joined)

      pub many_less : 8 ≤ g.count → length w - r.next < length w - x.next
      many_less h = omega (arith, ap (λ (y : Scan). y.next) e, o.within f.within)

-- what is read behind x is read behind what x was made of
pub many_on : (w : List ℕ) (from x r : Scan) → Runs w from x → Scanned w x r (λ v. digits_in 10 v x.count (drop x.next w))
    → Scanned w from r (λ v. digits_in 10 v from.count (drop from.next w))
many_on w from x r k s =
    record {
      fair = s.fair;
      shows = λ v h. let q = k v h in subst (λ (d : Digits). Shows w r d) q.same (s.shows q.number q.stands);
    }

-- ---- places only
module _ (w : List ℕ) (at : ℕ) (g : Group) (o : Found w at g) where
  pub run_more : behind_of w (at + g.count) ≡ behind_of w at
  unfolding behind_of
  run_more =
      let e = ap (λ (d : Digits). d.count) (ap (λ l. digits_in 10 0 0 l) o.parted ∙ digits_in_figures 10 o.run (drop (at + g.count) w) 0 0 o.figures) in
      omega (arith, e, o.long, (digits_in_alike 10 (drop (at + g.count) w) (worth 10 0 o.run) 0 (0 + length o.run) 0).0)

  pub run_stop : g.count < 8 → at + g.count ≡ behind_of w (at + g.count)
  unfolding behind_of
  run_stop h = omega (arith, ap (λ (d : Digits). d.count) (digits_in_none 10 (drop (at + g.count) w) 0 0 (o.ended h)))

  -- where digits are passed they are in the word
  run_inside : (0 < g.count) → at + g.count ≤ length w
  run_inside h = omega (arith, ap length o.parted, length-append o.run (drop (at + g.count) w), length-drop at w, o.long)

  -- eight digits
  module _ (h : 8 ≤ g.count) where
    pub run_eight : behind_of w (at + 8) ≡ behind_of w at
    run_eight = let z : at + 8 ≡ at + g.count = omega (arith, h, o.few) in ap (behind_of w) z ∙ run_more

    pub eight_inside : at + 8 ≤ length w
    eight_inside = omega (arith, h, run_inside (omega (arith, h)))

  pub run_fits : at < 2 ^ 64 → length w < 2 ^ 64 → at + g.count < 2 ^ 64
  run_fits h l = split (ltb 0 g.count) (λ p. omega (arith, l, run_inside (ltb-true 0 g.count p))) (λ p. omega (arith, h, ltb-false 0 g.count p))
