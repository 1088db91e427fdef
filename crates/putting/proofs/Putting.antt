-- Bytes laid one behind the other: what is laid in two goes is laid in one; what is left to lay. Assumes nothing.
use Prim.Native.Nat.{ℕ, ◌+◌, ◌≤◌, ◌<◌, min}
use native.Mathlib.Omega.{arith}
use native.Mathlib.Nat.{min-eq_left, min-eq_right, min-le_right}
use native.Mathlib.Numerals.{add-one}
use mathlib.Core.Path.{◌≡◌, refl, sym, ◌∙◌, ap, subst}
use mathlib.Core.List.{List, [], ◌∷◌, ◌++◌}
use borrow.Author.Tests.{leb-true, leb-false}
use lib.Dec.{leb}
use lib.ListN.{length, drop, get_or, length-append}
use lib.Seq.{sets, length-sets, drop-cons}
use Rattle.facts.proofs.Branch.{split}
use Rattle.facts.proofs.Sets.{sets_append, sets_out}
use Rattle.putting.specs.Putting.{most, Put}

pub put_kept : {old : List ℕ} {at : ℕ} {bytes new : List ℕ} {r : ℕ} → Put old at bytes new r → length new ≡ length old
put_kept {old = old} {at = at} {bytes = bytes} w = ap length w.laid ∙ length-sets old at bytes

pub put_more : {old : List ℕ} {at : ℕ} {xs mid : List ℕ} {m : ℕ} {ys new : List ℕ} {r : ℕ} → Put old at xs mid m → Put mid m ys new r → Put old at (xs ++ ys) new r
put_more {old = old} {at = at} {xs = xs} {mid = mid} {m = m} {ys = ys} {new = new} {r = r} v w =
    split (leb (at + length xs) most) (λ b. fits (leb-true _ _ b)) (λ b. past (leb-false _ _ b))
  where
    long : length (xs ++ ys) ≡ length xs + length ys
    long = length-append xs ys

    fits : at + length xs ≤ most → Put old at (xs ++ ys) new r
    fits h =
        let e : m ≡ at + length xs = v.place ∙ min-eq_left h in
        let a : m + length ys ≡ at + length (xs ++ ys) = omega (arith, long) in
        record {
          laid = w.laid ∙ ap (λ y. sets y m ys) v.laid ∙ ap (λ i. sets (sets old at xs) i ys) e ∙ sets_append xs ys old at;
          place = w.place ∙ ap (λ y. min y most) a;
          wide = v.wide;
        }

    past : most < at + length xs → Put old at (xs ++ ys) new r
    past h =
        let e : m ≡ most = v.place ∙ min-eq_right (omega arith) in
        let k : length (sets old at xs) ≡ length old = length-sets old at xs in
        record {
          laid = w.laid ∙ ap (λ y. sets y m ys) v.laid ∙ sets_out ys (sets old at xs) m (omega (arith, e, k, v.wide))
              ∙ sym (sets_out ys (sets old at xs) (at + length xs) (omega (arith, k, v.wide))) ∙ sets_append xs ys old at;
          place = w.place ∙ min-eq_right (omega (arith, e)) ∙ sym (min-eq_right (omega (arith, long)));
          wide = v.wide;
        }

pub put_none : {old : List ℕ} {at : ℕ} → length old ≤ most → at ≤ most → Put old at [] old at
put_none {old = old} {at = at} l h = let z : at + 0 ≡ at = omega arith in record { laid = refl; place = sym (ap (λ y. min y most) z ∙ min-eq_left h); wide = l }

-- ---- any loop that lays `whole` from `at` on: at c it has `rest` left to lay
pub record Left (old : List ℕ) (at : ℕ) (whole : List ℕ) (cur : List ℕ) (c : ℕ) (rest : List ℕ) : Type 0 where
  pub kept : length cur ≡ length old
  pub wide : length old ≤ most
  pub place : c ≤ most
  pub same : (new : List ℕ) (r : ℕ) → Put cur c rest new r → Put old at whole new r

pub left_start : {old : List ℕ} {at : ℕ} (whole : List ℕ) → length old ≤ most → at ≤ most → Left old at whole old at whole
left_start whole l h = record { kept = refl; wide = l; place = h; same = λ new r w. w }

pub left_more : {old : List ℕ} {at : ℕ} {whole cur : List ℕ} {c : ℕ} {rest xs mid : List ℕ} {m : ℕ} (ys : List ℕ)
    → Left old at whole cur c rest → rest ≡ xs ++ ys → Put cur c xs mid m → Left old at whole mid m ys
left_more {at = at} {whole = whole} {cur = cur} {c = c} {xs = xs} {m = m} ys g e w =
    record {
      kept = put_kept w ∙ g.kept;
      wide = g.wide;
      place = omega (arith, w.place, min-le_right (c + length xs) most);
      same = λ new r v. g.same new r (subst (λ y. Put cur c y new r) (sym e) (put_more w v));
    }

pub left_end : {old : List ℕ} {at : ℕ} {whole cur : List ℕ} {c : ℕ} {rest : List ℕ} → Left old at whole cur c rest → rest ≡ [] → Put old at whole cur c
left_end {cur = cur} {c = c} g e = g.same cur c (subst (λ y. Put cur c y cur c) (sym e) (put_none (omega (arith, g.kept, g.wide)) g.place))

-- ---- the bytes of a text
pub text_more : {old : List ℕ} {at : ℕ} {cur : List ℕ} {c : ℕ} (text : List ℕ) (i : ℕ) {mid : List ℕ} {m : ℕ}
    → Left old at text cur c (drop i text) → i < length text → Put cur c (get_or text i 0 ∷ []) mid m → Left old at text mid m (drop (i + 1) text)
text_more text i g h w = left_more (drop (i + 1) text) g (drop-cons text i 0 h ∙ ap (λ k. get_or text i 0 ∷ drop k text) (sym (add-one i))) w
