-- Bytes laid one behind the other where all of them have room. Assumes nothing.
use Prim.Native.Nat.{ℕ, ◌+◌, ◌≤◌}
use native.Mathlib.Omega.{arith}
use mathlib.Core.Path.{◌≡◌, refl, sym, ◌∙◌, ap, subst}
use mathlib.Core.List.{List, [], ◌++◌}
use borrow.Author.Tests.{leb-true, leb-false}
use lib.Dec.{leb}
use Rattle.facts.proofs.Branch.{split}
use lib.ListN.{length, drop, length-append}
use lib.Seq.{sets, sets-eq, length-sets}
use Rattle.facts.proofs.Sets.{sets_append}
use Rattle.putting.specs.Putting.{most, Put, Whole, Laid}
use Rattle.putting.proofs.Putting.{put_kept}

pub laid_of : {old : List ℕ} {at : ℕ} {bytes new : List ℕ} {r : ℕ} → Put old at bytes new r → Laid old at bytes new r
laid_of w = record { laid = λ h. w.laid; place = w.place; kept = put_kept w; wide = w.wide }

pub laid_whole : {old : List ℕ} {at : ℕ} {bytes new : List ℕ} {r : ℕ} → Whole old at bytes new r → Laid old at bytes new r
laid_whole {old = old} {at = at} {bytes = bytes} w =
    record {
      laid = w.laid;
      place = w.place;
      kept = split (leb (at + length bytes) (length old)) (λ h. ap length (w.laid (leb-true _ _ h)) ∙ length-sets old at bytes) (λ h. ap length (w.none (leb-false _ _ h)));
      wide = w.wide;
    }

pub laid_more : {old : List ℕ} {at : ℕ} {xs mid : List ℕ} {m : ℕ} {ys new : List ℕ} {r : ℕ} → Laid old at xs mid m → Laid mid m ys new r → Laid old at (xs ++ ys) new r
laid_more {old = old} {at = at} {xs = xs} {mid = mid} {m = m} {ys = ys} {new = new} {r = r} v w =
    let long : length (xs ++ ys) ≡ length xs + length ys = length-append xs ys in
    record {
      laid = λ h.
          let e : m ≡ at + length xs = omega (arith, v.place, v.wide, long) in
          w.laid (omega (arith, v.kept, long)) ∙ ap (λ y. sets y m ys) (v.laid (omega (arith, long))) ∙ ap (λ i. sets (sets old at xs) i ys) e ∙ sets_append xs ys old at;
      place = omega (arith, v.place, w.place, long);
      kept = w.kept ∙ v.kept;
      wide = v.wide;
    }

laid_none : {old : List ℕ} {at : ℕ} → length old ≤ most → at ≤ most → Laid old at [] old at
laid_none l h = record { laid = λ _. refl; place = omega arith; kept = refl; wide = l }

-- ---- any loop that lays `whole` from `at` on: at c it has `rest` left to lay
pub record Left (old : List ℕ) (at : ℕ) (whole : List ℕ) (cur : List ℕ) (c : ℕ) (rest : List ℕ) : Type 0 where
  pub kept : length cur ≡ length old
  pub wide : length old ≤ most
  pub place : c ≤ most
  pub same : (new : List ℕ) (r : ℕ) → Laid cur c rest new r → Laid old at whole new r

pub left_start : {old : List ℕ} {at : ℕ} (whole : List ℕ) → length old ≤ most → at ≤ most → Left old at whole old at whole
left_start whole l h = record { kept = refl; wide = l; place = h; same = λ new r w. w }

pub left_more : {old : List ℕ} {at : ℕ} {whole cur : List ℕ} {c : ℕ} {rest xs mid : List ℕ} {m : ℕ} (ys : List ℕ)
    → Left old at whole cur c rest → rest ≡ xs ++ ys → Laid cur c xs mid m → Left old at whole mid m ys
left_more {at = at} {whole = whole} {cur = cur} {c = c} {xs = xs} {m = m} ys g e w =
    record {
      kept = w.kept ∙ g.kept;
      wide = g.wide;
      place = omega (arith, w.place);
      same = λ new r v. g.same new r (subst (λ y. Laid cur c y new r) (sym e) (laid_more w v));
    }

pub left_end : {old : List ℕ} {at : ℕ} {whole cur : List ℕ} {c : ℕ} {rest : List ℕ} → Left old at whole cur c rest → rest ≡ [] → Laid old at whole cur c
left_end {cur = cur} {c = c} g e = g.same cur c (subst (λ y. Laid cur c y cur c) (sym e) (laid_none (omega (arith, g.kept, g.wide)) g.place))

-- ---- with room for all of it the bytes stand in front, and the old ones behind
pub laid_all : {old : List ℕ} {bytes new : List ℕ} {r : ℕ} → Laid old 0 bytes new r → length bytes ≤ length old → new ≡ bytes ++ drop (length bytes) old
laid_all {old = old} {bytes = bytes} w h =
    let z : 0 + length bytes ≡ length bytes = omega arith in
    w.laid (omega arith) ∙ sets-eq bytes old 0 (omega arith) ∙ ap (λ n. bytes ++ drop n old) z
