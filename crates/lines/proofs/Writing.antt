-- Bytes written one behind the other: what is written twice is written once. Assumes nothing.
use Prim.Native.Nat.{ℕ, suc, ◌+◌, ◌≤◌, ◌<◌, min}
use native.Mathlib.Omega.{arith}
use native.Mathlib.Nat.{min-eq_left, min-eq_right, min-le_right}
use mathlib.Core.Path.{◌≡◌, refl, sym, ◌∙◌, ap, subst}
use mathlib.Core.List.{List, [], ◌∷◌, ◌++◌}
use borrow.Author.Tests.{leb-true, leb-false}
use lib.Dec.{leb}
use lib.ListN.{length, drop, get_or, set, length-append, drop_of_length-le}
use native.Mathlib.Numerals.{add-one}
use lib.Seq.{sets, length-sets, set_out, drop-cons}
use Rattle.facts.proofs.Branch.{split}
use Rattle.facts.proofs.Sets.{sets_append, sets_out}
use Rattle.lines.specs.Writing.{Wrote}

pub wrote_none : (old : List ℕ) (at : ℕ) → at ≤ length old → Wrote old at [] old at
wrote_none old at h = let z : at + 0 ≡ at = omega arith in record { laid = refl; place = sym (ap (λ y. min y (length old)) z ∙ min-eq_left h) }

pub wrote_kept : (old : List ℕ) (at : ℕ) (bytes new : List ℕ) (r : ℕ) → Wrote old at bytes new r → length new ≡ length old
wrote_kept old at bytes new r w = ap length w.laid ∙ length-sets old at bytes

pub wrote_within : (old : List ℕ) (at : ℕ) (bytes new : List ℕ) (r : ℕ) → Wrote old at bytes new r → r ≤ length new
wrote_within old at bytes new r w = omega (arith, w.place, min-le_right (at + length bytes) (length old), wrote_kept old at bytes new r w)

pub wrote_more : (old : List ℕ) (at : ℕ) (xs mid : List ℕ) (m : ℕ) (ys new : List ℕ) (r : ℕ) → Wrote old at xs mid m → Wrote mid m ys new r → Wrote old at (xs ++ ys) new r
wrote_more old at xs mid m ys new r v w = split (leb (at + length xs) (length old)) (λ b. fits (leb-true _ _ b)) (λ b. over (leb-false _ _ b))
  where
    kept : length mid ≡ length old
    kept = wrote_kept old at xs mid m v

    long : length (xs ++ ys) ≡ length xs + length ys
    long = length-append xs ys

    fits : at + length xs ≤ length old → Wrote old at (xs ++ ys) new r
    fits h =
        let e : m ≡ at + length xs = v.place ∙ min-eq_left h in
        let a : m + length ys ≡ at + length (xs ++ ys) = omega (arith, long) in
        record {
          laid = w.laid ∙ ap (λ y. sets y m ys) v.laid ∙ ap (λ i. sets (sets old at xs) i ys) e ∙ sets_append xs ys old at;
          place = w.place ∙ ap (λ y. min y (length mid)) a ∙ ap (min (at + length (xs ++ ys))) kept;
        }

    over : length old < at + length xs → Wrote old at (xs ++ ys) new r
    over h =
        let e : m ≡ length old = v.place ∙ min-eq_right (omega arith) in
        let a : min (m + length ys) (length mid) ≡ length old = min-eq_right (omega (arith, e, kept)) ∙ kept in
        let b : min (at + length (xs ++ ys)) (length old) ≡ length old = min-eq_right (omega (arith, long)) in
        record {
          laid = w.laid ∙ sets_out ys mid m (omega (arith, e, kept)) ∙ v.laid
              ∙ sym (sets_out ys (sets old at xs) (at + length xs) (omega (arith, length-sets old at xs))) ∙ sets_append xs ys old at;
          place = w.place ∙ a ∙ sym b;
        }

pub wrote_byte : (old : List ℕ) (at b : ℕ) → at < length old → Wrote old at (b ∷ []) (set old at b) (at + 1)
wrote_byte old at b h = record { laid = refl; place = sym (min-eq_left (omega arith)) }

pub wrote_full : (old : List ℕ) (at b : ℕ) → at ≤ length old → length old ≤ at → Wrote old at (b ∷ []) old at
wrote_full old at b h l =
    record { laid = sym (set_out old at b l); place = (let e : at ≡ length old = omega arith in e ∙ sym (min-eq_right (omega arith))) }

-- ---- the bytes of a text, one after the other: what is left to write
pub record Copying (text old : List ℕ) (at : ℕ) (i c : ℕ) (cur : List ℕ) : Type 0 where
  pub within : i ≤ length text
  pub place : c ≤ length cur
  pub kept : length cur ≡ length old
  pub same : (new : List ℕ) (r : ℕ) → Wrote cur c (drop i text) new r → Wrote old at text new r

module _ (text old : List ℕ) (at : ℕ) where
  pub copying_start : at ≤ length old → Copying text old at 0 at old
  copying_start h = record { within = omega arith; place = h; kept = refl; same = λ new r w. w }

  module _ (i c : ℕ) (cur : List ℕ) (g : Copying text old at i c cur) where
    pub copying_end : length text ≤ i → Wrote old at text cur c
    copying_end h =
        let e : drop i text ≡ [] = drop_of_length-le text {i = i} h in
        g.same cur c (subst (λ y. Wrote cur c y cur c) (sym e) (wrote_none cur c g.place))

    pub copying_more : (mid : List ℕ) (m : ℕ) → i < length text → Wrote cur c (get_or text i 0 ∷ []) mid m → Copying text old at (i + 1) m mid
    copying_more mid m h w =
        record {
          within = omega arith;
          place = wrote_within cur c (get_or text i 0 ∷ []) mid m w;
          kept = wrote_kept cur c (get_or text i 0 ∷ []) mid m w ∙ g.kept;
          same = λ new r v. g.same new r (subst (λ y. Wrote cur c y new r) (sym (drop-cons text i 0 h)) (wrote_more cur c (get_or text i 0 ∷ []) mid m (drop (suc i) text) new r w (subst (λ y. Wrote mid m (drop y text) new r) (add-one i) v)));
        }
