-- A coordinate is accepted exactly when the word means a pair, and then it is that pair; no word means two. Assumes nothing.
use Rattle.std.specs.Prelude.{None}
use Rattle.decimals.specs.Coordinate.{decimal}
use Prim.Native.Nat.{ℕ, ◌≤◌}
use native.Mathlib.Omega.{arith}
use mathlib.Core.Path.{◌≡◌, refl}
use mathlib.Core.Logic.{◌↔◌}
use mathlib.Core.List.{List}
use borrow.Author.Tests.{le-leb, leb-true}
use lib.Dec.{leb}
use lib.IntN.{ℤ}
use lib.ListN.{length}
use Rattle.facts.proofs.Branch.{either}
use Rattle.decimals.specs.Coordinate.{Reading, is, none, reading_of, kept, coordinate_of}
use Rattle.decimals.specs.Value.{Means}
use Rattle.decimals.proofs.Written.{reading_of_exactly}
use Rattle.decimals.proofs.Value.{keep_exactly, same_pair}

pub not_kept : {A : Type 0} (m e : ℤ) → None ≡ decimal m e → A
not_kept m e h = absurd (let z : ◌≡◌ {A = ℕ} 0 1 = cc in omega arith)

module _ (w : List ℕ) (m e : ℤ) where
  kept_means : length w ≤ 64 → (r : Reading) → reading_of w ≡ r → kept r ≡ decimal m e → Means w m e
  kept_means l none q h = not_kept m e h
  kept_means l (is p) q h =
      let k = (keep_exactly p.negative p.digits p.exponent m e).0 h in
      record { short = l; parts = p; written = (reading_of_exactly w p).0 q; value = k.0; canonical = k.1 }

  means_kept : Means w m e → coordinate_of w ≡ decimal m e
  unfolding coordinate_of
  means_kept h =
      let p = h.parts in
      rw (le-leb (length w) 64 h.short, (reading_of_exactly w p).1 h.written, coordinate_of)
      ((keep_exactly p.negative p.digits p.exponent m e).1 (h.value, h.canonical))

  -- the law
  pub coordinate_of_exactly : (coordinate_of w ≡ decimal m e) ↔ Means w m e
  unfolding coordinate_of
  coordinate_of_exactly = (
    either (λ r. r ≡ decimal m e → Means w m e) (leb (length w) 64)
        (λ p. kept_means (leb-true _ _ p) (reading_of w) refl) (λ _ h. not_kept m e h),
    means_kept,
  )

-- a word means one pair at most
pub means_only : (w : List ℕ) (m e m' e' : ℤ) → Means w m e → Means w m' e' → (m ≡ m') × (e ≡ e')
means_only w m e m' e' p q = same_pair ((coordinate_of_exactly w m e).1 p) ((coordinate_of_exactly w m' e').1 q)
