-- Each test of a header decides what the layout asks. Assumes nothing.
use Prim.Native.Nat.{ℕ, suc, ◌≤◌, ◌<◌}
use mathlib.Core.Path.{◌≡◌}
use mathlib.Core.Logic.{◌⊎◌}
use mathlib.Core.List.Memᴰ
use mathlib.Core.List.{List, [], ◌∷◌, Memᴰ}
use mathlib.Core.Bool.{true}
use lib.Dec.{eqb}
use Rattle.facts.proofs.Decides.{Decides, yes_is, no_is, lt_is, le_is, eq_is, and_is, or_is, either_of, or_left, or_right, or_split}
use Rattle.sizes.specs.Sizes.{rows, zone_id, zones}
use Rattle.layout.specs.Items.{Kind, node, cell, face, Perhaps, absent, given}
use Rattle.layout.specs.Keeps.{Limit, unlimited, most, Within, types_of, FifthOf}
use Rattle.layout.specs.State.{among, fits_in, decl_range, part_range, dim_listed, type_listed, fifth_listed, zone_fits}

pub among_is : (l : List ℕ) (t : ℕ) → Decides (among l t) (Memᴰ t l)
unfolding among
among_is [] t = (λ e. absurd (no_is.0 e), λ m. absurd (Memᴰ.not-nil m))
among_is (u ∷ us) t =
    let r = among_is us t in (
      λ e. either_of (or_split (eqb t u) (among us t) e) (λ p. Memᴰ.head ((eq_is t u).0 p)) (λ p. Memᴰ.tail (r.0 p)),
      λ m. either_of (Memᴰ.cases_cons m) (λ p. or_left (among us t) ((eq_is t u).1 p)) (λ n. or_right (eqb t u) (r.1 n)),
    )

pub fits_is : (m : Limit) (n : ℕ) → Decides (fits_in m n) (Within m n)
fits_is unlimited n = yes_is
fits_is (most m) n = le_is n m

pub decl_range_is : (f l : ℕ) → Decides (decl_range f l) ((f ≡ 1) × (l ≤ rows))
unfolding decl_range
decl_range_is f l = and_is (eq_is _ _) (le_is _ _)

pub part_range_is : (t z f l : ℕ) → Decides (part_range t z f l) ((z ≤ zone_id) × ((1 ≤ f) × ((f ≤ l) × (l ≤ t))))
unfolding part_range
part_range_is t z f l = and_is (le_is _ _) (and_is (le_is _ _) (and_is (le_is _ _) (le_is _ _)))

pub zone_fits_is : (m : Limit) (z : ℕ) → Decides (zone_fits m z) ((z < zones) × Within m (suc z))
unfolding zone_fits
zone_fits_is m z = and_is (lt_is z zones) (fits_is m (suc z))

pub listed_is : (n : ℕ) → Decides (dim_listed (given n)) ((n ≡ 2) ⊎ (n ≡ 3))
listed_is n = or_is (eq_is n 2) (eq_is n 3)

pub type_is : (k : Kind) (t : ℕ) → Decides (type_listed k t) (Memᴰ t (types_of k))
type_is k t = among_is (types_of k) t

-- for nodes the test says more: ND is judged with the dimension
pub fifth_true : (k : Kind) (v : Perhaps) → fifth_listed k v ≡ true → FifthOf k v
fifth_true node v e = tt
fifth_true cell absent e = absurd (no_is.0 e)
fifth_true cell (given n) e = (among_is (0 ∷ 1 ∷ 2 ∷ 3 ∷ 4 ∷ 5 ∷ 6 ∷ []) n).0 e
fifth_true face absent e = absurd (no_is.0 e)
fifth_true face (given n) e = (among_is (0 ∷ 2 ∷ 3 ∷ 4 ∷ []) n).0 e
