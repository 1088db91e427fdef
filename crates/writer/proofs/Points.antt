-- Rows of nodes laid one behind the other: what is left to lay. Assumes nothing.
use Prim.Native.Nat.{ℕ, zero, suc, ◌≤◌}
use native.Mathlib.Omega.{arith}
use mathlib.Core.Path.{◌≡◌, refl, sym, ◌∙◌, ap, subst}
use mathlib.Core.List.{List, [], ◌∷◌, ◌++◌}
use lib.IntN.{ℤ}
use lib.ListN.{length, take}
use lib.Seq.{length-take-le}
use Rattle.figures.specs.Signed.{coordinate_text}
use mir.Syntax.{w32, w64}
use mir.Val.{SFits, of_z, to_z}
use mir.ValLaws.{to_z-of_z}
use Rattle.putting.specs.Putting.{most, Laid}
use Rattle.putting.proofs.Laying.{Left, left_start, left_more}
use Rattle.writer.specs.inner.Rows.{pairs_bytes, nodes_bytes}

-- ---- the coordinates of a node, of which as many are left as there are mantissas
pairs_start : (lead d : ℕ) (ms es : List ℤ) → d ≤ length ms → d ≤ length es → pairs_bytes lead d ms es ≡ pairs_bytes lead (length (take d ms)) (take d ms) (take d es)
unfolding pairs_bytes
pairs_start lead zero ms es h k = refl
pairs_start lead (suc d) [] es h k = absurd (omega arith)
pairs_start lead (suc d) (m ∷ ms) [] h k = absurd (omega arith)
pairs_start lead (suc d) (m ∷ ms) (e ∷ es) h k = ap (λ r. lead ∷ (coordinate_text m e ++ r)) (pairs_start 32 d ms es (omega arith) (omega arith))

pub pairs_begin : {old : List ℕ} {at : ℕ} (lead d : ℕ) (ms es : List ℤ) {xs ys : List ℤ} → xs ≡ take d ms → ys ≡ take d es → d ≤ length ms → d ≤ length es → length old ≤ most → at ≤ most
    → (length xs ≡ length ys) × Left old at (pairs_bytes lead d ms es) old at (pairs_bytes lead (length xs) xs ys)
pairs_begin {old} {at} lead d ms es {xs} {ys} p q h k w v =
    let e : pairs_bytes lead d ms es ≡ pairs_bytes lead (length xs) xs ys = pairs_start lead d ms es h k ∙ (λ i. pairs_bytes lead (length (sym p i)) (sym p i) (sym q i)) in
    (omega (arith, ap length p, ap length q, length-take-le d ms h, length-take-le d es k), subst (Left old at (pairs_bytes lead d ms es) old at) e (left_start (pairs_bytes lead d ms es) w v))

pub pairs_more : {old : List ℕ} {at : ℕ} {whole cur : List ℕ} {c : ℕ} (lead : ℕ) {xs ys : List ℤ} (m e : ℤ) (ms es : List ℤ) {mid : List ℕ} {r : ℕ}
    → Left old at whole cur c (pairs_bytes lead (length xs) xs ys) → xs ≡ m ∷ ms → ys ≡ e ∷ es → SFits w64 m → SFits w32 e
    → Laid cur c (lead ∷ coordinate_text (to_z w64 (of_z w64 m)) (to_z w32 (of_z w32 e))) mid r
    → Left old at whole mid r (pairs_bytes 32 (length ms) ms es)
unfolding pairs_bytes
pairs_more lead m e ms es g p q f h w =
    left_more (pairs_bytes 32 (length ms) ms es) g (λ i. pairs_bytes lead (length (p i)) (p i) (q i)) (rw (to_z-of_z w64 m f, to_z-of_z w32 e h) at w)

pub pairs_none : (lead : ℕ) (ms es : List ℤ) → ms ≡ [] → pairs_bytes lead (length ms) ms es ≡ []
unfolding pairs_bytes
pairs_none lead ms es e = rw e

-- ---- nodes
pub nodes_more : {old : List ℕ} {at : ℕ} {whole cur : List ℕ} {c : ℕ} (d : ℕ) {xs ys : List (List ℤ)} (m e : List ℤ) (ms es : List (List ℤ)) {mid : List ℕ} {r : ℕ}
    → Left old at whole cur c (nodes_bytes d xs ys) → xs ≡ m ∷ ms → ys ≡ e ∷ es → Laid cur c (pairs_bytes 10 d m e) mid r → Left old at whole mid r (nodes_bytes d ms es)
unfolding nodes_bytes
nodes_more d m e ms es g p q w = left_more (nodes_bytes d ms es) g (λ i. nodes_bytes d (p i) (q i)) w

pub nodes_none : (d : ℕ) (ms es : List (List ℤ)) → ms ≡ [] → nodes_bytes d ms es ≡ []
unfolding nodes_bytes
nodes_none d ms es e = rw e
