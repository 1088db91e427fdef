-- No second answer of a public function meets its contract. Assumes nothing.
use Prim.Native.Nat.{ℕ, zero, suc, ◌/◌, ◌%◌, ◌*◌, ◌+◌, ◌^◌, ◌≤◌, ◌<◌}
use native.Mathlib.Nat.{mod-lt, div-lt_iff_lt-mul, pow-zero, pow-suc}
use native.Mathlib.Omega.{arith}
use mathlib.Core.Path.{◌≡◌, refl, sym, ap, ◌∙◌}
use mathlib.Core.List.{List, [], ◌∷◌}
use lib.Dec.{lit<}
use lib.ListN.{length}
use lib.Pow.{split}
use Rattle.facts.specs.Only.{Only}
use Rattle.digits.specs.Lanes.{lanes, Under, Laned}
use Rattle.digits.proofs.couple.couple_in.Reads as couple_in
use Rattle.digits.proofs.couple.end_in.Reads as end_in_lem
use Rattle.digits.proofs.quick.hexes_in.Reads as hexes_in
use Rattle.digits.proofs.group.group_of.Reads as Group-of
use Rattle.digits.proofs.group.marks.Reads as marks
use Rattle.digits.proofs.lanes.bytes_at.Reads as bytes_at
use Rattle.digits.proofs.lanes.unlike.Reads as unlike

pub hexes_in_only : Only hexes_in.Post
hexes_in_only κ a r r' x x' p q = p ∙ sym q

pub couple_in_only : Only couple_in.Post
couple_in_only κ a r r' x x' p q = p ∙ sym q

pub end_in_only : Only end_in_lem.Post
end_in_only κ a r r' x x' p q = p ∙ sym q

pub marks_only : Only marks.Post
marks_only κ a r r' x x' p q = p ∙ sym q

pub bytes_at_only : Only bytes_at.Post
bytes_at_only κ a r r' x x' p q = p.same ∙ sym q.same

pub unlike_only : Only unlike.Post
unlike_only κ a r r' x x' p q = p ∙ sym q

-- the n lowest bytes of a number, the lowest first
abbrev lowest : ℕ → ℕ → List ℕ
lowest zero x = []
lowest (suc n) x = x % 256 ∷ lowest n (x / 256)

lowest_long : (n x : ℕ) → length (lowest n x) ≡ n
lowest_long zero x = refl
lowest_long (suc n) x = ap suc (lowest_long n (x / 256))

lowest_under : (n x : ℕ) → Under 256 (lowest n x)
lowest_under zero x = tt
lowest_under (suc n) x = (mod-lt x (lit< tt), lowest_under n (x / 256))

lowest_same : (n x : ℕ) → x < 256 ^ n → x ≡ lanes 8 (lowest n x)
unfolding lanes
lowest_same zero x h = omega (arith, rw pow-zero at h)
lowest_same (suc n) x h = sym (split x 8) ∙ ap (λ (m : ℕ). m * 2 ^ 8 + x % 256) (lowest_same n (x / 256) ((div-lt_iff_lt-mul (lit< tt)).1 (rw pow-suc at h)))

-- x is a number of 64 bits, so eight bytes stand side by side in it
pub group_of_only : Only (λ κ a r x. (a.0 < 2 ^ 64) × Group-of.Post κ a r x)
group_of_only κ a r r' x x' p q =
    let w = lowest 8 a.0 in
    let l : Laned w a.0 = record { same = lowest_same 8 a.0 p.0; bytes = lowest_under 8 a.0 } in
    let h : length w ≤ 8 = omega (arith, lowest_long 8 a.0) in
    p.1.says w l h ∙ sym (q.1.says w l h)
