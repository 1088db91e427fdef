-- The rows of the records judged one behind the other. Assumes nothing.
use Prim.Native.Nat.{ℕ, ◌+◌, ◌≤◌, ◌<◌}
use mathlib.Core.Path.{◌≡◌, sym, ◌∙◌, ap}
use mathlib.Core.List.{List, map}
use mathlib.Core.Bool.{Bool, true, false, ◌&&◌}
use lib.ListN.{length, drop, get_or}
use Rattle.mesh.specs.declared.Zone.{Zone}
use Rattle.texts.specs.Judged.{all_by}
use Rattle.texts.specs.Write.{zone_in}
use Rattle.writer.proofs.Sections.{zones_next, zones_end}

-- ---- all of them: those from the row i on are left, and have the answer of all
module _ (f : Zone → Bool) (rs : List (List ℕ)) (i : ℕ) (d : List ℕ) {all : Bool} (g : all_by f (map zone_in (drop i rs)) ≡ all) where
  pub reviewing_end : length rs ≤ i → true ≡ all
  unfolding all_by
  reviewing_end h = sym (ap (all_by f) (zones_end rs i h)) ∙ g

  module _ (h : i < length rs) {z : Zone} (e : z ≡ zone_in (get_or rs i d)) {b : Bool} (q : b ≡ f z) where
    next : all_by f (map zone_in (drop i rs)) ≡ (b && all_by f (map zone_in (drop (i + 1) rs)))
    unfolding all_by
    next = ap (all_by f) (zones_next rs i d h) ∙ ap (λ (y : Bool). y && all_by f (map zone_in (drop (i + 1) rs))) (sym (q ∙ ap f e))

    pub reviewing_off : b ≡ false → false ≡ all
    reviewing_off n = sym (next ∙ ap (λ (y : Bool). y && all_by f (map zone_in (drop (i + 1) rs))) n) ∙ g

    pub reviewing_more : b ≡ true → all_by f (map zone_in (drop (i + 1) rs)) ≡ all
    reviewing_more y = sym (next ∙ ap (λ (x : Bool). x && all_by f (map zone_in (drop (i + 1) rs))) y) ∙ g
