-- A list with the records of a flat table at its start: one record more, and its length. Assumes nothing.
use Prim.Native.Nat.{ℕ, zero, suc, ◌+◌}
use native.Mathlib.Numerals.{add-one}
use mathlib.Core.Path.{◌≡◌, refl, ap, ◌∙◌}
use mathlib.Core.List.{List}
use lib.ListN.{length, set, length-set}
use Rattle.mesh.specs.declared.Zone.{Zone}
use Rattle.filling.specs.Zones.{zone_at, filled}

pub filled_next : (t : List ℕ) (i : ℕ) (zs : List Zone) → filled t (i + 1) zs ≡ set (filled t i zs) i (zone_at t i)
unfolding filled
filled_next t i zs = ap (λ (n : ℕ). filled t n zs) (add-one i)

pub filled_length : (t : List ℕ) (n : ℕ) (zs : List Zone) → length (filled t n zs) ≡ length zs
unfolding filled
filled_length t zero zs = refl
filled_length t (suc n) zs = length-set (filled t n zs) n (zone_at t n) ∙ filled_length t n zs
