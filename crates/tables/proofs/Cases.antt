-- Closed cases of the functions that only our own crates call: the right answer, and what a wrong program would have answered there. Assumes nothing.
use Prim.Native.Nat.{ℕ, ◌*◌, ◌-◌, ◌/◌}
use mathlib.Core.Path.{◌≡◌, refl, ap, ◌∙◌}
use mathlib.Core.List.{[], ◌∷◌, ◌++◌}
use lib.ListN.{replicate}
use lib.Seq.{sets}
use Rattle.mesh.specs.declared.Zone.{Zone}
use Rattle.mesh.specs.Rows.{node_words}
use Rattle.std.specs.Prelude.{Some}
use Rattle.tables.specs.Places.{words_of, room_from}
use Rattle.tables.proofs.places.rows_before.Reads as before

-- `room_for`: cell rows as wide as node rows
room_for_lem : ((room_from 9 9 16 6 1).cells ≡ Some 3) × (Some (6 / node_words) ≡ Some 2)
room_for_lem = (refl, refl)

-- `rows_before`: indices from 0
rows_before : ((κ : _) (a : _) (r : _) (x : _) → before.Post κ a r x → ◌≡◌ {A = ℕ} a.0 3 → ◌≡◌ {A = ℕ} r 2) × (3 - 0 ≡ 3)
rows_before = (λ κ a r x p three. p ∙ ap (λ (n : ℕ). n - 1) three, refl)

abbrev cells : Zone
cells = record { section = 12; zone = 2; first = 1; last = 4; ztype = 1; element = 3 }

-- `put_record`: five words a record
put_record :
    (sets (replicate 12 9) (6 * 1) (words_of cells) ≡ replicate 6 9 ++ (12 ∷ 2 ∷ 1 ∷ 4 ∷ 1 ∷ 3 ∷ []))
    × (sets (replicate 12 9) (5 * 1) (words_of cells) ≡ replicate 5 9 ++ (12 ∷ 2 ∷ 1 ∷ 4 ∷ 1 ∷ 3 ∷ 9 ∷ []))
put_record = (refl, refl)
