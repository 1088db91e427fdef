-- The test of the dimension and the totals decides that their items fit. Assumes nothing.
use Prim.Native.Nat.{ℕ, ◌≤◌}
use mathlib.Core.Path.{◌≡◌}
use mathlib.Core.Logic.{◌⊎◌}
use mathlib.Core.List.{List, []}
use Rattle.facts.proofs.Decides.{Decides, le_is, and_is}
use Rattle.sizes.specs.Sizes.{rows}
use Rattle.layout.specs.Items.{Kind, node, cell, face, Item}
use Rattle.layout.specs.Keeps.{Room, room_for, Within}
use Rattle.layout.specs.Rows.{Lent, room_of}
use Rattle.layout.specs.Says.{Mesh}
use Rattle.layout.specs.State.{start}
use Rattle.layout.proofs.Tests.{fits_is, listed_is}
use Rattle.layout.proofs.Sums.{Seen, none_seen, one_more}
use Rattle.layout.proofs.Each.{Each as EachFits}
use Rattle.texts.specs.Judged.{total_of, total_by, front_by, spans_of}
use Rattle.texts.proofs.ByKind.{all_kinds}
use Rattle.texts.proofs.Normal.{front, front_each}
use Rattle.texts.proofs.Records.{state_of}

module _ (m : Mesh) where
  abbrev d : ℕ
  d = m.dimension

  abbrev l : Lent
  l = m.held

  abbrev room : Room
  room = room_of l

  abbrev TotalIs : Kind → Type 0
  TotalIs k = (total_of m k ≤ rows) × Within (room_for room k) (total_of m k)

  abbrev pub Fronted : Type 0
  Fronted = ((d ≡ 2) ⊎ (d ≡ 3)) × (TotalIs node × (TotalIs cell × TotalIs face))

  pub front_is : Decides (front_by m) Fronted
  unfolding front_by
  front_is = and_is (listed_is d) (and_is (total_by_lem node) (and_is (total_by_lem cell) (total_by_lem face)))
    where
      total_by_lem : (k : Kind) → Decides (total_by room k (total_of m k)) (TotalIs k)
      total_by_lem k = and_is (le_is (total_of m k) rows) (fits_is (room_for room k) (total_of m k))

  module _ (f : Fronted) where
    pub totals : (k : Kind) → TotalIs k
    totals = all_kinds TotalIs f.1.0 f.1.1.0 f.1.1.1

    -- and then all items do, if the sections do
    pub each_of : (is : List Item) → EachFits room (front d l (total_of m) []) is → EachFits room [] (front d l (total_of m) is)
    each_of is e = front_each d l (total_of m) room f.0 (λ k. (totals k).0) (λ k. (totals k).1) is e

    -- what reading has seen before the first section
    pub seen : Seen (front d l (total_of m) []) (state_of m [])
    unfolding spans_of
    seen =
        let e = each_of [] tt in
        one_more _ _ (one_more _ _ (one_more _ _ (one_more [] start none_seen room _ e.0) room _ e.1.0) room _ e.1.1.0) room _ e.1.1.1.0
