-- How many zone records reading finds: no more than a file may have sections, and no more than there is room for. And no two answers of reading are told alike. Assumes nothing.
use Rattle.std.specs.Prelude.{◌≡◌, ℕ, ◌≤◌, List}
use Prim.Native.Nat.{zero-le}
use native.Mathlib.Omega.{arith}
use mathlib.Core.Path.{refl, ap, subst}
use Rattle.layout.specs.Items.{Item}
use Rattle.layout.specs.Keeps.{Room, most, Within, parts_in}
use Rattle.layout.specs.State.{State}
use Rattle.layout.specs.Read.{Answer, accepted, refused, answer_of}
use Rattle.layout.proofs.Room.{laid_has_room}
use Rattle.layout.proofs.Accepts.{laid_of}
use Rattle.layout.proofs.Shown.{shown_only}
use Rattle.filling.specs.Found.{Tables, Core, Told, told, room_with, core_by, core_of}
use Rattle.filling.proofs.Cored.{zones_are, few_zones}

pub told_only : (a b : Core) → told a ≡ told b → a ≡ b
told_only a b e =
    let p = shown_only a.found.reply b.found.reply (ap (λ (y : Told). y.shown) e) in
    let q = ap (λ (y : Told). y.zones) e in
    let r = ap (λ (y : Told). y.flat) e in
    let s = ap (λ (y : Told). y.held) e in
    λ i. record { found = record { reply = p i; zones = q i; flat = r i }; held = s i }

module _ (room : Room) (s : List ℕ) (x : State) (is : List Item) (e : answer_of room s ≡ accepted x is) where
  roomy_zones : (n : ℕ) → room.zones ≡ most n → parts_in is ≤ n
  roomy_zones n q = subst (λ y. Within y (parts_in is)) q (laid_has_room room (laid_of room s x is e).laid).list

module _ (s : List ℕ) (n : ℕ) (t : Tables) where
  few_by : (a : Answer) → answer_of (room_with t n) s ≡ a → ((core_by a t).found.zones ≤ 64) × ((core_by a t).found.zones ≤ n)
  few_by (accepted x is) e = (omega (arith, zones_are (room_with t n) s x is e, few_zones (room_with t n) s x is e), omega (arith, zones_are (room_with t n) s x is e, roomy_zones (room_with t n) s x is e n refl))
  few_by (refused w k o) e = (zero-le, zero-le)

  pub core_few : (core_of s n t).found.zones ≤ 64
  unfolding core_of
  core_few = (few_by (answer_of (room_with t n) s) refl).0

  pub core_room : (core_of s n t).found.zones ≤ n
  unfolding core_of
  core_room = (few_by (answer_of (room_with t n) s) refl).1
