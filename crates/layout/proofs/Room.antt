-- Room is apart from what a file says: laid out with this room is laid out at all, with room for the totals and the zones. Assumes nothing.
use Prim.Native.Nat.{ℕ, suc, ◌≤◌}
use native.Mathlib.Omega.{arith}
use mathlib.Core.Path.{◌≡◌, refl, ap}
use mathlib.Core.Logic.{◌↔◌}
use mathlib.Core.List.{List, [], ◌∷◌, ◌++◌, append-nil, append_assoc}
use Rattle.facts.proofs.Decides.{either_of}
use Rattle.tokens.specs.Listed.{Tok}
use Rattle.layout.specs.Items.{Kind, node, cell, face, Header, Body, Item, dim, decl, part, other}
use Rattle.layout.specs.Keeps.{Limit, unlimited, most, Within, Room, room_for, Some, Declares, parts_in, DeclFits, PartFits, Fits, Laid}
use Rattle.layout.proofs.Lists.{some_at, parts_append}
use Rattle.layout.proofs.Each.{Each, parted_each}

abbrev pub free : Room
free = record { nodes = unlimited; cells = unlimited; faces = unlimited; zones = unlimited }

pub record HasRoom (room : Room) (is : List Item) : Type 0 where
  pub tables : (k : Kind) (t : ℕ) → Some (Declares k t) is → Within (room_for room k) t
  pub list : Within room.zones (parts_in is)

-- ---- limits
within_none : (m : Limit) → Within m 0
within_none unlimited = tt
within_none (most m) = omega arith

within_less : (m : Limit) (a b : ℕ) → a ≤ b → Within m b → Within m a
within_less unlimited a b l w = tt
within_less (most m) a b l w = omega arith

-- ---- what is laid out with this room has room
module _ (room : Room) where
  tables_room : (before is : List Item) → Each room before is → (k : Kind) (t : ℕ) → Some (Declares k t) is → Within (room_for room k) t
  tables_room before [] e k t s = absurd s
  tables_room before (dim n ∷ is) e k t s = either_of s (λ y. absurd y) (tables_room _ is e.1 k t)
  tables_room before (decl j h ∷ is) e k t s = either_of s (λ y. rw y.1 at (rw y.0 at e.0.roomy)) (tables_room _ is e.1 k t)
  tables_room before (part j h b ∷ is) e k t s = either_of s (λ y. absurd y) (tables_room _ is e.1 k t)
  tables_room before (other ∷ is) e k t s = either_of s (λ y. absurd y) (tables_room _ is e.1 k t)

  one_listed : (before : List Item) (i : Item) → Fits room before i → Within room.zones (parts_in before)
      → Within room.zones (parts_in (before ++ (i ∷ [])))
  one_listed before (dim n) f w = within_less room.zones _ (parts_in before) (omega (arith, parts_append before (dim n ∷ []))) w
  one_listed before (decl k h) f w = within_less room.zones _ (parts_in before) (omega (arith, parts_append before (decl k h ∷ []))) w
  one_listed before (part k h b) f w = within_less room.zones _ (suc (parts_in before)) (omega (arith, parts_append before (part k h b ∷ []))) f.roomy
  one_listed before other f w = within_less room.zones _ (parts_in before) (omega (arith, parts_append before (other ∷ []))) w

  list_room : (before is : List Item) → Each room before is → Within room.zones (parts_in before) → Within room.zones (parts_in (before ++ is))
  list_room before [] e w = rw (append-nil before) w
  list_room before (i ∷ is) e w = rw (append_assoc before (i ∷ []) is) at (list_room (before ++ (i ∷ [])) is e.1 (one_listed before i e.0 w))

  pub laid_has_room : {ts : List Tok} {is : List Item} → Laid room ts is → HasRoom room is
  laid_has_room {is = is} l =
      let e = parted_each room [] is l.fits in
      record { tables = tables_room [] is e; list = list_room [] is e (within_none room.zones) }

-- ---- another room
decl_fits : {a b : Room} {before : List Item} {k : Kind} {h : Header} → Within (room_for b k) h.last → DeclFits a before k h → DeclFits b before k h
decl_fits w f = record { once = f.once; first = f.first; small = f.small; roomy = w; dimension = f.dimension }

part_fits : {a b : Room} {before : List Item} {k : Kind} {h : Header} {c : Body} → Within b.zones (suc (parts_in before)) → PartFits a before k h c
    → PartFits b before k h c
part_fits w f =
    record {
      total = f.total;
      declared = f.declared;
      zone = f.zone;
      low = f.low;
      order = f.order;
      high = f.high;
      apart = f.apart;
      type = f.type;
      fifth = f.fifth;
      dimension = f.dimension;
      width = f.width;
      few = f.few;
      roomy = w;
    }

module _ (a b : Room) (is : List Item) (r : HasRoom b is) where
  fits_in_lem : (before : List Item) (i : Item) (after : List Item) → is ≡ before ++ (i ∷ after) → Fits a before i → Fits b before i
  fits_in_lem before (dim n) after e f = f
  fits_in_lem before (decl k h) after e f =
      decl_fits {a = a} {b = b} (r.tables k h.last (rw e (some_at (Declares k h.last) before (decl k h) after (refl, refl)))) f
  fits_in_lem before (part k h c) after e f =
      part_fits {a = a} {b = b} (within_less b.zones _ (parts_in is) (omega (arith, ap parts_in e, parts_append before (part k h c ∷ after))) r.list) f
  fits_in_lem before other after e f = f

  laid_in_lem : {ts : List Tok} → Laid a ts is → Laid b ts is
  laid_in_lem l = record { file = l.file; fits = λ before i after e. fits_in_lem before i after e (l.fits before i after e); whole = l.whole }

free_room : (is : List Item) → HasRoom free is
free_room is = record { tables = any; list = tt }
  where
    any : (k : Kind) (t : ℕ) → Some (Declares k t) is → Within (room_for free k) t
    any node t s = tt
    any cell t s = tt
    any face t s = tt

-- the law
pub laid_room : (room : Room) (ts : List Tok) (is : List Item) → Laid room ts is ↔ (Laid free ts is × HasRoom room is)
laid_room room ts is = (λ l. (laid_in_lem room free is (free_room is) l, laid_has_room room l), λ p. laid_in_lem free room is p.1 p.0)
