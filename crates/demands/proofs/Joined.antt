-- What the reader accepts is within the audit's limits: reading and then auditing is never refused by the audit. Assumes nothing.
use Prim.Native.Nat.{ℕ, ◌/◌, ◌≤◌, zero-le}
use mathlib.Core.Path.{◌≡◌, refl, sym, ◌∙◌, subst}
use mathlib.Core.Logic.{inl, inr}
use mathlib.Core.List.{List, [], ◌∷◌, ◌++◌, append_assoc}
use lib.ListN.{length}
use Rattle.sizes.specs.Sizes.{rows}
use Rattle.layout.specs.Items.{Kind, node, cell, face, Item, dim, decl, part, other}
use Rattle.layout.specs.Keeps.{Room, room_for, Within, Some, Declares, Fits, Laid}
use Rattle.layout.specs.Rows.{Lent, room_of}
use Rattle.layout.specs.Says.{Mesh, Says, CellsAre}
use Rattle.filling.proofs.Cored.{some_listed}
use Rattle.audit.specs.Audit.{tables}
use Rattle.demands.specs.Demands.{Limits}

-- a total that is declared is small, and there is room for it
record Held (room : Room) (k : Kind) (t : ℕ) : Type 0 where
  small : t ≤ rows
  roomy : Within (room_for room k) t

item_held : (room : Room) (before : List Item) (k : Kind) (t : ℕ) (i : Item) → Declares k t i → Fits room before i → Held room k t
item_held room before k t (dim n) d f = absurd d
item_held room before k t (decl j h) d f =
    record {
      small = subst (λ y. y ≤ rows) d.1 f.small;
      roomy = subst (λ y. Within (room_for room k) y) d.1 (subst (λ y. Within (room_for room y) h.last) d.0 f.roomy);
    }
item_held room before k t (part j h b) d f = absurd d
item_held room before k t other d f = absurd d

some_held : (room : Room) (is : List Item) → ((before : List Item) (i : Item) (after : List Item) → is ≡ before ++ (i ∷ after) → Fits room before i)
    → (before rest : List Item) (k : Kind) (t : ℕ) → is ≡ before ++ rest → Some (Declares k t) rest → Held room k t
some_held room is fits before [] k t e y = absurd y
some_held room is fits before (i ∷ rest) k t e (inl y) = item_held room before k t i y (fits before i rest e)
some_held room is fits before (i ∷ rest) k t e (inr y) = some_held room is fits (before ++ (i ∷ [])) rest k t (e ∙ sym (append_assoc before (i ∷ []) rest)) y

module _ (s : List ℕ) (old : Lent) (m : Mesh) (p : Says s old m) where
  abbrev laid : Laid (room_of old) p.laid.tokens p.items
  laid = p.laid.laid

  declared : (k : Kind) (t : ℕ) → Some (Declares k t) p.items → Held (room_of old) k t
  declared k t y = some_held (room_of old) p.items laid.fits [] p.items k t refl y

  cells_held : (c : ℕ) → CellsAre p.items c → Held (room_of old) cell c
  cells_held c (inl y) = declared cell c y
  cells_held c (inr y) = subst (Held (room_of old) cell) (sym y.1) (record { small = zero-le; roomy = zero-le })

  pub accepted_limits : (counts : List ℕ) → m.cells ≤ length counts → Limits (tables m.dimension m.nodes m.faces m.cells m.held.faces m.held.cells) counts
  accepted_limits counts h =
      let f = declared face m.faces p.faces in
      let c = cells_held m.cells p.cells in
      record {
        dimension = some_listed (room_of old) p.laid.tokens p.items laid [] p.items m.dimension refl p.dimension;
        totals = ((declared node m.nodes p.nodes).small, (f.small, c.small));
        lent = (
          subst (λ y. m.faces ≤ y / 8) (sym p.held.faces.size) f.roomy,
          subst (λ y. m.cells ≤ y / 2) (sym p.held.cells.size) c.roomy,
        );
        room = h;
      }
