-- What the code keeps of a section is what the layout's state keeps of it. Assumes nothing.
use Prim.Native.Nat.{ℕ, suc, ◌+◌, ◌<◌}
use native.Mathlib.Omega.{arith}
use native.Mathlib.Numerals.{add-one}
use mathlib.Core.Path.{◌≡◌, refl, sym, ◌∙◌, ap}
use mathlib.Core.Bool.{Bool, true, false}
use borrow.Author.Tests.{lt-ltb}
use lib.ListN.{length}
use Rattle.sizes.specs.Sizes.{zones}
use Rattle.layout.specs.Items as Items
use Rattle.layout.specs.State as St
use Rattle.layout.specs.State.{Span, per, put, spanned, after, dim_after}
use Rattle.spots.specs.declared.Kind.{Kind}
use Rattle.spots.specs.declared.Head.{Head}
use Rattle.sofar.specs.declared.State.{State}
use Rattle.notes.specs.declared.note.Met.{Met}
use Rattle.notes.specs.Noting.{more, note_state, kept_as, note_kept}
use Rattle.sections.specs.Sections.{Outline, dim, decl, part, other, outline_of, met_for}
use Rattle.sofar.specs.States.{state_by_lists}
use Rattle.kept.specs.Kept.{Listed, on_top, kept_by_lists}
use Rattle.kept.proofs.StoredByLists.{stored, kept_top}

-- ---- the state after an outline
abbrev after_outline : St.State → Outline → St.State
after_outline x (dim n) = after x (Items.dim n)
after_outline x (decl k h) = after x (Items.decl k h)
after_outline x (part k h) = put x k (spanned (per x k) h) (dim_after x.dimension (Items.dim_word k h.fifth)) (x.zones + 1)
after_outline x other = x

after_outline_lem : (x : St.State) (i : Items.Item) → after_outline x (outline_of i) ≡ after x i
after_outline_lem x (Items.dim n) = refl
after_outline_lem x (Items.decl k h) = refl
after_outline_lem x (Items.part k h b) = refl
after_outline_lem x Items.other = refl

abbrev pub is_part : Outline → Bool
is_part (dim n) = false
is_part (decl k h) = false
is_part (part k h) = true
is_part other = false

module _ (kept : Listed) (x : State) (a : length kept.ids ≡ zones) (b : length kept.firsts ≡ zones) (c : length kept.lasts ≡ zones) where
  module _ (h : Head) (l : x.zones < zones) where
    top_of : (k : Kind) (id : ℕ) → kept_by_lists (stored kept x.zones (kept_as k h)) id (suc x.zones) ≡ on_top id (kept_as k h) (kept_by_lists kept id x.zones)
    top_of k id = kept_top kept x.zones (kept_as k h) (omega (arith, a)) (omega (arith, b)) (omega (arith, c)) id

    part_noted : (k : Kind)
        → state_by_lists (stored kept x.zones (kept_as k h)) (note_state x (Met.Part k h))
        ≡ after_outline (state_by_lists kept x) (met_for (Met.Part k h))
    part_noted Kind.Node = rw (more, lt-ltb x.zones zones l, top_of Kind.Node 10, top_of Kind.Node 12, top_of Kind.Node 13, add-one)
    part_noted Kind.Cell = rw (more, lt-ltb x.zones zones l, top_of Kind.Cell 10, top_of Kind.Cell 12, top_of Kind.Cell 13, add-one)
    part_noted Kind.Face = rw (more, lt-ltb x.zones zones l, top_of Kind.Face 10, top_of Kind.Face 12, top_of Kind.Face 13, add-one)

  met_noted : (m : Met) → (is_part (met_for m) ≡ true → x.zones < zones)
      → state_by_lists (note_kept m x.zones kept) (note_state x m) ≡ after_outline (state_by_lists kept x) (met_for m)
  met_noted (Met.Dim n) l = refl
  met_noted (Met.Decl Kind.Node h) l = refl
  met_noted (Met.Decl Kind.Cell h) l = refl
  met_noted (Met.Decl Kind.Face h) l = refl
  met_noted (Met.Part k h) l = part_noted h (l refl) k
  met_noted Met.Other l = refl

  -- what is kept of a section is what the layout keeps of it
  pub note_is : (m : Met) (i : Items.Item) → met_for m ≡ outline_of i → (is_part (outline_of i) ≡ true → x.zones < zones)
      → state_by_lists (note_kept m x.zones kept) (note_state x m) ≡ after (state_by_lists kept x) i
  note_is m i e l =
      met_noted m (λ q. l (ap is_part (sym e) ∙ q)) ∙ ap (after_outline (state_by_lists kept x)) e ∙ after_outline_lem (state_by_lists kept x) i
