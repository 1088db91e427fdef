-- A refusal of a section points into the file. Assumes nothing.
use Prim.Native.Nat.{ℕ}
use mathlib.Core.Bool.{◌||◌, not}
use lib.Dec.{ltb, eqb}
use Rattle.numbers.specs.declared.sort.Sort.{Sort}
use Rattle.numbers.specs.Whole.{section_id_of}
use Rattle.layout.specs.declared.Refusal.{Refusal}
use Rattle.layout.specs.Items.{Kind, node, cell, face, given, dim, dim_word}
use Rattle.layout.specs.Keeps.{Room, room_for}
use Rattle.layout.specs.State.{State, per, dim_after, every, clear, fits_in, decl_range, part_range, dim_listed, type_listed, fifth_listed, dim_agrees, dim_known, zone_fits}
use Rattle.layout.specs.Sections.{Head, two_of, decl_of, part_of, kind_of, other_of, section_of}
use Rattle.layout.proofs.SafeWords.{safe, and_then, tested, chosen, Safely, Any, HeadIn, right_safe, number_safe, hex_safe, skip_safe, body_safe, head_safe}

module _ (size : ℕ) where
  two_safe : (x : State) → Safely size Any (two_of size x)
  unfolding two_of
  two_safe x ts i = and_then (hex_safe size ts i) λ n us p j. and_then (right_safe size us j) λ _ vs _ k.
      tested (dim_listed (given n.value)) Refusal.Type n.at (λ _. p) λ _.
      tested (dim_agrees x (given n.value)) Refusal.Dimension n.at (λ _. p) λ _. safe {a = dim n.value} tt k

  module _ (room : Room) (x : State) where
    decl_safe : (k : Kind) (h : Head) → HeadIn size h → Safely size Any (decl_of size room k x h)
    unfolding decl_of
    decl_safe k h p ts i =
        tested (not (per x k).declared) Refusal.Undeclared h.zone.at (λ _. p.zone) λ _.
        tested (decl_range h.first.value h.last.value) Refusal.Range h.first.at (λ _. p.first) λ _.
        tested (fits_in (room_for room k) h.last.value) Refusal.TableRoom h.first.at (λ _. p.first) λ _.
        tested (dim_listed (dim_word k h.fifth)) Refusal.Type h.fifth_at (λ _. p.fifth) λ _.
        tested (dim_agrees x (dim_word k h.fifth)) Refusal.Dimension h.fifth_at (λ _. p.fifth) λ _. and_then (right_safe size ts i) λ _ us _ j. safe tt j

    part_safe : (k : Kind) (h : Head) → HeadIn size h → Safely size Any (part_of size room k x h)
    unfolding part_of
    part_safe k h p ts i =
        tested (per x k).declared Refusal.Undeclared h.zone.at (λ _. p.zone) λ _.
        tested (part_range (per x k).total h.zone.value h.first.value h.last.value) Refusal.Range h.first.at (λ _. p.first) λ _.
        tested (every (clear h.first.value h.last.value) (per x k).spans) Refusal.Overlap h.first.at (λ _. p.first) λ _.
        tested (type_listed k h.type.value) Refusal.Type h.type.at (λ _. p.type) λ _.
        tested (fifth_listed k h.fifth) Refusal.Type h.fifth_at (λ _. p.fifth) λ _.
        tested (dim_agrees x (dim_word k h.fifth)) Refusal.Dimension h.fifth_at (λ _. p.fifth) λ _.
        tested (dim_known k (dim_after x.dimension (dim_word k h.fifth))) Refusal.Dimension h.end (λ _. p.end) λ _.
        tested (zone_fits room.zones x.zones) Refusal.ZoneRoom h.zone.at (λ _. p.zone) λ _.
        and_then (body_safe size k _ _ h.fifth ts i) λ b us _ j. and_then (right_safe size us j) λ _ vs _ l. safe tt l

    kind_safe : (k : Kind) → Safely size Any (kind_of size room k x)
    unfolding kind_of
    kind_safe k ts i = and_then (head_safe size k ts i) λ h us p j. chosen (eqb h.zone.value 0) (λ _. decl_safe k h p us j) λ _. part_safe k h p us j

    other_safe : Safely size Any (other_of size room)
    unfolding other_of
    other_safe ts i = and_then (skip_safe size 0 ts i) λ _ us _ j. safe tt j

    pub section_safe : Safely size Any (section_of size room x)
    unfolding section_of
    section_safe ts i =
        and_then (number_safe size section_id_of Sort.SectionId ts i) λ n us p j.
        tested (ltb n.value 2000 || ltb 3999 n.value) Refusal.Binary n.at (λ _. p) λ _.
        chosen (eqb n.value 2) (λ _. two_safe x us j) λ _. chosen (eqb n.value 10) (λ _. kind_safe node us j) λ _.
        chosen (eqb n.value 12) (λ _. kind_safe cell us j) λ _. chosen (eqb n.value 13) (λ _. kind_safe face us j) λ _. other_safe us j
