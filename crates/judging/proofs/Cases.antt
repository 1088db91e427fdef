-- Closed cases of the functions that only our own crates call: the right answer, and what a wrong program would have answered there. Assumes nothing.
use Prim.Native.Nat.{ℕ}
use mathlib.Core.Path.{◌≡◌, refl}
use mathlib.Core.Bool.{true, false}
use Rattle.std.specs.Prelude.{Some, None, Result, Ok, Err}
use Rattle.layout.specs.declared.Refusal.{Refusal}
use Rattle.layout.specs.State.{decl_range, part_range}
use Rattle.spots.specs.declared.Bad.{Bad}
use Rattle.spots.specs.declared.Head.{Head}
use Rattle.spots.specs.declared.Kind.{Kind}
use Rattle.sofar.specs.declared.Seen.{Seen}
use Rattle.sofar.specs.declared.State.{State}
use Rattle.judging.specs.Judging.{test, decl_judged, part_judged}

-- "(12 (0 1 2 0))", its words at 5, 7, 9 and 11
abbrev declares : Head
declares =
    record {
      zone = record { value = 0; at = 5 };
      first = record { value = 1; at = 7 };
      last = record { value = 2; at = 9 };
      ztype = record { value = 0; at = 11 };
      fifth = None;
      place = 0;
      end = 12;
    }

-- "(12 (1 1 3 1 1))"
abbrev regular : Head
regular =
    record {
      zone = record { value = 1; at = 5 };
      first = record { value = 1; at = 7 };
      last = record { value = 3; at = 9 };
      ztype = record { value = 1; at = 11 };
      fifth = Some 1;
      place = 13;
      end = 14;
    }

-- what is known of cells, and nothing else
abbrev unseen : Seen
unseen = record { declared = false; total = 0 }

abbrev knows : Seen → State
knows cells = record { dim = 0; nodes = unseen; cells = cells; faces = unseen; zones = 0 }

-- behind "(12 (0 1 2 0))"
abbrev two : State
two = knows (record { declared = true; total = 2 })

abbrev refused : Refusal → ℕ → Result Unit Bad
refused w o = Err (record { why = w; offset = o })

-- `unless`, `ensure`: the tests behind one that holds left out
unless : (test true Refusal.Range 7 (refused Refusal.Type 11) ≡ refused Refusal.Type 11) × (test true Refusal.Range 7 (Ok tt) ≡ Ok tt)
unless = (refl, refl)

ensure : (test true Refusal.Range 7 (refused Refusal.Type 11) ≡ refused Refusal.Type 11) × (test true Refusal.Range 7 (Ok tt) ≡ Ok tt)
ensure = (refl, refl)

-- `decl_judged`: a second declaration taken
decl_judged_lem :
    (decl_judged Kind.Cell two None declares ≡ refused Refusal.Undeclared 5)
    × (decl_judged Kind.Cell (knows (record { declared = false; total = 2 })) None declares ≡ Ok tt)
unfolding decl_range
decl_judged_lem = (refl, refl)

-- the same where nothing is known yet
decl_judged_first : decl_judged Kind.Cell (knows unseen) None declares ≡ Ok tt
unfolding decl_range
decl_judged_first = refl

-- `part_judged`: a range refused at the zone word
part_judged_lem :
    (part_judged Kind.Cell two 0 None regular true ≡ refused Refusal.Range 7)
    × (test (part_range 2 1 1 3) Refusal.Range regular.zone.at (Ok tt) ≡ refused Refusal.Range 5)
unfolding part_range
part_judged_lem = (refl, refl)
