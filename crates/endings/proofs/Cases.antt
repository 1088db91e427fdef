-- Closed cases of the functions that only our own crates call: the right answer, and what a wrong program would have answered there. Assumes nothing.
use Rattle.layout.specs.Replies.{refuses}
use mathlib.Core.Path.{◌≡◌, refl}
use mathlib.Core.List.{[]}
use mathlib.Core.Bool.{true, ◌&&◌}
use Rattle.layout.specs.declared.Refusal.{Refusal}
use Rattle.tokens.specs.declared.Token.{Token}
use Rattle.layout.specs.Items.{dim}
use Rattle.layout.specs.State.{State, start, after}
use Rattle.layout.specs.Read.{accepted, ending, end_of}
use Rattle.endings.specs.Endings.{verdict, last_of}

-- behind "(2 2)"
abbrev two : State
two = after start (dim 2)

-- `last_of`, `last_by_lists`: a missing declaration called untiled
last_of_lem :
    (last_of Token.End 5 two 1 5 ≡ refuses Refusal.Missing 1 5)
    × (verdict (ending true true (two.nodes.declared && two.faces.declared) (accepted two []) 1 5) ≡ refuses Refusal.Untiled 1 5)
unfolding end_of
last_of_lem = (refl, refl)
