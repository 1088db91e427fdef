-- Closed cases of the functions that only our own crates call: the right answer, and what a wrong program would have answered there. Assumes nothing.
use mathlib.Core.Path.{◌≡◌, refl}
use mathlib.Core.List.{[], ◌∷◌}
use mathlib.Core.Bool.{true, false}
use Rattle.facts.specs.Bytes.{big_endian}
use Rattle.records.specs.Record.{fault, narrow, extra_bytes, record_of}
use Rattle.records.specs.Laid.{pen_at, laid, step}

-- `put`: a shorter record laid behind one that was left out
put :
    (step narrow (laid (7 ∷ 7 ∷ 7 ∷ []) (pen_at 0 false)) (fault 5 2 0) ≡ laid (7 ∷ 7 ∷ 7 ∷ []) (pen_at 0 false))
    × (step narrow (laid (7 ∷ 7 ∷ 7 ∷ []) (pen_at 0 true)) (fault 5 2 0) ≡ laid (5 ∷ 0 ∷ 2 ∷ []) (pen_at 3 true))
unfolding big_endian extra_bytes record_of step
put = (refl, refl)

-- `extra_bytes`: a count in two bytes
extra_bytes_lem : (extra_bytes narrow 9 ≡ 3) × (extra_bytes (record { index = 2; count = 2; base = 0 }) 9 ≡ 2)
unfolding extra_bytes
extra_bytes_lem = (refl, refl)
