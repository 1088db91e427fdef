-- A section's rows are in its table: where there is room for them, so many words are there. Assumes nothing.
use Prim.Native.Nat.{ℕ, ◌+◌, ◌-◌, ◌*◌, ◌/◌, ◌≤◌}
use native.Mathlib.Nat.{mul-le-mul_left, mul-div-le, mul_comm, mul-add}
use native.Mathlib.Omega.{arith}
use mathlib.Core.Path.{◌≡◌, sym, ◌∙◌, ap}
use mathlib.Core.List.{List}
use lib.ListN.{length}
use Rattle.layout.specs.Items.{Header, count_of}
use Rattle.texts.specs.Writable.{Inside}

pub div_room : (w l n : ℕ) → n ≤ l / w → w * n ≤ l
div_room w l n h = omega (arith, mul-le-mul_left {m = n} {n = l / w} w h, mul-div-le l w)

pub inside_of : {A : Type 0} (w : ℕ) (h : Header) (l : List A) → 1 ≤ h.first → h.first ≤ h.last → w * h.last ≤ length l → Inside w h l
inside_of w h l low order room =
    let z : h.first - 1 + count_of h ≡ h.last = omega arith in
    omega (arith, room, mul_comm (count_of h) w, sym (mul-add w (h.first - 1) (count_of h)) ∙ ap (λ n. w * n) z)
