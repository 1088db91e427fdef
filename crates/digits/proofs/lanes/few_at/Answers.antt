use Prim.Native.Nat.{ℕ, ◌-◌}
use mathlib.Core.Path.{◌≡◌, subst}
use native.Mathlib.Nat.{le_refl}
use native.Mathlib.Omega.{arith}
use lib.ListN.{drop}
use Rattle.digits.specs.Lanes.{Laned}
use Rattle.digits.proofs.Beside.{laned_front, laned_rest, laned_none}
use Rattle.digits.proofs.lanes.few_at.Goals as goal

pub loop-i-init : goal.loop-i-init
loop-i-init c = record { down = omega arith; held = laned_none c.args.w.now _ (le_refl _) }

pub overflow_mul-x : goal.overflow_mul-x
overflow_mul-x c = omega (arith, laned_rest c.args.w.now c.loop-i.i _ (omega arith) c.loop-i.invariant.held)

pub overflow_add-x : goal.overflow_add-x
overflow_add-x c = omega (arith, c.type_inv.w (c.loop-i.i - 1), laned_rest c.args.w.now c.loop-i.i _ (omega arith) c.loop-i.invariant.held)

pub loop-i-preserved : goal.loop-i-preserved
loop-i-preserved c =
    record {
      down = omega arith;
      held = laned_front c.args.w.now c.loop-i.i c.loop-i.x c.from.result (omega arith) c.loop-i.auto.i
          (c.from.ensures, omega (arith, c.type_inv.w (c.loop-i.i - 1))) c.loop-i.invariant.held;
    }

pub returns : goal.returns
returns c =
    let e : c.loop-i.i ≡ c.args.at = omega arith in subst (λ (k : ℕ). Laned (drop k c.args.w.now) c.loop-i.x) e c.loop-i.invariant.held
