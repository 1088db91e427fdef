-- A file is accepted exactly when it is laid out with some items and there is room; the totals are theirs. Assumes nothing.
use Rattle.std.specs.Prelude.{Ok, Err}
use Rattle.layout.specs.Replies.{Reply, accepts}
use Prim.Native.Nat.{ℕ}
use native.Mathlib.Omega.{arith}
use mathlib.Core.Path.{◌≡◌, refl, sym, ◌∙◌, ap}
use mathlib.Core.List.{List}
use Rattle.layout.specs.Items.{Item}
use Rattle.layout.specs.Keeps.{Room}
use Rattle.layout.specs.Says.{LaidText}
use Rattle.layout.specs.State.{start, after_all}
use Rattle.layout.specs.Read.{Answer, accepted, refused, answer_of}
use Rattle.layout.proofs.Accepts.{answer_of_exactly, stated}
use Rattle.endings.specs.Endings.{verdict}

-- what Accepted holds of these items
abbrev pub told : List Item → Reply
told is = verdict (accepted (after_all start is) is)

abbrev wanted : Reply → ℕ
wanted (Ok a) = 1
wanted (Err b) = 0

pub record Laying (room : Room) (s : List ℕ) (r : Reply) : Type 0 where
  pub items : List Item
  pub laid : LaidText room s items
  pub says : r ≡ told items

module _ (room : Room) (s : List ℕ) where
  pub laid_accepted : (is : List Item) → LaidText room s is → verdict (answer_of room s) ≡ told is
  laid_accepted is l = ap verdict ((answer_of_exactly room s is).1 l)

  by_answer : (a : Answer) → answer_of room s ≡ a → wanted (verdict a) ≡ 1 → Laying room s (verdict a)
  by_answer (accepted x is) q e =
      let z : x ≡ after_all start is = stated room s x is q in
      record { items = is; laid = (answer_of_exactly room s is).0 (q ∙ ap (λ y. accepted y is) z); says = ap (λ y. verdict (accepted y is)) z }
  by_answer (refused w k o) q e = absurd (let z : ◌≡◌ {A = ℕ} 0 1 = e in omega arith)

  pub accepted_laid : (d n f c z : ℕ) → verdict (answer_of room s) ≡ accepts d n f c z → Laying room s (accepts d n f c z)
  accepted_laid d n f c z e =
      let l = by_answer (answer_of room s) refl (ap wanted e) in
      record { items = l.items; laid = l.laid; says = sym e ∙ l.says }
