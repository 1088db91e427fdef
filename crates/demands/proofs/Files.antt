-- A call of `reader::read` answers 0 exactly when the file keeps the layout and there is room. Assumes nothing.
use Rattle.std.specs.Prelude.{Ok, Err}
use Rattle.layout.specs.Replies.{Reply}
use native.Mathlib.Omega.{arith}
use mathlib.Core.Path.{◌≡◌, refl, ap, ◌∙◌}
use mathlib.Core.Logic.{◌↔◌}
use contract.Lifetimes.{Lfts}
use denote.Triple.Entry.{Args, Res}
use denote.Triple.Clauses.{AtExit}
use Rattle.layout.specs.Rows.{room_of}
use Rattle.layout.specs.Replies.{shown}
use Rattle.layout.specs.Says.{Mesh}
use Rattle.layout.specs.Read.{Outcome, result_of, read_of}
use Rattle.layout.proofs.Accepts.{answer_of_lem}
use Rattle.layout.proofs.Refusals.{number_of_within}
use Rattle.reader.proofs.Only.{takes, leaves, Post}
use Rattle.reader.proofs.Called.{read_exactly}
use Rattle.reader.specs.contracts.read as read
use Rattle.demands.specs.Demands.{Fits}

module _ (κ : Lfts 6) (a : Args read.signature κ) (r : Res read.signature κ) (x : AtExit read.ended κ) (p : Post κ a r x) where
  fits : (y : Reply) → r ≡ y → (shown y).number ≡ 0 → Fits a.0.now (takes κ a)
  fits (Ok y) e h =
      let m : Mesh = record { dimension = y.dim; nodes = y.nodes; faces = y.faces; cells = y.cells; zones = y.zones; held = leaves κ x } in
      let s = (read_exactly κ a r x p m).0 (ap (λ (y : Reply). record { reply = y; held = leaves κ x }) e) in
      record { items = s.items; laid = s.laid }
  fits (Err b) e h = absurd (omega (arith, (number_of_within b.why).0))

  accepts : Fits a.0.now (takes κ a) → (shown r).number ≡ 0
  unfolding read_of
  accepts f =
      ap (λ (y : Outcome). y.shown.number) p
      ∙ ap (λ y. (shown (result_of y (takes κ a)).reply).number) (answer_of_lem (room_of (takes κ a)) a.0.now f.items f.laid)

  pub accepted_fits : ((shown r).number ≡ 0) ↔ Fits a.0.now (takes κ a)
  accepted_fits = (fits r refl, accepts)
