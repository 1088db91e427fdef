-- The layout's theorems, of the calls: what their contracts come to. Assumes nothing.
use Rattle.layout.specs.Replies.{refuses}
use Prim.Native.Nat.{ℕ}
use mathlib.Core.Path.{◌≡◌, sym, ap, ◌∙◌}
use mathlib.Core.Logic.{◌↔◌}
use contract.Lifetimes.{Lfts}
use denote.Triple.Entry.{Args, Res}
use denote.Triple.Clauses.{AtExit}
use Rattle.layout.specs.declared.Refusal.{Refusal}
use Rattle.layout.specs.Replies.{Points}
use Rattle.layout.specs.Says.{Mesh, Says}
use Rattle.layout.specs.Read.{Result, read_of}
use Rattle.layout.proofs.Exactly.{accepted_as, read_of_exactly, one_mesh}
use Rattle.layout.proofs.Refusals.{refusal_points}
use Rattle.layout.proofs.Shown.{outcome_only}
use Rattle.reader.proofs.Only.{leaves, takes, Post}
use Rattle.reader.specs.contracts.lent.read as read

-- ---- read
module _ (κ : Lfts 6) (a : Args read.signature κ) (r : Res read.signature κ) (x : AtExit read.ended κ) (p : Post κ a r x) where
  abbrev answered : Result
  answered = record { reply = r; held = leaves κ x }

  answered_is : answered ≡ read_of a.0.now (takes κ a)
  answered_is = outcome_only answered (read_of a.0.now (takes κ a)) p

  -- it accepts with a mesh exactly when the file says that mesh and what is lent has room for it; what is lent then holds the mesh
  pub read_exactly : (m : Mesh) → (answered ≡ accepted_as m) ↔ Says a.0.now (takes κ a) m
  read_exactly m = let e = read_of_exactly a.0.now (takes κ a) m in (λ q. e.0 (sym answered_is ∙ q), λ s. answered_is ∙ e.1 s)

  -- the mesh that it leaves is the one that the file says
  pub read_one_mesh : (m n : Mesh) → answered ≡ accepted_as m → Says a.0.now (takes κ a) n → m ≡ n
  read_one_mesh m n q s = one_mesh a.0.now (takes κ a) m n ((read_exactly m).0 q) s

  -- a refusal has one of the paper's numbers, points into the file, and leaves all that is lent as it was
  pub read_refused : (w : Refusal) (k o : ℕ) → r ≡ refuses w k o → Points a.0.now w k o × (leaves κ x ≡ takes κ a)
  read_refused w k o q =
      let h = refusal_points a.0.now (takes κ a) w k o (sym (ap (λ (y : Result). y.reply) answered_is) ∙ q) in
      (h.0, ap (λ (y : Result). y.held) answered_is ∙ h.1)
