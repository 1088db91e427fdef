-- Reading accepts these items exactly when the file is laid out with them. Assumes nothing.
use Prim.Native.Nat.{ℕ}
use native.Mathlib.Omega.{arith}
use mathlib.Core.Path.{◌≡◌, refl, ◌∙◌, ap}
use mathlib.Core.Logic.{◌↔◌}
use mathlib.Core.List.{List}
use borrow.Author.Tests.{le-leb, leb-true}
use lib.Dec.{leb}
use lib.ListN.{length}
use Rattle.facts.proofs.Branch.{either}
use Rattle.sizes.specs.Sizes.{file_bytes}
use Rattle.tokens.specs.Listed.{tokens_of}
use Rattle.tokens.proofs.Text.{text_exactly}
use Rattle.layout.specs.declared.Refusal.{Refusal}
use Rattle.layout.specs.Items.{Item}
use Rattle.layout.specs.Keeps.{Room}
use Rattle.layout.specs.Says.{LaidText}
use Rattle.layout.specs.State.{State, start, after_all}
use Rattle.layout.specs.Read.{accepted, refused, tokens_answer, answer_of}
use Rattle.layout.proofs.Sound.{sound}
use Rattle.layout.proofs.Complete.{complete}

not_accepted : {A : Type 0} {w : Refusal} {k o : ℕ} {x : State} {is : List Item} → refused w k o ≡ accepted x is → A
not_accepted e = absurd (let z : ◌≡◌ {A = ℕ} 0 1 = cc in omega arith)

module _ (room : Room) (s : List ℕ) where
  pub laid_of : (x : State) (is : List Item) → answer_of room s ≡ accepted x is → LaidText room s is
  unfolding answer_of
  laid_of x is =
      either (λ a. a ≡ accepted x is → LaidText room s is) (leb (length s) file_bytes)
      (λ p e. record {
        short = leb-true _ _ p;
        tokens = tokens_of s;
        text = (text_exactly s (tokens_of s)).0 refl;
        laid = sound (length s) room (tokens_of s) x is e;
      })
      (λ _ e. not_accepted e)

  pub answer_of_lem : (is : List Item) → LaidText room s is → answer_of room s ≡ accepted (after_all start is) is
  unfolding answer_of
  answer_of_lem is l =
      let q = (text_exactly s l.tokens).1 l.text in
      rw (le-leb (length s) file_bytes l.short, answer_of) (ap (tokens_answer (length s) room) q ∙ complete (length s) room l.tokens is l.laid)

  -- reading accepts these items exactly when the file is laid out with them
  pub answer_of_exactly : (is : List Item) → (answer_of room s ≡ accepted (after_all start is) is) ↔ LaidText room s is
  answer_of_exactly is = (laid_of (after_all start is) is, answer_of_lem is)

  pub stated : (x : State) (is : List Item) → answer_of room s ≡ accepted x is → x ≡ after_all start is
  stated x is e = let c = answer_of_lem is (laid_of x is e) in cc
