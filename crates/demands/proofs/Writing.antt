-- The writer's promises hold of every call that meets its contract; each field by the theorem that it names. Assumes nothing.
use mathlib.Core.Path.{◌≡◌, refl, sym, ◌∙◌, subst}
use mathlib.Core.Logic.{◌⊎◌, inl, inr}
use mathlib.Core.List.{List}
use Prim.Native.Nat.{ℕ}
use contract.Lifetimes.{Lfts}
use denote.Triple.Entry.{Args, Res}
use denote.Triple.Clauses.{AtExit}
use Rattle.layout.specs.Rows.{Lent}
use Rattle.layout.specs.Says.{Mesh}
use Rattle.layout.specs.Read.{read_of}
use Rattle.layout.proofs.Exactly.{accepted_as}
use Rattle.texts.specs.Same.{lent_as}
use Rattle.texts.specs.Write.{Counted, write_of}
use Rattle.texts.proofs.Written.{written_exactly}
use Rattle.texts.proofs.Write as W
use Rattle.texts.proofs.ReadWritable.{read_writable}
use Rattle.writer.specs.contracts.write_flat as write
use Rattle.writer.proofs.write_flat.Reads as writes
use Rattle.demands.specs.Writing.{tabled, lent_text, Written, MeshWritten}

of_mesh : (m : Mesh) (old : List ℕ) → Counted m → Written m old (write_of m old)
of_mesh m old c =
    record {
      unwritable = W.write_unwritable m old c;
      room = λ g. W.write_room m old ((written_exactly m c).1 g);
      numbered = W.ways m old (λ o. (o.answer.number ≡ 0) ⊎ ((o.answer.number ≡ 18) ⊎ (o.answer.number ≡ 19))) (λ _. inr (inl refl)) (λ _ _. inr (inr refl)) (λ _ _. inl refl);
      untouched = W.write_refused m old;
      first = λ e. let b = W.write_behind m old e in (b.0, b.1);
      back = W.write_back m old c;
      one = λ e n d g. let a = W.write_accepted m old e in W.write_once m n c d a.0 ((written_exactly n d).1 g) a.2;
    }

module _ (κ : Lfts 6) (a : Args write.signature κ) (r : Res write.signature κ) (x : AtExit write.ended κ) (p : writes.Post κ a r x) where
  pub mesh_written : MeshWritten κ a r x
  mesh_written = record { only = λ r' x' q. p ∙ sym q; written = subst (Written (tabled κ a) (lent_text κ a)) (sym p) (of_mesh (tabled κ a) (lent_text κ a) refl) }

-- it asks nothing of what it is given
pub write_asks_nothing : (κ : Lfts 6) (a : Args write.signature κ) → writes.Pre κ a
write_asks_nothing κ a = tt

-- what reading leaves is never 18
pub never_unwritable : (s : List ℕ) (old : Lent) (m : Mesh) → read_of s old ≡ accepted_as m → (text : List ℕ) → (write_of (lent_as m) text).answer.number ≡ 18 → ⊥
never_unwritable = read_writable
