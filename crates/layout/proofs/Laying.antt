-- Runs that lie apart are all there once they are laid, and only one table holds them. Assumes nothing.
use Prim.Native.Nat.{ℕ, zero, suc, ◌+◌, ◌-◌, ◌≤◌, ◌<◌}
use native.Mathlib.Omega.{arith}
use mathlib.Core.Path.{◌≡◌, refl, sym, ◌∙◌}
use mathlib.Core.Logic.{◌⊎◌, inl, inr}
use mathlib.Core.List.Memᴰ
use mathlib.Core.List.{List, [], ◌∷◌, Memᴰ}
use mathlib.Core.Bool.{Bool, true, false}
use borrow.Author.Tests.{ltb-true, ltb-false}
use lib.Dec.{ltb}
use lib.ListN.{length, get_or, set, length-set}
use lib.Seq.{sets, length-sets, get_or-set_same, get_or-set_other, ext_get_or}
use Rattle.facts.proofs.Decides.{either_of}
use Rattle.layout.specs.Rows.{Piece, Away, Holding}
use Rattle.layout.specs.Read.{lay}

module _ {A : Type 0} (d : A) where
  sets_out : (l : List A) (i : ℕ) (vs : List A) (k : ℕ) → (k < i) ⊎ (i + length vs ≤ k) → get_or (sets l i vs) k d ≡ get_or l k d
  sets_out l i [] k h = refl
  sets_out l i (v ∷ vs) k (inl h) = sets_out (set l i v) (suc i) vs k (inl (omega arith)) ∙ get_or-set_other l i k v d (λ e. omega arith)
  sets_out l i (v ∷ vs) k (inr h) = sets_out (set l i v) (suc i) vs k (inr (omega arith)) ∙ get_or-set_other l i k v d (λ e. omega arith)

  sets_in : (l : List A) (i : ℕ) (vs : List A) (j : ℕ) → i + length vs ≤ length l → j < length vs → get_or (sets l i vs) (i + j) d ≡ get_or vs j d
  sets_in l i [] j f h = absurd (omega arith)
  sets_in l i (v ∷ vs) zero f h =
      let z : i + 0 ≡ i = omega arith in
      rw z (sets_out (set l i v) (suc i) vs i (inl (omega arith)) ∙ get_or-set_same l i v d (omega arith))
  sets_in l i (v ∷ vs) (suc j) f h =
      let z : i + suc j ≡ suc i + j = omega arith in
      rw z (sets_in (set l i v) (suc i) vs j (rw (length-set l i v) (omega arith)) (omega arith))

  abbrev pub Clear : Piece A → Piece A → Type 0
  Clear p q = (p.at + length p.words ≤ q.at) ⊎ (q.at + length q.words ≤ p.at)

  -- within the table, and apart from those behind
  abbrev pub Good : ℕ → List (Piece A) → Type 0
  Good size [] = Unit
  Good size (p ∷ ps) = (p.at + length p.words ≤ size) × ((q : Piece A) → Memᴰ q ps → Clear p q) × Good size ps

  away : (p q : Piece A) (j : ℕ) → Clear p q → j < length p.words → Away (p.at + j) q
  away p q j (inl h) l = inl (omega arith)
  away p q j (inr h) l = inr (omega arith)

  first_there : (p : Piece A) (ps : List (Piece A)) (old new : List A) → p.at + length p.words ≤ length old → ((r : Piece A) → Memᴰ r ps → Clear p r)
      → Holding d ps (sets old p.at p.words) new → (q : Piece A) → q ≡ p → (j : ℕ) → j < length q.words
      → get_or new (q.at + j) d ≡ get_or q.words j d
  first_there p ps old new f c h q z j l =
      let m : j < length p.words = rw z at l in
      rw z (h.stays (p.at + j) (λ r n. away p r j (c r n) m) ∙ sets_in old p.at p.words j f m)

  pub lay_holds : (ps : List (Piece A)) (old : List A) → Good (length old) ps → Holding d ps old (lay ps old)
  unfolding lay
  lay_holds [] old g = record { size = refl; there = λ p m. absurd (Memᴰ.not-nil m); stays = λ k h. refl }
  lay_holds (p ∷ ps) old g =
      let old' = sets old p.at p.words in
      let e = length-sets old p.at p.words in
      let h = lay_holds ps old' (rw e g.2) in
      record {
        size = h.size ∙ e;
        there = λ q m j l. either_of (Memᴰ.cases_cons m) (λ z. first_there p ps old _ g.0 g.1 h q z j l) (λ n. h.there q n j l);
        stays = λ k f. h.stays k (λ q m. f q (Memᴰ.tail m)) ∙ sets_out old p.at p.words k (f p (Memᴰ.head refl));
      }

  -- each index is in a run or in none
  In : ℕ → List (Piece A) → Type 0
  In k ps = (p : Piece A) × Memᴰ p ps × (p.at ≤ k) × (k < p.at + length p.words)

  Found : ℕ → List (Piece A) → Type 0
  Found k ps = In k ps ⊎ ((p : Piece A) → Memᴰ p ps → Away k p)

  find : (k : ℕ) (ps : List (Piece A)) → Found k ps
  unfolding In Found
  find k [] = inr λ p m. absurd (Memᴰ.not-nil m)
  find k (p ∷ ps) = on (ltb k p.at) refl (ltb k (p.at + length p.words)) refl (find k ps)
    where
      out : Away k p → Found k ps → Found k (p ∷ ps)
      out w (inl i) = inl (i.0, Memᴰ.tail i.1, i.2, i.3)
      out w (inr f) = inr λ q m. either_of (Memᴰ.cases_cons m) (λ z. rw z w) (λ n. f q n)

      on : (a : Bool) → ltb k p.at ≡ a → (b : Bool) → ltb k (p.at + length p.words) ≡ b → Found k ps → Found k (p ∷ ps)
      on true e b f r = out (inl (ltb-true _ _ e)) r
      on false e true f r = inl (p, Memᴰ.head refl, ltb-false _ _ e, ltb-true _ _ f)
      on false e false f r = out (inr (ltb-false _ _ f)) r

  pub holding_one : (ps : List (Piece A)) (old a b : List A) → Holding d ps old a → Holding d ps old b → a ≡ b
  unfolding In Found
  holding_one ps old a b h g = ext_get_or d a b (h.size ∙ sym g.size) λ k l. at k (find k ps)
    where
      at : (k : ℕ) → Found k ps → get_or a k d ≡ get_or b k d
      at k (inr f) = h.stays k f ∙ sym (g.stays k f)
      at k (inl i) =
          let z : i.0.at + (k - i.0.at) ≡ k = omega (arith, i.2) in
          let m : k - i.0.at < length i.0.words = omega (arith, i.2, i.3) in
          rw z at (h.there i.0 i.1 (k - i.0.at) m ∙ sym (g.there i.0 i.1 (k - i.0.at) m))
