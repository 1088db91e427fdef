-- What is accepted as a whole file is laid out: each section fits with those before it, and nothing declared is missing. Assumes nothing.
use Prim.Native.Nat.{ℕ, zero, suc}
use native.Mathlib.Omega.{arith}
use mathlib.Core.Path.{◌≡◌, refl}
use mathlib.Core.List.{List, [], ◌∷◌, ◌++◌, append-nil, append_assoc}
use mathlib.Core.Bool.{true, ◌&&◌, not}
use lib.Dec.{eqb}
use Rattle.facts.proofs.Decides.{ne_is, and_split}
use Rattle.tokens.specs.Listed.{Tok, left, right, text, cut, word}
use Rattle.layout.specs.Items.{Kind, node, cell, face, Item}
use Rattle.layout.specs.Grammar.{Section, File, over, section}
use Rattle.layout.specs.Keeps.{Room, Fits, Whole, Laid}
use Rattle.layout.specs.Reading.{Got}
use Rattle.layout.specs.State.{State, start, after}
use Rattle.layout.specs.Read.{Answer, accepted, tiled_per, onward, behind, end_of, file_of, tokens_answer}
use Rattle.layout.proofs.Answers.{Held, held, none, Met, met, unmet, met_if}
use Rattle.layout.proofs.Dims.{dim_known_lem}
use Rattle.layout.proofs.Sums.{Seen, none_seen, one_more, declared_is}
use Rattle.layout.proofs.Tiling.{Tiled, tiled_true}
use Rattle.layout.proofs.Each.{Each, each_parted}
use Rattle.layout.proofs.SoundSections.{section_holds}

module _ (size : ℕ) (room : Room) where
  -- what is left of the file, behind the sections before
  record Rest (before : List Item) (ts : List Tok) (is : List Item) : Type 0 where
    pub file : File ts is
    pub each : Each room before is
    pub whole : Whole (before ++ is)

  whole_of : (is : List Item) (x : State) → Seen is x → (x.nodes.declared && x.faces.declared) ≡ true → not (eqb x.dimension 0) ≡ true
      → (tiled_per x.nodes && (tiled_per x.cells && tiled_per x.faces)) ≡ true → Whole is
  whole_of is x s d n t =
      let a = and_split x.nodes.declared x.faces.declared d in
      let b = and_split (tiled_per x.nodes) _ t in
      let c = and_split (tiled_per x.cells) _ b.1 in
      record {
        nodes = x.nodes.total;
        faces = x.faces.total;
        dimension = x.dimension;
        nodes_declared = declared_is is node x.nodes (s.kinds node) a.0;
        faces_declared = declared_is is face x.faces (s.kinds face) a.1;
        known = dim_known_lem s.dims x.dimension ((ne_is x.dimension 0).0 n) refl;
        tiled = λ k t d i l m. tiles b.0 c.0 c.1 k t d i l (omega arith);
      }
    where
      tiles : tiled_per x.nodes ≡ true → tiled_per x.cells ≡ true → tiled_per x.faces ≡ true → (k : Kind) → Tiled is k
      tiles p q r node = tiled_true is node x.nodes (s.kinds node) p
      tiles p q r cell = tiled_true is cell x.cells (s.kinds cell) q
      tiles p q r face = tiled_true is face x.faces (s.kinds face) r

  end_holds : (before : List Item) (x : State) (s : Seen before x) (k : ℕ) → Met (λ _. Rest before []) (end_of size x k)
  unfolding end_of
  end_holds before x s k =
      met_if _ (λ d. met_if _ (λ n. met_if _ (λ t. met (all_read d n t)) (λ _. unmet)) (λ _. unmet)) (λ _. unmet)
    where
      all_read : (x.nodes.declared && x.faces.declared) ≡ true → not (eqb x.dimension 0) ≡ true
          → (tiled_per x.nodes && (tiled_per x.cells && tiled_per x.faces)) ≡ true → Rest before [] []
      all_read d n t = record { file = over; each = tt; whole = rw (append-nil before) (whole_of before x s d n t) }

  behind_holds : {P Q : State → List Item → Type 0} (i : Item) {a : Answer} → Met P a → ((x : State) (is : List Item) → P x is → Q x (i ∷ is))
      → Met Q (behind i a)
  behind_holds i (met {x} {all} p) f = met (f x all p)
  behind_holds i unmet f = unmet

  onward_holds : {P : Item → List Tok → Type 0} {Q : State → List Item → Type 0} {g : Got Item} (k : ℕ) {f : Item → List Tok → Answer}
      → Held P g → ((i : Item) (us : List Tok) → P i us → Met Q (f i us)) → Met Q (onward g k f)
  onward_holds k (held {a} {us} p) h = h a us p
  onward_holds k none h = unmet

  file_more : (before : List Item) (o : ℕ) (ts us : List Tok) (i : Item) (is : List Item)
      → Section ts i us × Fits room before i → Rest (before ++ (i ∷ [])) us is → Rest before (left o ∷ ts) (i ∷ is)
  file_more before o ts us i is g r =
      record { file = section g.0 r.file; each = (g.1, r.each); whole = rw (append_assoc before (i ∷ []) is) at r.whole }

  file_holds : (n : ℕ) (before : List Item) (x : State) → Seen before x → (k : ℕ) (ts : List Tok) → Met (λ _. Rest before ts) (file_of size room n x k ts)
  unfolding file_of
  file_holds zero before x s k ts = unmet
  file_holds (suc n) before x s k [] = end_holds before x s k
  file_holds (suc n) before x s k (left o ∷ ts) =
      onward_holds (suc k) (section_holds size before x s room ts) λ i us g.
      behind_holds i (file_holds n (before ++ (i ∷ [])) (after x i) (one_more before x s room i g.1) (suc k) us) λ y is r. file_more before o ts us i is g r
  file_holds (suc n) before x s k (right o ∷ ts) = unmet
  file_holds (suc n) before x s k (text o ∷ ts) = unmet
  file_holds (suc n) before x s k (cut o ∷ ts) = unmet
  file_holds (suc n) before x s k (word o w ∷ ts) = unmet

  taken : {P : State → List Item → Type 0} {a : Answer} (x : State) (is : List Item) → Met P a → a ≡ accepted x is → P x is
  taken x is (met {x = y} {all} p) e = let q : all ≡ is = cc in let r : y ≡ x = cc in rw (q, r) at p
  taken x is unmet e = absurd (let z : ◌≡◌ {A = ℕ} 0 1 = cc in omega arith)

  pub sound : (ts : List Tok) (x : State) (is : List Item) → tokens_answer size room ts ≡ accepted x is → Laid room ts is
  sound ts x is e =
      let r = taken x is (file_holds _ [] start none_seen 0 ts) e in
      record { file = r.file; fits = each_parted room [] is r.each; whole = r.whole }
