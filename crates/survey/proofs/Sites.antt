-- The places of the regular sections: how they go on, and that on a file that is accepted the regular sections stand there. Assumes nothing.
use Prim.Native.Nat.{ℕ, zero, suc, ◌<◌}
use native.Mathlib.Omega.{arith}
use native.Mathlib.Numerals.{add-one}
use mathlib.Core.Path.{◌≡◌, refl, sym, ◌∙◌, ap, subst}
use mathlib.Core.List.{List, [], ◌∷◌, ◌++◌}
use mathlib.Core.Bool.{Bool, true, false, ◌&&◌, not}
use lib.Dec.{leb, eqb}
use lib.ListN.{length, set}
use lib.Seq.{sets}
use Rattle.sizes.specs.Sizes.{file_bytes, zones}
use Rattle.tokens.specs.Listed.{Tok, left, right, text, cut, word, tokens_of}
use Rattle.layout.specs.declared.Refusal.{Refusal}
use Rattle.layout.specs.Items as Items
use Rattle.layout.specs.Items.{Item}
use Rattle.layout.specs.Grammar.{Section}
use Rattle.layout.specs.Keeps as Keeps
use Rattle.layout.specs.Keeps.{parts_in}
use Rattle.layout.specs.State as St
use Rattle.layout.specs.State.{start, after}
use Rattle.layout.specs.Reading.{Got, got, bad}
use Rattle.layout.specs.Read.{Answer, accepted, refused, tiled_per, onward, behind, end_of, file_of, tokens_answer, answer_of}
use Rattle.layout.proofs.Answers.{Held, held, none, Met, met, unmet, met_if}
use Rattle.layout.proofs.Sums.{Seen, none_seen, one_more}
use Rattle.layout.proofs.SoundSections.{section_holds}
use Rattle.layout.proofs.Behind.{section_less, section_behind}
use Rattle.sofar.specs.declared.State.{State}
use Rattle.spots.specs.declared.Kind.{Kind}
use Rattle.notes.specs.declared.note.Met as Code
use Rattle.notes.specs.Noting.{note_state, note_place}
use Rattle.sections.specs.Sections.{Outline, outline_of, outlined, met_for}
use Rattle.survey.specs.Sites.{sited, sited_by, sites_from, token_sites, sites_of, Stands, AllStand}
use Rattle.sections.proofs.Noting.{is_part}
use Rattle.notes.proofs.Noting.{more_in}
use Rattle.survey.proofs.Based.{Based, based_behind, tokens_based}

-- ---- one section
pub sited_noted : (m : Code.Met) (x : State) (p : ℕ) (l ps : List ℕ) → (is_part (met_for m) ≡ true → x.zones < zones)
    → sets (note_place m x.zones p l) (note_state x m).zones ps ≡ sets l x.zones (sited (met_for m) p ps)
sited_noted (Code.Met.Dim n) x p l ps h = refl
sited_noted (Code.Met.Decl Kind.Node d) x p l ps h = refl
sited_noted (Code.Met.Decl Kind.Cell d) x p l ps h = refl
sited_noted (Code.Met.Decl Kind.Face d) x p l ps h = refl
sited_noted (Code.Met.Part k d) x p l ps h = ap (λ j. sets (set l x.zones p) j ps) (sym (more_in x.zones (h refl)) ∙ add-one x.zones)
sited_noted Code.Met.Other x p l ps h = refl

pub sited_bad : (g : Got Item) (w : Refusal) (o p : ℕ) (f : Item → List Tok → List ℕ) → bad w o ≡ outlined g → sited_by g p f ≡ []
sited_bad (got i us) w o p f e = absurd (let z : ◌≡◌ {A = ℕ} 1 0 = ap tag e in omega arith)
  where
    tag : Got Outline → ℕ
    tag (got a us) = 0
    tag (bad w o) = 1
sited_bad (bad v q) w o p f e = refl

-- ---- the counter is never used up
module _ (size : ℕ) (room : Keeps.Room) where
  same_sites : {P : Item → List Tok → Type 0} {g : Got Item} (p : ℕ) {a b : Item → List Tok → List ℕ}
      → Held P g → ((i : Item) (us : List Tok) → P i us → a i us ≡ b i us) → sited_by g p a ≡ sited_by g p b
  same_sites p (held {a = i} {us} q) h = ap (sited (outline_of i) p) (h i us q)
  same_sites p none h = refl

  pub sites_enough : (n m : ℕ) (before : List Item) (x : St.State) → Seen before x → (ts : List Tok) → length ts < n → length ts < m
      → sites_from size room n x ts ≡ sites_from size room m x ts
  unfolding sites_from
  sites_enough zero m before x s ts l h = absurd (omega arith)
  sites_enough (suc n) zero before x s ts l h = absurd (omega arith)
  sites_enough (suc n) (suc m) before x s [] l h = refl
  sites_enough (suc n) (suc m) before x s (left o ∷ ts) l h =
      same_sites (suc o) (section_holds size before x s room ts) λ i us g.
      let q = section_less g.0 in
      sites_enough n m (before ++ (i ∷ [])) (after x i) (one_more before x s room i g.1) us (omega arith) (omega arith)
  sites_enough (suc n) (suc m) before x s (right o ∷ ts) l h = refl
  sites_enough (suc n) (suc m) before x s (text o ∷ ts) l h = refl
  sites_enough (suc n) (suc m) before x s (cut o ∷ ts) l h = refl
  sites_enough (suc n) (suc m) before x s (word o w ∷ ts) l h = refl

-- ---- where the sections stand
module _ (size : ℕ) (room : Keeps.Room) (s : List ℕ) where
  abbrev Standing : List ℕ → St.State → List Item → Type 0
  Standing ps x is = AllStand s is ps

  end_stands : (x : St.State) (k : ℕ) → Met (Standing []) (end_of size x k)
  unfolding end_of
  end_stands x k =
      met_if (x.nodes.declared && x.faces.declared) (λ _. met_if (not (eqb x.dimension 0)) (λ _. met_if (tiled_per x.nodes && (tiled_per x.cells && tiled_per x.faces)) (λ _. met tt) (λ _. unmet)) (λ _. unmet)) (λ _. unmet)

  more_stands : (i : Item) (p : ℕ) (ps : List ℕ) (is : List Item) → Stands s p i → AllStand s is ps → AllStand s (i ∷ is) (sited (outline_of i) p ps)
  more_stands (Items.dim n) p ps is a b = b
  more_stands (Items.decl k h) p ps is a b = b
  more_stands (Items.part k h b) p ps is a c = (a, c)
  more_stands Items.other p ps is a b = b

  behind_stands : (i : Item) (p : ℕ) (ps : List ℕ) {a : Answer} → Stands s p i → Met (Standing ps) a → Met (Standing (sited (outline_of i) p ps)) (behind i a)
  behind_stands i p ps h (met {x} {all} q) = met (more_stands i p ps all h q)
  behind_stands i p ps h unmet = unmet

  onward_stands : {P : Item → List Tok → Type 0} {g : Got Item} (k p : ℕ) {a : Item → List Tok → Answer} {f : Item → List Tok → List ℕ}
      → Held P g → ((i : Item) (us : List Tok) → P i us → Stands s p i × Met (Standing (f i us)) (a i us))
      → Met (Standing (sited_by g p f)) (onward g k (λ i us. behind i (a i us)))
  onward_stands k p {a} {f} (held {a = i} {us} q) h = let r = h i us q in behind_stands i p (f i us) r.0 r.1
  onward_stands k p none h = unmet

  file_stands : (n : ℕ) (before : List Item) (x : St.State) → Seen before x → (k : ℕ) (ts : List Tok) → Based s ts
      → Met (Standing (sites_from size room n x ts)) (file_of size room n x k ts)
  unfolding file_of sites_from
  file_stands zero before x e k ts b = unmet
  file_stands (suc n) before x e k [] b = end_stands x k
  file_stands (suc n) before x e k (left o ∷ ts) b =
      onward_stands (suc k) (suc o) (section_holds size before x e room ts) λ i us g. (
        record { behind = us; section = subst (λ y. Section y i us) b.0 g.0 },
        file_stands n (before ++ (i ∷ [])) (after x i) (one_more before x e room i g.1) (suc k) us (based_behind s (section_behind g.0) b.1),
      )
  file_stands (suc n) before x e k (right o ∷ ts) b = unmet
  file_stands (suc n) before x e k (text o ∷ ts) b = unmet
  file_stands (suc n) before x e k (cut o ∷ ts) b = unmet
  file_stands (suc n) before x e k (word o w ∷ ts) b = unmet

taken : {P : St.State → List Item → Type 0} {a : Answer} (x : St.State) (is : List Item) → Met P a → a ≡ accepted x is → P x is
taken x is (met {x = y} {all} p) e = let q : all ≡ is = cc in let r : y ≡ x = cc in rw (q, r) at p
taken x is unmet e = absurd (let z : ◌≡◌ {A = ℕ} 0 1 = cc in omega arith)

-- where a file is accepted, its regular sections stand at the places answered
pub sites_stand : (room : Keeps.Room) (s : List ℕ) (x : St.State) (is : List Item) → answer_of room s ≡ accepted x is → AllStand s is (sites_of room s)
unfolding answer_of sites_of
sites_stand room s x is e = taken x is (short (leb (length s) file_bytes)) e
  where
    short : (b : Bool)
        → Met (λ _ js. AllStand s js (elim b [ true ↦ token_sites (length s) room (tokens_of s) | false ↦ [] ])) (elim b [ true ↦ tokens_answer (length s) room (tokens_of s) | false ↦ refused Refusal.TooLong 0 0 ])
    short true = file_stands (length s) room s (suc (length (tokens_of s))) [] start none_seen 0 (tokens_of s) (tokens_based s 0)
    short false = unmet

-- as many as there are regular sections
pub all_stand : (s : List ℕ) (is : List Item) (ps : List ℕ) → AllStand s is ps → length ps ≡ parts_in is
all_stand s [] [] h = refl
all_stand s [] (p ∷ ps) h = absurd h
all_stand s (Items.dim n ∷ is) ps h = all_stand s is ps h
all_stand s (Items.decl k d ∷ is) ps h = all_stand s is ps h
all_stand s (Items.part k d b ∷ is) [] h = absurd h
all_stand s (Items.part k d b ∷ is) (p ∷ ps) h = ap suc (all_stand s is ps h.1)
all_stand s (Items.other ∷ is) ps h = all_stand s is ps h
