-- A section by its id. Assumes nothing.
use Rattle.std.specs.Prelude.{Option, Some, None, Result, Ok, Err}
use Prim.Native.Nat.{ℕ}
use mathlib.Core.Path.{◌≡◌, refl, sym, ◌∙◌, ap}
use Rattle.spots.specs.declared.Kind.{Kind}
use Rattle.spots.specs.Heads.{kind_for}
use Rattle.sofar.specs.Sofar.{kind_for_id}
use mathlib.Core.List.{List}
use mathlib.Core.Bool.{Bool, true, false, ◌||◌}
use borrow.Author.Tests.{eq-eqb, ne_eqb}
use lib.Dec.{ltb, eqb}
use lib.ListN.{length}
use Rattle.tokens.specs.Listed.{Tok, tokens_from}
use Rattle.layout.specs.declared.Refusal.{Refusal}
use Rattle.layout.specs.Items as Items
use Rattle.layout.specs.Keeps as Keeps
use Rattle.layout.specs.State as St
use Rattle.layout.specs.Reading.{Reader, check, choose, id_word}
use Rattle.layout.specs.Sections.{two_of, kind_of, other_of, section_of}
use Rattle.spots.specs.declared.Bad.{Bad}
use Rattle.spots.specs.declared.Read.{Read}
use Rattle.facts.specs.declared.Taken.{Taken}
use Rattle.notes.specs.declared.note.Met.{Met}
use Rattle.steps.specs.Views.{NumAt}
use Rattle.sections.specs.Sections.{outlined, SectAt, by_id}
use Rattle.sections.proofs.Sections.{read_no, read_to}

module _ (size : ℕ) (room : Keeps.Room) (id : ℕ) (x : St.State) (ts : List Tok) where
  -- the reader of the kind that the id names
  kind_by : (a b c : Bool) (k : Kind)
      → ◌≡◌ {A = Option Kind} (Some k) (elim a [ true ↦ Some Kind.Node | false ↦ elim b [ true ↦ Some Kind.Cell | false ↦ elim c [ true ↦ Some Kind.Face | false ↦ None ] ] ])
      → kind_of size room (kind_for k) x ts ≡ choose a (kind_of size room Items.node x) (choose b (kind_of size room Items.cell x) (choose c (kind_of size room Items.face x) (other_of size room))) ts
  kind_by true b c k e = let z : k ≡ Kind.Node = cc in ap (λ j. kind_of size room (kind_for j) x ts) z
  kind_by false true c k e = let z : k ≡ Kind.Cell = cc in ap (λ j. kind_of size room (kind_for j) x ts) z
  kind_by false false true k e = let z : k ≡ Kind.Face = cc in ap (λ j. kind_of size room (kind_for j) x ts) z
  kind_by false false false k e = absurd (cc)

  none_by : (a b c : Bool)
      → ◌≡◌ {A = Option Kind} None (elim a [ true ↦ Some Kind.Node | false ↦ elim b [ true ↦ Some Kind.Cell | false ↦ elim c [ true ↦ Some Kind.Face | false ↦ None ] ] ])
      → other_of size room ts ≡ choose a (kind_of size room Items.node x) (choose b (kind_of size room Items.cell x) (choose c (kind_of size room Items.face x) (other_of size room))) ts
  none_by true b c e = absurd (cc)
  none_by false true c e = absurd (cc)
  none_by false false true e = absurd (cc)
  none_by false false false e = refl

  abbrev not_two : Reader Items.Item
  not_two = choose (eqb id 10) (kind_of size room Items.node x) (choose (eqb id 12) (kind_of size room Items.cell x) (choose (eqb id 13) (kind_of size room Items.face x) (other_of size room)))

  pub id_two : id ≡ 2 → outlined (two_of size x ts) ≡ outlined (by_id size room id x ts)
  id_two e = ap (λ b. outlined (choose b (two_of size x) not_two ts)) (sym (eq-eqb id 2 e))

  module _ (a : id ≡ 2 → ⊥) {o : Option Kind} (q : o ≡ kind_for_id id) where
    behind : outlined (not_two ts) ≡ outlined (by_id size room id x ts)
    behind = ap (λ b. outlined (choose b (two_of size x) not_two ts)) (sym (ne_eqb id 2 a))

    pub id_kind : (k : Kind) → o ≡ Some k → outlined (kind_of size room (kind_for k) x ts) ≡ outlined (by_id size room id x ts)
    id_kind k e = ap outlined (kind_by (eqb id 10) (eqb id 12) (eqb id 13) k (sym e ∙ q)) ∙ behind

    pub id_other : o ≡ None → outlined (other_of size room ts) ≡ outlined (by_id size room id x ts)
    id_other e = ap outlined (none_by (eqb id 10) (eqb id 12) (eqb id 13) (sym e ∙ q)) ∙ behind

-- ---- a section from its id on
module _ (s : List ℕ) (at : ℕ) (room : Keeps.Room) (x : St.State) {r : Result (Taken Read) Bad} (q : NumAt s at r (id_word (length s) (tokens_from s at))) where
  pub section_no : (b : Bad) → r ≡ Err b → SectAt s at (Err b) (outlined (section_of (length s) room x (tokens_from s at)))
  unfolding section_of
  section_no b e = read_no s at _ q b e

  module _ (t : Taken Read) (e : r ≡ Ok t) (b : Bool) (z : b ≡ (ltb t.value.value 2000 || ltb 3999 t.value.value)) where
    pub section_to : b ≡ true → {y : Result (Taken Met) Bad} → SectAt s t.next y (outlined (by_id (length s) room t.value.value x (tokens_from s t.next)))
        → SectAt s at y (outlined (section_of (length s) room x (tokens_from s at)))
    unfolding section_of
    section_to w k =
        read_to s at _ q t e
        (record { says = k.says ∙ ap (λ b. outlined (check b Refusal.Binary t.value.at (by_id (length s) room t.value.value x) (tokens_from s t.next))) (sym w ∙ z); ahead = k.ahead })

    pub section_binary : b ≡ false → SectAt s at (Err (record { why = Refusal.Binary; offset = t.value.at })) (outlined (section_of (length s) room x (tokens_from s at)))
    unfolding section_of
    section_binary w =
        read_to s at _ q t e
        (record { says = ap (λ b. outlined (check b Refusal.Binary t.value.at (by_id (length s) room t.value.value x) (tokens_from s t.next))) (sym w ∙ z); ahead = tt })
