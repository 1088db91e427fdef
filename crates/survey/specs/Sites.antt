-- Where the regular sections of a file stand, as far as it is read: up to its end or its refusal. Assumes nothing.
use Rattle.std.specs.Prelude.{ℕ, zero, suc, List, [], ◌∷◌, true, false, leb, length, replicate}
use Rattle.std.proofs.lemmas.List.Edits.{sets}
use Rattle.sizes.specs.Sizes.{file_bytes, zones}
use Rattle.tokens.specs.Listed.{Tok, left, right, text, cut, word, tokens_from, tokens_of}
use Rattle.layout.specs.Items as Items
use Rattle.layout.specs.Items.{Item}
use Rattle.layout.specs.Grammar.{Section}
use Rattle.layout.specs.Keeps.{Room}
use Rattle.layout.specs.State.{State, start, after}
use Rattle.layout.specs.Reading.{Got, got, bad}
use Rattle.layout.specs.Sections.{section_of}
use Rattle.sections.specs.Sections.{Outline, dim, decl, part, other, outline_of}

-- a section whose `(` is before the place p, and then the places ps
abbrev pub sited : Outline → ℕ → List ℕ → List ℕ
sited (dim n) p ps = ps
sited (decl k h) p ps = ps
sited (part k h) p ps = p ∷ ps
sited other p ps = ps

abbrev pub sited_by : Got Item → ℕ → (Item → List Tok → List ℕ) → List ℕ
sited_by (got i us) p f = sited (outline_of i) p (f i us)
sited_by (bad w o) p f = []

module _ (size : ℕ) (room : Room) where
  -- at most n sections, as in `file_of`: the place behind the `(` of each regular one
  unfoldable pub sites_from : ℕ → State → List Tok → List ℕ
  sites_from zero x ts = []
  sites_from (suc n) x [] = []
  sites_from (suc n) x (left o ∷ ts) = sited_by (section_of size room x ts) (suc o) (λ i us. sites_from n (after x i) us)
  sites_from (suc n) x (right o ∷ ts) = []
  sites_from (suc n) x (text o ∷ ts) = []
  sites_from (suc n) x (cut o ∷ ts) = []
  sites_from (suc n) x (word o w ∷ ts) = []

abbrev pub token_sites : ℕ → Room → List Tok → List ℕ
token_sites size room ts = sites_from size room (suc (length ts)) start ts

-- of a file that is too long nothing is read
unfoldable pub sites_of : Room → List ℕ → List ℕ
sites_of room s = elim (leb (length s) file_bytes) [ true ↦ token_sites (length s) room (tokens_of s) | false ↦ [] ]

-- one word for each of the sections that a file may have, 0 behind the last
abbrev pub places_of : Room → List ℕ → List ℕ
places_of room s = sets (replicate zones 0) 0 (sites_of room s)

-- ---- what they are, on a file of these items
-- the item stands at the place, which is behind its `(`
pub record Stands (s : List ℕ) (p : ℕ) (i : Item) : Type 0 where
  pub behind : List Tok
  pub section : Section (tokens_from s p) i behind

-- the regular ones among the items stand at these places, in order
abbrev pub AllStand : List ℕ → List Item → List ℕ → Type 0
AllStand s [] [] = Unit
AllStand s [] (p ∷ ps) = ⊥
AllStand s (Items.dim n ∷ is) ps = AllStand s is ps
AllStand s (Items.decl k h ∷ is) ps = AllStand s is ps
AllStand s (Items.part k h b ∷ is) [] = ⊥
AllStand s (Items.part k h b ∷ is) (p ∷ ps) = Stands s p (Items.part k h b) × AllStand s is ps
AllStand s (Items.other ∷ is) ps = AllStand s is ps
