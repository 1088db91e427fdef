-- The regular sections of a kind, latest first: out of one list of sections, or out of three lists side by side. Assumes nothing.
use Rattle.std.specs.Prelude.{ℕ, zero, suc, List, [], ◌∷◌, Bool, true, false, not, ◌&&◌, ◌||◌, ltb, leb, eqb, get_or, take, Option, Some, None}
use Rattle.layout.specs.State.{Span}
use Rattle.kept.specs.declared.Kept.{Kept}
use Rattle.kept.specs.declared.Lists.{Lists}

abbrev pub span_for : Kept → Span
span_for k = record { first = k.first; last = k.last }

-- a section is put on top, if it is of the kind asked for
abbrev pub on_top : ℕ → Kept → List Span → List Span
on_top id k bs = elim (eqb k.id id) [ true ↦ span_for k ∷ bs | false ↦ bs ]

-- of another kind, or sharing no index from f to l
abbrev pub apart : ℕ → ℕ → ℕ → Kept → Bool
apart id f l k = not (eqb k.id id) || (ltb k.last f || ltb l k.first)

-- of the kind asked for, with i in it
abbrev pub holds : ℕ → ℕ → Kept → Bool
holds id i k = eqb k.id id && leb k.first i && leb i k.last

-- ---- one list
unfoldable pub stacked : ℕ → List Kept → List Span → List Span
stacked id [] bs = bs
stacked id (k ∷ ks) bs = stacked id ks (on_top id k bs)

-- out of the first z
abbrev pub kept_of : List Kept → ℕ → ℕ → List Span
kept_of ks id z = stacked id (take z ks) []

-- ---- three lists
pub record Listed : Type 0 where
  pub ids : List ℕ
  pub firsts : List ℕ
  pub lasts : List ℕ

abbrev pub listed : Lists → Listed
listed l = record { ids = l.ids.now; firsts = l.firsts.now; lasts = l.lasts.now }

module _ (l : Listed) where
  abbrev pub kept_at : ℕ → Kept
  kept_at i = record { id = get_or l.ids i 0; first = get_or l.firsts i 0; last = get_or l.lasts i 0 }

  -- out of the first z
  unfoldable pub kept_by_lists : ℕ → ℕ → List Span
  kept_by_lists id zero = []
  kept_by_lists id (suc z) = on_top id (kept_at z) (kept_by_lists id z)

  unfoldable pub holder_of : ℕ → ℕ → ℕ → Option Kept
  holder_of id i zero = None
  holder_of id i (suc z) = elim (holds id i (kept_at z)) [ true ↦ Some (kept_at z) | false ↦ holder_of id i z ]
