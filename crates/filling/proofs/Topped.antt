-- Headers as zone records. Assumes nothing.
use Rattle.std.specs.Prelude.{◌≡◌, ℕ, List, Result, Ok, Err}
use mathlib.Core.Path.{sym, ◌∙◌, ap}
use Rattle.mesh.specs.declared.Zone.{Zone}
use Rattle.facts.specs.declared.Taken.{Taken}
use Rattle.layout.specs.Rows.{zone_of}
use Rattle.layout.specs.Reading.{Got}
use Rattle.layout.specs.Sections as S
use Rattle.layout.specs.Sections.{header_of}
use Rattle.spots.specs.declared.Bad.{Bad}
use Rattle.spots.specs.declared.Kind.{Kind}
use Rattle.spots.specs.declared.Head.{Head}
use Rattle.heads.specs.Heads.{head_view, HeadAt}
use Rattle.spots.specs.Heads.{kind_for, head_for}
use Rattle.again.specs.Again.{Steps}
use Rattle.again.proofs.Then.{steps_got, steps_bad}

module _ (s : List ℕ) (at : ℕ) {g : Got S.Head} {r : Result (Taken Head) Bad} (h : HeadAt s at r g) (k : Kind) (z : Zone) where
  abbrev Says : S.Head → Type 0
  Says x = z ≡ zone_of (kind_for k) (header_of x)

  pub top_no : (b : Bad) → r ≡ Err b → Steps s at g Says
  top_no b q = steps_bad s Says at b.why b.offset (ap (head_view s) (sym q) ∙ h.says)

  pub top_read : (t : Taken Head) → r ≡ Ok t → z ≡ zone_of (kind_for k) (header_of (head_for t.value)) → Steps s t.next g Says
  top_read t q e = steps_got s Says (head_for t.value) t.next (ap (head_view s) (sym q) ∙ h.says) e
