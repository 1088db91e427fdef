-- The text of a mesh, laid by its functions. Assumes nothing.
use Prim.Native.Nat.{ℕ}
use mathlib.Core.Path.{◌≡◌}
use mathlib.Core.List.{List, [], ◌∷◌}
use Rattle.layout.specs.Rows.{Lent}
use Rattle.figures.specs.Figures.{figures}
use Rattle.putting.specs.Putting.{Laid}
use Rattle.putting.proofs.Laying.{laid_more}
use Rattle.texts.specs.Write.{records_in}
use Rattle.writer.specs.declared.tables.Totals.{Totals}
use Rattle.writer.specs.inner.Sections.{decl_bytes, parts_bytes, mesh_bytes}

pub put_mesh_is : (t : Totals) (n : ℕ) (h : Lent) (zones : List ℕ) → n ≡ t.dimension
    → {old : List ℕ} {at : ℕ} {a b c e f g : List ℕ} {i j k l x y : ℕ} {new : List ℕ} {r : ℕ}
    → Laid old at (40 ∷ 50 ∷ 32 ∷ []) a i → Laid a i (figures 16 n) b j → Laid b j (41 ∷ 10 ∷ []) c k → Laid c k (decl_bytes 10 t.nodes t.dimension) e l
    → Laid e l (decl_bytes 12 t.cells 0) f x → Laid f x (decl_bytes 13 t.faces 0) g y → Laid g y (parts_bytes t.dimension h (records_in zones)) new r
    → Laid old at (mesh_bytes t h zones) new r
unfolding mesh_bytes
put_mesh_is t n h zones q h₁ h₂ h₃ h₄ h₅ h₆ h₇ =
    laid_more h₁ (laid_more (rw q at h₂) (laid_more h₃ (laid_more h₄ (laid_more h₅ (laid_more h₆ h₇)))))
