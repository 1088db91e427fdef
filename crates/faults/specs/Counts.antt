-- How the sides that name each cell are counted. No definition that a reader of the audit needs. Assumes nothing.
use Rattle.std.specs.Prelude.{ℕ, ◌+◌, ◌-◌, ◌<◌, ◌≡◌, List, true, false, eqb, ltb, length, drop, get_or, set}
use Rattle.mesh.specs.Rows.{face_at}
use Rattle.faults.specs.Over.{sum_over}
use Rattle.faults.specs.Sides.{sides_naming, count_over}

-- one more for the cell x, where x is 1 to n
unfoldable pub bump : ℕ → ℕ → List ℕ → List ℕ
bump n x l = elim (eqb x 0) [ true ↦ l | false ↦ elim (ltb n x) [ true ↦ l | false ↦ set l (x - 1) (get_or l (x - 1) 0 + 1) ] ]

-- the counts of the cells while faces are gone through, behind the first f of them; the counts behind the cells are as at first
module _ (n : ℕ) (rows : List ℕ) (faces cells : ℕ) where
  -- what the other faces still add to a count
  abbrev pub left : ℕ → ℕ → ℕ
  left f i = sum_over (λ g. sides_naming (face_at n rows (g - 1)) (i + 1)) (f + 1) (faces - f)

  pub record Tallying (first : List ℕ) (f : ℕ) (counts : List ℕ) : Type 0 where
    pub sums : (i : ℕ) → i < cells → get_or counts i 0 + left f i ≡ count_over n rows faces (i + 1)
    pub rest : drop cells counts ≡ drop cells first
    pub kept : length counts ≡ length first
