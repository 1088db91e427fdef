-- A run of bytes by its bytes: where it ends, and every text parted into a run and what comes behind. Assumes nothing.
use Prim.Native.Nat.{ℕ, suc, ◌+◌, ◌≤◌}
use native.Mathlib.Omega.{arith}
use mathlib.Core.Path.{◌≡◌, refl, sym, ◌∙◌, ap}
use mathlib.Core.List.{List, [], ◌∷◌, ◌++◌}
use mathlib.Core.Bool.{Bool, true, false}
use lib.ListN.{length, drop, length-append, length-drop}
use lib.Seq.{drop-drop, drop-append_seam}
use Rattle.tokens.specs.declared.Run.{Run}
use Rattle.tokens.specs.Tokens.{class_of, goes_on, run_end, run_at}
use Rattle.tokens.specs.Text.{Goes, Stops}

run_exact : (k : Run) (w rest : List ℕ) (i : ℕ) → Goes k w → Stops k rest → run_end k (w ++ rest) i ≡ i + length w
unfolding run_end
run_exact k [] [] i g t = omega arith
run_exact k [] (b ∷ r) i g t = rw (t, run_end) (omega arith)
run_exact k (b ∷ w) rest i g t = rw (g.0, run_end) (let h = run_exact k w rest (suc i) g.1 t in omega arith)

-- what stands in a run, and what comes behind
pub record Part (k : Run) (r : List ℕ) : Type 0 where
  pub run : List ℕ
  pub rest : List ℕ
  pub split : r ≡ run ++ rest
  pub goes : Goes k run
  pub stops : Stops k rest

part_at : (k : Run) (b : ℕ) (r : List ℕ) (t : Bool) → goes_on k (class_of b) ≡ t → Part k r → Part k (b ∷ r)
part_at k b r true e p =
    record { run = b ∷ p.run; rest = p.rest; split = ap (λ l. b ∷ l) p.split; goes = (e, p.goes); stops = p.stops }
part_at k b r false e p = record { run = []; rest = b ∷ r; split = refl; goes = tt; stops = e }

pub part : (k : Run) (r : List ℕ) → Part k r
part k [] = record { run = []; rest = []; split = refl; goes = tt; stops = tt }
part k (b ∷ r) = part_at k b r (goes_on k (class_of b)) refl (part k r)

-- the same by position: w stands at `at`, and then rest
module _ (s : List ℕ) (at : ℕ) (w rest : List ℕ) (e : drop at s ≡ w ++ rest) where
  pub run_at_lem : (k : Run) → Goes k w → Stops k rest → run_at k s at ≡ at + length w
  unfolding run_at
  run_at_lem k g t = rw e (run_exact k w rest at g t)

  pub rest_at : drop (at + length w) s ≡ rest
  rest_at = sym (drop-drop (length w) at s) ∙ (ap (λ l. drop (length w) l) e ∙ drop-append_seam w rest)

  pub length_at : at ≤ length s → at + length w + length rest ≡ length s
  length_at h = omega (arith, length-drop at s, length-append w rest, ap length e)
