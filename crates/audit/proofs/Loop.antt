-- A loop that lays g i, g (i + 1), .. one behind the other: `Lays` is its invariant, over what is left to lay. Assumes nothing.
use Prim.Native.Nat.{ℕ, ◌-◌, ◌+◌, ◌≤◌, ◌<◌}
use native.Mathlib.Omega.{arith}
use mathlib.Core.Path.{◌≡◌, refl, sym, ap, ◌∙◌}
use mathlib.Core.Bool.{Bool, true, false}
use mathlib.Core.List.{List, [], ◌++◌}
use lib.ListN.{length, get_or, length-append}
use Rattle.mesh.specs.Rows.{face_at, cell_at}
use Rattle.faults.specs.All.{face_faults, cell_faults}
use Rattle.records.specs.declared.Fault.{Fault}
use Rattle.records.specs.declared.Pen.{Pen}
use Rattle.records.specs.Record.{narrow}
use Rattle.records.specs.Laid.{Laid, laid, step, run}
use Rattle.records.proofs.Laid.{run_append, run_length}
use Rattle.faults.specs.Over.{each}
use Rattle.mesh.specs.declared.Face.{Face}
use Rattle.mesh.specs.declared.Cell.{Cell}
use Rattle.faults.specs.declared.Frame.{Frame}
use Rattle.faults.specs.Faults.{faults_of_cell, fault_if, any_fault, any_cell_fault}
use Rattle.faults.proofs.Any.{face_empty, cell_empty}
use Rattle.faults.proofs.Over.{each_more, each_none}
use Rattle.audit.specs.declared.Stand.{Stand}
use Rattle.audit.specs.Steps.{Visited, Passed}

pub record Lays (old : List ℕ) (s₀ : Stand) (rest whole : List Fault) (n : ℕ) (list : List ℕ) (s : Stand) : Type 0 where
  pub ran : run narrow (laid list s.pen) rest ≡ run narrow (laid old s₀.pen) whole
  pub counted : s.total + length rest ≡ s₀.total + length whole
  pub few : s.total ≤ s₀.total + n
  pub kept : length list ≡ length old

-- nothing is laid yet
pub begun : {old : List ℕ} {s₀ : Stand} {whole : List Fault} (c : ℕ) → Lays old s₀ whole whole c old s₀
begun c = record { ran = refl; counted = refl; few = omega arith; kept = refl }

-- a range of which a of b numbers are done, and the next is i
pub start : {old : List ℕ} {s₀ : Stand} (g : ℕ → List Fault) (i a b k c : ℕ) → b - a ≡ k
    → Lays old s₀ (each g i (b - a)) (each g i k) c old s₀
start g i a b k c e = rw e (begun c)

visited_length : {old new : List ℕ} {s r : Stand} {fs : List Fault} {n : ℕ} → Visited old s fs n new r → length new ≡ length old
visited_length {old} {new} {s} {r} {fs} v = ap (λ (l : Laid). length l.buf) v.ran ∙ run_length narrow (laid old s.pen) fs

module _ {old : List ℕ} {s₀ : Stand} {whole : List Fault} {c : ℕ} {list : List ℕ} {s : Stand} where
  pub turn : {list' : List ℕ} {s' : Stand} (g : ℕ → List Fault) (i a b d c' : ℕ) → a < b → c + d ≤ c'
      → Lays old s₀ (each g i (b - a)) whole c list s → Visited list s (g i) d list' s'
      → Lays old s₀ (each g (i + 1) (b - (a + 1))) whole c' list' s'
  turn g i a b d c' h more l v = record {
    ran =
        rw v.ran (sym (run_append narrow (laid list s.pen) (g i) (each g (i + 1) (b - (a + 1)))) ∙ ap (run narrow (laid list s.pen)) (sym (each_more g i a b h)) ∙ l.ran);
    counted =
        let e = ap length (each_more g i a b h) ∙ length-append (g i) (each g (i + 1) (b - (a + 1))) in
        omega (arith, e, v.counted, l.counted);
    few = omega (arith, v.counted, v.few, l.few);
    kept = visited_length v ∙ l.kept;
  }

  -- what is left begins with nothing to lay
  pub skip : {rest more : List Fault} → rest ≡ more → Lays old s₀ rest whole c list s → Lays old s₀ more whole c list s
  skip e l = rw (← e) l

  pub ended : {rest : List Fault} (c' : ℕ) → rest ≡ [] → c ≤ c' → Lays old s₀ rest whole c list s → Visited old s₀ whole c' list s
  unfolding run
  ended c' e more l =
      let k : s.total ≡ s₀.total + length whole = omega (arith, ap length e, l.counted) in
      record { ran = rw e at l.ran; counted = k; few = omega (arith, k, l.few) }

  pub done : (g : ℕ → List Fault) (i a b c' : ℕ) → b ≤ a → c ≤ c' → Lays old s₀ (each g i (b - a)) whole c list s → Visited old s₀ whole c' list s
  done g i a b c' h more l = ended c' (each_none g i a b h) more l

-- one fault that is there, or is not
module _ (b : Bool) (f : Fault) (old : List ℕ) (s : Stand) where
  pub visited_one : (new : List ℕ) (pen : Pen) → b ≡ true → laid new pen ≡ step narrow (laid old s.pen) f
      → Visited old s (fault_if b f) 1 new (record { pen = pen; total = s.total + 1 })
  unfolding run
  visited_one new pen h e = rw h (record { ran = e; counted = refl; few = omega arith })

  pub visited_none : b ≡ false → Visited old s (fault_if b f) 1 old s
  unfolding run
  visited_none h = rw h (record { ran = refl; counted = omega arith; few = omega arith })

-- a row without any fault adds nothing to the list: what is left to lay is what the rows behind it have
quiet_more : (g : ℕ → List Fault) (i n : ℕ) → i < n → g (i + 1) ≡ [] → each g (i + 1) (n - i) ≡ each g (i + 1 + 1) (n - (i + 1))
quiet_more g i n h e = each_more g (i + 1) i n h ∙ ap (λ (l : List Fault). l ++ each g (i + 1 + 1) (n - (i + 1))) e

-- no row was passed yet
pub passed_none : (g : ℕ → List Fault) (n : ℕ) → Passed g n 0
passed_none g n = let z : n - 0 ≡ n = omega arith in record { within = omega arith; quiet = rw z }

pub face_quiet : (n : ℕ) (frame : Frame) (rows : List ℕ) (f faces : ℕ) (face : Face) → f < faces → face ≡ face_at n rows f → any_fault n frame face ≡ false
    → each (face_faults n frame rows) (f + 1) (faces - f) ≡ each (face_faults n frame rows) (f + 1 + 1) (faces - (f + 1))
face_quiet n frame rows f faces face h e none =
    let z : f + 1 - 1 ≡ f = omega arith in
    quiet_more (face_faults n frame rows) f faces h (rw (z, ← e) (face_empty n frame (f + 1) face none))

pub cell_quiet : (frame : Frame) (rows counts : List ℕ) (c cells : ℕ) (cell : Cell) → c < cells → cell ≡ cell_at rows c → any_cell_fault frame.dim cell (get_or counts c 0) ≡ false
    → each (cell_faults frame rows (λ i. get_or counts (i - 1) 0)) (c + 1) (cells - c) ≡ each (cell_faults frame rows (λ i. get_or counts (i - 1) 0)) (c + 1 + 1) (cells - (c + 1))
cell_quiet frame rows counts c cells cell h e none =
    let z : c + 1 - 1 ≡ c = omega arith in
    quiet_more (cell_faults frame rows (λ i. get_or counts (i - 1) 0)) c cells h (rw (z, ← e) (cell_empty frame (c + 1) cell (get_or counts c 0) none))

-- the count of the cell of number c + 1 is the one at c
pub cell_visited : (frame : Frame) (rows counts : List ℕ) (c : ℕ) {old new : List ℕ} {s r : Stand} {d : ℕ}
    → Visited old s (faults_of_cell frame (c + 1) (cell_at rows c) (get_or counts c 0)) d new r
    → Visited old s (cell_faults frame rows (λ i. get_or counts (i - 1) 0) (c + 1)) d new r
cell_visited frame rows counts c v = let z : c + 1 - 1 ≡ c = omega arith in rw z v
