-- The three demands in the user's words, over the contracts of the public calls; proofs/Demands shows them of every call that meets its contract.
-- `Not` names a wrong program that the line shuts out, and the must-fail edit (crate/name) that shows the prover refusing it. To be believed: all of this file. Assumes nothing.
use Rattle.layout.specs.Replies.{refuses}
use Rattle.std.specs.Prelude.{ℕ, ◌-◌, ◌≤◌, ◌<◌, ◌≡◌, ◌⊎◌, ◌↔◌, length, take, drop, get_or, Err}
use mathlib.Core.List.{List, ◌++◌, Memᴰ}
use contract.Lifetimes.{Lfts}
use denote.Triple.Entry.{Args, Res}
use denote.Triple.Clauses.{AtExit}
use Rattle.sizes.specs.Sizes.{rows}
use Rattle.mesh.specs.Rows.{places, face_words, cell_words, rows_in}
use Rattle.layout.specs.declared.Refusal as File
use Rattle.layout.specs.Items.{Item}
use Rattle.layout.specs.Rows.{Lent, room_of}
use Rattle.layout.specs.Replies.{shown, Points}
use Rattle.layout.specs.Says.{LaidText, Mesh, Says}
use Rattle.layout.specs.Read.{read_of}
use Rattle.layout.proofs.Exactly.{accepted_as}
use Rattle.records.specs.declared.Fault.{Fault}
use Rattle.records.specs.Record.{narrow, record_of, read_back}
use Rattle.records.specs.Laid.{Longest}
use Rattle.faults.specs.Sides.{Tables, count_of}
use Rattle.faults.specs.Wrong.{Wrong}
use Rattle.faults.specs.Order.{Before}
use Rattle.audit.specs.declared.Refusal.{Refusal}
use Rattle.audit.specs.Audit.{tables, number_of, values_of, Out, out}
use Rattle.reader.proofs.Only.{takes, leaves, Post}
use Rattle.reader.specs.contracts.read as read
use Rattle.audit.specs.contracts.audit as audit
use Rattle.audit.proofs.audit.Reads as audits

-- ---- the calls: arguments a, answer r, and x, what is lent as it is at exit
-- `reader::read` takes the file, `a.0`, and is lent `takes κ a`; it leaves `leaves κ x`. `Post` is its contract (`post_is`)
-- `audit::audit` takes the tables `given κ a`, and is lent counts and list; `audits.Post` is its contract
abbrev pub given : (κ : Lfts 4) → Args audit.signature κ → Tables
given κ a = tables a.0 a.1.0 a.1.1.0 a.1.1.1.0 a.1.1.1.1.0.now a.1.1.1.1.1.0.now

abbrev pub counts : (κ : Lfts 4) → Args audit.signature κ → List ℕ
counts κ a = a.1.1.1.1.1.1.0.now

abbrev pub list : (κ : Lfts 4) → Args audit.signature κ → List ℕ
list κ a = a.1.1.1.1.1.1.1.0.now

-- its answer with the paper's number and values, and counts and list as it leaves them
abbrev pub left : (κ : Lfts 4) → Res audit.signature κ → AtExit audit.ended κ → Out
left κ r x = out (values_of r) x.1.1.1.1.1.1.0.now x.1.1.1.1.1.1.1.0.now

-- ---- 1. "Every file and every table gets an answer. Each refusal carries its number, and for a file the section and byte where it broke.
-- A refused call leaves the lent tables and lists as they were." Nothing is asked of a file or a table (proofs/Asks), and the prover shows that each call returns.
-- The other calls that read, `reader::read_flat`, `survey::survey` and `survey::locate`, are in proofs/Others.
pub record FileAnswered (κ : Lfts 6) (a : Args read.signature κ) (r : Res read.signature κ) (x : AtExit read.ended κ) : Type 0 where
  -- no second answer and no second content. Not: a contract that two answers meet (numbers/any_place_would_do)
  pub only : (r' : Res read.signature κ) (x' : AtExit read.ended κ) → Post κ a r' x' → (r ≡ r') × (leaves κ x ≡ leaves κ x')
  -- number, section and byte as layout/specs/Read defines them. Not: another number (endings/missing_declaration_called_untiled), another section (survey/sections_counted_from_one)
  pub told : shown r ≡ shown (read_of a.0.now (takes κ a)).reply
  -- a number from 1 to 14, a section that the file has begun, a byte of the file or its end
  pub points : (w : File.Refusal) (k o : ℕ) → r ≡ refuses w k o → Points a.0.now w k o
  -- Not: a refusal that writes (filling/refusal_that_writes, layout/refusal_empties_a_table)
  pub untouched : (w : File.Refusal) (k o : ℕ) → r ≡ refuses w k o → leaves κ x ≡ takes κ a

pub record TableAnswered (κ : Lfts 4) (a : Args audit.signature κ) (r : Res audit.signature κ) (x : AtExit audit.ended κ) : Type 0 where
  pub only : (r' : Res audit.signature κ) (x' : AtExit audit.ended κ) → audits.Post κ a r' x' → (r ≡ r') × (left κ r x ≡ left κ r' x')
  -- Not: another number (audit/refusals_in_another_order)
  pub numbered : (w : Refusal) → r ≡ Err w → (15 ≤ number_of w) × (number_of w ≤ 17)
  pub untouched : (w : Refusal) → r ≡ Err w → ((left κ r x).counts ≡ counts κ a) × ((left κ r x).list ≡ list κ a)

-- ---- 2. "A file is accepted exactly when it keeps the layout and the lent tables and zone list have room. Then every row and record holds what the text says"
pub record Fits (s : List ℕ) (lent : Lent) : Type 0 where
  pub items : List Item
  pub laid : LaidText (room_of lent) s items

pub record FileRead (κ : Lfts 6) (a : Args read.signature κ) (r : Res read.signature κ) (x : AtExit read.ended κ) : Type 0 where
  -- 0 is Accepted. Not: refusing all files (survey/all_files_refused), one fixed answer (endings/one_fixed_answer)
  pub accepted : ((shown r).number ≡ 0) ↔ Fits a.0.now (takes κ a)
  -- Not: accepting without filling rows (filling/accepting_without_filling, filling/nodes_never_written), other numbers than the text's (rows/cell_number_clamped)
  pub holds : (m : Mesh) → (record { reply = r; held = leaves κ x } ≡ accepted_as m) ↔ Says a.0.now (takes κ a) m
  -- what is held is the one mesh that the text says
  pub one : (m n : Mesh) → record { reply = r; held = leaves κ x } ≡ accepted_as m → Says a.0.now (takes κ a) n → m ≡ n

-- ---- 3. "For any tables within the limits, good or bad": what refusals 15, 16 and 17 ask
pub record Limits (t : Tables) (counts : List ℕ) : Type 0 where
  pub dimension : (t.dim ≡ 2) ⊎ (t.dim ≡ 3)
  pub totals : (t.nodes ≤ rows) × ((t.faces ≤ rows) × (t.cells ≤ rows))
  pub lent : (t.faces ≤ rows_in (face_words places) t.face_rows) × (t.cells ≤ rows_in cell_words t.cell_rows)
  pub room : t.cells ≤ length counts

-- "the audit lists every fault of the nine kinds, each once, in the stated order, nothing else."
pub record Lists (t : Tables) (counts list : List ℕ) (o : Out) : Type 0 where
  pub faults : List Fault
  -- Not: the first face alone (audit/first_face_only, faults/first_face_listed_alone), a kind left out (faults/kind_7_never_listed)
  pub every : (f : Fault) → Memᴰ f faults ↔ Wrong places t f
  pub once : (z : Fault) (i j : ℕ) → i < j → j < length faults → get_or faults i z ≡ get_or faults j z → ⊥
  pub order : (z : Fault) (i j : ℕ) → i < j → j < length faults → Before (get_or faults i z) (get_or faults j z)
  -- "shown is the longest run of whole records from the start that fits." Not: half a record (records/record_written_half), a shorter one later (records/shorter_record_laid_later)
  pub longest : Longest narrow (length list) faults (take o.answer.bytes o.list)
  pub behind : drop o.answer.bytes o.list ≡ drop o.answer.bytes list
  pub readable : (f : Fault) → Memᴰ f faults → (rest : List ℕ) → read_back narrow (record_of narrow f ++ rest) ≡ f
  -- "The total is the number of such faults even where the list has room for fewer". Not: a total made up (audit/total_made_up), or what was written (audit/total_equal_to_what_was_written)
  pub total : o.answer.total ≡ length faults
  -- "A cell's count is the number of face sides that name it." Not: a cell above the last clamped (faults/cell_above_the_last_clamped)
  pub count : (c : ℕ) → 1 ≤ c → c ≤ t.cells → get_or o.counts (c - 1) 0 ≡ count_of places t c
  pub later : drop t.cells o.counts ≡ drop t.cells counts

pub record TableAudited (κ : Lfts 4) (a : Args audit.signature κ) (r : Res audit.signature κ) (x : AtExit audit.ended κ) : Type 0 where
  -- those within the limits are accepted, with number 0, and no others
  pub accepted : ((values_of r).number ≡ 0) ↔ Limits (given κ a) (counts κ a)
  pub lists : Limits (given κ a) (counts κ a) → Lists (given κ a) (counts κ a) (list κ a) (left κ r x)
