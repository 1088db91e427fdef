-- The calls for other languages: the same answers, with every number a word of a slice. To be believed: all of this file. Assumes nothing.
use Rattle.std.specs.Prelude.{ℕ, ◌/◌, List, length, take, replicate}
use Rattle.std.proofs.lemmas.List.Edits.{sets}
use Rattle.mesh.specs.Rows.{places}
use Rattle.layout.specs.Replies.{shown}
use Rattle.layout.specs.Rows.{Lent, no_zone}
use Rattle.layout.specs.Read.{Result, read_of}
use Rattle.layout.specs.Says.{Mesh}
use Rattle.filling.specs.Found.{Tables, flat_of}
use Rattle.faults.specs.Sides as Audit
use Rattle.audit.specs.Audit.{Out, audit_of}
use Rattle.texts.specs.Write as Write
use Rattle.answers.specs.Words.{read_words, audit_words, write_words}

-- ---- reading
-- the number that is answered, and all that is lent as the call leaves it
pub record Left : Type 0 where
  pub number : ℕ
  pub answer : List ℕ
  pub held : Tables
  pub zones : List ℕ

-- the tables with a list of as many zone records as the words have room for, six words a record
abbrev pub with_list : Tables → List ℕ → Lent
with_list t words =
    record { mantissas = t.mantissas; exponents = t.exponents; faces = t.faces; cells = t.cells; zones = replicate (length words / 6) no_zone }

abbrev pub tables_of : Lent → Tables
tables_of l = record { mantissas = l.mantissas; exponents = l.exponents; faces = l.faces; cells = l.cells }

-- the records that were read, one behind the other at the start of the words; an answer goes to the start of its slice, as far as there is room
abbrev pub left_by : Result → List ℕ → List ℕ → Left
left_by r words answer =
    record {
      number = (shown r.reply).number;
      answer = sets answer 0 (read_words (shown r.reply));
      held = tables_of r.held;
      zones = sets words 0 (flat_of (take (shown r.reply).zones r.held.zones));
    }

unfoldable pub read_left : List ℕ → Tables → List ℕ → List ℕ → Left
read_left s t words answer = left_by (read_of s (with_list t words)) words answer

-- ---- auditing
pub record Kept : Type 0 where
  pub number : ℕ
  pub answer : List ℕ
  pub counts : List ℕ
  pub list : List ℕ

abbrev pub kept_by : Out → List ℕ → Kept
kept_by o answer =
    record { number = o.answer.number; answer = sets answer 0 (audit_words o.answer); counts = o.counts; list = o.list }

unfoldable pub audit_kept : Audit.Tables → List ℕ → List ℕ → List ℕ → Kept
audit_kept t counts list answer = kept_by (audit_of places t counts list) answer

-- ---- writing
pub record Written : Type 0 where
  pub number : ℕ
  pub answer : List ℕ
  pub text : List ℕ

abbrev pub written_by : Write.Out → List ℕ → Written
written_by o answer = record { number = o.answer.number; answer = sets answer 0 (write_words o.answer); text = o.text }

unfoldable pub write_left : Mesh → List ℕ → List ℕ → Written
write_left m text answer = written_by (Write.write_of m text) answer
