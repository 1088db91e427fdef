-- The three demands hold of every call that meets its contract; each field by the theorem that it names. Assumes nothing.
use mathlib.Core.Path.{sym, ap, ◌∙◌}
use contract.Lifetimes.{Lfts}
use denote.Triple.Entry.{Args, Res}
use denote.Triple.Clauses.{AtExit}
use Rattle.mesh.specs.Rows.{places}
use Rattle.layout.specs.Read.{Outcome}
use Rattle.faults.specs.All.{all_faults}
use Rattle.faults.proofs.All.{all_sound, all_complete, all_rising, all_once}
use Rattle.audit.proofs.Held.{all_back}
use Rattle.audit.proofs.Only.{audit_only}
use Rattle.audit.specs.contracts.audit as audit
use Rattle.audit.proofs.audit.Reads as audits
use Rattle.reader.proofs.Only.{Post, read_only}
use Rattle.reader.proofs.Called.{read_exactly, read_one_mesh, read_refused}
use Rattle.reader.specs.contracts.read as read
use Rattle.demands.specs.Demands.{FileAnswered, FileRead, Limits, Lists, given, counts, list, left, TableAnswered, TableAudited}
use Rattle.demands.proofs.Files.{accepted_fits}
use Rattle.demands.proofs.Limits.{numbered, accepted_within, within_shows, refused_unchanged}

module _ (κ : Lfts 6) (a : Args read.signature κ) (r : Res read.signature κ) (x : AtExit read.ended κ) (p : Post κ a r x) where
  -- 1. files
  pub file_answered : FileAnswered κ a r x
  file_answered =
      record {
        only = λ r' x' q. read_only κ a r r' x x' p q;
        told = ap (λ (y : Outcome). y.shown) p;
        points = λ w k o e. (read_refused κ a r x p w k o e).0;
        untouched = λ w k o e. (read_refused κ a r x p w k o e).1;
      }

  -- 2.
  pub file_read : FileRead κ a r x
  file_read = record { accepted = accepted_fits κ a r x p; holds = read_exactly κ a r x p; one = read_one_mesh κ a r x p }

module _ (κ : Lfts 4) (a : Args audit.signature κ) (r : Res audit.signature κ) (x : AtExit audit.ended κ) (p : audits.Post κ a r x) where
  -- 1. tables
  pub table_answered : TableAnswered κ a r x
  table_answered =
      record {
        only = λ r' x' q. ((audit_only κ a r r' x x' p q).0, p ∙ sym q);
        numbered = λ w e. numbered w;
        untouched = λ w e. let u = refused_unchanged κ a r x p w e in (u.same_counts, u.same_list);
      }

  -- 3.
  lists : Limits (given κ a) (counts κ a) → Lists (given κ a) (counts κ a) (list κ a) (left κ r x)
  lists l =
      let t = given κ a in
      let s = within_shows κ a r x p l in
      record {
        faults = all_faults places t;
        every = λ f. (all_sound places t l.dimension f, all_complete places t f);
        once = all_once places t;
        order = all_rising places t;
        longest = s.longest;
        behind = s.behind;
        readable = all_back t l.totals.1.0 l.totals.1.1;
        total = s.total;
        count = s.count;
        later = s.later;
      }

  pub table_audited : TableAudited κ a r x
  table_audited = record { accepted = accepted_within κ a r x p; lists = lists }
