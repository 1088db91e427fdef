-- What must hold of the length of a file. Assumes nothing.
use Rattle.layout.specs.Replies.{Reply, refuses}
use Prim.Native.Nat.{ℕ, ◌≤◌, ◌<◌}
use mathlib.Core.Path.{◌≡◌, sym, ◌∙◌, ap}
use mathlib.Core.List.{List, []}
use mathlib.Core.Bool.{Bool, true, false}
use borrow.Author.Tests.{le-leb, lt-leb}
use lib.ListN.{length, replicate}
use lib.Seq.{sets}
use Rattle.sizes.specs.Sizes.{file_bytes, zones}
use Rattle.tokens.specs.Listed.{tokens_from}
use Rattle.layout.specs.declared.Refusal.{Refusal}
use Rattle.layout.specs.Keeps as Keeps
use Rattle.layout.specs.Read.{refused, tokens_answer, answer_of}
use Rattle.endings.specs.Endings.{verdict}
use Rattle.survey.specs.Sites.{token_sites, sites_of, places_of}

module _ (s : List ℕ) (room : Keeps.Room) where
  abbrev picked : Bool → Reply
  picked b = verdict (elim b [ true ↦ tokens_answer (length s) room (tokens_from s 0) | false ↦ refused Refusal.TooLong 0 0 ])

  pub too_long : file_bytes < length s → {r : Reply} → r ≡ refuses Refusal.TooLong 0 0 → r ≡ verdict (answer_of room s)
  unfolding answer_of
  too_long l e = e ∙ ap picked (sym (lt-leb (length s) file_bytes l))

  pub not_too_long : length s ≤ file_bytes → {r : Reply} → r ≡ verdict (tokens_answer (length s) room (tokens_from s 0)) → r ≡ verdict (answer_of room s)
  unfolding answer_of
  not_too_long l e = e ∙ ap picked (sym (le-leb (length s) file_bytes l))

  abbrev picked_sites : Bool → List ℕ
  picked_sites b = sets (replicate zones 0) 0 (elim b [ true ↦ token_sites (length s) room (tokens_from s 0) | false ↦ [] ])

  pub no_places : file_bytes < length s → replicate zones 0 ≡ places_of room s
  unfolding sites_of
  no_places l = ap picked_sites (sym (lt-leb (length s) file_bytes l))

  pub its_places : length s ≤ file_bytes → {p : List ℕ} → p ≡ sets (replicate zones 0) 0 (token_sites (length s) room (tokens_from s 0)) → p ≡ places_of room s
  unfolding sites_of
  its_places l e = e ∙ ap picked_sites (sym (le-leb (length s) file_bytes l))
