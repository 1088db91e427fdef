-- Closed cases of the functions that only our own crates call: the right answer, and what a wrong program would have answered there. Assumes nothing.
use Rattle.layout.specs.Replies.{refuses}
use Prim.Native.Nat.{ℕ}
use mathlib.Core.Path.{◌≡◌, refl, ◌∙◌}
use mathlib.Core.List.{List, [], ◌∷◌}
use lib.ListN.{set}
use lib.Seq.{sets}
use Rattle.layout.specs.declared.Refusal.{Refusal}
use Rattle.layout.specs.Replies.{Shown, shown}
use Rattle.std.specs.Prelude.{Ok, Err}
use Rattle.audit.specs.Audit.{Values, values_of}
use Rattle.writer.specs.declared.answer.Refusal as Write
use Rattle.writer.specs.Writer as Writer
use Rattle.stores.proofs.copy_into.Reads as copied
use Rattle.answers.specs.Words.{read_words, audit_words, write_words}

-- two words are lent
abbrev lent : List ℕ
lent = 9 ∷ 9 ∷ []

-- `stores::copy_into`: every word stored at the first place
copy_words :
    ((T : _) (laws : _) (copy : _) (clone : _) (dict : _) (κ : _) (a : _) (r : _) (x : _) → copied.Post T laws copy clone dict κ a r x
    → (one two nine : _) → a.0.now ≡ one ∷ two ∷ [] → a.1.0.now ≡ nine ∷ nine ∷ [] → x.1.0.now ≡ one ∷ two ∷ [])
    × (set (set lent 0 1) 0 2 ≡ 2 ∷ 9 ∷ [])
copy_words = (λ T laws copy clone dict κ a r x p one two nine words old. p ∙ rw (words, old), refl)

abbrev refused : Shown
refused = shown (refuses Refusal.Range 2 21)

-- `answer_read`: the offset before the section
answer_read : (sets lent 0 (read_words refused) ≡ 2 ∷ 21 ∷ []) × (sets lent 0 (refused.offset ∷ refused.section ∷ []) ≡ 21 ∷ 2 ∷ [])
answer_read = (refl, refl)

abbrev done : Values
done = values_of (Ok (record { total = 3; bytes = 12 }))

-- `answer_audit`: the bytes before the total
answer_audit : (sets lent 0 (audit_words done) ≡ 3 ∷ 12 ∷ []) × (sets lent 0 (done.bytes ∷ done.total ∷ []) ≡ 12 ∷ 3 ∷ [])
answer_audit = (refl, refl)

-- `answer_write`: the number of the refusal in place of the length
answer_write :
    (sets lent 0 (write_words (Writer.values_of (Err Write.Refusal.TextRoom))) ≡ 0 ∷ 9 ∷ [])
    × (sets lent 0 ((Writer.values_of (Err Write.Refusal.TextRoom)).number ∷ []) ≡ 19 ∷ 9 ∷ [])
answer_write = (refl, refl)
