-- The printed lines are those of the listed faults, one for each, in their order. Assumes nothing.
use Prim.Native.Nat.{ℕ, zero, suc, ◌≤◌}
use native.Mathlib.Omega.{arith}
use mathlib.Core.Path.{◌≡◌, refl, sym, ◌∙◌, ap}
use mathlib.Core.List.{List, [], ◌∷◌, ◌++◌, Memᴰ}
use lib.ListN.{length, drop, length-append}
use lib.Seq.{drop-append_seam}
use Rattle.records.specs.declared.Fault.{Fault}
use Rattle.records.specs.Record.{narrow, size_of, record_of, read_back}
use Rattle.records.specs.Laid.{bytes_of}
use Rattle.records.proofs.Record.{record_of_length}
use Rattle.lines.specs.Listed.{record_line, record_lines, faults_printed}
use Rattle.lines.proofs.Listing.{lines_over, lines_step}

abbrev Back : List Fault → Type 0
Back fs = (f : Fault) → Memᴰ f fs → (rest : List ℕ) → read_back narrow (record_of narrow f ++ rest) ≡ f

pub lines_of : (fs : List Fault) (n : ℕ) → Back fs → length (bytes_of narrow fs) ≤ n → record_lines n (bytes_of narrow fs) ≡ faults_printed fs
unfolding bytes_of
lines_of [] n b h = lines_over n
lines_of (f ∷ fs) zero b h =
    absurd (let l = length-append (record_of narrow f) (bytes_of narrow fs) in let k = record_of_length narrow f in omega (arith, l, k))
lines_of (f ∷ fs) (suc n) b h =
    let l = length-append (record_of narrow f) (bytes_of narrow fs) in
    let k = record_of_length narrow f in
    let e = b f (Memᴰ.head refl) (bytes_of narrow fs) in
    lines_step n (record_of narrow f ++ bytes_of narrow fs) (omega (arith, l, k))
    ∙ ap (λ (y : Fault). record_line y ++ record_lines n (drop (size_of narrow y.kind) (record_of narrow f ++ bytes_of narrow fs))) e
    ∙ ap (λ m. record_line f ++ record_lines n (drop m (record_of narrow f ++ bytes_of narrow fs))) (sym k)
    ∙ ap (λ y. record_line f ++ record_lines n y) (drop-append_seam (record_of narrow f) (bytes_of narrow fs))
    ∙ ap (λ y. record_line f ++ y) (lines_of fs n (λ g m. b g (Memᴰ.tail m)) (omega (arith, l, k, h)))
