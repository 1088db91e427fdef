-- Words behind their blanks. Assumes nothing.
use Prim.Native.Nat.{ℕ, ◌+◌, ◌≤◌, ◌<◌}
use native.Mathlib.Numerals.{add-one}
use mathlib.Core.Path.{◌≡◌}
use mathlib.Core.List.{List, [], ◌∷◌, ◌++◌}
use lib.ListN.{length, drop, get_or, drop_of_length-le}
use lib.Seq.{drop-cons}
use Rattle.figures.specs.Figures.{figures}
use Rattle.putting.specs.Putting.{Laid, words_bytes}
use Rattle.putting.proofs.Laying.{Left, left_more}

words_next : (lead : ℕ) (ws : List ℕ) (i : ℕ) → i < length ws → words_bytes lead (drop i ws) ≡ (lead ∷ figures 16 (get_or ws i 0)) ++ words_bytes 32 (drop (i + 1) ws)
unfolding words_bytes
words_next lead ws i h = rw (drop-cons ws i 0 h, add-one i)

pub words_more : {old : List ℕ} {at : ℕ} {whole cur : List ℕ} {c : ℕ} (lead : ℕ) (ws : List ℕ) (i : ℕ) {new : List ℕ} {r : ℕ}
    → Left old at whole cur c (words_bytes lead (drop i ws)) → i < length ws → Laid cur c (lead ∷ figures 16 (get_or ws i 0)) new r → Left old at whole new r (words_bytes 32 (drop (i + 1) ws))
words_more lead ws i g h w = left_more (words_bytes 32 (drop (i + 1) ws)) g (words_next lead ws i h) w

pub words_none : (lead : ℕ) (ws : List ℕ) (i : ℕ) → length ws ≤ i → words_bytes lead (drop i ws) ≡ []
unfolding words_bytes
words_none lead ws i h = rw (drop_of_length-le ws {i = i} h)
