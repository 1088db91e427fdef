-- The tokens of pieces that are parted are their words and parentheses. Assumes nothing.
use Prim.Native.Nat.{ℕ, suc, ◌+◌, ◌≤◌}
use native.Mathlib.Omega.{arith}
use mathlib.Core.Path.{◌≡◌, refl}
use mathlib.Core.List.{List, [], ◌∷◌, ◌++◌}
use borrow.Author.Tests.{ne_eqb}
use lib.ListN.{length}
use Rattle.tokens.specs.declared.Class.{Class}
use Rattle.tokens.specs.declared.Run.{Run}
use Rattle.tokens.specs.Tokens.{class_of}
use Rattle.tokens.specs.Listed.{Tok, word, tokens_of}
use Rattle.tokens.specs.Text.{Goes, Stops, Text, nothing, blank, opened, shut as closed, a_word}
use Rattle.tokens.proofs.Text.{text_exactly}
use Rattle.figures.specs.Figures.{From}
use Rattle.texts.specs.Pieces.{Blank, space, line, Piece, apart, opens, shuts, written, blank_byte, bytes_of, toks_of, Ends, Word, Parted}

-- every byte from 42 on goes into a word
pub other_byte : (b : ℕ) → 42 ≤ b → class_of b ≡ Class.Other
unfolding class_of
other_byte b h =
    rw (
      ne_eqb b 32 (λ e. omega arith),
      ne_eqb b 9 (λ e. omega arith),
      ne_eqb b 10 (λ e. omega arith),
      ne_eqb b 13 (λ e. omega arith),
      ne_eqb b 40 (λ e. omega arith),
      ne_eqb b 41 (λ e. omega arith),
      ne_eqb b 34 (λ e. omega arith),
      class_of,
    )

goes : (w : List ℕ) → From 42 w → Goes Run.Word w
goes [] h = tt
goes (b ∷ w) h = (rw (other_byte b h.0), goes w h.1)

blank_class : (b : Blank) → class_of (blank_byte b) ≡ Class.Blank
unfolding class_of
blank_class space = refl
blank_class line = refl

stops : (ps : List Piece) → Ends ps → Stops Run.Word (bytes_of ps)
unfolding class_of
stops [] h = tt
stops (apart b ∷ ps) h = rw (blank_class b)
stops (opens ∷ ps) h = refl
stops (shuts ∷ ps) h = refl
stops (written w ∷ ps) h = absurd h

a_written : (i : ℕ) (w rest : List ℕ) {ts : List Tok} → Word w → Stops Run.Word rest → Text (i + length w) rest ts → Text i (w ++ rest) (word i w ∷ ts)
a_written i [] rest l s t = absurd (omega (arith, l.some))
a_written i (b ∷ w) rest l s t =
    let n : i + suc (length w) ≡ suc i + length w = omega arith in
    a_word w (other_byte b l.high.0) (goes w l.high.1) s refl n t

pub pieces_text : (i : ℕ) (ps : List Piece) → Parted ps → Text i (bytes_of ps) (toks_of i ps)
unfolding class_of
pieces_text i [] h = nothing
pieces_text i (apart b ∷ ps) h = blank (blank_class b) (pieces_text (suc i) ps h)
pieces_text i (opens ∷ ps) h = opened refl (pieces_text (suc i) ps h)
pieces_text i (shuts ∷ ps) h = closed refl (pieces_text (suc i) ps h)
pieces_text i (written w ∷ ps) h = a_written i w (bytes_of ps) h.0 (stops ps h.1) (pieces_text (i + length w) ps h.2)

-- the tokens of the bytes are the words and parentheses in order
pub tokens_of_pieces : (ps : List Piece) → Parted ps → tokens_of (bytes_of ps) ≡ toks_of 0 ps
tokens_of_pieces ps h = (text_exactly (bytes_of ps) (toks_of 0 ps)).1 (pieces_text 0 ps h)
