-- The words of a text: each is a word, and is read back as what it was written for. Assumes nothing.
use Prim.Native.Nat.{ℕ, suc, ◌^◌, ◌<◌}
use native.Mathlib.Omega.{arith}
use mathlib.Core.List.{List, [], ◌∷◌, ◌++◌}
use lib.IntN.{ℤ, pos, negsuc}
use lib.ListN.{length-append}
use Rattle.figures.specs.Figures.{From}
use Rattle.figures.proofs.Figures.{figures_some, figures_from, figures_back}
use Rattle.figures.specs.Signed.{decimal_text, coordinate_text}
use Rattle.figures.proofs.Signed.{text_means}
use Rattle.texts.specs.Pieces.{Word}
use Rattle.tokens.specs.Listed.{Tok, word}
use Rattle.layout.specs.Items.{Kind, node, cell, face, id_of, Pair}
use Rattle.layout.specs.Grammar.{number, Id, Hex, Coordinate, coordinate}
use Rattle.texts.specs.Texts.{hex_text, id_text, pair_text}
use Rattle.texts.specs.Writes.{Short, CanonicalPair}

-- ---- they are words
from_low : (w : List ℕ) → From 48 w → From 42 w
from_low [] g = tt
from_low (c ∷ w) g = (omega (arith, g.0), from_low w g.1)

from_append : (u v : List ℕ) → From 42 u → From 42 v → From 42 (u ++ v)
from_append [] v p q = q
from_append (c ∷ u) v p q = (p.0, from_append u v p.1 q)

pub hex_word_lem : (n : ℕ) → Word (hex_text n)
hex_word_lem n =
    record { some = figures_some 16 (omega arith) (omega arith) n; high = from_low (hex_text n) (figures_from 16 (omega arith) (omega arith) n) }

pub id_word_lem : (n : ℕ) → Word (id_text n)
id_word_lem n =
    record { some = figures_some 10 (omega arith) (omega arith) n; high = from_low (id_text n) (figures_from 10 (omega arith) (omega arith) n) }

decimal_from : (z : ℤ) → From 42 (decimal_text z)
unfolding decimal_text
decimal_from (pos n) = (id_word_lem n).high
decimal_from (negsuc n) = (omega arith, (id_word_lem (suc n)).high)

pub pair_word_lem : (p : Pair) → Word (pair_text p)
unfolding coordinate_text
pair_word_lem p =
    record {
      some = omega (arith, length-append (decimal_text p.mantissa) (101 ∷ decimal_text p.exponent));
      high = from_append (decimal_text p.mantissa) _ (decimal_from p.mantissa) (omega arith, decimal_from p.exponent);
    }

-- ---- they are read back
pub hex_is : (n : ℕ) → Short n → (o : ℕ) (us : List Tok) → Hex (word o (hex_text n) ∷ us) n us
hex_is n h o us = number (figures_back 16 (omega arith) (omega arith) n 7 h)

pub id_is : (n : ℕ) → n < 10 ^ 5 → (o : ℕ) (us : List Tok) → Id (word o (id_text n) ∷ us) n us
id_is n h o us = number (figures_back 10 (omega arith) (omega arith) n 4 h)

pub pair_is : (p : Pair) → CanonicalPair p → (o : ℕ) (us : List Tok) → Coordinate (word o (pair_text p) ∷ us) p us
pair_is p c o us = coordinate (text_means p.mantissa p.exponent c)

pub kind_id : (k : Kind) → id_of k < 10 ^ 5
kind_id node = omega arith
kind_id cell = omega arith
kind_id face = omega arith
