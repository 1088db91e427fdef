-- The usual number word: hexadecimal digits, behind which the word ends. Assumes nothing.
use Rattle.std.specs.Prelude.{ℕ, ◌+◌, ◌-◌, List, Bool, true, false, ◌&&◌, ltb, leb, eqb, length, take, drop, get_or, Option, Some, None}
use Rattle.tokens.specs.Tokens.{is_blank, start_of, ends_word}
use Rattle.digits.specs.declared.quick.Hexes.{Hexes}
use Rattle.digits.specs.Digits.{within}
use Rattle.digits.specs.Hexes.{hexes_of}
use Rattle.digits.specs.Lanes.{lanes}
use Rattle.digits.specs.Couples.{end_in}
use Rattle.facts.specs.declared.Taken.{Taken}

abbrev pub known : ℕ → ℕ → Option (Taken ℕ)
known v n = Some (record { value = v; next = n })

-- the digits from a place on, at most 8
unfoldable pub hexes_from : List ℕ → ℕ → Hexes
hexes_from s i = hexes_of (take 8 (drop i s))

-- that the place where the word there seems to end is the one behind its digits
abbrev pub guessed : List ℕ → ℕ → Bool
guessed s i = eqb (end_in (lanes 8 (take 8 (drop i s)))) (hexes_from s i).count

-- the digits behind one blank, where 8 bytes stand there and the word seems to end behind the digits; else none
unfoldable pub near_hexes : List ℕ → ℕ → Hexes
near_hexes s at = elim (leb (at + 9) (length s) && (is_blank (get_or s at 0) && guessed s (at + 1))) [ true ↦ hexes_from s (at + 1) | false ↦ record { value = 0; count = 0 } ]

abbrev pub quick_by : List ℕ → ℕ → Hexes → Option (Taken ℕ)
quick_by s i h = elim (ltb 0 h.count && ends_word s (i + h.count)) [ true ↦ known h.value (i + h.count) | false ↦ None ]

unfoldable pub quick_of : List ℕ → ℕ → Option (Taken ℕ)
quick_of s at = quick_by s (start_of s at) (hexes_of (take 8 (drop (start_of s at) s)))

-- the decimal digit that a byte is, and the place behind it
abbrev pub figure_of : ℕ → ℕ → Option (Taken ℕ)
figure_of b n = elim (within 48 57 b) [ true ↦ known (b - 48) n | false ↦ None ]

-- a word of one decimal digit behind one blank, and not the file's last byte
unfoldable pub digit_hex : List ℕ → ℕ → Option (Taken ℕ)
digit_hex s at = elim (leb (at + 3) (length s) && (is_blank (get_or s at 0) && ends_word s (at + 2))) [ true ↦ figure_of (get_or s (at + 1) 0) (at + 2) | false ↦ None ]

-- the digits there, whatever stands behind them
abbrev pub known_by : ℕ → Hexes → Taken ℕ
known_by i h = record { value = h.value; next = i + h.count }

unfoldable pub known_of : List ℕ → ℕ → Taken ℕ
known_of s at = known_by (start_of s at) (hexes_of (take 8 (drop (start_of s at) s)))
