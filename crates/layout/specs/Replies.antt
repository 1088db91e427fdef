-- [01:Refusal numbers]. The paper's number and values of each answer. To be believed: all of this file. Assumes nothing.
use Rattle.std.specs.Prelude.{ℕ, zero, suc, ◌≤◌, List, [], ◌∷◌, length, Result, Ok, Err}
use Rattle.tokens.specs.Listed.{Tok, left, right, text, cut, word, tokens_of}
use Rattle.layout.specs.declared.Refusal.{Refusal}
use Rattle.layout.specs.declared.Accepted.{Accepted}
use Rattle.layout.specs.declared.Refused.{Refused}

abbrev pub number_of : Refusal → ℕ
number_of Refusal.TooLong = 1
number_of Refusal.Grammar = 2
number_of Refusal.Number = 3
number_of Refusal.Binary = 4
number_of Refusal.Undeclared = 5
number_of Refusal.Range = 6
number_of Refusal.TableRoom = 7
number_of Refusal.Overlap = 8
number_of Refusal.Type = 9
number_of Refusal.Dimension = 10
number_of Refusal.ZoneRoom = 11
number_of Refusal.Depth = 12
number_of Refusal.Missing = 13
number_of Refusal.Untiled = 14

-- "Accepted is 0, with section 0, offset 0, the dimension, the three totals and the zone count. A refusal gives number, section and offset, the rest 0"
pub record Shown : Type 0 where
  pub number : ℕ
  pub section : ℕ
  pub offset : ℕ
  pub dimension : ℕ
  pub nodes : ℕ
  pub faces : ℕ
  pub cells : ℕ
  pub zones : ℕ

-- the reader's answer: what an accepted file says, or why and where it is refused
abbrev pub Reply : Type 0
Reply = Result Accepted Refused

abbrev pub accepts : ℕ → ℕ → ℕ → ℕ → ℕ → Reply
accepts d n f c z = Ok (record { dim = d; nodes = n; faces = f; cells = c; zones = z })

abbrev pub refuses : Refusal → ℕ → ℕ → Reply
refuses w k o = Err (record { why = w; section = k; offset = o })

abbrev pub shown : Reply → Shown
shown (Ok a) = record { number = 0; section = 0; offset = 0; dimension = a.dim; nodes = a.nodes; faces = a.faces; cells = a.cells; zones = a.zones }
shown (Err b) = record { number = number_of b.why; section = b.section; offset = b.offset; dimension = 0; nodes = 0; faces = 0; cells = 0; zones = 0 }

-- "top-level opening parentheses": those of these tokens, d levels deep
abbrev pub opened : List Tok → ℕ → ℕ
opened [] d = 0
opened (left o ∷ ts) zero = suc (opened ts 1)
opened (left o ∷ ts) (suc d) = opened ts (suc (suc d))
opened (right o ∷ ts) zero = opened ts 0
opened (right o ∷ ts) (suc d) = opened ts d
opened (text o ∷ ts) d = opened ts d
opened (cut o ∷ ts) d = opened ts d
opened (word o w ∷ ts) d = opened ts d

-- the sections that a file begins
abbrev pub sections_in : List Tok → ℕ
sections_in ts = opened ts 0

-- a refusal of the file s has one of the paper's numbers, a section that the file has begun, and an offset in it
pub record Points (s : List ℕ) (w : Refusal) (k o : ℕ) : Type 0 where
  pub low : 1 ≤ number_of w
  pub high : number_of w ≤ 14
  pub section : k ≤ sections_in (tokens_of s)
  pub offset : o ≤ length s
