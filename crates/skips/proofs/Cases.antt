-- Closed cases of the functions that only our own crates call: the right answer, and what a wrong program would have answered there. Assumes nothing.
use mathlib.Core.Path.{◌≡◌, refl}
use mathlib.Core.List.{[]}
use Rattle.facts.specs.Text.{bytes}
use Rattle.tokens.specs.Tokens.{class_of, run_end, run_at, token_of, token_from, token_at}
use Rattle.tokens.specs.Listed.{tokens_in, tokens_from, tokens_of}
use Rattle.layout.specs.declared.Refusal.{Refusal}
use Rattle.layout.specs.Reading.{got, bad, skip}

-- `skip_from`: the `)` of the section taken for one inside it
skip_from : (skip 1 0 (tokens_of (bytes ")")) ≡ got tt []) × (skip 1 1 (tokens_of (bytes ")")) ≡ bad Refusal.Grammar 1)
unfolding class_of run_end run_at token_of token_from token_at tokens_in tokens_from skip
skip_from = (refl, refl)
