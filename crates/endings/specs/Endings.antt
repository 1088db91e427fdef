-- The answer on a whole file, its rows left out, and at its end. Assumes nothing.
use Rattle.std.specs.Prelude.{ℕ}
use Rattle.layout.specs.declared.Refusal.{Refusal}
use Rattle.tokens.specs.declared.Token.{Token}
use Rattle.layout.specs.Replies.{Reply, accepts, refuses}
use Rattle.layout.specs.State as St
use Rattle.layout.specs.Read.{Answer, accepted, refused, end_of}

abbrev pub verdict : Answer → Reply
verdict (accepted x is) = accepts x.dimension x.nodes.total x.faces.total x.cells.total x.zones
verdict (refused w k o) = refuses w k o

-- a token that opens no section
abbrev pub last_of : Token → ℕ → St.State → ℕ → ℕ → Reply
last_of Token.Left o x k size = refuses Refusal.Grammar k o
last_of Token.Right o x k size = refuses Refusal.Grammar k o
last_of Token.Text o x k size = refuses Refusal.Grammar k o
last_of Token.Word o x k size = refuses Refusal.Grammar k o
last_of Token.Unclosed o x k size = refuses Refusal.Grammar k o
last_of Token.End o x k size = verdict (end_of size x k)
