-- The words of a header, as the code has them. Assumes nothing.
use Rattle.std.specs.Prelude.{ℕ, Option, Some, None}
use Rattle.layout.specs.Items as Items
use Rattle.layout.specs.Reading as R
use Rattle.layout.specs.Sections as S
use Rattle.spots.specs.declared.Kind.{Kind}
use Rattle.spots.specs.declared.Read.{Read}
use Rattle.spots.specs.declared.Head.{Head}

abbrev pub kind_for : Kind → Items.Kind
kind_for Kind.Node = Items.node
kind_for Kind.Cell = Items.cell
kind_for Kind.Face = Items.face

abbrev pub read_for : Read → R.Read
read_for r = record { value = r.value; at = r.at }

abbrev pub fifth_for : Option ℕ → Items.Perhaps
fifth_for (Some v) = Items.given v
fifth_for None = Items.absent

-- a fifth word's value, and its place, 0 where it is absent
abbrev pub word_of : Option Read → Option ℕ
word_of None = None
word_of (Some r) = Some r.value

abbrev pub place_of : Option Read → ℕ
place_of None = 0
place_of (Some r) = r.at

abbrev pub head_for : Head → S.Head
head_for h =
    record { zone = read_for h.zone; first = read_for h.first; last = read_for h.last; type = read_for h.ztype; fifth = fifth_for h.fifth; fifth_at = h.place; end = h.end }
