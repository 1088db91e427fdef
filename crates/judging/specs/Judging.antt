-- The code's judgement of a section's words, in the order of the table of refusals. Assumes nothing.
use Rattle.std.specs.Prelude.{ℕ, Bool, true, false, not, Option, Result, Ok, Err}
use Rattle.layout.specs.declared.Refusal.{Refusal}
use Rattle.layout.specs.State.{dim_after, dim_listed, type_listed, fifth_listed, fits_in, decl_range, part_range, zone_fits}
use Rattle.spots.specs.declared.Bad.{Bad}
use Rattle.spots.specs.declared.Kind.{Kind}
use Rattle.spots.specs.declared.Head.{Head}
use Rattle.sofar.specs.declared.State.{State}
use Rattle.sofar.specs.Sofar.{seen_of}
use Rattle.spots.specs.Heads.{kind_for, fifth_for}
use Rattle.ranges.specs.Ranges.{limit_for}
use Rattle.dims.specs.Dims.{dim_word_for, agrees, known}

-- ---- one test behind the other
abbrev pub test : Bool → Refusal → ℕ → Result Unit Bad → Result Unit Bad
test b w o r = elim b [ true ↦ r | false ↦ Err (record { why = w; offset = o }) ]

abbrev pub decl_judged : Kind → State → Option ℕ → Head → Result Unit Bad
decl_judged k x limit h =
    test (not (seen_of x k).declared) Refusal.Undeclared h.zone.at
    (test (decl_range h.first.value h.last.value) Refusal.Range h.first.at
    (test (fits_in (limit_for limit) h.last.value) Refusal.TableRoom h.first.at
    (test (dim_listed (fifth_for (dim_word_for k h.fifth))) Refusal.Type h.place
    (test (agrees x.dim (fifth_for (dim_word_for k h.fifth))) Refusal.Dimension h.place (Ok tt)))))

-- zones is the number of zone records so far
abbrev pub words_judged : Kind → State → ℕ → Option ℕ → Head → Result Unit Bad
words_judged k x zones limit h =
    test (type_listed (kind_for k) h.ztype.value) Refusal.Type h.ztype.at
    (test (fifth_listed (kind_for k) (fifth_for h.fifth)) Refusal.Type h.place
    (test (agrees x.dim (fifth_for (dim_word_for k h.fifth))) Refusal.Dimension h.place
    (test (known k (dim_after x.dim (fifth_for (dim_word_for k h.fifth)))) Refusal.Dimension h.end
    (test (zone_fits (limit_for limit) zones) Refusal.ZoneRoom h.zone.at (Ok tt)))))

abbrev pub part_judged : Kind → State → ℕ → Option ℕ → Head → Bool → Result Unit Bad
part_judged k x zones limit h apart =
    test (seen_of x k).declared Refusal.Undeclared h.zone.at
    (test (part_range (seen_of x k).total h.zone.value h.first.value h.last.value) Refusal.Range h.first.at
    (test apart Refusal.Overlap h.first.at (words_judged k x zones limit h)))
