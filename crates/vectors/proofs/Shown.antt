-- Every case of the table holds, by computation. One `refl` a case, so that a wrong entry is pointed at. Assumes nothing.
use mathlib.Core.Path.{◌≡◌, refl}
use mathlib.Core.List.{List, [], ◌∷◌, map}
use Rattle.facts.specs.Bytes.{big_endian}
use Rattle.tokens.specs.Tokens.{class_of, run_end, run_at, text_to, token_of, token_from, token_at}
use Rattle.tokens.specs.Listed.{tokens_in, tokens_from}
use Rattle.digits.specs.Digits.{digit_of, digits_in}
use Rattle.numbers.specs.Whole.{whole_of}
use Rattle.decimals.specs.Coordinate.{sign_in, fraction_in, marked_of, power_of, reading_of, cut, in_range, fitted, keep, coordinate_of}
use Rattle.numbers.specs.Bad.{bad_at}
use Rattle.mesh.specs.Rows.{face_at, cell_at}
use Rattle.layout.specs.Reading.{left_of, right_of, word_of, skip, rows_of}
use Rattle.layout.specs.State.{every, some_of, among, tiled, decl_range, part_range, zone_fits}
use Rattle.layout.specs.Sections.{fifth_of, head_of, element_of, hex_of, facing_of, mixed_of, body_of, two_of, decl_of, part_of, kind_of, other_of, section_of}
use Rattle.layout.specs.Read.{end_of, file_of, answer_of, lay, read_of}
use Rattle.records.specs.Record.{extra_bytes, record_of}
use Rattle.records.specs.Laid.{fit, laid_in}
use Rattle.faults.specs.Over.{each, listed, sum_over}
use Rattle.faults.specs.Sides.{counted, sides_naming, count_over}
use Rattle.faults.specs.Faults
use Rattle.faults.specs.All.{all_faults}
use Rattle.audit.specs.Audit.{totals_fit, counts_of, audit_of}
use Rattle.vectors.specs.Vectors.{Case, run, wanted, table}

abbrev Each : List Case → Type 0
Each [] = Unit
Each (c ∷ cs) = (run c ≡ wanted c) × Each cs

joined : (cs : List Case) → Each cs → map run cs ≡ map wanted cs
joined [] h = refl
joined (c ∷ cs) h = λ i. h.0 i ∷ joined cs h.1 i

pub table_holds : map run table ≡ map wanted table
unfolding class_of run_end run_at text_to token_of token_from token_at tokens_in tokens_from digit_of digits_in whole_of sign_in fraction_in marked_of power_of reading_of cut in_range fitted keep coordinate_of bad_at left_of right_of word_of skip rows_of every some_of among tiled decl_range part_range zone_fits fifth_of head_of element_of hex_of facing_of mixed_of body_of two_of decl_of part_of kind_of other_of section_of end_of file_of answer_of lay read_of big_endian face_at cell_at extra_bytes record_of fit laid_in each listed sum_over Faults.looked_at Faults.positions_of Faults.wrong_count Faults.is_in Faults.side_of Faults.has_fault Faults.fault_at Faults.faults_of_kind Faults.faults_of_face Faults.wrong_element Faults.has_cell_fault Faults.cell_fault_at Faults.faults_of_cell counted sides_naming count_over all_faults totals_fit counts_of audit_of
table_holds = joined table (refl, (refl, (refl, (refl, (refl, (refl, (refl, (refl, (refl, (refl, (refl, (refl, (refl, (refl, (refl, tt)))))))))))))))
