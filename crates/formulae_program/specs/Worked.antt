-- An example of the Formulae program, from the bytes of an input to the bytes that are printed.
--   worked_formulae   document 01: "list of 2 bits, menu 1, 2, 3, target 3: .. k = 2 finds one, .. with formulae 0 1, 0 2 and 1 2";
--     the costs 9, 0 and 65,535 are read and not looked at
-- Assumes nothing.
use Rattle.std.specs.Prelude.{◌≡◌, refl, [], ◌∷◌, ◌++◌}
use Rattle.linear.specs.Bit.{bit, digits_of, top}
use Rattle.linear.specs.Basis.{clear, reduce, norm, place, insert, inserts, basis_of, dim}
use Rattle.linear.specs.Coefficients.{coefficient, coefficients}
use Rattle.linear.specs.Order.{rising_lists}
use Rattle.linear.specs.Select.{any_of, only, first_of_each}
use Rattle.linear.specs.Formulae.{formulae}
use Rattle.linear.specs.Entry.{same_vec, same_basis, inside, generator, chosen, generators_in, fits, space, entries}
use Rattle.kinds.specs.Kinds.{kind_numbered}
use Rattle.kinds.specs.Sizes.{within, list_sizes}
use Rattle.words.specs.Masks.{wide, zero_in}
use Rattle.words.specs.lists.Lists.{repeats}
use Rattle.problems.specs.Problem.{listed, shaped, posed}
use Rattle.catalogue.specs.listing.Listing.{records, flat, fitting}
use Rattle.bases.specs.rows.Rows.{mask_of, row_of}
use Rattle.choices.specs.Choice.{formula_record}
use Rattle.records.specs.lookup.Lookup.{lookup}
use Rattle.catalogue.specs.Catalogue.{entry_listing, catalogue_of, catalogue}
use Rattle.text.specs.Line.{cut, field, name_line}
use Rattle.text.specs.Numeral.{digits, numeral}
use Rattle.text.specs.heads.Head.{count_fields, head_line, head_lines}
use Rattle.formula_files.specs.lines.Formula.{ended}
use Rattle.printing.specs.Print.{numeral_text}
use Rattle.printing.specs.fields.Fields.{sizes_text}
use Rattle.printing.specs.field_lists.Inner.{spaced_text, inner_text}
use Rattle.printing.specs.record_lines.RecordLines.{lists_text, entry_text, record_lines}
use Rattle.catalogue_text.specs.report.CatalogueReports.{counts_text}
use Rattle.problem_files.specs.handed_forms.ProblemLines.{list_lines}
use Rattle.problem_files.specs.judging.Judged.{settled}
use Rattle.problem_files.specs.posing.Posing.{posed_lines, posed_file}
use Rattle.space_formulae.specs.spaces.Spaces as spaces
use Rattle.space_formulae.specs.spaces.Spaces.{is_entry, formulae_for, formulae_of}
use Rattle.problem_files.specs.list_lines.Roles.{form_and_cost, role_line, role_lines, list_body}
use Rattle.problem_files.specs.inputs.Inputs.{posed_input, input_file}
use Rattle.formulae_text.specs.lines.FormulaLines.{formula_text, formulae_text}
use Rattle.formulae_text.specs.FormulaAnswers.{entry_formulae}
use Rattle.formulae_program.specs.first_part.Listed.{listed_in, formulae_head}
use Rattle.formulae_program.specs.FormulaeProgram.{entries_part, formulae_program}

pub worked_formulae : formulae_program ((107 ∷ 105 ∷ 110 ∷ 100 ∷ 44 ∷ 112 ∷ 44 ∷ 113 ∷ 44 ∷ 114 ∷ 44 ∷ 107 ∷ 10 ∷ [])
    ++ (108 ∷ 105 ∷ 115 ∷ 116 ∷ 44 ∷ 50 ∷ 44 ∷ 51 ∷ 44 ∷ 49 ∷ 44 ∷ 50 ∷ 10 ∷ [])
    ++ (114 ∷ 111 ∷ 108 ∷ 101 ∷ 44 ∷ 102 ∷ 111 ∷ 114 ∷ 109 ∷ 44 ∷ 99 ∷ 111 ∷ 115 ∷ 116 ∷ 10 ∷ [])
    ++ (103 ∷ 44 ∷ 49 ∷ 44 ∷ 57 ∷ 10 ∷ []) ++ (103 ∷ 44 ∷ 50 ∷ 44 ∷ 48 ∷ 10 ∷ [])
    ++ (103 ∷ 44 ∷ 51 ∷ 44 ∷ 54 ∷ 53 ∷ 53 ∷ 51 ∷ 53 ∷ 10 ∷ []) ++ (116 ∷ 44 ∷ 51 ∷ 44 ∷ 48 ∷ 10 ∷ []))
    ≡ (107 ∷ 105 ∷ 110 ∷ 100 ∷ 44 ∷ 112 ∷ 44 ∷ 113 ∷ 44 ∷ 114 ∷ 44 ∷ 107 ∷ 44 ∷ 101 ∷ 108 ∷ 108 ∷ 44 ∷ 102 ∷ 111 ∷ 117 ∷ 110 ∷ 100 ∷ 44 ∷ 115 ∷ 104 ∷ 111 ∷ 119 ∷ 110 ∷ 10 ∷ [])
    ++ (108 ∷ 105 ∷ 115 ∷ 116 ∷ 44 ∷ 50 ∷ 44 ∷ 51 ∷ 44 ∷ 49 ∷ 44 ∷ 50 ∷ 44 ∷ 49 ∷ 44 ∷ 49 ∷ 44 ∷ 49 ∷ 10 ∷ [])
    ++ (101 ∷ 110 ∷ 116 ∷ 114 ∷ 121 ∷ 44 ∷ 102 ∷ 111 ∷ 114 ∷ 109 ∷ 117 ∷ 108 ∷ 97 ∷ 44 ∷ 112 ∷ 114 ∷ 111 ∷ 100 ∷ 117 ∷ 99 ∷ 116 ∷ 115 ∷ 44 ∷ 114 ∷ 111 ∷ 119 ∷ 115 ∷ 10 ∷ [])
    ++ (48 ∷ 44 ∷ 48 ∷ 44 ∷ 48 ∷ 32 ∷ 49 ∷ 44 ∷ 51 ∷ 10 ∷ [])
    ++ (48 ∷ 44 ∷ 49 ∷ 44 ∷ 48 ∷ 32 ∷ 50 ∷ 44 ∷ 50 ∷ 10 ∷ [])
    ++ (48 ∷ 44 ∷ 50 ∷ 44 ∷ 49 ∷ 32 ∷ 50 ∷ 44 ∷ 50 ∷ 10 ∷ [])
unfolding bit digits_of top clear reduce norm place insert inserts basis_of dim rising_lists any_of only first_of_each same_vec same_basis inside generator
    chosen generators_in fits space entries formulae coefficient coefficients mask_of row_of formula_record kind_numbered within list_sizes wide zero_in
    repeats listed shaped posed records flat fitting entry_listing catalogue_of catalogue numeral_text sizes_text spaced_text inner_text lists_text entry_text
    record_lines counts_text formula_text cut field name_line digits numeral count_fields head_line head_lines ended form_and_cost role_line role_lines list_body
    list_lines settled posed_lines posed_file is_entry spaces.formulae_listing formulae_for formulae_of formulae_text entry_formulae posed_input input_file listed_in
    lookup formulae_head entries_part formulae_program
worked_formulae = refl
