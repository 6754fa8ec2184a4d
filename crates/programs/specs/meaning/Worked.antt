-- Examples of the programs, from the bytes of an input to the bytes that are printed.
--   worked_catalogue   document 01: "For `poly,2,3,0,5` under its name line it prints in whole: .."
--   worked_rank        the four lines for `poly,2,2,0,0`
-- Assumes nothing.
use Rattle.std.specs.Prelude.{◌≡◌, refl, [], ◌∷◌, ◌++◌}
use Rattle.linear.specs.Bit.{bit, digits_of, top}
use Rattle.linear.specs.Basis.{clear, reduce, norm, place, insert, inserts, basis_of, dim}
use Rattle.linear.specs.Coefficients.{coefficient, coefficients}
use Rattle.linear.specs.Order.{rising_lists}
use Rattle.linear.specs.Select.{any_of, only, first_of_each}
use Rattle.linear.specs.Formulae.{formulae, all_formulae, least_from, missed, fewest}
use Rattle.linear.specs.Prices.{total, earlier, precedes, cheaper, cheapest_from}
use Rattle.linear.specs.Share.{gather}
use Rattle.linear.specs.Entry.{same_vec, same_basis, inside, generator, chosen, generators_in, fits, space, entries}
use Rattle.kinds.specs.Kinds.{kind_numbered}
use Rattle.kinds.specs.Sizes.{within, poly_sizes}
use Rattle.words.specs.Masks.{wide, zero_in}
use Rattle.forms.specs.products.Product.{form_of, product_form}
use Rattle.maps.specs.Target.{pair_for, target_form}
use Rattle.maps.specs.Generators.{generator_count, first_mask, second_mask, generator_form, list_of, generator_forms, count_of}
use Rattle.maps.specs.Costs.{generator_cost, generator_costs}
use Rattle.problems.specs.Problem.{target_forms, mapped, shaped, posed}
use Rattle.problems.specs.prices.Prices.{prices}
use Rattle.catalogue.specs.listing.Listing.{records, flat, fitting}
use Rattle.bases.specs.rows.Rows.{mask_of, row_of}
use Rattle.choices.specs.Choice.{formula_record}
use Rattle.rank.specs.fewest.Fewest.{ranking}
use Rattle.catalogue.specs.Catalogue.{entry_listing, catalogue_of, catalogue}
use Rattle.rank.specs.Rank.{rank_for}
use Rattle.text.specs.Line.{cut, field, name_line}
use Rattle.text.specs.Numeral.{digits, numeral}
use Rattle.text.specs.heads.Head.{count_fields, head_line, head_lines}
use Rattle.formula_files.specs.lines.Formula.{ended}
use Rattle.printing.specs.Print.{numeral_text}
use Rattle.printing.specs.fields.Fields.{sizes_text}
use Rattle.printing.specs.field_lists.Inner.{spaced_text, inner_text}
use Rattle.printing.specs.record_lines.RecordLines.{lists_text, entry_text, record_lines}
use Rattle.catalogue_text.specs.report.CatalogueReports.{counts_text, catalogue_text}
use Rattle.rank_text.specs.report.RankReports.{rank_head, rank_text}
use Rattle.problem_files.specs.handed_forms.ProblemLines.{map_lines}
use Rattle.problem_files.specs.judging.Judged.{settled}
use Rattle.problem_files.specs.posing.Posing.{posed_lines, posed_file}
use Rattle.catalogue_text.specs.CatalogueAnswers.{catalogue_reply}
use Rattle.rank_text.specs.RankAnswers.{rank_reply}
use Rattle.problem_files.specs.inputs.Inputs.{posed_input, input_file}
use Rattle.programs.specs.Programs.{problem_program, catalogue_program, rank_program}

pub worked_catalogue : catalogue_program (107 ∷ 105 ∷ 110 ∷ 100 ∷ 44 ∷ 112 ∷ 44 ∷ 113 ∷ 44 ∷ 114 ∷ 44 ∷ 107 ∷ 10 ∷ 112 ∷ 111 ∷ 108 ∷ 121 ∷ 44 ∷ 50 ∷ 44 ∷ 51 ∷ 44 ∷ 48 ∷ 44 ∷ 53 ∷ 10 ∷ [])
    ≡ (107 ∷ 105 ∷ 110 ∷ 100 ∷ 44 ∷ 112 ∷ 44 ∷ 113 ∷ 44 ∷ 114 ∷ 44 ∷ 107 ∷ 44 ∷ 101 ∷ 108 ∷ 108 ∷ 44 ∷ 102 ∷ 111 ∷ 117 ∷ 110 ∷ 100 ∷ 44 ∷ 115 ∷ 104 ∷ 111 ∷ 119 ∷ 110 ∷ 10 ∷ [])
    ++ (112 ∷ 111 ∷ 108 ∷ 121 ∷ 44 ∷ 50 ∷ 44 ∷ 51 ∷ 44 ∷ 48 ∷ 44 ∷ 53 ∷ 44 ∷ 52 ∷ 44 ∷ 51 ∷ 44 ∷ 51 ∷ 10 ∷ [])
    ++ (101 ∷ 110 ∷ 116 ∷ 114 ∷ 121 ∷ 44 ∷ 101 ∷ 120 ∷ 116 ∷ 101 ∷ 110 ∷ 115 ∷ 105 ∷ 111 ∷ 110 ∷ 44 ∷ 98 ∷ 97 ∷ 115 ∷ 105 ∷ 115 ∷ 10 ∷ [])
    ++ (48 ∷ 44 ∷ 49 ∷ 44 ∷ 50 ∷ 48 ∷ 32 ∷ 49 ∷ 52 ∷ 32 ∷ 56 ∷ 32 ∷ 50 ∷ 32 ∷ 49 ∷ 10 ∷ [])
    ++ (49 ∷ 44 ∷ 51 ∷ 44 ∷ 50 ∷ 48 ∷ 32 ∷ 49 ∷ 48 ∷ 32 ∷ 97 ∷ 32 ∷ 52 ∷ 32 ∷ 49 ∷ 10 ∷ [])
    ++ (50 ∷ 44 ∷ 53 ∷ 44 ∷ 50 ∷ 48 ∷ 32 ∷ 49 ∷ 50 ∷ 32 ∷ 97 ∷ 32 ∷ 54 ∷ 32 ∷ 49 ∷ 10 ∷ [])
unfolding bit digits_of top clear reduce norm place insert inserts basis_of dim rising_lists any_of only first_of_each same_vec same_basis inside generator
    chosen generators_in fits space entries kind_numbered within poly_sizes wide zero_in form_of product_form pair_for target_form generator_count first_mask
    second_mask generator_form list_of generator_forms count_of target_forms mapped shaped posed records flat fitting entry_listing catalogue_of catalogue
    numeral_text sizes_text spaced_text inner_text lists_text entry_text record_lines counts_text catalogue_text cut field name_line digits numeral count_fields
    head_line head_lines
    ended map_lines settled posed_lines posed_file catalogue_reply posed_input input_file problem_program
worked_catalogue = refl

pub worked_rank : rank_program (107 ∷ 105 ∷ 110 ∷ 100 ∷ 44 ∷ 112 ∷ 44 ∷ 113 ∷ 44 ∷ 114 ∷ 44 ∷ 107 ∷ 10 ∷ 112 ∷ 111 ∷ 108 ∷ 121 ∷ 44 ∷ 50 ∷ 44 ∷ 50 ∷ 44 ∷ 48 ∷ 44 ∷ 48 ∷ 10 ∷ [])
    ≡ (107 ∷ 105 ∷ 110 ∷ 100 ∷ 44 ∷ 112 ∷ 44 ∷ 113 ∷ 44 ∷ 114 ∷ 44 ∷ 107 ∷ 44 ∷ 101 ∷ 108 ∷ 108 ∷ 44 ∷ 114 ∷ 97 ∷ 110 ∷ 107 ∷ 10 ∷ [])
    ++ (112 ∷ 111 ∷ 108 ∷ 121 ∷ 44 ∷ 50 ∷ 44 ∷ 50 ∷ 44 ∷ 48 ∷ 44 ∷ 48 ∷ 44 ∷ 51 ∷ 44 ∷ 51 ∷ 10 ∷ [])
    ++ (112 ∷ 114 ∷ 111 ∷ 100 ∷ 117 ∷ 99 ∷ 116 ∷ 115 ∷ 44 ∷ 114 ∷ 111 ∷ 119 ∷ 115 ∷ 10 ∷ [])
    ++ (48 ∷ 32 ∷ 52 ∷ 32 ∷ 56 ∷ 44 ∷ 49 ∷ 32 ∷ 55 ∷ 32 ∷ 50 ∷ 10 ∷ [])
unfolding bit digits_of top clear reduce norm place insert inserts basis_of dim rising_lists any_of only first_of_each same_vec same_basis inside generator
    chosen generators_in fits space entries kind_numbered within poly_sizes wide zero_in form_of product_form pair_for target_form generator_count first_mask
    second_mask generator_form list_of generator_forms count_of target_forms mapped shaped posed formulae least_from missed fewest coefficient coefficients
    mask_of row_of formula_record all_formulae gather total earlier precedes cheaper cheapest_from generator_cost generator_costs prices ranking rank_for
    numeral_text sizes_text spaced_text inner_text lists_text rank_head rank_text cut field name_line digits
    numeral count_fields head_line head_lines ended map_lines settled posed_lines posed_file rank_reply posed_input input_file problem_program
worked_rank = refl
