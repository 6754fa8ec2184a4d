-- Document 01, "Worked entries": "Those marked P are proved from the definitions, as one table with a theorem over its lines".
--   WorkedLine  == a question and its answer
--   LineHolds l == the definition gives that answer
--   table       == the lines
--   worked   each line of the table holds
-- Assumes nothing.
use Rattle.std.specs.Prelude.{◌≡◌, refl, true, ℕ, Option, None, Some}
use mathlib.Core.List.Memᴰ
use mathlib.Core.List.{List, [], ◌∷◌, Memᴰ}
use Rattle.linear.specs.Bit.{bit, digits_of, top}
use Rattle.linear.specs.Basis.{clear, reduce, norm, place, insert, inserts, basis_of, dim}
use Rattle.linear.specs.Coefficients.{coefficient, coefficients}
use Rattle.linear.specs.Order.{rising_lists}
use Rattle.linear.specs.Select.{any_of, only, first_of_each}
use Rattle.linear.specs.Entry.{same_vec, same_basis, inside, generator, chosen, generators_in, fits, space, entries}
use Rattle.linear.specs.Formulae.{formulae, all_formulae, least_from, missed, fewest}
use Rattle.linear.specs.Prices.{total, earlier, precedes, cheaper, cheapest_from}
use Rattle.linear.specs.Share.{gather}
use Rattle.linear.specs.laws.Span.{mem_cons}
use Rattle.kinds.specs.Kinds.{kind_numbered}
use Rattle.kinds.specs.Sizes.{within, poly_sizes, list_sizes}
use Rattle.kinds.specs.Refusal.{Answer, accepted}
use Rattle.words.specs.Masks.{wide, zero_in}
use Rattle.forms.specs.products.Product.{form_of, product_form}
use Rattle.forms.specs.Weight.{weight}
use Rattle.maps.specs.Target.{pair_for, target_form}
use Rattle.maps.specs.Generators.{generator_count, first_mask, second_mask, generator_form, list_of, generator_forms, count_of}
use Rattle.words.specs.lists.Lists.{repeats}
use Rattle.maps.specs.Costs.{generator_cost, generator_costs}
use Rattle.problems.specs.Problem.{target_forms, listed, mapped, shaped, posed}
use Rattle.problems.specs.prices.Prices.{unpriced, prices, priced_shape, priced}
use Rattle.bases.specs.rows.Rows.{mask_of, row_of}
use Rattle.choices.specs.Choice.{formula_record}
use Rattle.catalogue.specs.listing.Listing.{records, flat, fitting}
use Rattle.rank.specs.fewest.Fewest.{Ranking, is, beyond, ranking}
use Rattle.catalogue.specs.Catalogue.{Catalogued, entry_listing, catalogue_of, catalogue}
use Rattle.rank.specs.Rank.{rank_for, rank}
use Rattle.space_formulae.specs.spaces.Spaces as space
use Rattle.space_formulae.specs.spaces.Spaces.{is_entry, formulae_for, formulae_of}
use Rattle.formula_check.specs.Formula.{first_wrong, passed, admit, lengths, check}
use Rattle.formula_check.specs.sums.Sums.{product_forms, adders_of, distinct}
use Rattle.forms.specs.Row.{row_form}

pub data WorkedLine : Type 0 where
  -- a Check: the kind's number, p, q, r, k, the masks of both sides, the rows; the reply is the first wrong output and the adders
  checked : (number p q r k : ℕ) (xs ys rows : List ℕ) → Answer (Option ℕ × ℕ) → WorkedLine
  -- a Catalogue: the kind's number, p, q, r, k, the generators and targets of a list, the buffer; the reply is ℓ, found, shown and the buffer
  catalogued : (number p q r k : ℕ) (gs ts old : List ℕ) → Answer Catalogued → WorkedLine
  -- a Rank: the same with k = 0; the reply is the rank with the buffer, above or beyond
  ranked : (number p q r : ℕ) (gs ts costs old : List ℕ) → Answer Ranking → WorkedLine
  -- the formulae of a space: the problem as for a Catalogue, the rows, the buffer; the reply is how many are listed, whether these are all, and the buffer
  listed_formulae : (number p q r : ℕ) (gs ts rows old : List ℕ) → Answer space.Formulae → WorkedLine

abbrev pub LineHolds : WorkedLine → Type 0
LineHolds (checked number p q r k xs ys rows reply) = check number p q r k xs ys rows ≡ reply
LineHolds (catalogued number p q r k gs ts old reply) = catalogue number p q r k gs ts old ≡ reply
LineHolds (ranked number p q r gs ts costs old reply) = rank number p q r 0 gs ts costs old ≡ reply
LineHolds (listed_formulae number p q r gs ts rows old reply) = formulae_of number p q r gs ts rows old ≡ reply

abbrev pub entries_of : (ell found shown : ℕ) (buffer : List ℕ) → Answer Catalogued
entries_of ell found shown buffer = accepted (record { ell = ell; found = found; shown = shown; buffer = buffer })

-- P: "poly 2,2: k = 3 finds one entry, extension `-`, basis `8 6 1`"
abbrev pub three_products : WorkedLine
three_products = catalogued 0 2 2 0 3 [] [] (0 ∷ 0 ∷ 0 ∷ 5 ∷ []) (entries_of 3 1 1 (8 ∷ 6 ∷ 1 ∷ 5 ∷ []))

-- P: "its only formula is 0 4 8 with rows 1, 7, 2"
abbrev pub karatsuba : WorkedLine
karatsuba = listed_formulae 0 2 2 0 [] [] (8 ∷ 6 ∷ 1 ∷ []) (5 ∷ 5 ∷ 5 ∷ 5 ∷ 5 ∷ 5 ∷ 5 ∷ []) (accepted (record { listed = 1; whole = true; buffer = 0 ∷ 4 ∷ 8 ∷ 1 ∷ 7 ∷ 2 ∷ 5 ∷ [] }))

-- P: "poly 2,2: k = 4 finds one, extension 1; k = 5 finds none."
abbrev pub four_products : WorkedLine
four_products = catalogued 0 2 2 0 4 [] [] (0 ∷ 0 ∷ 0 ∷ 0 ∷ 0 ∷ []) (entries_of 3 1 1 (1 ∷ 8 ∷ 4 ∷ 2 ∷ 1 ∷ []))

abbrev pub five_products : WorkedLine
five_products = catalogued 0 2 2 0 5 [] [] (0 ∷ []) (entries_of 3 0 0 (0 ∷ []))

-- P: "Check of poly 2,2, products (1,1), (2,2), (3,3): rows 1, 7, 2 right, 4 adders; rows 1, 3, 2 wrong at output 1."
abbrev pub right : WorkedLine
right = checked 0 2 2 0 3 (1 ∷ 2 ∷ 3 ∷ []) (1 ∷ 2 ∷ 3 ∷ []) (1 ∷ 7 ∷ 2 ∷ []) (accepted (None, 4))

abbrev pub wrong_row : WorkedLine
wrong_row = checked 0 2 2 0 3 (1 ∷ 2 ∷ 3 ∷ []) (1 ∷ 2 ∷ 3 ∷ []) (1 ∷ 3 ∷ 2 ∷ []) (accepted (Some 1, 3))

-- P: "list of 2 bits, menu 1, 2, 3, target 3: k = 1 finds one, basis `3`; k = 2 finds one, extension 0"
abbrev pub list_one : WorkedLine
list_one = catalogued 4 2 3 1 1 (1 ∷ 2 ∷ 3 ∷ []) (3 ∷ []) (0 ∷ []) (entries_of 1 1 1 (3 ∷ []))

abbrev pub list_two : WorkedLine
list_two = catalogued 4 2 3 1 2 (1 ∷ 2 ∷ 3 ∷ []) (3 ∷ []) (7 ∷ 7 ∷ 7 ∷ 7 ∷ []) (entries_of 1 1 1 (0 ∷ 2 ∷ 1 ∷ 7 ∷ []))

-- P: "with formulae 0 1, 0 2 and 1 2"
abbrev pub list_formulae : WorkedLine
list_formulae =
    listed_formulae 4 2 3 1 (1 ∷ 2 ∷ 3 ∷ []) (3 ∷ []) (2 ∷ 1 ∷ []) (7 ∷ 7 ∷ 7 ∷ 7 ∷ 7 ∷ 7 ∷ 7 ∷ 7 ∷ 7 ∷ [])
    (accepted (record { listed = 3; whole = true; buffer = 0 ∷ 1 ∷ 3 ∷ 0 ∷ 2 ∷ 2 ∷ 1 ∷ 2 ∷ 2 ∷ [] }))

-- P: "list of 2 bits, menu 1, target 2: Beyond. Target 0 instead: Rank 0."
abbrev pub far : WorkedLine
far = ranked 4 2 1 1 (1 ∷ []) (2 ∷ []) (5 ∷ []) [] (accepted beyond)

abbrev pub nothing : WorkedLine
nothing = ranked 4 2 1 1 (1 ∷ []) (0 ∷ []) (5 ∷ []) (7 ∷ []) (accepted (is 0 (0 ∷ [])))

-- P: "poly 1,1 has Rank 1."
abbrev pub one : WorkedLine
one = ranked 0 1 1 0 [] [] [] (7 ∷ 7 ∷ 7 ∷ []) (accepted (is 1 (0 ∷ 1 ∷ 7 ∷ [])))

abbrev pub table : List WorkedLine
table = three_products ∷ karatsuba ∷ four_products ∷ five_products ∷ right ∷ wrong_row ∷ list_one ∷ list_two ∷ list_formulae ∷ far ∷ nothing ∷ one ∷ []

-- The Catalogue's lines
held_catalogues : LineHolds three_products × LineHolds four_products × LineHolds five_products × LineHolds list_one × LineHolds list_two
unfolding bit digits_of top clear reduce norm place insert inserts basis_of dim rising_lists any_of only first_of_each same_vec same_basis inside generator
    chosen generators_in fits space entries kind_numbered within poly_sizes list_sizes wide zero_in form_of product_form pair_for target_form generator_count
    first_mask second_mask generator_form list_of generator_forms count_of target_forms repeats listed mapped shaped posed records flat fitting entry_listing
    catalogue_of catalogue
held_catalogues = (refl, refl, refl, refl, refl)

-- Check's lines
held_checks : LineHolds right × LineHolds wrong_row
unfolding bit kind_numbered within poly_sizes wide zero_in form_of product_form weight pair_for target_form product_forms row_form first_wrong any_of distinct adders_of
    lengths passed admit check
held_checks = (refl, refl)

-- Rank's lines
held_ranks : LineHolds far × LineHolds nothing × LineHolds one
unfolding bit digits_of top clear reduce norm place insert inserts basis_of dim rising_lists any_of only first_of_each same_vec same_basis inside generator
    chosen generators_in fits space entries formulae all_formulae gather total earlier precedes cheaper cheapest_from least_from missed fewest
    kind_numbered within poly_sizes list_sizes wide zero_in form_of
    product_form pair_for target_form generator_count first_mask second_mask generator_form list_of generator_forms count_of target_forms repeats listed
    mapped shaped posed unpriced prices generator_cost generator_costs priced_shape priced coefficient coefficients mask_of row_of formula_record ranking rank_for rank
held_ranks = (refl, refl, refl)

-- The lines of formulae
held_formulae : LineHolds karatsuba × LineHolds list_formulae
unfolding bit digits_of top clear reduce norm place insert inserts basis_of dim rising_lists any_of only same_vec same_basis inside generator chosen
    generators_in fits formulae kind_numbered within poly_sizes list_sizes wide zero_in form_of product_form pair_for target_form generator_count first_mask
    second_mask generator_form list_of generator_forms count_of target_forms repeats listed mapped shaped posed unpriced prices generator_cost generator_costs
    priced_shape priced coefficient coefficients mask_of row_of
    formula_record flat fitting is_entry space.formulae_listing formulae_for formulae_of
held_formulae = (refl, refl)

pub worked : (l : WorkedLine) → Memᴰ l table → LineHolds l
worked =
    mem_cons {P = LineHolds} held_catalogues.0
    (mem_cons {P = LineHolds} held_formulae.0
    (mem_cons {P = LineHolds} held_catalogues.1
    (mem_cons {P = LineHolds} held_catalogues.2
    (mem_cons {P = LineHolds} held_checks.0
    (mem_cons {P = LineHolds} held_checks.1
    (mem_cons {P = LineHolds} held_catalogues.3
    (mem_cons {P = LineHolds} held_catalogues.4
    (mem_cons {P = LineHolds} held_formulae.1
    (mem_cons {P = LineHolds} held_ranks.0
    (mem_cons {P = LineHolds} held_ranks.1
    (mem_cons {P = LineHolds} held_ranks.2 (λ l m. absurd (Memᴰ.not-nil m)))))))))))))
