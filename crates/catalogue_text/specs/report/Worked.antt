-- Document 01's example of what the Catalogue prints.
--   worked_catalogue_text   the six lines for `poly,2,3,0,5`
-- Assumes nothing.
use Rattle.std.specs.Prelude.{◌≡◌, refl, [], ◌∷◌, ◌++◌}
use Rattle.kinds.specs.declared.Kind.TheVariants as kind
use Rattle.kinds.specs.Sizes.{shape_of}
use Rattle.printing.specs.Print.{numeral_text}
use Rattle.printing.specs.fields.Fields.{sizes_text}
use Rattle.printing.specs.field_lists.Inner.{spaced_text, inner_text}
use Rattle.printing.specs.record_lines.RecordLines.{lists_text, entry_text, record_lines}
use Rattle.catalogue_text.specs.report.CatalogueReports.{counts_text, catalogue_text}

pub worked_catalogue_text : catalogue_text (shape_of kind.Poly 2 3 0) 5 4 3 3 (1 ∷ 32 ∷ 20 ∷ 8 ∷ 2 ∷ 1 ∷ 3 ∷ 32 ∷ 16 ∷ 10 ∷ 4 ∷ 1 ∷ 5 ∷ 32 ∷ 18 ∷ 10 ∷ 6 ∷ 1 ∷ [])
    ≡ (107 ∷ 105 ∷ 110 ∷ 100 ∷ 44 ∷ 112 ∷ 44 ∷ 113 ∷ 44 ∷ 114 ∷ 44 ∷ 107 ∷ 44 ∷ 101 ∷ 108 ∷ 108 ∷ 44 ∷ 102 ∷ 111 ∷ 117 ∷ 110 ∷ 100 ∷ 44 ∷ 115 ∷ 104 ∷ 111 ∷ 119 ∷ 110 ∷ 10 ∷ [])
    ++ (112 ∷ 111 ∷ 108 ∷ 121 ∷ 44 ∷ 50 ∷ 44 ∷ 51 ∷ 44 ∷ 48 ∷ 44 ∷ 53 ∷ 44 ∷ 52 ∷ 44 ∷ 51 ∷ 44 ∷ 51 ∷ 10 ∷ [])
    ++ (101 ∷ 110 ∷ 116 ∷ 114 ∷ 121 ∷ 44 ∷ 101 ∷ 120 ∷ 116 ∷ 101 ∷ 110 ∷ 115 ∷ 105 ∷ 111 ∷ 110 ∷ 44 ∷ 98 ∷ 97 ∷ 115 ∷ 105 ∷ 115 ∷ 10 ∷ [])
    ++ (48 ∷ 44 ∷ 49 ∷ 44 ∷ 50 ∷ 48 ∷ 32 ∷ 49 ∷ 52 ∷ 32 ∷ 56 ∷ 32 ∷ 50 ∷ 32 ∷ 49 ∷ 10 ∷ [])
    ++ (49 ∷ 44 ∷ 51 ∷ 44 ∷ 50 ∷ 48 ∷ 32 ∷ 49 ∷ 48 ∷ 32 ∷ 97 ∷ 32 ∷ 52 ∷ 32 ∷ 49 ∷ 10 ∷ [])
    ++ (50 ∷ 44 ∷ 53 ∷ 44 ∷ 50 ∷ 48 ∷ 32 ∷ 49 ∷ 50 ∷ 32 ∷ 97 ∷ 32 ∷ 54 ∷ 32 ∷ 49 ∷ 10 ∷ [])
unfolding numeral_text sizes_text spaced_text inner_text lists_text entry_text record_lines counts_text catalogue_text
worked_catalogue_text = refl
