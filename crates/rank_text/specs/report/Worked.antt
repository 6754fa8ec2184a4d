-- An example of what Rank prints.
--   worked_rank_text        the four lines for `poly,2,2,0,0`
-- Assumes nothing.
use Rattle.std.specs.Prelude.{◌≡◌, refl, [], ◌∷◌, ◌++◌}
use Rattle.kinds.specs.declared.Kind.TheVariants as kind
use Rattle.kinds.specs.Sizes.{shape_of}
use Rattle.printing.specs.Print.{numeral_text}
use Rattle.printing.specs.fields.Fields.{sizes_text}
use Rattle.printing.specs.field_lists.Inner.{spaced_text, inner_text}
use Rattle.printing.specs.record_lines.RecordLines.{lists_text}
use Rattle.rank_text.specs.report.RankReports.{rank_head, rank_text}

pub worked_rank_text : rank_text (shape_of kind.Poly 2 2 0) 0 3 (0 ∷ 4 ∷ 8 ∷ []) (1 ∷ 7 ∷ 2 ∷ [])
    ≡ (107 ∷ 105 ∷ 110 ∷ 100 ∷ 44 ∷ 112 ∷ 44 ∷ 113 ∷ 44 ∷ 114 ∷ 44 ∷ 107 ∷ 44 ∷ 101 ∷ 108 ∷ 108 ∷ 44 ∷ 114 ∷ 97 ∷ 110 ∷ 107 ∷ 10 ∷ [])
    ++ (112 ∷ 111 ∷ 108 ∷ 121 ∷ 44 ∷ 50 ∷ 44 ∷ 50 ∷ 44 ∷ 48 ∷ 44 ∷ 48 ∷ 44 ∷ 51 ∷ 44 ∷ 51 ∷ 10 ∷ [])
    ++ (112 ∷ 114 ∷ 111 ∷ 100 ∷ 117 ∷ 99 ∷ 116 ∷ 115 ∷ 44 ∷ 114 ∷ 111 ∷ 119 ∷ 115 ∷ 10 ∷ [])
    ++ (48 ∷ 32 ∷ 52 ∷ 32 ∷ 56 ∷ 44 ∷ 49 ∷ 32 ∷ 55 ∷ 32 ∷ 50 ∷ 10 ∷ [])
unfolding numeral_text sizes_text spaced_text inner_text lists_text rank_head rank_text
worked_rank_text = refl
