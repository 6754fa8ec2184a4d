-- Document 01's examples of what is printed.
--   worked_right     `poly,2,2,0,3,right,-,4`
--   worked_wrong     `poly,2,2,0,3,wrong,1,3`
--   worked_refused   `refused 4`
-- Assumes nothing.
use Rattle.std.specs.Prelude.{◌≡◌, refl, [], ◌∷◌, ◌++◌}
use Rattle.kinds.specs.declared.Kind.TheVariants as kind
use Rattle.kinds.specs.Sizes.{shape_of}
use Rattle.printing.specs.Print.{numeral_text}
use Rattle.formula_check.specs.declared.verdicts.Verdict.TheVariants as verdict
use Rattle.check_text.specs.replies.CheckText.{check_names, check_text}
use Rattle.printing.specs.fields.Fields.{sizes_text}
use Rattle.printing.specs.fields.RefusedText.{refused_text}

pub worked_right : check_text (shape_of kind.Poly 2 2 0) 3 verdict.Right 4
    ≡ check_names ++ (112 ∷ 111 ∷ 108 ∷ 121 ∷ 44 ∷ 50 ∷ 44 ∷ 50 ∷ 44 ∷ 48 ∷ 44 ∷ 51 ∷ 44 ∷ 114 ∷ 105 ∷ 103 ∷ 104 ∷ 116 ∷ 44 ∷ 45 ∷ 44 ∷ 52 ∷ 10 ∷ [])
unfolding check_text sizes_text numeral_text
worked_right = refl

pub worked_wrong : check_text (shape_of kind.Poly 2 2 0) 3 (verdict.Wrong 1) 3
    ≡ check_names ++ (112 ∷ 111 ∷ 108 ∷ 121 ∷ 44 ∷ 50 ∷ 44 ∷ 50 ∷ 44 ∷ 48 ∷ 44 ∷ 51 ∷ 44 ∷ 119 ∷ 114 ∷ 111 ∷ 110 ∷ 103 ∷ 44 ∷ 49 ∷ 44 ∷ 51 ∷ 10 ∷ [])
unfolding check_text sizes_text numeral_text
worked_wrong = refl

pub worked_refused : refused_text 4 ≡ 114 ∷ 101 ∷ 102 ∷ 117 ∷ 115 ∷ 101 ∷ 100 ∷ 32 ∷ 52 ∷ 10 ∷ []
unfolding refused_text numeral_text
worked_refused = refl
