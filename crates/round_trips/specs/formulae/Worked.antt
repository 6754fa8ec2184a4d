-- Document 01's Check case, as a file.
--   worked_file      its text, byte by byte
--   worked_reading   what reading it gives
-- Assumes nothing.
use Rattle.std.specs.Prelude.{◌≡◌, refl, List, [], ◌∷◌, ℕ}
use Rattle.kinds.specs.declared.Kind.TheVariants as kind
use Rattle.kinds.specs.Sizes.{shape_of, within, poly_sizes}
use Rattle.words.specs.Masks.{wide, zero_in}
use Rattle.text.specs.Numeral.{digits, numeral}
use Rattle.text.specs.Line.{cut, name_line, field}
use Rattle.text.specs.heads.Head.{count_fields, head_line, head_lines}
use Rattle.printing.specs.Print.{numeral_text}
use Rattle.formula_text.specs.HeadText.{fields_text, file_head}
use Rattle.formula_files.specs.lines.Formula.{product_line, products, rows, ended, body}
use Rattle.kinds.specs.Refusal.{accepted}
use Rattle.formula_check.specs.Formula.{Admitted, formula_of, passed, admit}
use Rattle.formula_files.specs.FormulaFile.{rest, formula_file}
use Rattle.formula_text.specs.BodyText.{products_text, rows_text, body_text}
use Rattle.formula_text.specs.FileText.{file_text}

-- `kind,p,q,r,k`, `poly,2,2,0,3`, `a,b`, `1,1`, `2,2`, `3,3`, `row`, `1`, `7`, `2`
abbrev pub worked_bytes : List ℕ
worked_bytes =
    107 ∷ 105 ∷ 110 ∷ 100 ∷ 44 ∷ 112 ∷ 44 ∷ 113 ∷ 44 ∷ 114 ∷ 44 ∷ 107 ∷ 10
    ∷ 112 ∷ 111 ∷ 108 ∷ 121 ∷ 44 ∷ 50 ∷ 44 ∷ 50 ∷ 44 ∷ 48 ∷ 44 ∷ 51 ∷ 10
    ∷ 97 ∷ 44 ∷ 98 ∷ 10 ∷ 49 ∷ 44 ∷ 49 ∷ 10 ∷ 50 ∷ 44 ∷ 50 ∷ 10 ∷ 51 ∷ 44 ∷ 51 ∷ 10
    ∷ 114 ∷ 111 ∷ 119 ∷ 10 ∷ 49 ∷ 10 ∷ 55 ∷ 10 ∷ 50 ∷ 10 ∷ []

abbrev pub worked_formula : Admitted
worked_formula = formula_of (shape_of kind.Poly 2 2 0) 2 2 (1 ∷ 2 ∷ 3 ∷ []) (1 ∷ 2 ∷ 3 ∷ []) (1 ∷ 7 ∷ 2 ∷ [])

pub worked_file : file_text worked_formula ≡ worked_bytes
unfolding file_text file_head fields_text body_text products_text rows_text numeral_text
worked_file = refl

pub worked_reading : formula_file worked_bytes 3 3 3 ≡ accepted worked_formula
unfolding formula_file rest admit passed body products rows ended product_line head_lines head_line count_fields name_line field cut numeral digits poly_sizes
    within wide zero_in
worked_reading = refl
