-- The full product of 2 by 2 variables by three products, as a file, turned.
--   turn_worked    what is printed of it, byte by byte
--   worked_refused in the order of the refusals: of two lines only, circ 2,3 by 2, poly 2,3 by 3, poly 2,2 by 5; with the rows 1, 3, 2, which don't use the
--                  third product, by 12
-- Assumes nothing.
use Rattle.std.specs.Prelude.{◌≡◌, refl, List, [], ◌∷◌, ℕ}
use Rattle.linear.specs.Bit.{bit}
use Rattle.kinds.specs.declared.Kind.TheVariants as kind
use Rattle.kinds.specs.Sizes.{within, poly_sizes, mid_sizes, shape_of}
use Rattle.words.specs.Masks.{wide, zero_in}
use Rattle.text.specs.Numeral.{digits, numeral}
use Rattle.text.specs.Line.{cut, name_line, field}
use Rattle.text.specs.heads.Head.{count_fields, head_line, head_lines}
use Rattle.forms.specs.products.Product.{form_of}
use Rattle.maps.specs.Generators.{list_of}
use Rattle.formula_check.specs.Formula.{formula_of, passed, admit}
use Rattle.formula_files.specs.lines.Formula.{product_line, products, rows, ended, body}
use Rattle.formula_files.specs.FormulaFile.{rest, formula_file}
use Rattle.printing.specs.Print.{numeral_text}
use Rattle.printing.specs.fields.RefusedText.{refused_text}
use Rattle.formula_text.specs.HeadText.{fields_text, file_head}
use Rattle.formula_text.specs.BodyText.{products_text, rows_text, body_text}
use Rattle.formula_text.specs.FileText.{file_text}
use Rattle.round_trips.specs.formulae.Worked.{worked_bytes}
use Rattle.turning.specs.Turning.{turnable}
use Rattle.turn_program.specs.TurnFile.{turn_file}
use Rattle.turn_program.specs.TurnProgram.{turn_program}

-- `kind,p,q,r,k`, `mid,2,3,0,3`, `a,b`, `2,3`, `1,6`, `3,2`, `row`, `5`, `6`
abbrev pub turned_bytes : List ℕ
turned_bytes =
    107 ∷ 105 ∷ 110 ∷ 100 ∷ 44 ∷ 112 ∷ 44 ∷ 113 ∷ 44 ∷ 114 ∷ 44 ∷ 107 ∷ 10
    ∷ 109 ∷ 105 ∷ 100 ∷ 44 ∷ 50 ∷ 44 ∷ 51 ∷ 44 ∷ 48 ∷ 44 ∷ 51 ∷ 10
    ∷ 97 ∷ 44 ∷ 98 ∷ 10 ∷ 50 ∷ 44 ∷ 51 ∷ 10 ∷ 49 ∷ 44 ∷ 54 ∷ 10 ∷ 51 ∷ 44 ∷ 50 ∷ 10
    ∷ 114 ∷ 111 ∷ 119 ∷ 10 ∷ 53 ∷ 10 ∷ 54 ∷ 10 ∷ []

pub turn_worked : turn_program worked_bytes ≡ turned_bytes
unfolding turn_program turn_file turnable formula_file rest admit passed body products rows ended product_line head_lines head_line count_fields name_line field cut
    numeral digits poly_sizes mid_sizes within wide zero_in list_of form_of bit file_text file_head fields_text body_text products_text rows_text numeral_text
turn_worked = refl

pub worked_refused : (turn_program (file_head (shape_of kind.Circ 2 3 0) 1 []) ≡ refused_text 2)
    × (turn_program (file_head (shape_of kind.Poly 2 3 0) 1 []) ≡ refused_text 3)
    × (turn_program (file_head (shape_of kind.Poly 2 2 0) 1 []) ≡ refused_text 5)
    × (turn_program (file_text (formula_of (shape_of kind.Poly 2 2 0) 2 2 (1 ∷ 2 ∷ 3 ∷ []) (1 ∷ 2 ∷ 3 ∷ []) (1 ∷ 3 ∷ 2 ∷ []))) ≡ refused_text 12)
unfolding turn_program turn_file turnable formula_file rest admit passed body products rows ended product_line head_lines head_line count_fields name_line field cut
    numeral digits poly_sizes mid_sizes within wide zero_in list_of form_of bit file_text file_head fields_text body_text products_text rows_text numeral_text
worked_refused = (refl, refl, refl, refl)
