-- What the Turn program prints means, from the bytes on. To be read from top to bottom.
--   turn_on_numbers   the turning of a file that is read as a formula is that of the formula on numbers (turning), refused or not
--   turn_then_read    what is printed of a file that is turned is read by Check's reader as the turned formula
--   turn_right        which is right, at every input, exactly if the formula of the file is
--   turn_refused      a file is refused by 1, 2, 3, 5 to 8 or 12 and by no other number: 9 never applies
--   turn_read_enough  what the program reads of an input, at most 65,537 bytes, is answered as the whole input
-- The definitions: turn_file, turning_of (TurnFile), turn_program (TurnProgram), formula_file (formula_files), RightFormula (formula_check, meaning). What the
-- turned formula is: turned_order (turning). Worked: Worked. Assumes nothing.
use Rattle.std.specs.Prelude.{◌≡◌, refl, true, List, [], ◌∷◌, ◌↔◌, ℕ, length, take, eqb}
use Rattle.std.proofs.Common.{sym, ◌∙◌, subst, arith}
use Rattle.linear.specs.Select.{any_of}
use Rattle.kinds.specs.Kinds.{number_of}
use Rattle.kinds.specs.Limits.{most_products, most_targets}
use Rattle.kinds.specs.Refusal.{refused, accepted, follow}
use Rattle.kinds.specs.laws.Refusal.{refused_only}
use Rattle.text.specs.Limits.{input_room}
use Rattle.text.specs.laws.Enough.{read_enough}
use Rattle.printing.specs.fields.RefusedText.{refused_text}
use Rattle.printing.specs.refusals.Pages.{answer_text}
use Rattle.formula_text.specs.FileText.{file_text}
use Rattle.formula_check.specs.Formula.{Admitted}
use Rattle.formula_check.specs.meaning.Meaning.{RightFormula}
use Rattle.formula_files.specs.FormulaFile.{formula_file}
use Rattle.formula_files.specs.AcceptedSound.{formula_accepted_sound}
use Rattle.formula_files.proofs.Theorems.{sound_admitted}
use Rattle.round_trips.specs.formulae.PrintThenRead.{print_then_read}
use Rattle.round_trips.specs.formulae.AcceptedOnly.{formula_accepted_short}
use Rattle.turning.proofs.Theorems.{turned_right}
use Rattle.turn_program.specs.TurnFile.{turn_file, turning_of}
use Rattle.turn_program.specs.TurnProgram.{turn_program}
use Rattle.turn_program.specs.laws.Numbers.{turning_read, read_first, turned_sound, turn_only}
use Rattle.turn_program.specs.laws.Printing.{program_short}

pub turn_on_numbers : (s : List ℕ) (f : Admitted) → formula_file s most_products most_products most_targets ≡ accepted f → turn_file s ≡ turning_of f
turn_on_numbers = turning_read

-- "gijpsando turn F | gijpsando check" answers
pub turn_then_read : (s : List ℕ) (g : Admitted) → turn_file s ≡ accepted g → formula_file (turn_program s) most_products most_products most_targets ≡ accepted g
turn_then_read s g e =
    let R = read_first s g e in
    let l = formula_accepted_short s most_products most_products most_targets R.0 R.1 in
    let S = turned_sound s g e in
    subst (λ (t : List ℕ). formula_file t most_products most_products most_targets ≡ accepted g) (program_short s (accepted g) (omega arith) e)
    (print_then_read g most_products most_products most_targets S.0 S.1)

-- Document 02: "The new formula is right exactly if the old one is."
pub turn_right : (s : List ℕ) (f g : Admitted) → formula_file s most_products most_products most_targets ≡ accepted f → turn_file s ≡ accepted g
    → RightFormula f ↔ RightFormula g
turn_right s f g e t =
    turned_right (number_of f.shape.kind) f.shape.p f.shape.q f.shape.r (length f.firsts) f.firsts f.seconds f.rows
    most_products most_products most_targets g (sym (turning_read s f e) ∙ t) f
    ((sound_admitted f).0 (formula_accepted_sound s most_products most_products most_targets f e).0)

pub turn_refused : (s : List ℕ) (e : ℕ) → turn_file s ≡ refused e → any_of (eqb e) (1 ∷ 2 ∷ 3 ∷ 5 ∷ 6 ∷ 7 ∷ 8 ∷ 12 ∷ []) ≡ true
unfolding any_of
turn_refused s e =
    let P : ℕ → Type 0 = λ e. any_of (eqb e) (1 ∷ 2 ∷ 3 ∷ 5 ∷ 6 ∷ 7 ∷ 8 ∷ 12 ∷ []) ≡ true in
    refused_only P (turn_only P s refl refl refl refl refl refl refl refl)

-- "in a program, also an input of more than 65,536 bytes"
pub turn_read_enough : (s : List ℕ) → turn_program (take input_room s) ≡ turn_program s
unfolding turn_program
turn_read_enough s = read_enough (refused_text 1) (λ t. answer_text (follow (turn_file t) λ g. accepted (file_text g))) s
