-- `turn_program::turn_whole` meets its contract. Assumes nothing.
use mathlib.Core.Path.{refl, sym, ◌∙◌}
use lib.ListN.{replicate}
use Rattle.turn_program.specs.laws.Printing.{printed_long, printed_refused, turned_held, printed_formula}
use Rattle.turn_program.proofs.turn_whole.Goals as goal

pub returns-then-file-gt-FILE_BYTES : goal.returns-then-file-gt-FILE_BYTES
returns-then-file-gt-FILE_BYTES c =
    printed_long c.args.file.now _ _ c.if-file-gt-FILE_BYTES.true c.refused_page.ensures

pub print_formula-requires : goal.print_formula-requires
print_formula-requires c = (((let turn = c.turn_file in turned_held c.args.file.now _ _ (replicate 64 0) (replicate 64 0) (replicate 64 0) _ _ _ refl refl refl (sym c.in-Formula.is ∙ turn.ensures.0) turn.ensures.1)).ready, c.requires)

pub returns-in-Refused : goal.returns-in-Refused
returns-in-Refused c =
    printed_refused c.args.file.now _ _ _ c.if-file-gt-FILE_BYTES.false
    (sym c.in-Refused.is ∙ c.turn_file.ensures.0) c.refused_page-in-Refused.ensures

pub returns-in-Formula : goal.returns-in-Formula
returns-in-Formula c =
    printed_formula c.args.file.now _ _ _ _ _ _ _
    c.if-file-gt-FILE_BYTES.false ((let turn = c.turn_file in turned_held c.args.file.now _ _ (replicate 64 0) (replicate 64 0) (replicate 64 0) _ _ _ refl refl refl (sym c.in-Formula.is ∙ turn.ensures.0) turn.ensures.1)) c.print_formula.ensures
