-- `turn_program::turn_file` meets its contract. Assumes nothing.
use Rattle.std.proofs.Common.{sym, ◌∙◌}
use Rattle.std.specs.Prelude.{replicate}
use Rattle.formula_files.proofs.laws.FormulaFile.{left_refused}
use Rattle.formula_files.proofs.laws.Held.{read_held}
use Rattle.turn_program.specs.laws.Steps.{turn_unread, turn_barred, turn_stopped, held_full, turn_told}
use Rattle.turn_program.proofs.turn_file.Goals as goal

pub returns-in_default : goal.returns-in_default
returns-in_default c = left_refused _ _ _ _ _ _ _ _ (turn_unread c.args.s.now c.in_default.ensures.0)

pub returns-then-unfit-ne0 : goal.returns-then-unfit-ne0
returns-then-unfit-ne0 c =
    left_refused _ _ _ _ _ _ _ _ (turn_barred _ _ _ _ c.in-Some.ensures.0 c.turn_refusal-unfit.ensures c.if-unfit-ne0.true)

pub turn_read-requires : goal.turn_read-requires
turn_read-requires c =
    let read = c.read_formula in
    held_full _ _ _ _ c.in-Some.ensures.0 c.turn_refusal-unfit.ensures c.if-unfit-ne0.false _ _ _ _ _
    (read_held _ _ _ (replicate 64 0) (replicate 64 0) (replicate 64 0) _ _ _ (sym c.in-Formula.is ∙ read.ensures.0) read.ensures.1 read.ensures.2
    read.ensures.3)

pub returns-in-Refused : goal.returns-in-Refused
returns-in-Refused c =
    left_refused _ _ _ _ _ _ _ _
    (turn_stopped _ _ _ _ c.in-Some.ensures.0 c.turn_refusal-unfit.ensures c.if-unfit-ne0.false _ (sym c.in-Refused.is ∙ c.read_formula.ensures.0))

pub returns-in-Formula : goal.returns-in-Formula
returns-in-Formula c =
    let args = c.args in
    let read = c.read_formula in
    turn_told _ _ _ _ c.in-Some.ensures.0 c.turn_refusal-unfit.ensures c.if-unfit-ne0.false _ _ _ _ _
    (read_held _ _ _ (replicate 64 0) (replicate 64 0) (replicate 64 0) _ _ _ (sym c.in-Formula.is ∙ read.ensures.0) read.ensures.1 read.ensures.2
    read.ensures.3)
    c.turn_read.result args.u.now args.v.now args.w.now _ _ _ c.requires c.turn_read.ensures
