-- `formula_files::read_under` meets its contract. Assumes nothing.
use Rattle.formula_files.specs.lines.laws.Told.{body_told, body_none}
use Rattle.formula_files.proofs.laws.FormulaFile.{under_none, under_told}
use Rattle.formula_files.proofs.read_under.Goals as goal

pub returns-in_default : goal.returns-in_default
returns-in_default c =
    under_none _ _ _ _ c.args.s.now _ _ _ _ _ _
    (body_none _ _ _ _ c.args.s.now _ _ _ c.in_default.ensures)

pub returns : goal.returns
returns c =
    under_told _ _ _ _ c.args.s.now _ _ _ _ _ _ _ _ _ _ _ _
    (body_told _ _ _ _ c.args.s.now _ _ _ _ _ _ _ _ c.in-Some.ensures)
    c.read_body.auto.a c.read_body.auto.b c.read_body.auto.d c.refusal.ensures
