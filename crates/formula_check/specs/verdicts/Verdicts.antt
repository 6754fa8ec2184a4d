-- The code's verdict, in the definitions' terms.
--   seen_verdict v == the first wrong output, if there is one
-- Assumes nothing.
use Rattle.std.specs.Prelude.{ℕ, Option, None, Some}
use Rattle.formula_check.specs.declared.verdicts.Verdict.{Verdict}
use Rattle.formula_check.specs.declared.verdicts.Verdict.TheVariants as verdict

abbrev pub seen_verdict : Verdict → Option ℕ
seen_verdict verdict.Right = None
seen_verdict (verdict.Wrong t) = Some t
