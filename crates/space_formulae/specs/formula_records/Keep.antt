-- What is asked to keep a formula.
--   FormulaKeeping c targets t limit out == a choice with room that solves the targets, and counts in range
-- Assumes nothing.
use Rattle.std.specs.Prelude.{List, ℕ}
use Rattle.choices.specs.declared.Choice.{Choice}
use Rattle.choices.specs.Choice.{Whole, Solves, forms_of}
use Rattle.records.specs.declared.Tally.{Tally}
use Rattle.records.specs.Records.{Sane}
use Rattle.records.specs.Keep.{state_of}

pub record FormulaKeeping (c : Choice) (targets : List ℕ) (t : Tally) (limit : ℕ) (out : List ℕ) : Type 0 where
  pub whole : Whole c
  pub solves : Solves (forms_of c) targets
  pub sane : Sane limit (state_of t out)
