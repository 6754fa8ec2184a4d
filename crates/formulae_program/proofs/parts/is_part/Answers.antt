-- `formulae_program::parts::is_part` meets its contract. Assumes nothing.
use borrow.Author.Rules.{rules}
use Rattle.formulae_program.specs.parts.laws.Parts.{counted_refused, counted_listed}
use Rattle.formulae_program.proofs.parts.is_part.Goals as goal

pub returns-in-Refused : goal.returns-in-Refused
returns-in-Refused c = counted_refused c.args.i c.in-Refused.is

pub returns-in-Listed : goal.returns-in-Listed
returns-in-Listed c = counted_listed c.args.i c.in-Listed.is
