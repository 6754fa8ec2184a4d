-- `formulae_program::first_part::too_short` meets its contract. Assumes nothing.
use mathlib.Core.Path.{sym, ap, ap₂}
use mathlib.Core.Bool.{Bool, ◌||◌}
use native.Mathlib.Omega.{arith}
use lib.Dec.{ltb}
use borrow.Author.Tests.{lt-ltb, le-ltb}
use Rattle.kinds.specs.Limits.{most_generators, most_targets}
use Rattle.formulae_program.proofs.first_part.too_short.Goals as goal

pub returns-then-c-lt-GENERATORS : goal.returns-then-c-lt-GENERATORS
returns-then-c-lt-GENERATORS c = sym (ap (λ (b : Bool). b || ltb c.args.u most_targets) (lt-ltb c.args.c most_generators c.if-c-lt-GENERATORS.true))

pub returns : goal.returns
returns c = sym (ap (λ (b : Bool). b || ltb c.args.u most_targets) (le-ltb c.args.c most_generators (omega (arith, c.if-c-lt-GENERATORS.false))))
