-- `words::lists::repeats` meets its contract. Assumes nothing.
use mathlib.Core.Path.{◌≡◌}
use lib.ListN.{drop}
use Rattle.words.specs.lists.Lists.{repeats}
use Rattle.words.proofs.lists.repeats.Given as goal

abbrev pub invariant-loop-i : goal.invariant-loop-i
invariant-loop-i l = repeats (drop l.i l.xs) ≡ repeats l.xs
