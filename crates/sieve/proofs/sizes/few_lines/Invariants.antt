-- `sieve::sizes::few_lines` meets its contract: it goes from place to place as long as some may be left. Assumes nothing.
use Rattle.relations.specs.Relations.{Placed}
use Rattle.sieve.proofs.sizes.few_lines.Given as goal

abbrev pub invariant-loop : goal.invariant-loop
invariant-loop l = Placed l.gens l.v l.u l.heads l.links
