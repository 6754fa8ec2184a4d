-- `relations::pairs::next_match` meets its contract: no pair of the chain so far is a match. Assumes nothing.
use Rattle.relations.specs.pairs.laws.Match.{Following}
use Rattle.relations.proofs.pairs.next_match.Given as goal

abbrev pub invariant-loop-p : goal.invariant-loop-p
invariant-loop-p l = Following l.gens l.s l.v l.base l.g l.y l.f l.e l.p

abbrev pub decreases-loop-p : goal.decreases-loop-p
decreases-loop-p l = l.p
