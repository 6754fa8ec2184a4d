-- `maps::sum_of_pairs` meets its contract: after s turns the form has its coordinates below s. Assumes nothing.
use Rattle.maps.proofs.Pairing.{Summing}
use Rattle.maps.proofs.sum_of_pairs.Given as goal

abbrev pub invariant-loop-s : goal.invariant-loop-s
invariant-loop-s l = Summing l.shape l.n l.m l.t l.form l.s
