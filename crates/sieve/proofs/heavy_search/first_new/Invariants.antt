-- `sieve::heavy_search::first_new` meets its contract: no number so far is new by h and not in the child. Assumes nothing.
use mathlib.Core.List.{map}
use Rattle.linear.specs.Basis.{clear}
use Rattle.linear.specs.Word.{word}
use Rattle.sieve.specs.heavy_search.laws.Find.{Looking}
use Rattle.sieve.proofs.heavy_search.first_new.Given as goal

abbrev pub invariant-loop-j : goal.invariant-loop-j
invariant-loop-j l = Looking l.h (map (clear word l.x) l.d) l.start l.j
