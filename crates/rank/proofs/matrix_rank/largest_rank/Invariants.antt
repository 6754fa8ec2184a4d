-- `rank::matrix_rank::largest_rank` meets its contract. Assumes nothing.
use Rattle.linear.specs.Span.{Span}
use Rattle.linear.specs.Word.{word}
use Rattle.bases.specs.Basis.{rows_of}
use Rattle.rank.specs.matrix_rank.Matrix.{Summed}
use Rattle.rank.proofs.matrix_rank.largest_rank.Given as goal

abbrev pub invariant-loop-t : goal.invariant-loop-t
invariant-loop-t l = Span word (rows_of l.b) l.sum × Summed l.b l.width l.best
