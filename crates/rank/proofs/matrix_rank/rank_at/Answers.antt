-- `rank::matrix_rank::rank_at` meets its contract. Assumes nothing.
use mathlib.Core.Path.{subst}
use Prim.Native.Nat.{ℕ}
use Rattle.linear.specs.Basis.{insert}
use Rattle.linear.specs.Word.{word}
use Rattle.bases.specs.Basis.{rows_of, Holds}
use Rattle.rank.proofs.laws.of_matrix_rank.Loops.{shorter, cutting_start, cutting_next, cutting_end}
use Rattle.rank.proofs.matrix_rank.rank_at.Goals as goal

pub loop-rest-init : goal.loop-rest-init
loop-rest-init c = cutting_start c.args.width c.args.form c.empty-b.result c.empty-b.ensures

pub lowest-requires : goal.lowest-requires
lowest-requires c = c.requires.within

pub insert-b-requires : goal.insert-b-requires
insert-b-requires c = c.loop-rest.invariant.valid

pub overflow_shr-rest : goal.overflow_shr-rest
overflow_shr-rest c = c.requires.within

pub loop-rest-smaller : goal.loop-rest-smaller
loop-rest-smaller c =
    shorter c.args.width c.loop-rest.rest c.requires c.loop-rest-test.true

pub loop-rest-preserved : goal.loop-rest-preserved
loop-rest-preserved c =
    let a = c.args in
    let l = c.loop-rest in
    let B = subst (λ (x : ℕ). Holds (insert word (rows_of l.b) x) c.insert-b.result) c.lowest.ensures c.insert-b.ensures in
    cutting_next a.width a.form l.b l.rest l.invariant c.insert-b.result B

pub returns : goal.returns
returns c = let l = c.loop-rest in cutting_end c.args.width c.args.form l.b l.rest l.invariant
