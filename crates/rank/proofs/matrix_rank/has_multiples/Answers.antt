-- `rank::matrix_rank::has_multiples` meets its contract. Assumes nothing.
use mathlib.Core.Path.{subst}
use mathlib.Core.Bool.{false≢true}
use mathlib.Core.List.{[], ◌∷◌}
use native.Mathlib.Omega.{arith}
use borrow.Author.Tests.{not-false}
use Rattle.linear.specs.Span.{Span}
use Rattle.linear.specs.Word.{word}
use Rattle.rank.proofs.laws.of_matrix_rank.Loops.{shorter, checking_start, checking_next, checking_end}
use Rattle.rank.proofs.matrix_rank.has_multiples.Goals as goal

pub loop-rest-init : goal.loop-rest-init
loop-rest-init c = checking_start c.args.width c.args.u c.args.form

pub lowest-requires : goal.lowest-requires
lowest-requires c = c.requires.within

pub returns-then-not-is_multiple : goal.returns-then-not-is_multiple
returns-then-not-is_multiple c e = absurd (false≢true e)

pub overflow_shr-rest : goal.overflow_shr-rest
overflow_shr-rest c = c.requires.within

pub loop-rest-smaller : goal.loop-rest-smaller
loop-rest-smaller c =
    shorter c.args.width c.loop-rest.rest c.requires c.loop-rest-test.true

pub loop-rest-preserved : goal.loop-rest-preserved
loop-rest-preserved c =
    let a = c.args in
    checking_next a.width a.u a.form c.loop-rest.rest c.loop-rest.invariant
    (subst (Span word (a.u ∷ [])) c.lowest.ensures (c.is_multiple.ensures (not-false _ c.if-not-is_multiple.false-raw)))

pub returns : goal.returns
returns c e =
    let a = c.args in
    checking_end a.width a.u a.form c.loop-rest.rest c.loop-rest.invariant (omega arith)
