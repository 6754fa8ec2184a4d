-- `rank::matrix_rank::largest_rank` meets its contract. Assumes nothing.
use native.Mathlib.Omega.{arith}
use Rattle.std.specs.Ordering.{ord_max, nat_cmp}
use Rattle.std.proofs.Common.{◌≡◌, ◌⊎◌, ⊎_elim, ℕ, sym, subst, ◌∙◌, rules}
use lib.Count.{trailing_le}
use Rattle.linear.specs.Word.{word}
use Rattle.linear.specs.laws.Span.{span_nul}
use Rattle.bases.specs.Basis.{rows_of}
use Rattle.rank.specs.matrix_rank.Matrix.{Summed}
use Rattle.rank.proofs.laws.of_matrix_rank.Loops.{summed_start}
use Rattle.rank.proofs.matrix_rank.largest_rank.Goals as goal

pub overflow_shl-end : goal.overflow_shl-end
overflow_shl-end c = omega (arith, c.requires.1)

pub loop-t-init : goal.loop-t-init
loop-t-init c = (span_nul word (rows_of c.args.b), summed_start c.args.b c.args.width)

pub overflow_cast-t : goal.overflow_cast-t
overflow_cast-t c = record { fits = omega (arith, trailing_le 64 c.loop-t.t) }

pub with_row-sum-requires : goal.with_row-sum-requires
with_row-sum-requires c = c.requires.0

pub rank_at-requires : goal.rank_at-requires
rank_at-requires c = c.requires.2

-- what `max` gives is one of the two
either : (a b : ℕ) → (ord_max nat_cmp a b ≡ a) ⊎ (ord_max nat_cmp a b ≡ b)
either a b = search rules

pub loop-t-preserved : goal.loop-t-preserved
loop-t-preserved c =
    let a = c.args in
    let l = c.loop-t in
    let w = c.with_row-sum in
    let r = c.rank_at in
    let s = w.ensures l.invariant.0 in (
      s,
      ⊎_elim
          (λ e. subst (Summed a.b a.width) (sym (c.max-best.ensures ∙ e)) l.invariant.1)
          (λ e. subst (Summed a.b a.width) (sym (c.max-best.ensures ∙ e)) (record { form = w.result; sum = s; rank = r.ensures }))
          (either l.best r.result),
    )

pub returns : goal.returns
returns c = c.loop-t.invariant.1
