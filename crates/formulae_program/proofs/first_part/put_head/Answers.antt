-- `formulae_program::first_part::put_head` meets its contract. Assumes nothing.
use borrow.Author.Rules.{rules}
use Rattle.formulae_program.specs.first_part.laws.Start.{head_put}
use Rattle.formulae_program.proofs.first_part.put_head.Goals as goal

pub returns : goal.returns
returns c =
    let args = c.args in
    let counts = c.put_counts-a in
    head_put args.shape args.k args.ell args.found args.shown _ _ _ _ _ counts.ensures
    c.put_bytes.ensures
