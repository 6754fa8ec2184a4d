-- `catalogue::catalogue_of` meets its contract. Assumes nothing.
use native.Mathlib.Omega.{arith}
use Rattle.bases.specs.Basis.{based_dim}
use Rattle.catalogue.proofs.laws.Replies.{given_far, given_near}
use Rattle.catalogue.proofs.catalogue_of.Goals as goal

pub returns-then-k-ell : goal.returns-then-k-ell
returns-then-k-ell c =
    let args = c.args in
    let basis-of = c.basis_of-b in
    given_far args.gens.now args.targets.now args.k args.out.now
    (let d = based_dim args.targets.now basis-of.result basis-of.ensures in let h = c.if-k-ell.true in omega arith)

pub list_entries-l-requires : goal.list_entries-l-requires
list_entries-l-requires c =
    record {
      small = c.requires;
      valid = c.basis_of-b.ensures.valid;
      near = (let h = c.if-k-ell.false in omega arith);
    }

pub returns : goal.returns
returns c =
    let args = c.args in
    let basis-of = c.basis_of-b in
    let pre = c.requires in
    let if1 = c.if-k-ell in
    let list-entries = c.list_entries-l in
    given_near args.gens.now args.targets.now args.k args.out.now pre
    (let d = based_dim args.targets.now basis-of.result basis-of.ensures in let h = if1.false in omega arith) list-entries.result _
    (list-entries.ensures args.targets.now basis-of.ensures)
