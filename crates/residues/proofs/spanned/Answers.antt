-- `residues::spanned` meets its contract: the rows made from the empty basis are the dimension. Assumes nothing.
use mathlib.Core.Path.{ap}
use Prim.Native.Nat.{ℕ}
use lib.Dec.{eqb}
use Rattle.bases.specs.Basis.{based_dim}
use Rattle.residues.specs.children.Residues.{with_residue}
use Rattle.residues.proofs.laws.Held.{from_empty}
use Rattle.residues.proofs.spanned.Goals as goal

pub with_residue-requires : goal.with_residue-requires
with_residue-requires c = (c.empty.ensures.valid, c.requires)

pub returns : goal.returns
returns c =
    let args = c.args in
    let the_empty = c.empty in
    let xs = with_residue 0 args.gens.now args.h.now in
    let r = c.with_residue.result in
    ap (λ (n : ℕ). eqb n args.k) (based_dim xs r (from_empty xs the_empty.result r the_empty.ensures c.with_residue.ensures))
