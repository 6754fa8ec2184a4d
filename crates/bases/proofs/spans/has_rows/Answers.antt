-- `bases::spans::has_rows` meets its contract. Assumes nothing.
use Rattle.std.proofs.lemmas.Bool.Decides.{same_from_decides, Decides-eqb}
use Rattle.std.proofs.lemmas.Slice.Eq.{slice_eq-Decides}
use Rattle.linear.specs.Entry.{same_basis}
use Rattle.linear.specs.Word.{word}
use Rattle.linear.proofs.laws.Entry.{same_basis_yes, same_yes}
use Rattle.bases.specs.Basis.{rows_of}
use Rattle.bases.proofs.spans.has_rows.Goals as goal

pub returns : goal.returns
returns c =
    let own = rows_of c.args.b in
    let rows = c.args.rows.now in
    same_from_decides _ (same_basis word own rows) (slice_eq-Decides Decides-eqb _ _ _ c.eq.ensures) (same_basis_yes word own rows, same_yes word own rows)
