-- `bases::Basis::empty` meets its contract. Assumes nothing.
use Rattle.bases.proofs.Growing.{holds_empty}
use Rattle.bases.proofs.Basis.empty.Goals as goal

pub returns : goal.returns
returns c = holds_empty
