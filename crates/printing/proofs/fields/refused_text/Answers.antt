-- `printing::fields::refused_text` meets its contract. Assumes nothing.
use native.Mathlib.Omega.{arith}
use Rattle.printing.specs.fields.laws.Pieces.{page_part, page_told}
use Rattle.printing.proofs.fields.refused_text.Goals as goal

pub slice_bounds-deliver-end : goal.slice_bounds-deliver-end
slice_bounds-deliver-end c = page_part _ _ _ _ _ (omega arith) c.put_refused-e.auto.out c.put_refused-e.ensures

pub returns : goal.returns
returns c = page_told _ _ _ _ _ _ _ _ (omega arith) c.put_refused-e.ensures
    c.deliver.ensures
