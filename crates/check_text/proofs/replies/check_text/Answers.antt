-- `check_text::replies::check_text` meets its contract. Assumes nothing.
use native.Mathlib.Omega.{arith}
use Rattle.printing.specs.fields.laws.Pieces.{page_part, page_told}
use Rattle.check_text.proofs.replies.check_text.Goals as goal

pub slice_bounds-deliver-end : goal.slice_bounds-deliver-end
slice_bounds-deliver-end c = page_part _ _ _ _ _ (omega arith) c.put_check-n.auto.out c.put_check-n.ensures

pub returns : goal.returns
returns c = page_told _ _ _ _ _ _ _ _ (omega arith) c.put_check-n.ensures
    c.deliver.ensures
