-- The length of a formula's text.
--   formula_fits   the text of a formula that is not refused fits a formula's page
-- That it is read back: print_then_read (round_trips). Assumes nothing.
use Rattle.std.specs.Prelude.{◌≤◌, length}
use Rattle.kinds.specs.laws.Sizes.{sizes_bounds}
use Rattle.formula_check.specs.Formula.{Admitted}
use Rattle.formula_files.specs.Sound.{Sound}
use Rattle.printing.specs.refusals.Pages.{formula_page}
use Rattle.formula_text.specs.FileText.{file_text}
use Rattle.formula_text.specs.laws.Formula.{text_most}

pub formula_fits : (f : Admitted) → Sound f → length (file_text f) ≤ formula_page
unfolding file_text
formula_fits f S =
    text_most f.shape f.firsts f.seconds f.rows S.few (sizes_bounds f.shape (f.n, f.m, length f.rows) S.fits).most_outputs
