-- What is printed is read back.
--   print_then_read   reading the text of a formula that is not refused, into buffers with room for it, gives the formula back
-- Assumes nothing.
use Rattle.std.specs.Prelude.{ℕ, ◌≡◌, refl, false, ltb, length}
use Rattle.std.proofs.Common.{sym, ap, ◌∙◌, le-ltb}
use Rattle.kinds.specs.Limits.{most_products}
use Rattle.kinds.specs.Refusal.{accepted}
use Rattle.kinds.specs.laws.Sizes.{Bounds, sizes_bounds}
use Rattle.words.specs.laws.Masks.{wide_words}
use Rattle.formula_check.specs.Formula.{Admitted}
use Rattle.formula_files.specs.FormulaFile.{formula_file}
use Rattle.formula_files.specs.Sound.{Sound, BufferRoom}
use Rattle.formula_files.proofs.laws.FormulaFile.{judged_is}
use Rattle.formula_text.specs.FileText.{file_text}
use Rattle.round_trips.specs.formulae.laws.FileBack.{file_back}

pub print_then_read : (f : Admitted) (la lb lr : ℕ) → Sound f → BufferRoom f la lb lr → formula_file (file_text f) la lb lr ≡ accepted f
print_then_read f la lb lr S R =
    file_back f la lb lr S (wide_words f.n f.firsts B.fits.first_most S.narrow_firsts)
    (wide_words f.m f.seconds B.fits.second_most S.narrow_seconds)
    (wide_words (length f.firsts) f.rows S.few S.narrow_rows)
    ∙ (judged_is f.shape (length f.firsts) f.n f.m (length f.rows) la lb lr f.firsts f.seconds f.rows false false
    (rw (S.narrow_firsts, S.narrow_seconds, S.narrow_rows)) (rw (S.nonzero_firsts, S.nonzero_seconds)) refl (sym S.paired) refl 0
    (rw (
      le-ltb most_products (length f.firsts) S.few,
      le-ltb la (length f.firsts) R.for_firsts,
      room,
      le-ltb lr (length f.rows) R.for_rows,
    )) refl).0
  where
    B : Bounds f.n f.m (length f.rows)
    B = sizes_bounds f.shape (f.n, f.m, length f.rows) S.fits

    room : ltb lb (length f.firsts) ≡ false
    room = ap (ltb lb) S.paired ∙ le-ltb lb (length f.seconds) R.for_seconds
