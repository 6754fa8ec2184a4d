-- A formula that is not refused.
--   Sound f             == a kind that is not list, sizes that fit, as many second factors as first ones and as many rows as outputs, at most 64 products,
--                          factors within n and m bits and not zero, rows within as many bits as there are products
--   BufferRoom f la lb lr == the lent buffers take its products and rows
-- Assumes nothing.
use Rattle.std.specs.Prelude.{ℕ, ◌≤◌, ◌≡◌, false, length, Some}
use Rattle.kinds.specs.Kinds.{is_list}
use Rattle.kinds.specs.Limits.{most_products}
use Rattle.kinds.specs.Sizes.{sizes}
use Rattle.words.specs.Masks.{wide, zero_in}
use Rattle.formula_check.specs.Formula.{Admitted}

pub record Sound (f : Admitted) : Type 0 where
  pub not_list : is_list f.shape.kind ≡ false
  pub fits : sizes f.shape ≡ Some (f.n, f.m, length f.rows)
  pub paired : length f.firsts ≡ length f.seconds
  pub few : length f.firsts ≤ most_products
  pub narrow_firsts : wide f.n f.firsts ≡ false
  pub narrow_seconds : wide f.m f.seconds ≡ false
  pub narrow_rows : wide (length f.firsts) f.rows ≡ false
  pub nonzero_firsts : zero_in f.firsts ≡ false
  pub nonzero_seconds : zero_in f.seconds ≡ false

pub record BufferRoom (f : Admitted) (la lb lr : ℕ) : Type 0 where
  pub for_firsts : length f.firsts ≤ la
  pub for_seconds : length f.seconds ≤ lb
  pub for_rows : length f.rows ≤ lr
