-- A formula that is not refused from a file is none that is refused on numbers, and the other way round.
--   sound_handed   its lists, handed in, pass the tests
--   handed_sound   lists that pass them make one
--   sound_room     buffers of as many words as there may be products and targets take it
-- Assumes nothing.
use Rattle.std.specs.Prelude.{ℕ, refl, ◌||◌, List, length}
use Rattle.std.proofs.Common.{sym, ap, ap₂, ◌∙◌, subst, arith, le-ltb, ltb-false}
use Rattle.kinds.specs.Kinds.{number_of, kind_numbered_law}
use Rattle.kinds.specs.Limits.{most_products, most_targets}
use Rattle.kinds.specs.laws.Refusal.{neither}
use Rattle.kinds.specs.laws.Sizes.{sizes_bounds}
use Rattle.words.specs.Masks.{wide, zero_in}
use Rattle.formula_check.specs.Formula.{Admitted}
use Rattle.formula_check.proofs.laws.Admitted.{HandedSo}
use Rattle.formula_files.specs.Sound.{Sound, BufferRoom}

pub sound_handed : (f : Admitted) → Sound f
    → HandedSo (number_of f.shape.kind) f.shape.p f.shape.q f.shape.r (length f.firsts) f.firsts f.seconds f.rows f
sound_handed f S =
    record {
      kd = f.shape.kind;
      n = f.n;
      m = f.m;
      named = kind_numbered_law f.shape.kind;
      map = S.not_list;
      sized = S.fits;
      products = refl;
      pairs = sym S.paired;
      narrow = ap₂ ◌||◌ S.narrow_firsts (ap₂ ◌||◌ S.narrow_seconds S.narrow_rows);
      nonzero = ap₂ ◌||◌ S.nonzero_firsts S.nonzero_seconds;
      few = le-ltb most_products (length f.firsts) S.few;
      is = refl;
    }

pub handed_sound : (number p q r k : ℕ) (xs ys rows : List ℕ) (f : Admitted) → HandedSo number p q r k xs ys rows f → Sound f
handed_sound number p q r k xs ys rows f H =
    let a = neither (wide H.n xs) (wide H.m ys || wide k rows) H.narrow in
    let b = neither (wide H.m ys) (wide k rows) a.1 in
    let c = neither (zero_in xs) (zero_in ys) H.nonzero in
    subst Sound H.is (record {
      not_list = H.map;
      fits = H.sized;
      paired = H.products ∙ sym H.pairs;
      few = (let h = ltb-false most_products k H.few in let e = H.products in omega arith);
      narrow_firsts = a.0;
      narrow_seconds = b.0;
      narrow_rows = ap (λ (n : ℕ). wide n rows) H.products ∙ b.1;
      nonzero_firsts = c.0;
      nonzero_seconds = c.1;
    })

pub sound_room : (f : Admitted) → Sound f → BufferRoom f most_products most_products most_targets
sound_room f S =
    record {
      for_firsts = S.few;
      for_seconds = (let e = S.paired in let h = S.few in omega arith);
      for_rows = (sizes_bounds f.shape (f.n, f.m, length f.rows) S.fits).most_outputs;
    }
