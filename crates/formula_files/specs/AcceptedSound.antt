-- What is accepted is sound.
--   formula_accepted_sound   a formula that is read is one that is not refused, and the lent buffers take it
-- Assumes nothing.
use Rattle.std.specs.Prelude.{ℕ, ◌≤◌, ◌≡◌, List, ◌||◌, ltb, length, Some}
use Rattle.std.proofs.Common.{sym, ap, ◌∙◌, subst, ltb-false}
use Rattle.kinds.specs.Limits.{most_products}
use Rattle.kinds.specs.Refusal.{accepted}
use Rattle.kinds.specs.laws.Refusal.{neither}
use Rattle.words.specs.Masks.{wide, zero_in}
use Rattle.formula_check.specs.Formula.{Admitted, formula_of}
use Rattle.formula_files.specs.lines.laws.Told.{body_lengths}
use Rattle.formula_files.specs.FormulaFile.{formula_file}
use Rattle.formula_files.specs.Sound.{Sound, BufferRoom}
use Rattle.formula_files.specs.laws.Accepted.{file_inv}
use Rattle.kinds.specs.Sizes.{shape_of}

pub formula_accepted_sound : (s : List ℕ) (la lb lr : ℕ) (f : Admitted) → formula_file s la lb lr ≡ accepted f → Sound f × BufferRoom f la lb lr
formula_accepted_sound s la lb lr f e =
    let G = file_inv s la lb lr f e in
    let A = G.so in
    let k = G.head.k in
    let xs = A.l.0 in
    let ys = A.l.1 in
    let zs = A.l.2 in
    let l = body_lengths k A.u G.text xs ys zs A.listed in
    let a = neither (wide A.n xs) (wide A.m ys || wide k zs) A.narrow in
    let b = neither (wide A.m ys) (wide k zs) a.1 in
    let c = neither (zero_in xs) (zero_in ys) A.nonzero in
    let S : Sound (formula_of (shape_of A.kd G.head.p G.head.q G.head.r) A.n A.m xs ys zs) =
    record {
      not_list = A.is_map;
      fits = A.sized ∙ ap (λ (t : ℕ). Some (A.n, A.m, t)) (sym l.2);
      paired = l.0 ∙ sym l.1;
      few = subst (λ (n : ℕ). n ≤ most_products) (sym l.0) (ltb-false most_products k A.few);
      narrow_firsts = a.0;
      narrow_seconds = b.0;
      narrow_rows = ap (λ (n : ℕ). wide n zs) l.0 ∙ b.1;
      nonzero_firsts = c.0;
      nonzero_seconds = c.1;
    } in
    let x = neither (ltb la (length f.firsts)) (ltb lb (length f.seconds) || ltb lr (length f.rows)) G.room in
    let y = neither (ltb lb (length f.seconds)) (ltb lr (length f.rows)) x.1 in (
      subst Sound A.is S,
      record { for_firsts = ltb-false la (length f.firsts) x.0; for_seconds = ltb-false lb (length f.seconds) y.0; for_rows = ltb-false lr (length f.rows) y.1 },
    )
