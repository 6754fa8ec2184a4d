-- The text of a formula is read back.
--   file_back   the whole text, but for what 6 to 9 judge
-- Assumes nothing.
use Rattle.std.specs.Prelude.{ℕ, ◌^◌, ◌≡◌, Bool, cond, length, None, Some}
use Rattle.std.proofs.Common.{ap, ◌∙◌, arith}
use Rattle.kinds.specs.laws.Sizes.{map_few}
use Rattle.words.specs.laws.Masks.{AllBelow}
use Rattle.formula_text.specs.HeadText.{file_head}
use Rattle.round_trips.specs.formulae.laws.HeadBack.{head_back}
use Rattle.kinds.specs.Refusal.{follow}
use Rattle.formula_check.specs.Formula.{Admitted, passed, held_in}
use Rattle.formula_files.specs.FormulaFile.{formula_file}
use Rattle.formula_files.specs.Sound.{Sound}
use Rattle.formula_text.specs.BodyText.{body_text}
use Rattle.formula_text.specs.FileText.{file_text}
use Rattle.round_trips.specs.formulae.laws.BodyBack.{body_back}
use Rattle.formula_files.proofs.laws.FormulaFile.{file_rest, rest_judged}

pub file_back : (f : Admitted) (la lb lr : ℕ) → Sound f → AllBelow (2 ^ 64) f.firsts → AllBelow (2 ^ 64) f.seconds → AllBelow (2 ^ 64) f.rows
    → formula_file (file_text f) la lb lr
    ≡ follow (passed f.shape f.n f.m (length f.firsts) f.firsts f.seconds f.rows) (held_in la lb lr)
unfolding file_text
file_back f la lb lr S hx hy hz =
    let k = length f.firsts in
    let t = body_text f.firsts f.seconds f.rows in
    let kd = f.shape.kind in
    let p = f.shape.p in
    let q = f.shape.q in
    let r = f.shape.r in
    let F = map_few f.shape (f.n, f.m, length f.rows) S.not_list S.fits in
    file_rest (file_head f.shape k t) la lb lr (record { kind = Some kd; p = p; q = q; r = r; k = k }) t
    (head_back f.shape k t (omega (arith, F.first)) (omega (arith, F.second)) (omega (arith, F.third)) (omega (arith, S.few)))
    ∙ rest_judged (Some kd) p q r k t la lb lr kd (ap (λ (b : Bool). cond b None (Some kd)) S.not_list) f.n f.m (length f.rows)
    f.firsts f.seconds f.rows S.fits (body_back f.firsts f.seconds f.rows S.paired hx hy hz)
