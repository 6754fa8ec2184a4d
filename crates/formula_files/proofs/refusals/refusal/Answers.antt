-- `formula_files::refusals::refusal` meets its contract. Assumes nothing.
use mathlib.Core.Path.{◌≡◌, refl, sym, ap, ◌∙◌}
use mathlib.Core.Bool.{Bool, true, false, ◌||◌, cond}
use Prim.Native.Nat.{ℕ}
use native.Mathlib.Omega.{arith}
use lib.Dec.{ltb}
use Rattle.kinds.specs.Limits.{most_products}
use Rattle.formula_files.specs.refusals.Number.{number}
use Rattle.formula_files.proofs.refusals.refusal.Goals as goal

-- one of 6 to 8 applies, or none does
stops : (w z a s : Bool) (e : ℕ) → e ≡ cond w 6 (cond z 7 (cond a 8 0)) → (e ≡ 0 → ⊥) → e ≡ number w z a s
stops true z a s e h n = h
stops false true a s e h n = h
stops false false true s e h n = h
stops false false false s e h n = absurd (n h)

goes : (w z a s : Bool) → ◌≡◌ {A = ℕ} (cond w 6 (cond z 7 (cond a 8 0))) 0 → ◌≡◌ {A = ℕ} (cond s 9 0) (number w z a s)
goes true z a s h = absurd (omega arith)
goes false true a s h = absurd (omega arith)
goes false false true s h = absurd (omega arith)
goes false false false s h = refl

pub returns-then-e-ne0 : goal.returns-then-e-ne0
returns-then-e-ne0 c =
    let args = c.args in
    stops args.wide args.zero (ltb most_products args.k) (ltb args.la args.k || (ltb args.lb args.k || ltb args.lr args.t))
    c.refusal-e.result c.refusal-e.ensures c.if-e-ne0.true

pub returns-then-too_short : goal.returns-then-too_short
returns-then-too_short c =
    let args = c.args in
    ap (λ (t : Bool). let n : ℕ = cond t 9 0 in n) (sym c.if-too_short.true ∙ c.too_short.ensures)
    ∙ goes args.wide args.zero (ltb most_products args.k) (ltb args.la args.k || (ltb args.lb args.k || ltb args.lr args.t))
    (sym c.refusal-e.ensures ∙ omega (arith, c.if-e-ne0.false))

pub returns-else-too_short : goal.returns-else-too_short
returns-else-too_short c =
    let args = c.args in
    ap (λ (t : Bool). let n : ℕ = cond t 9 0 in n) (sym c.if-too_short.false ∙ c.too_short.ensures)
    ∙ goes args.wide args.zero (ltb most_products args.k) (ltb args.la args.k || (ltb args.lb args.k || ltb args.lr args.t))
    (sym c.refusal-e.ensures ∙ omega (arith, c.if-e-ne0.false))
