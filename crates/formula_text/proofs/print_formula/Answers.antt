-- `formula_text::print_formula` meets its contract. Assumes nothing.
use mathlib.Core.Path.{◌≡◌, ◌∙◌}
use Rattle.std.specs.Prelude.{None}
use Prim.Native.Nat.{ℕ}
use native.Mathlib.Omega.{arith}
use Rattle.kinds.specs.Sizes.{sizes}
use Rattle.formula_text.specs.laws.Held.{held_asked, held_whole}
use Rattle.formula_text.proofs.print_formula.Goals as goal

pub returns-in_default : goal.returns-in_default
returns-in_default c =
    let e = c.requires.0.sized in
    let f : sizes c.args.shape ≡ None = c.sizes_of.ensures ∙ c.in_default.is in
    absurd (let z : ◌≡◌ {A = ℕ} 0 1 = cc in omega arith)

pub put_formula-requires : goal.put_formula-requires
put_formula-requires c =
    let args = c.args in
    held_asked args.shape args.k args.a.now args.b.now args.rows.now c.requires.0 _ _ _ c.in-Some.ensures _ _ _ c.first_words.ensures
    c.first_words-2.ensures c.first_words-3.ensures

pub returns : goal.returns
returns c =
    let args = c.args in
    held_whole args.shape args.k args.a.now args.b.now args.rows.now c.requires.0 _ _ _ c.in-Some.ensures _ _ _ c.first_words.ensures
    c.first_words-2.ensures c.first_words-3.ensures _ _ _ c.requires.1
    c.put_formula.ensures
