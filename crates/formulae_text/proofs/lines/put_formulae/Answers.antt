-- `formulae_text::lines::put_formulae` meets its contract. Assumes nothing.
use Rattle.std.specs.Prelude.{◌+◌, ◌*◌, ◌≤◌, length}
use Rattle.std.proofs.Common.{arith}
use Rattle.formulae_text.specs.lines.FormulaLines.{formula_text}
use Rattle.printing.specs.record_lines.laws.Lines.{listing_start, inside_listing, listing_short, listing_next, listing_end}
use Rattle.formulae_text.proofs.lines.put_formulae.Goals as goal
use Rattle.formulae_text.proofs.lines.put_formulae.Goals.{In-loop-i}

-- the record of formula i is inside the listing
inside : (c : In-loop-i)
    → (c.loop-i.i * (c.args.k + c.args.t) + (c.args.k + c.args.t) ≤ length c.args.listing.now) × (length c.args.listing.now ≤ 1000000)
inside c =
    let args = c.args in
    inside_listing (formula_text args.entry) 46 args.listing.now args.k args.t args.n args.out.now args.at c.loop-i.i c.loop-i-test.true c.requires

pub loop-i-init : goal.loop-i-init
loop-i-init c =
    let args = c.args in
    listing_start (formula_text args.entry) 46 args.listing.now args.k args.t args.n args.out.now args.at

pub overflow_mul-s : goal.overflow_mul-s
overflow_mul-s c = omega (arith, inside c)

pub overflow_add-s-in-loop-i : goal.overflow_add-s-in-loop-i
overflow_add-s-in-loop-i c = omega (arith, inside (goal.at.overflow_add-s-in-loop-i c).In-loop-i)

pub offset_bounds-listing-s : goal.offset_bounds-listing-s
offset_bounds-listing-s c = omega (arith, inside (goal.at.offset_bounds-listing-s c).In-loop-i)

pub slice_bounds-put_formula-count : goal.slice_bounds-put_formula-count
slice_bounds-put_formula-count c = omega (arith, inside (goal.at.slice_bounds-put_formula-count c).In-loop-i)

pub slice_bounds-put_formula-start : goal.slice_bounds-put_formula-start
slice_bounds-put_formula-start c = omega (arith, inside (goal.at.slice_bounds-put_formula-start c).In-loop-i)

pub slice_bounds-put_formula-end : goal.slice_bounds-put_formula-end
slice_bounds-put_formula-end c = omega (arith, inside (goal.at.slice_bounds-put_formula-end c).In-loop-i)

pub overflow_add-s-in-loop-i-2 : goal.overflow_add-s-in-loop-i-2
overflow_add-s-in-loop-i-2 c = omega (arith, inside (goal.at.overflow_add-s-in-loop-i-2 c).In-loop-i)

pub overflow_add-s-in-loop-i-3 : goal.overflow_add-s-in-loop-i-3
overflow_add-s-in-loop-i-3 c = omega (arith, inside (goal.at.overflow_add-s-in-loop-i-3 c).In-loop-i)

pub overflow_add-s-in-loop-i-4 : goal.overflow_add-s-in-loop-i-4
overflow_add-s-in-loop-i-4 c = omega (arith, inside (goal.at.overflow_add-s-in-loop-i-4 c).In-loop-i)

pub offset_bounds-listing-s-in-loop-i : goal.offset_bounds-listing-s-in-loop-i
offset_bounds-listing-s-in-loop-i c = omega (arith, inside (goal.at.offset_bounds-listing-s-in-loop-i c).In-loop-i)

pub slice_bounds-put_formula-count-in-loop-i : goal.slice_bounds-put_formula-count-in-loop-i
slice_bounds-put_formula-count-in-loop-i c = omega (arith, inside (goal.at.slice_bounds-put_formula-count-in-loop-i c).In-loop-i)

pub slice_bounds-put_formula-start-in-loop-i : goal.slice_bounds-put_formula-start-in-loop-i
slice_bounds-put_formula-start-in-loop-i c = omega (arith, inside (goal.at.slice_bounds-put_formula-start-in-loop-i c).In-loop-i)

pub slice_bounds-put_formula-end-in-loop-i : goal.slice_bounds-put_formula-end-in-loop-i
slice_bounds-put_formula-end-in-loop-i c = omega (arith, inside (goal.at.slice_bounds-put_formula-end-in-loop-i c).In-loop-i)

pub put_formula-e-requires : goal.put_formula-e-requires
put_formula-e-requires c =
    let args = c.args in
    let loop = c.loop-i in
    listing_short (formula_text args.entry) 46 args.listing.now args.k args.t args.n args.out.now args.at 2000000000 loop.out loop.e loop.i
    (omega arith) (omega arith) loop.invariant c.loop-i-test.true c.requires

pub loop-i-preserved : goal.loop-i-preserved
loop-i-preserved c =
    let args = c.args in
    let pre = c.requires in
    let loop = c.loop-i in
    let loop-test = c.loop-i-test in
    let put-formula = c.put_formula-e in
    listing_next (formula_text args.entry) 46 args.listing.now args.k args.t args.n args.out.now args.at loop.out _ loop.e
    _ loop.i loop.invariant loop-test.true pre put-formula.ensures put-formula.auto.out

pub returns : goal.returns
returns c =
    let args = c.args in
    listing_end (formula_text args.entry) 46 args.listing.now args.k args.t args.n args.out.now args.at c.loop-i.out
    c.loop-i.e c.loop-i.i c.loop-i.invariant (omega arith)
