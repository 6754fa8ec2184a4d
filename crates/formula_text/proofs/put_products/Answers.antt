-- `formula_text::put_products` meets its contract. Assumes nothing.
use Rattle.std.specs.Prelude.{◌≡◌, ◌+◌, [], ◌∷◌, ◌++◌, length}
use Rattle.std.proofs.Common.{arith, length-append}
use Rattle.std.proofs.lemmas.Slice.Zip.{zip_turn, zip_end}
use Rattle.formula_text.specs.BodyText.{products_text}
use Rattle.formula_text.specs.laws.Rest.{rest_start}
use Rattle.formula_text.specs.laws.Loops.{products_next, products_place, products_end}
use Rattle.formula_text.proofs.put_products.Goals as goal

pub loop-x-init : goal.loop-x-init
loop-x-init c = rest_start c.args.out.now c.args.at (products_text c.args.xs.now c.args.ys.now [])

pub put_product-e-requires : goal.put_product-e-requires
put_product-e-requires c =
    let loop = c.loop-x in
    let args = c.args in
    let place = products_place args.xs.now args.ys.now args.out.now args.at c.requires.0 loop.out loop.e (length loop.yielded) loop.invariant in
    omega (arith, place)

pub loop-x-preserved : goal.loop-x-preserved
loop-x-preserved c =
    let loop = c.loop-x in
    let xs = c.args.xs.now in
    let ys = c.args.ys.now in
    let turn = zip_turn xs ys loop.yielded c.into_iter-x-iterator.result loop.x-iterator c.next.new.self _ (cc) (cc)
    loop.yielded_by _ c.in-Some.is c.next.ensures.steps in
    let e : length (loop.yielded ++ ((c.in-Some.x, c.in-Some.y) ∷ [])) ≡ length loop.yielded + 1 =
    length-append loop.yielded ((c.in-Some.x, c.in-Some.y) ∷ []) in
    rw e
    (products_next xs ys c.args.out.now c.args.at c.requires.0 loop.out _ loop.e _ (length loop.yielded) turn.0 loop.invariant
    (rw (← turn.2 0, ← turn.3 0) c.put_product-e.ensures))

pub returns : goal.returns
returns c =
    let loop = c.loop-x in
    let xs = c.args.xs.now in
    let ys = c.args.ys.now in
    let n = zip_end xs ys loop.yielded c.into_iter-x-iterator.result loop.x-iterator c.next.new.self _ (cc) (cc)
    loop.yielded_by c.in-None.is c.next.ensures.steps in
    products_end xs ys c.args.out.now c.args.at c.requires.0 loop.out loop.e (length loop.yielded) (omega (arith, n)) loop.invariant
