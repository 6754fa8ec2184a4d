-- `rank::fewest::least_formula` meets its contract: no number of dimensions below k has an entry. Assumes nothing.
use native.Mathlib.Omega.{arith}
use mathlib.Core.Path.{refl, ◌∙◌}
use Prim.Native.Nat.{◌+◌, ◌<◌}
use Rattle.rank.proofs.laws.of_fewest.Least.{looking_start, looking_next, looking_found, looking_none}
use Rattle.rank.proofs.fewest.least_formula.Goals as goal

pub least_products-bound-requires : goal.least_products-bound-requires
least_products-bound-requires c = c.requires.valid

pub overflow_add-k-end : goal.overflow_add-k-end
overflow_add-k-end c = let h = c.requires.valid.room in omega arith

pub loop-k-init : goal.loop-k-init
loop-k-init c = let a = c.args in (refl, looking_start a.gens.now a.b a.order.now a.prices.now)

pub meet-requires : goal.meet-requires
meet-requires c =
    let b = c.args.b in
    let A = c.requires in
    let l = c.loop-k in (
      record {
        small = A.small;
        valid = A.valid;
        least = l.invariant.1.from;
        near = (let h : l.k < b.len + 7 = omega arith in omega arith);
        priced = A.priced;
        by_price_law = A.by_price_law;
        room = omega (arith, l.invariant.0, A.room);
      },
      c.least_products-bound.ensures,
    )

pub shape_of-held-then-meet : goal.shape_of-held-then-meet
shape_of-held-then-meet c = c.meet.auto.held ∙ c.loop-k.invariant.0

pub returns-then-meet : goal.returns-then-meet
returns-then-meet c =
    let a = c.args in
    let l = c.loop-k in
    let F = c.meet in
    looking_found a.gens.now a.b a.order.now a.prices.now c.requires l.k l.invariant.1 (omega arith) F.result _ F.ensures c.if-meet.true

pub loop-k-preserved : goal.loop-k-preserved
loop-k-preserved c =
    let a = c.args in
    let l = c.loop-k in
    let F = c.meet in (
      F.auto.held ∙ l.invariant.0,
      looking_next a.gens.now a.b a.order.now a.prices.now c.requires l.k l.invariant.1 (omega arith) F.result _ F.ensures c.if-meet.false,
    )

pub shape_of-held : goal.shape_of-held
shape_of-held c = c.loop-k.invariant.0

pub returns : goal.returns
returns c =
    let a = c.args in
    let l = c.loop-k in
    looking_none a.gens.now a.b a.order.now a.prices.now l.k l.held l.invariant.1 (omega arith)
