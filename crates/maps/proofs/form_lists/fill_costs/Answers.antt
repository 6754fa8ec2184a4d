-- `maps::form_lists::fill_costs` meets its contract. Assumes nothing.
use native.Mathlib.Omega.{arith}
use mathlib.Core.Path.{refl, sym, ap, ◌∙◌}
use lib.ListN.{length-set}
use Rattle.maps.specs.Generators.{list_of}
use Rattle.maps.specs.Costs.{generator_cost, generator_costs}
use Rattle.maps.specs.form_lists.laws.Filling.{listed_none, listed_next, listed_end}
use Rattle.maps.proofs.Counting.{numbered_mask}
use Rattle.maps.proofs.form_lists.fill_costs.Goals as goal

pub loop-i-init : goal.loop-i-init
loop-i-init c = let a = c.args in (refl, listed_none (generator_cost a.m) a.c a.out.now)

pub generator_cost-requires : goal.generator_cost-requires
generator_cost-requires c =
    let a = c.args in
    let pre = c.requires in
    numbered_mask a.n a.m c.loop-i.i
    (record { below = (let e = pre.count in omega arith); few = (let e = pre.count in let f = pre.few in omega arith) })

pub offset_bounds-out-i : goal.offset_bounds-out-i
offset_bounds-out-i c = let f = c.requires.few in omega arith

pub bounds-out-i : goal.bounds-out-i
bounds-out-i c = let f = c.requires.room in omega arith

pub loop-i-preserved : goal.loop-i-preserved
loop-i-preserved c =
    let args = c.args in
    let pre = c.requires in
    let a = args in
    let l = c.loop-i in
    let f = pre.room in (
      length-set l.out l.i c.generator_cost.result ∙ l.invariant.0,
      listed_next (generator_cost a.m) l.i a.c c.generator_cost.result l.out (list_of (generator_cost a.m) 0 a.c)
          (omega arith) (omega arith) c.generator_cost.ensures l.invariant.1,
    )

pub shape_of-out : goal.shape_of-out
shape_of-out c = c.loop-i.invariant.0

pub returns : goal.returns
unfolding generator_costs
returns c =
    let a = c.args in
    let l = c.loop-i in
    listed_end (generator_cost a.m) l.i a.c l.out (list_of (generator_cost a.m) 0 a.c) (omega arith) (omega arith) l.invariant.1
    ∙ ap (list_of (generator_cost a.m) 0) (sym c.requires.count)
