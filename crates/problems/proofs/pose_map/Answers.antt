-- `problems::pose_map` meets its contract. Assumes nothing.
use native.Mathlib.Omega.{arith}
use mathlib.Core.Path.{◌≡◌, ◌∙◌}
use Prim.Native.Nat.{◌≤◌}
use Rattle.std.specs.Prelude.{Some}
use Rattle.kinds.specs.laws.Sizes.{sizes_bounds}
use Rattle.maps.specs.Generators.{count_of}
use Rattle.problems.proofs.laws.Refusals.{counted}
use Rattle.problems.proofs.laws.Laying.{mapped_4_laid, mapped_by_laid, mapped_laid}
use Rattle.kinds.specs.Limits.{most_generators}
use Rattle.problems.proofs.pose_map.Goals as goal

pub returns-in_default : goal.returns-in_default
returns-in_default c =
    let args = c.args in
    let a = args in
    mapped_4_laid a.shape a.n a.m a.u a.gs.now a.ts.now a.others.now a.g.now a.t.now
    (c.generator_count.ensures ∙ c.in_default.is)

pub overflow_mul-n : goal.overflow_mul-n
overflow_mul-n c =
    let args = c.args in
    let pre = c.requires in
    let a = args in
    record { fits = omega (arith, (sizes_bounds a.shape (a.n, a.m, a.u) pre.1.sized).fits.product) }

pub returns-then-e-ne0 : goal.returns-then-e-ne0
returns-then-e-ne0 c =
    let args = c.args in
    let generator-count = c.generator_count in
    let a = args in
    mapped_by_laid a.shape a.n a.m a.u a.gs.now a.ts.now a.others.now a.g.now a.t.now
    c.in-Some.c c.map_refusal-e.result (generator-count.ensures ∙ c.in-Some.is)
    c.map_refusal-e.ensures c.if-e-ne0.true

pub fill_generators-requires : goal.fill_generators-requires
fill_generators-requires c =
    let args = c.args in
    let pre = c.requires in
    let generator-count = c.generator_count in
    let a = args in
    let C : count_of a.n a.m ≡ Some c.in-Some.c = generator-count.ensures ∙ c.in-Some.is in
    let f = counted a.n a.m c.in-Some.c C in
    let l : c.in-Some.c ≤ most_generators = f.1 in
    record { count = f.0; few = l; room = (let g = pre.0 in omega arith) }

pub returns : goal.returns
returns c =
    let args = c.args in
    let pre = c.requires in
    let generator-count = c.generator_count in
    let map-refusal = c.map_refusal-e in
    let if1 = c.if-e-ne0 in
    let fill-generators = c.fill_generators in
    let a = args in
    mapped_laid a.shape a.n a.m a.u a.gs.now a.ts.now a.others.now _ _ c.in-Some.c
    map-refusal.result (generator-count.ensures ∙ c.in-Some.is) map-refusal.ensures if1.false pre.1.sized
    fill-generators.ensures c.fill_targets.ensures
