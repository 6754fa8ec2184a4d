-- `maps::form_lists::fill_targets` meets its contract. Assumes nothing.
use native.Mathlib.Omega.{arith}
use mathlib.Core.Path.{refl, ◌∙◌}
use lib.ListN.{length-set}
use Rattle.kinds.specs.laws.Sizes.{sizes_bounds}
use Rattle.maps.specs.Generators.{list_of}
use Rattle.maps.specs.Target.{target_form}
use Rattle.maps.specs.form_lists.laws.Filling.{listed_none, listed_next, listed_end}
use Rattle.maps.proofs.form_lists.fill_targets.Goals as goal

pub loop-i-init : goal.loop-i-init
loop-i-init c = let a = c.args in (refl, listed_none (target_form a.shape a.n a.m) a.u a.t.now)

pub target-requires : goal.target-requires
target-requires c = record { outputs = c.args.u; sized = c.requires.sized; asked = omega arith }

pub offset_bounds-t-i : goal.offset_bounds-t-i
offset_bounds-t-i c =
    let args = c.args in
    let pre = c.requires in
    let a = args in let b = (sizes_bounds a.shape (a.n, a.m, a.u) pre.sized).most_outputs in omega arith

pub bounds-t-i : goal.bounds-t-i
bounds-t-i c =
    let args = c.args in
    let pre = c.requires in
    let a = args in
    let b = (sizes_bounds a.shape (a.n, a.m, a.u) pre.sized).most_outputs in
    let f = pre.room in
    omega arith

pub loop-i-preserved : goal.loop-i-preserved
loop-i-preserved c =
    let args = c.args in
    let pre = c.requires in
    let a = args in
    let l = c.loop-i in
    let b = (sizes_bounds a.shape (a.n, a.m, a.u) pre.sized).most_outputs in
    let f = pre.room in (
      length-set l.t l.i c.target.result ∙ l.invariant.0,
      listed_next (target_form a.shape a.n a.m) l.i a.u c.target.result l.t
          (list_of (target_form a.shape a.n a.m) 0 a.u) (omega arith) (omega arith) c.target.ensures l.invariant.1,
    )

pub shape_of-t : goal.shape_of-t
shape_of-t c = c.loop-i.invariant.0

pub returns : goal.returns
returns c =
    let args = c.args in
    let a = args in
    let l = c.loop-i in
    listed_end (target_form a.shape a.n a.m) l.i a.u l.t
    (list_of (target_form a.shape a.n a.m) 0 a.u) (omega arith) (omega arith) l.invariant.1
