-- `maps::form_lists::fill_generators` meets its contract. Assumes nothing.
use native.Mathlib.Omega.{arith}
use mathlib.Core.Path.{refl, sym, ap, ◌∙◌}
use lib.ListN.{length-set}
use Rattle.maps.specs.Generators.{list_of, generator_form, generator_forms}
use Rattle.maps.specs.form_lists.laws.Filling.{listed_none, listed_next, listed_end}
use Rattle.maps.proofs.form_lists.fill_generators.Goals as goal

pub loop-j-init : goal.loop-j-init
loop-j-init c = let a = c.args in (refl, listed_none (generator_form a.n a.m) a.c a.g.now)

pub generator_form-requires : goal.generator_form-requires
generator_form-requires c =
    let pre = c.requires in
    record { below = (let e = pre.count in omega arith); few = (let e = pre.count in let f = pre.few in omega arith) }

pub offset_bounds-g-j : goal.offset_bounds-g-j
offset_bounds-g-j c = let f = c.requires.few in omega arith

pub bounds-g-j : goal.bounds-g-j
bounds-g-j c = let f = c.requires.room in omega arith

pub loop-j-preserved : goal.loop-j-preserved
loop-j-preserved c =
    let args = c.args in
    let pre = c.requires in
    let a = args in
    let l = c.loop-j in
    let f = pre.room in (
      length-set l.g l.j c.generator_form.result ∙ l.invariant.0,
      listed_next (generator_form a.n a.m) l.j a.c c.generator_form.result l.g (list_of (generator_form a.n a.m) 0 a.c)
          (omega arith) (omega arith) c.generator_form.ensures l.invariant.1,
    )

pub shape_of-g : goal.shape_of-g
shape_of-g c = c.loop-j.invariant.0

pub returns : goal.returns
unfolding generator_forms
returns c =
    let a = c.args in
    let l = c.loop-j in
    listed_end (generator_form a.n a.m) l.j a.c l.g (list_of (generator_form a.n a.m) 0 a.c) (omega arith) (omega arith) l.invariant.1
    ∙ ap (list_of (generator_form a.n a.m) 0) (sym c.requires.count)
