-- `sieve::sizes::few_lines` meets its contract: it goes from place to place as long as some may be left. Assumes nothing.
use mathlib.Core.Path.{refl, sym}
use native.Mathlib.Omega.{arith}
use Rattle.residues.proofs.laws.of_children.Numbers.{as_few, as_many}
use Rattle.sieve.specs.heavy_search.laws.Size.{join_sized}
use Rattle.sieve.proofs.sizes.few_lines.Goals as goal

pub values-requires : goal.values-requires
values-requires c = let P = c.requires in (
  as_many (sym P.over) P.begin,
  as_few (sym P.over) P.few,
  P.weights_all,
  P.dead_all,
  refl,
)

pub overflow_sub-end : goal.overflow_sub-end
overflow_sub-end c = c.requires.begin

pub overflow_mul-end : goal.overflow_mul-end
overflow_mul-end c = let l = c.requires.few in omega arith

pub slice_bounds-first_words-end : goal.slice_bounds-first_words-end
slice_bounds-first_words-end c = sym c.requires.valid.whole

pub slice_bounds-first_place-end : goal.slice_bounds-first_place-end
slice_bounds-first_place-end c = sym c.values.auto.v

pub slice_bounds-first_place-end-2 : goal.slice_bounds-first_place-end-2
slice_bounds-first_place-end-2 c = refl

pub slice_bounds-first_place-end-3 : goal.slice_bounds-first_place-end-3
slice_bounds-first_place-end-3 c = refl

pub first_place-u-requires : goal.first_place-u-requires
first_place-u-requires c =
    let P = c.requires in
    let a = c.args in (
      join_sized a.gens.now a.d.now a.start a.w.now a.dead.now
          c.values.new.v P.over P.few
          c.values.ensures,
      P.begin,
    )

pub loop-init : goal.loop-init
loop-init c = c.first_place-u.ensures.placed

pub slice_bounds-next_place-end : goal.slice_bounds-next_place-end
slice_bounds-next_place-end c =
    sym c.values.auto.v

pub slice_bounds-next_place-end-in-loop : goal.slice_bounds-next_place-end-in-loop
slice_bounds-next_place-end-in-loop c = sym c.loop.invariant.tables.sizes.heads_all

pub slice_bounds-next_place-end-in-loop-2 : goal.slice_bounds-next_place-end-in-loop-2
slice_bounds-next_place-end-in-loop-2 c = sym c.loop.invariant.tables.sizes.links_all

pub next_place-u-requires : goal.next_place-u-requires
next_place-u-requires c = (
  c.loop.invariant,
  c.if-n-u.false,
)

pub loop-preserved : goal.loop-preserved
loop-preserved c = c.next_place-u.ensures.placed
