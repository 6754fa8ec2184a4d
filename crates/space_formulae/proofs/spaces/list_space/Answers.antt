-- `space_formulae::spaces::list_space` meets its contract. Assumes nothing.
use mathlib.Core.Path.{refl}
use mathlib.Core.List.{[]}
use Prim.Native.Nat.{◌+◌}
use native.Mathlib.Nat.{div-le_self}
use lib.ListN.{length}
use Rattle.space_formulae.proofs.laws.of_spaces.Listing.{first_node, told_all, told_more}
use native.Mathlib.Omega.{arith}
use Rattle.space_formulae.proofs.spaces.list_space.Goals as goal

pub overflow_add-limit-2 : goal.overflow_add-limit-2
overflow_add-limit-2 c =
    let args = c.args in
    omega (arith, div-le_self (length args.out.now) (length args.rows.now + length args.targets.now))

pub spread-counts-requires : goal.spread-counts-requires
spread-counts-requires c =
    let args = c.args in
    let pre = c.requires in
    first_node args.gens.now args.targets.now args.rows.now args.out.now pre c.empty.result c.empty.ensures _
    (record { numbers = refl; forms = refl; room = omega arith }) refl _

pub returns-then-counts : goal.returns-then-counts
returns-then-counts c =
    let args = c.args in
    let pre = c.requires in
    let empty = c.empty in
    let spread = c.spread-counts in
    told_all args.gens.now args.targets.now args.rows.now args.out.now pre empty.result empty.ensures [] refl _ refl
    spread.result _ spread.ensures c.if-counts.true

pub returns : goal.returns
returns c =
    let args = c.args in
    let pre = c.requires in
    let empty = c.empty in
    let spread = c.spread-counts in
    told_more args.gens.now args.targets.now args.rows.now args.out.now pre empty.result empty.ensures [] refl _ refl
    spread.result _ spread.ensures c.if-counts.false
