-- `relations::pairs::next_match` meets its contract: no pair of the chain so far is a match. Assumes nothing.
use Prim.Native.Nat.{◌-◌}
use native.Mathlib.Omega.{arith}
use Rattle.relations.specs.pairs.laws.Match.{following_start, following_next, following_found, following_end}
use Rattle.relations.proofs.pairs.next_match.Goals as goal

pub loop-p-init : goal.loop-p-init
loop-p-init c =
    let a = c.args in
    following_start a.gens.now a.s.now a.v.now a.base a.g a.y a.f a.e c.requires.4

pub is_match-requires : goal.is_match-requires
is_match-requires c = let p = c.requires in (p.0, p.1, c.loop-p.invariant.kept c.loop-p-test.true)

pub returns-then-is_match : goal.returns-then-is_match
returns-then-is_match c =
    let a = c.args in
    let l = c.loop-p in
    following_found a.gens.now a.s.now a.v.now a.base a.g a.y a.f a.e l.p l.invariant c.loop-p-test.true
    (c.is_match.ensures.1 c.if-is_match.true)

pub offset_bounds-links-p : goal.offset_bounds-links-p
offset_bounds-links-p c = omega (arith, (c.loop-p.invariant.kept c.loop-p-test.true).room)

pub bounds-links-p : goal.bounds-links-p
bounds-links-p c = omega (arith, (c.loop-p.invariant.kept c.loop-p-test.true).room)

pub overflow_cast-p : goal.overflow_cast-p
overflow_cast-p c = omega (arith, c.shared_slice_known-in-loop-p-1.given (c.loop-p.p - 1))

pub loop-p-smaller : goal.loop-p-smaller
loop-p-smaller c =
    let p = c.requires in
    omega (arith, p.3.falls (c.loop-p.p - 1))

pub loop-p-preserved : goal.loop-p-preserved
loop-p-preserved c =
    let a = c.args in
    let p = c.requires in
    let l = c.loop-p in
    following_next a.gens.now a.s.now a.v.now a.base a.g a.y a.f a.e l.p l.invariant a.links.now p.3
    c.loop-p-test.true (c.is_match.ensures.0 c.if-is_match.false)

pub returns : goal.returns
returns c =
    let a = c.args in
    let l = c.loop-p in
    following_end a.gens.now a.s.now a.v.now a.base a.g a.y a.f a.e l.p l.invariant c.loop-p-test.false
