-- `catalogue::walk::walk` meets its contract, by recursion on the number of missing dimensions: the entries so far are met, and those to come, met,
-- give the final state. Assumes nothing.
use mathlib.Core.Path.{◌≡◌, refl, sym, ap, ◌∙◌}
use Prim.Native.Nat.{◌+◌, ◌-◌}
use lib.ListN.{length, replicate}
use Rattle.bases.specs.Basis.{rows_of}
use Rattle.residues.proofs.laws.of_children.Numbers.{as_few, as_many, inside, ends, falls_one}
use Rattle.residues.proofs.laws.of_children.Child.{residues_length}
use Rattle.records.specs.Records.{runs}
use Rattle.records.specs.Keep.{chain_of, state_of}
use Rattle.catalogue.specs.noting.Noting.{met}
use Rattle.catalogue.specs.walk.Walk.{search}
use Rattle.catalogue.proofs.laws.of_walk.Search.{leaf_yes, leaf_no}
use Rattle.catalogue.proofs.Numbers.{le_refl, few_missing, later, after, mine_all}
use Rattle.catalogue.proofs.Going.{Going, going_next, going_full, going_end, node_down, going_down}
use Rattle.residues.specs.Room.{search_room}
use Rattle.catalogue.proofs.walk.+walk.Goals as goal

pub spanned-requires : goal.spanned-requires
spanned-requires t c = sym (ap length c.requires.0.left ∙ residues_length c.args.gens.now (rows_of c.args.b))

pub returns-then-spanned : goal.returns-then-spanned
returns-then-spanned t c =
    let a = c.args in
    let N = c.requires.0 in
    let if1 = c.if-missing-eq0 in
    let spanned = c.spanned in
    let if2 = c.if-spanned in
    let m = a.gens.now in
    let h = a.h.now in
    (leaf_yes m a.k (rows_of a.b) (chain_of a.c) (met m a.order.now a.prices.now a.aim) h (length m - a.start) a.start a.missing
    (state_of a.t a.out.now) spanned.result if1.true N.left spanned.ensures if2.true _ c.note.ensures)

pub returns-then-missing-eq0 : goal.returns-then-missing-eq0
returns-then-missing-eq0 t c =
    let a = c.args in
    let N = c.requires.0 in
    let m = a.gens.now in
    let h = a.h.now in
    (leaf_no m a.k (rows_of a.b) (chain_of a.c) (met m a.order.now a.prices.now a.aim) h (length m - a.start) a.start a.missing
    (state_of a.t a.out.now) c.spanned.result c.if-missing-eq0.true N.left c.spanned.ensures c.if-spanned.false)

pub sieve-requires : goal.sieve-requires
sieve-requires t c =
    let N = c.requires.0 in
    let eh = ap length c.requires.0.left ∙ residues_length c.args.gens.now (rows_of c.args.b) in
    record {
      alike = sym eh;
      few = as_few eh N.small;
      begin = as_many eh N.begin;
      some = c.if-missing-eq0.false;
      most = few_missing N.tidy;
      rows_all = c.requires.1;
      blank = refl;
    }

pub returns-then-j-n : goal.returns-then-j-n
returns-then-j-n t c =
    let a = c.args in
    let N = c.requires.0 in
    -- at the first number that is left, nothing is done yet
    let begun : Going a.gens.now a.k (rows_of a.b) (chain_of a.c) a.missing a.aim a.order.now a.prices.now
    (runs (met a.gens.now a.order.now a.prices.now a.aim) (state_of a.t a.out.now)
    (search a.gens.now a.k (rows_of a.b) (chain_of a.c) (length a.gens.now - a.start) a.start a.missing))
    (length a.out.now) c.next_marked-j.result a.t a.out.now (replicate search_room 0) =
    going_next a.gens.now a.k a.b a.c a.missing a.aim a.order.now a.prices.now _ (length a.out.now) a.h.now N.left N.valid N.tidy
    c.if-missing-eq0.false a.t a.out.now (replicate search_room 0) a.start c.sieve.new.marks c.sieve.ensures a.start c.next_marked-j.result le_refl
    c.next_marked-j.ensures
    (record { within = N.begin; ahead = record { rest = refl; good = record { steady = N.steady; same = refl } }; whole = mine_all }) in
    going_end a.gens.now a.k a.b a.c a.missing a.aim a.order.now a.prices.now _ (length a.out.now) a.h.now N.left
    N.valid N.tidy
    c.if-missing-eq0.false c.next_marked-j.result
    a.t a.out.now (replicate search_room 0) begun (ends c.if-j-n.true)

pub loop-j-init : goal.loop-j-init
loop-j-init t c =
    let a = c.args in
    let N = c.requires.0 in
    -- at the first number that is left, nothing is done yet
    let begun : Going a.gens.now a.k (rows_of a.b) (chain_of a.c) a.missing a.aim a.order.now a.prices.now
    (runs (met a.gens.now a.order.now a.prices.now a.aim) (state_of a.t a.out.now)
    (search a.gens.now a.k (rows_of a.b) (chain_of a.c) (length a.gens.now - a.start) a.start a.missing))
    (length a.out.now) c.next_marked-j.result a.t a.out.now (replicate search_room 0) =
    going_next a.gens.now a.k a.b a.c a.missing a.aim a.order.now a.prices.now _ (length a.out.now) a.h.now N.left N.valid N.tidy
    c.if-missing-eq0.false a.t a.out.now (replicate search_room 0) a.start c.sieve.new.marks c.sieve.ensures a.start c.next_marked-j.result le_refl
    c.next_marked-j.ensures
    (record { within = N.begin; ahead = record { rest = refl; good = record { steady = N.steady; same = refl } }; whole = mine_all }) in
    let n = c.next_marked-j.ensures in (
      n.low,
      begun,
      c.sieve.auto.rows
          ∙ c.requires.1,
      n.marked,
    )

pub returns-then-is_full : goal.returns-then-is_full
returns-then-is_full t c =
    let a = c.args in
    let N = c.requires.0 in
    let m = a.gens.now in
    let h = a.h.now in
    let l = c.loop-j in
    let ne = c.if-missing-eq0.false in
    going_full m a.k a.b a.c a.missing a.aim a.order.now a.prices.now _ _ h N.left N.valid N.tidy ne l.j l.counts
    l.out l.mine l.invariant.1
    (sym (sym c.is_full.ensures ∙ c.if-is_full.true))

pub bounds-h-j : goal.bounds-h-j
bounds-h-j t c =
    inside (ap length c.requires.0.left ∙ residues_length c.args.gens.now (rows_of c.args.b)) c.loop-j-test.true

pub child-requires : goal.child-requires
child-requires t c =
    (as_few (ap length c.requires.0.left ∙ residues_length c.args.gens.now (rows_of c.args.b)) c.requires.0.small, c.loop-j.invariant.1.whole)

pub walk-counts-requires : goal.walk-counts-requires
walk-counts-requires t c =
    let a = c.args in
    let ne = c.if-missing-eq0.false in
    let l = c.loop-j in
    let child = c.child in
    let insert = c.insert in
    let push = c.push in
    let N = c.requires.0 in
    let d : a.missing ≡ t = c.decreases in (
      falls_one d ne,
      (
        node_down a.gens.now a.k a.b a.c a.missing a.aim a.order.now a.prices.now _ _ a.h.now N.left N.valid
            N.tidy ne l.j l.counts l.out
            l.mine l.invariant.1 c.loop-j-test.true ((c.sieve.ensures.judged l.j l.invariant.0 c.loop-j-test.true).on (l.invariant.3 c.loop-j-test.true)) N.menu N.small insert.result insert.ensures push.result push.ensures
            child.new.out child.ensures,
        l.invariant.2,
      ),
    )

pub loop-j-preserved : goal.loop-j-preserved
loop-j-preserved t c =
    let a = c.args in
    let N = c.requires.0 in
    let ne = c.if-missing-eq0.false in
    let S = c.sieve in
    let l = c.loop-j in
    let K = c.child in
    let insert = c.insert in
    let push = c.push in
    let W = c.walk-counts in
    let I = going_down a.gens.now a.k a.b a.c a.missing a.aim a.order.now a.prices.now _ (length a.out.now) a.h.now
    N.left N.valid N.tidy ne
    l.j l.counts l.out l.mine l.invariant.1 c.loop-j-test.true ((c.sieve.ensures.judged l.j l.invariant.0 c.loop-j-test.true).on (l.invariant.3 c.loop-j-test.true)) insert.result insert.ensures push.result
    push.ensures W.result W.new.out K.new.out K.ensures.whole
    (W.auto.out ∙ l.invariant.1.ahead.good.same) W.ensures in (
      after l.invariant.0 c.next_marked-j-in-loop-j.ensures.low,
      going_next a.gens.now a.k a.b a.c a.missing a.aim a.order.now a.prices.now _ (length a.out.now) a.h.now N.left
          N.valid N.tidy ne
          W.result W.new.out K.new.out a.start S.new.marks S.ensures (l.j + 1)
          c.next_marked-j-in-loop-j.result (later l.invariant.0) c.next_marked-j-in-loop-j.ensures I,
      W.auto.rows ∙ l.invariant.2,
      c.next_marked-j-in-loop-j.ensures.marked,
    )

pub returns : goal.returns
returns t c =
    let a = c.args in
    let N = c.requires.0 in
    let m = a.gens.now in
    let h = a.h.now in
    let l = c.loop-j in
    let ne = c.if-missing-eq0.false in
    going_end m a.k a.b a.c a.missing a.aim a.order.now a.prices.now _ _ h N.left N.valid N.tidy ne l.j l.counts
    l.out l.mine l.invariant.1 c.loop-j-test.false
