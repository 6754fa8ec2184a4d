-- `space_formulae::enumeration::spread` meets its contract, by recursion on the number of missing generators: the records so far
-- are written, and those to come, written, give the final state. Assumes nothing.
use native.Mathlib.Omega.{arith}
use mathlib.Core.Path.{◌≡◌, refl, sym, ◌∙◌}
use mathlib.Core.Logic.{◌≢◌}
use mathlib.Core.List.{List}
use Prim.Native.Nat.{ℕ, ◌+◌, ◌-◌, ◌*◌, ◌^◌, ◌<◌, ◌≤◌}
use mir.Syntax.{w64}
use mir.Val.{Fits}
use lib.ListN.{length}
use borrow.Author.Tests.{not-true}
use Rattle.bases.specs.Basis.{rows_of}
use Rattle.bases.specs.declared.Basis.{Basis}
use Rattle.choices.specs.Choice.{numbers_of}
use Rattle.choices.specs.declared.Choice.{Choice}
use Rattle.records.specs.Records.{run}
use Rattle.records.specs.Keep.{state_of}
use Rattle.records.specs.declared.Tally.{Tally}
use Rattle.space_formulae.specs.enumeration.Spread.{formulae_from, Branch}
use Rattle.space_formulae.proofs.Going.{Going, node_leaf, going_leaf, going_full, going_stop, going_end, going_skip, node_down, going_down}
use Rattle.space_formulae.proofs.enumeration.+spread.Goals as goal
use Rattle.space_formulae.proofs.enumeration.+spread.Goals.{then-is_wanted+else-not-completes, else-is_wanted}

-- facts on numbers
some : {m : ℕ} → m ≢ 0 → 1 ≤ m
some n = omega arith

falls_one : {m t : ℕ} → m ≡ t → m ≢ 0 → m - 1 < t
falls_one e n = omega arith

eight_fits : {j n : ℕ} → j < n → n * 8 < 2 ^ 63 → Fits w64 (j * 8)
eight_fits l k = record { fits = omega arith }

room_more : {gens w targets : List ℕ} {missing : ℕ} {b : Basis} {c : Choice} {t : Tally} {limit : ℕ} {out : List ℕ}
    → Branch gens w targets missing b c t limit out → missing ≢ 0 → c.len < 64
room_more N n = omega (arith, N.number, N.room)

pub keep-requires : goal.keep-requires
keep-requires t c =
    let args = c.args in
    let pre = c.requires in
    node_leaf args.gens.now args.w.now args.targets.now args.missing args.b args.c args.t args.limit args.out.now
    pre c.if-missing-eq0.true

pub shape_of-out-then-missing-eq0 : goal.shape_of-out-then-missing-eq0
shape_of-out-then-missing-eq0 t c = c.keep.auto.out

pub returns-then-missing-eq0 : goal.returns-then-missing-eq0
returns-then-missing-eq0 t c =
    let args = c.args in
    let pre = c.requires in
    let if1 = c.if-missing-eq0 in
    going_leaf args.gens.now args.w.now args.targets.now args.start args.missing args.b args.c args.t args.limit
    args.out.now pre if1.true _ c.keep.ensures

pub loop-j-init : goal.loop-j-init
loop-j-init t c = record { rest = refl; good = record { sane = c.requires.sane; same = refl } }

pub shape_of-out-then-counts-limit : goal.shape_of-out-then-counts-limit
shape_of-out-then-counts-limit t c = c.loop-j.invariant.good.same

pub returns-then-counts-limit : goal.returns-then-counts-limit
returns-then-counts-limit t c =
    let args = c.args in
    let pre = c.requires in
    let if1 = c.if-missing-eq0 in
    let loop = c.loop-j in
    going_full args.gens.now args.w.now args.targets.now args.missing args.b args.c args.t args.limit args.out.now
    pre if1.false _ _ loop.j loop.counts loop.out loop.invariant c.if-counts-limit.true

pub offset_bounds-gens-j : goal.offset_bounds-gens-j
offset_bounds-gens-j t c = eight_fits (omega arith) c.well_formed.0.1

pub bounds-gens-j : goal.bounds-gens-j
bounds-gens-j t c = omega arith

pub is_wanted-requires : goal.is_wanted-requires
is_wanted-requires t c = c.requires.valid

pub overflow_sub-missing : goal.overflow_sub-missing
overflow_sub-missing t c = some c.if-missing-eq0.false

pub insert-requires : goal.insert-requires
insert-requires t c = c.requires.valid

pub add-requires : goal.add-requires
add-requires t c =
    let pre = c.requires in
    let if1 = c.if-missing-eq0 in
    (pre.chose.whole, room_more pre if1.false)

pub spread-counts-requires : goal.spread-counts-requires
spread-counts-requires t c =
    let args = c.args in
    let pre = c.requires in
    let if1 = c.if-missing-eq0 in
    let loop = c.loop-j in
    let is-wanted = c.is_wanted in
    let if3 = c.if-is_wanted in
    let d : args.missing ≡ t = c.decreases in
    let e = if1.false in (
      falls_one d e,
      node_down args.gens.now args.w.now args.targets.now args.missing args.b args.c args.t args.limit
          args.out.now pre if1.false _ _ loop.j loop.counts loop.out loop.invariant (omega arith)
          (sym is-wanted.ensures ∙ if3.true) c.insert.result ((c.insert.ensures)) c.add.result
          c.add.ensures,
    )

pub overflow_add-j-then-is_wanted : goal.overflow_add-j-then-is_wanted
overflow_add-j-then-is_wanted t c =
    let the-fits = c.ranges in
    let good = c.well_formed in
    omega (arith, good, the-fits)

pub completes-requires : goal.completes-requires
completes-requires t c = c.requires.valid

pub shape_of-out-then-not-completes : goal.shape_of-out-then-not-completes
shape_of-out-then-not-completes t c = ((let it : (let a = c.args in
    Going a.gens.now a.w.now a.targets.now (rows_of a.b) (numbers_of a.c) a.missing a.limit (run a.limit (state_of a.t a.out.now) (formulae_from
    a.gens.now a.w.now a.targets.now (rows_of a.b) (numbers_of a.c) (length a.gens.now - a.start) a.start a.missing)) (length a.out.now) (c.loop-j.j
    + 1) c.spread-counts.result c.spread-counts.new.out) = let a = c.args in let l = c.loop-j in let d = c.add in
    going_down a.gens.now a.w.now a.targets.now a.missing a.b a.c a.t a.limit a.out.now c.requires c.if-missing-eq0.false _ _ l.j l.counts l.out
    l.invariant (omega arith) (sym c.is_wanted.ensures ∙ c.if-is_wanted.true) c.insert.result ((c.insert.ensures)) d.result d.ensures
    c.spread-counts.result _ c.spread-counts.ensures in it)).good.same

pub returns-then-not-completes : goal.returns-then-not-completes
returns-then-not-completes t c =
    let a = c.args in
    let N = c.requires in
    going_stop a.gens.now a.w.now a.targets.now a.missing a.b a.c a.limit N.space N.valid _ _ c.loop-j.j
    c.spread-counts.result _ ((let it : (let a = c.args in
    Going a.gens.now a.w.now a.targets.now (rows_of a.b) (numbers_of a.c) a.missing a.limit (run a.limit (state_of a.t a.out.now) (formulae_from
    a.gens.now a.w.now a.targets.now (rows_of a.b) (numbers_of a.c) (length a.gens.now - a.start) a.start a.missing)) (length a.out.now)
    (c.loop-j.j + 1) c.spread-counts.result c.spread-counts.new.out) = let a = c.args in let l = c.loop-j in let d = c.add in
    going_down a.gens.now a.w.now a.targets.now a.missing a.b a.c a.t a.limit a.out.now c.requires c.if-missing-eq0.false _ _ l.j l.counts l.out
    l.invariant (omega arith) (sym c.is_wanted.ensures ∙ c.if-is_wanted.true) c.insert.result ((c.insert.ensures)) d.result d.ensures
    c.spread-counts.result _ c.spread-counts.ensures in it)) (omega arith)
    (sym c.completes.ensures ∙ not-true c.completes.result c.if-not-completes.true-raw)

pub loop-j-preserved : goal.loop-j-preserved
loop-j-preserved t c =
    let a = c.args in
    let l = c.loop-j in
    elim c.if-is_wanted.branch [
      | then-is_wanted+else-not-completes w ↦
          rw (w.counts-is, w.out-is)
          (going_down a.gens.now a.w.now a.targets.now a.missing a.b a.c a.t a.limit a.out.now c.requires c.if-missing-eq0.false _ _ l.j l.counts l.out
          l.invariant (omega arith) (sym c.is_wanted.ensures ∙ w.if-is_wanted.true) w.insert.result w.insert.ensures w.add.result w.add.ensures
          w.spread-counts.result _ w.spread-counts.ensures)
      | else-is_wanted w ↦
          rw (w.counts-is, w.out-is)
          (going_skip a.gens.now a.w.now a.targets.now a.missing a.b a.c a.t a.limit a.out.now c.requires c.if-missing-eq0.false _ _ l.j l.counts l.out
          l.invariant (omega arith) (sym c.is_wanted.ensures ∙ w.if-is_wanted.false))
    ]

pub shape_of-out : goal.shape_of-out
shape_of-out t c = c.loop-j.invariant.good.same

pub returns : goal.returns
returns t c =
    let args = c.args in
    let pre = c.requires in
    going_end args.gens.now args.w.now args.targets.now args.missing args.b args.c args.t args.limit args.out.now
    pre c.if-missing-eq0.false _ _ c.loop-j.j c.loop-j.counts c.loop-j.out c.loop-j.invariant
    (omega arith)
