-- `turning::put_reversed` meets its contract. Assumes nothing.
use mathlib.Core.Path.{sym, ap, ◌∙◌}
use mathlib.Core.List.{List}
use Prim.Native.Nat.{ℕ}
use native.Mathlib.Omega.{arith}
use lib.ListN.{length}
use Rattle.words.specs.Buffers.{filled}
use Rattle.turning.specs.Turning.{reversed}
use Rattle.turning.proofs.laws.Loops.{map_list, put_start, put_next, put_end}
use Rattle.turning.proofs.put_reversed.Goals as goal
use Rattle.turning.proofs.put_reversed.Invariants.{each}

pub loop-l-init : goal.loop-l-init
loop-l-init c = let a = c.args in put_start (each a.n a.masks.now) (length a.masks.now) a.out.now

pub reversed-requires : goal.reversed-requires
reversed-requires c = c.requires.0

pub loop-l-preserved : goal.loop-l-preserved
loop-l-preserved c =
    let a = c.args in
    let l = c.loop-l in
    put_next (each a.n a.masks.now) (length a.masks.now) a.out.now l.out l.l c.reversed.result l.invariant
    c.loop-l-test.true c.requires.1 c.reversed.ensures

pub shape_of-out : goal.shape_of-out
shape_of-out c = c.loop-l.invariant.kept

pub returns : goal.returns
returns c =
    let a = c.args in
    let l = c.loop-l in
    put_end (each a.n a.masks.now) (length a.masks.now) a.out.now l.out l.l l.invariant (omega arith)
    ∙ ap (λ (xs : List ℕ). filled xs a.out.now) (sym (map_list (reversed a.n) a.masks.now))
