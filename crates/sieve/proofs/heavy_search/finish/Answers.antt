-- `sieve::heavy_search::finish` meets its contract, test by test. Assumes nothing.
use mathlib.Core.Path.{sym, ◌∙◌}
use mathlib.Core.List.{map}
use native.Mathlib.Omega.{arith}
use Rattle.linear.specs.Basis.{clear}
use Rattle.linear.specs.Word.{word}
use Rattle.sieve.specs.heavy_search.laws.Find.{finish_off, finish_known, finish_on}
use Rattle.sieve.proofs.heavy_search.finish.Goals as goal
use Rattle.sieve.proofs.heavy_search.finish.Goals.{else-j-h-via-then-j-h+else-not-known, else-j-h-via-else-j-h}

pub first_new-j-requires : goal.first_new-j-requires
first_new-j-requires c = (c.requires.0, c.requires.1)

pub known-requires : goal.known-requires
known-requires c = c.if-j-h.true

pub bounds-marks-j : goal.bounds-marks-j
bounds-marks-j c =
    omega (arith, c.requires.2, c.requires.3)

pub returns-then-not-known : goal.returns-then-not-known
returns-then-not-known c =
    let a = c.args in
    let f = c.first_new-j in
    finish_on a.h.now (map (clear word a.x) a.d.now) a.start f.result a.marks.now f.ensures
    (omega (arith, c.requires.2, c.requires.3)) (sym c.if-not-known.true ∙ c.known.ensures)

pub returns-else-j-h : goal.returns-else-j-h
returns-else-j-h c =
    let a = c.args in
    let f = c.first_new-j in
    elim c.else-j-h.branch [
      | else-j-h-via-then-j-h+else-not-known w ↦
          finish_known a.h.now (map (clear word a.x) a.d.now) a.start f.result a.marks.now f.ensures
          (sym w.if-not-known.false ∙ w.known.ensures)
      | else-j-h-via-else-j-h w ↦
          finish_off a.h.now (map (clear word a.x) a.d.now) a.start f.result a.marks.now f.ensures
          (omega (arith, f.ensures.to, w.if-j-h.false))
    ]
