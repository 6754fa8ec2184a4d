-- `sieve::heavy_search::first_new` meets its contract: no number so far is new by h and not in the child. Assumes nothing.
use mathlib.Core.Path.{◌≡◌, sym, ◌∙◌}
use native.Mathlib.Omega.{arith}
use lib.ListN.{length}
use mathlib.Core.List.{map}
use Rattle.linear.specs.Basis.{clear}
use Rattle.linear.specs.Word.{word}
use Rattle.residues.proofs.laws.of_children.Child.{clear_at}
use Rattle.sieve.specs.heavy_search.laws.Find.{looking_start, looking_more, looking_found, looking_end}
use Rattle.sieve.proofs.heavy_search.first_new.Goals as goal
use Rattle.sieve.proofs.heavy_search.first_new.Goals.{else-clear-eq0-via-then-clear-eq0+else-h-j-ne0, else-clear-eq0-via-else-clear-eq0}

pub loop-j-init : goal.loop-j-init
loop-j-init c = let a = c.args in looking_start a.h.now (map (clear word a.x) a.d.now) a.start
    c.requires.1

pub returns-then-h-j-ne0 : goal.returns-then-h-j-ne0
returns-then-h-j-ne0 c =
    let a = c.args in
    let l = c.loop-j in
    looking_found a.h.now (map (clear word a.x) a.d.now) a.start l.j l.invariant
    (clear_at a.x a.d.now l.j ∙ sym c.clear.ensures ∙ c.if-clear-eq0.true) c.if-h-j-ne0.true

pub loop-j-preserved : goal.loop-j-preserved
loop-j-preserved c =
    let a = c.args in
    let l = c.loop-j in
    let next = looking_more a.h.now (map (clear word a.x) a.d.now) a.start l.j l.invariant (omega arith) in
    elim c.else-clear-eq0.branch [
      | else-clear-eq0-via-then-clear-eq0+else-h-j-ne0 w ↦ next (λ z. omega (arith, w.if-h-j-ne0.false))
      | else-clear-eq0-via-else-clear-eq0 w ↦ next (λ z. absurd (w.if-clear-eq0.false (c.clear.ensures ∙ sym (clear_at a.x a.d.now l.j) ∙ z)))
    ]

pub returns : goal.returns
returns c =
    let a = c.args in
    let l = c.loop-j in
    let e : l.j ≡ length a.h.now = omega arith in
    rw (← e) (looking_end a.h.now (map (clear word a.x) a.d.now) a.start l.j l.invariant (omega arith))
