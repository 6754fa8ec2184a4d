-- `forms::reduce_rows` meets its contract: what the rows from a place on leave of x is what all the rows leave of v. Assumes nothing.
use Rattle.std.proofs.Common.{◌≡◌, sym, ap₂, ◌∙◌, List, ℕ, ◌+◌, ◌<◌, add-one, arith, length, drop, get_or}
use Rattle.linear.specs.Basis.{clear, reduce}
use Rattle.linear.specs.Word.{word}
use Rattle.forms.specs.laws.Clear.{clear_less, clear_not, reduce_next, reduce_end}
use Rattle.forms.proofs.reduce_rows.Goals as goal
use Rattle.forms.proofs.reduce_rows.Goals.{then-w-x, else-w-x}

-- a turn: y is x with the row at i cleared
turn : (rs : List ℕ) (i x R : ℕ) → i < length rs → reduce word (drop i rs) x ≡ R → (y : ℕ) → y ≡ clear word (get_or rs i 0) x
    → reduce word (drop (i + 1) rs) y ≡ R
turn rs i x R h inv y e =
    ap₂ (λ (k z : ℕ). reduce word (drop k rs) z) (add-one i) e ∙ sym (reduce_next rs i x h) ∙ inv

pub loop-row-preserved : goal.loop-row-preserved
loop-row-preserved c =
    let a = c.args in
    let l = c.loop-row in
    let rs = a.rows.now in
    let i = l.row-index in
    let go = turn rs i l.x (reduce word rs a.v) (omega arith) l.invariant c.if-w-x.x in
    elim c.if-w-x.branch [
      | then-w-x w ↦ go (w.x-is ∙ sym (clear_less (get_or rs i 0) l.x w.if-w-x.true))
      | else-w-x w ↦ go (w.x-is ∙ sym (clear_not (get_or rs i 0) l.x w.if-w-x.false))
    ]

pub returns : goal.returns
returns c =
    let l = c.loop-row in
    sym (reduce_end c.args.rows.now l.row-index l.x (omega arith)) ∙ l.invariant
