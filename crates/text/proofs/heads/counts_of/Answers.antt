-- `text::heads::counts_of` meets its contract. Assumes nothing.
use Rattle.std.specs.Prelude.{◌+◌}
use Rattle.std.proofs.Common.{sym, ◌∙◌}
use Rattle.text.specs.Numeral.{numeral}
use Rattle.text.specs.Line.{count_field}
use Rattle.text.specs.laws.Line.{read_at, field_at}
use Rattle.text.specs.heads.laws.Head.{fields_1, fields_2, fields_3, fields_is}
use Rattle.text.proofs.heads.counts_of.Goals as goal

pub returns-in_err-p : goal.returns-in_err-p
returns-in_err-p c = c.from_residual.ensures ∙ sym (fields_1 _ c.in_err-p.ensures.0)

pub returns-in_err-q : goal.returns-in_err-q
returns-in_err-q c =
    c.from_residual-in_err-q.ensures
    ∙ sym (fields_2 _ _ _ c.in_ok-p.ensures.0 (read_at count_field c.args.s.now c.in_ok-p.used _ c.in_err-q.ensures.0))

pub returns-in_err-r : goal.returns-in_err-r
returns-in_err-r c =
    let s = c.args.s.now in
    let second = field_at count_field s c.in_ok-p.used _ c.in_ok-q.v c.in_ok-q.ensures.0 in
    c.from_residual-in_err-r.ensures
    ∙ sym (fields_3 _ _ _ _ _ c.in_ok-p.ensures.0 second (read_at count_field s (c.in_ok-p.used + c.in_ok-q.v) _ c.in_err-r.ensures.0))

-- the last count, or none
pub returns-in_err-k : goal.returns-in_err-k
returns-in_err-k c =
    let s = c.args.s.now in
    let second = field_at count_field s c.in_ok-p.used _ c.in_ok-q.v c.in_ok-q.ensures.0 in
    let third = field_at count_field s (c.in_ok-p.used + c.in_ok-q.v) _ c.in_ok-r.w c.in_ok-r.ensures.0 in
    let last = read_at (numeral 10 4) s (c.in_ok-p.used + c.in_ok-q.v + c.in_ok-r.w) _ (sym c.in_err-k.ensures) in
    c.from_residual-in_err-k.ensures ∙ sym (fields_is _ _ _ _ _ _ _ _ c.in_ok-p.ensures.0 second third last)

pub returns : goal.returns
returns c =
    let s = c.args.s.now in
    let second = field_at count_field s c.in_ok-p.used _ c.in_ok-q.v c.in_ok-q.ensures.0 in
    let third = field_at count_field s (c.in_ok-p.used + c.in_ok-q.v) _ c.in_ok-r.w c.in_ok-r.ensures.0 in
    let last = read_at (numeral 10 4) s (c.in_ok-p.used + c.in_ok-q.v + c.in_ok-r.w) _ (sym c.in_ok-k.ensures) in
    sym (fields_is _ _ _ _ _ _ _ _ c.in_ok-p.ensures.0 second third last)
