-- `bases::spans::is_wanted` meets its contract. Assumes nothing.
use Rattle.std.proofs.Common.{◌∙◌, ne_eqb}
use Rattle.bases.specs.Basis.{rows_of}
use Rattle.bases.proofs.laws.of_spans.Missing.{left_out, left_in}
use Rattle.bases.proofs.spans.is_wanted.Goals as goal

pub returns-then-reduce_rows-eq0 : goal.returns-then-reduce_rows-eq0
returns-then-reduce_rows-eq0 c =
    let a = c.args in
    let r = c.reduce_rows in
    left_in a.w.now (rows_of a.b) a.g r.result c.contains.result r.ensures c.if-reduce_rows-eq0.true c.contains.ensures

pub returns-else-reduce_rows-eq0 : goal.returns-else-reduce_rows-eq0
returns-else-reduce_rows-eq0 c =
    let a = c.args in
    let r = c.reduce_rows in
    ne_eqb r.result 0 c.if-reduce_rows-eq0.false ∙ left_out a.w.now (rows_of a.b) a.g r.result r.ensures c.if-reduce_rows-eq0.false
