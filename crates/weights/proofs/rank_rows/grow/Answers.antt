-- `weights::rank_rows::grow` meets its contract: what is left of d is the row that is missing. Assumes nothing.
use native.Mathlib.Omega.{arith}
use Rattle.weights.specs.rank_rows.laws.Grow.{part_left, grown_full, grown_old, grown_over, grown_new}
use Rattle.weights.proofs.rank_rows.grow.Goals as goal

pub returns-then-m-gt8 : goal.returns-then-m-gt8
returns-then-m-gt8 c = let a = c.args in grown_full a.s.now a.rows.now a.d a.m a.f c.requires c.if-m-gt8.true

pub returns-then-w-eq0 : goal.returns-then-w-eq0
returns-then-w-eq0 c =
    let a = c.args in
    grown_old a.s.now a.rows.now a.d a.m a.f c.requires _ ((let a = c.args in let r = c.reduce_rows-v in part_left a.s.now a.rows.now a.d a.m a.f r.result c.reduce_rows-w.result r.ensures c.reduce_rows-w.ensures)) (omega arith) c.if-w-eq0.true

pub returns-then-m-eq8 : goal.returns-then-m-eq8
returns-then-m-eq8 c =
    let a = c.args in
    grown_over a.s.now a.rows.now a.d a.m a.f c.requires _ ((let a = c.args in let r = c.reduce_rows-v in part_left a.s.now a.rows.now a.d a.m a.f r.result c.reduce_rows-w.result r.ensures c.reduce_rows-w.ensures)) c.if-m-eq8.true

pub returns : goal.returns
returns c =
    let a = c.args in
    grown_new a.s.now a.rows.now a.d a.m a.f c.requires _ ((let a = c.args in let r = c.reduce_rows-v in part_left a.s.now a.rows.now a.d a.m a.f r.result c.reduce_rows-w.result r.ensures c.reduce_rows-w.ensures)) (omega arith)
