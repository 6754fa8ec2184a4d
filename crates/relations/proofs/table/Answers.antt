-- `relations::table` meets its contract: the block's pairs are linked, or there is no block. Assumes nothing.
use Rattle.relations.specs.laws.Places.{table_linked, table_none}
use Rattle.relations.proofs.table.Goals as goal

pub returns-then-base-n : goal.returns-then-base-n
returns-then-base-n c =
    let a = c.args in
    let l = c.link in
    let pre = c.requires in
    table_linked a.gens.now a.v.now a.base a.heads.now a.links.now (pre) l.new.heads l.new.links
    l.auto.heads l.auto.links l.ensures

pub returns-else-base-n : goal.returns-else-base-n
returns-else-base-n c =
    let args = c.args in
    let pre = c.requires in
    let a = args in table_none a.gens.now a.v.now a.base a.heads.now a.links.now (pre) c.if-base-n.false
