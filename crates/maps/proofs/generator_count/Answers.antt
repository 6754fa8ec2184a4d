-- `maps::generator_count` meets its contract: 13 variables on one side make too many, and with at most 12 nothing overflows. Assumes nothing.
use Rattle.std.proofs.Common.{arith}
use Rattle.maps.proofs.Counting.{count_is, count_many, count_none_left, count_none_right, many_left, many_right, counted}
use Rattle.maps.proofs.generator_count.Goals as goal
use Rattle.maps.proofs.generator_count.Goals.{then-n-eq0-via-then-n-eq0, then-n-eq0-via-else-n-eq0+then-m-eq0}
use Rattle.maps.proofs.generator_count.Goals.{then-n-gt12-via-then-n-gt12, then-n-gt12-via-else-n-gt12+then-m-gt12}

pub returns-then-n-eq0 : goal.returns-then-n-eq0
returns-then-n-eq0 c =
    let a = c.args in
    elim c.then-n-eq0.branch [
      | then-n-eq0-via-then-n-eq0 w ↦ count_is a.n a.m 0 (count_none_left a.n a.m w.if-n-eq0.true) (omega arith)
      | then-n-eq0-via-else-n-eq0+then-m-eq0 w ↦ count_is a.n a.m 0 (count_none_right a.n a.m w.if-m-eq0.true) (omega arith)
    ]

pub returns-then-n-gt12 : goal.returns-then-n-gt12
returns-then-n-gt12 c =
    let a = c.args in
    elim c.then-n-gt12.branch [
      | then-n-gt12-via-then-n-gt12 w ↦ count_many a.n a.m (many_left a.n a.m w.if-n-gt12.true (omega arith))
      | then-n-gt12-via-else-n-gt12+then-m-gt12 w ↦ count_many a.n a.m (many_right a.n a.m (omega arith) w.if-m-gt12.true)
    ]

pub returns-then-c : goal.returns-then-c
returns-then-c c =
    let a = c.args in
    let e = counted a.n a.m (omega arith) (omega arith) in
    count_many a.n a.m (omega arith)

pub returns : goal.returns
returns c =
    let a = c.args in
    let e = counted a.n a.m (omega arith) (omega arith) in
    count_is a.n a.m _ e (omega arith)
