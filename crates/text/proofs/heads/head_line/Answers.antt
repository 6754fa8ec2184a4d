-- `text::heads::head_line` meets its contract. Assumes nothing.
use Rattle.std.specs.Prelude.{◌+◌, take}
use Rattle.std.proofs.Common.{sym, arith}
use Rattle.text.specs.heads.Head.{count_fields}
use Rattle.text.specs.laws.Line.{read_at}
use Rattle.text.specs.heads.laws.Head.{head_cut, head_comma, head_counts, head_is}
use Rattle.text.proofs.heads.head_line.Goals as goal

pub returns-in_err-e : goal.returns-in_err-e
returns-in_err-e c = rw c.from_residual.ensures (head_cut _ c.in_err-e.ensures.0, omega arith)

pub returns-in_err-n : goal.returns-in_err-n
returns-in_err-n c = rw c.from_residual-in_err-n.ensures (head_comma _ _ _ c.in_ok-e.ensures.0 c.in_err-n.ensures.0, omega arith)

pub returns-in_err-p : goal.returns-in_err-p
returns-in_err-p c =
    let counts = read_at count_fields (take c.in_ok-e.e c.args.s.now) (c.in_ok-n.n + 1) _ (sym c.in_err-p.ensures) in
    rw c.from_residual-in_err-p.ensures (head_counts _ _ _ _ _ c.in_ok-e.ensures.0 c.in_ok-n.ensures.0 counts, omega arith)

pub returns : goal.returns
returns c =
    let counts = read_at count_fields (take c.in_ok-e.e c.args.s.now) (c.in_ok-n.n + 1) _ (sym c.in_ok-p.ensures) in
    (rw c.kind_named-kind.ensures (head_is _ _ _ _ _ _ _ _ _ c.in_ok-e.ensures.0 c.in_ok-n.ensures.0 counts), c.in_ok-e.ensures.1)
