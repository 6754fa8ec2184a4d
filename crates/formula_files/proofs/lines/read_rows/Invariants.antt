-- `formula_files::lines::read_rows` meets its contract. The invariant: the lines that are left read as the whole. Assumes nothing.
use Rattle.std.specs.Prelude.{◌≡◌, ◌≤◌, ◌-◌, false, length, drop}
use Rattle.formula_files.specs.lines.Buffered.{rows_from}
use Rattle.formula_files.proofs.lines.read_rows.Given as goal

abbrev pub invariant-loop-i : goal.invariant-loop-i
invariant-loop-i l = (l.at ≤ length l.s) × (rows_from l.k l.t l.s 0 l.initial.d false ≡ rows_from l.k (l.t - l.i) (drop l.at l.s) l.i l.d l.wide)
