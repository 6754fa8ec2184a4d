-- `formula_files::lines::read_products` meets its contract. The invariant: the lines that are left read as the whole. Assumes nothing.
use Rattle.std.specs.Prelude.{◌≡◌, ◌≤◌, ◌-◌, false, length, drop}
use Rattle.formula_files.specs.lines.Buffered.{products_from}
use Rattle.formula_files.proofs.lines.read_products.Given as goal

abbrev pub invariant-loop-i : goal.invariant-loop-i
invariant-loop-i l =
    (l.at ≤ length l.s)
    × (products_from l.n l.m l.k l.s 0 l.initial.a l.initial.b false false ≡ products_from l.n l.m (l.k - l.i) (drop l.at l.s) l.i l.a l.b l.wide l.zero)
