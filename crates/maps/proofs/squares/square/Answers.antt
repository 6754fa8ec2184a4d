-- `maps::squares::square` meets its contract: the index is below 64, and the entry is the form by the rule of the table. Assumes nothing.
use native.Mathlib.Omega.{arith}
use Rattle.maps.specs.Squares.{table_end, squares_rule}
use Rattle.maps.proofs.squares.square.Goals as goal

pub overflow_mul-at : goal.overflow_mul-at
overflow_mul-at c = record { fits = omega (arith, table_end c.args.s c.args.t c.requires) }

pub overflow_add-at : goal.overflow_add-at
overflow_add-at c = record { fits = omega (arith, table_end c.args.s c.args.t c.requires) }

pub offset_bounds-at : goal.offset_bounds-at
offset_bounds-at c = record { fits = omega (arith, table_end c.args.s c.args.t c.requires) }

pub returns : goal.returns
returns c = squares_rule c.args.s c.args.t c.requires.some c.requires.most c.requires.coefficient
