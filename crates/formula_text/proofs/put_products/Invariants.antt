-- `formula_text::put_products` meets its contract. The invariant: printing the products that are left gives what printing all does. Assumes nothing.
use Rattle.std.specs.Prelude.{[], length}
use Rattle.formula_text.specs.BodyText.{products_text}
use Rattle.formula_text.specs.laws.Rest.{Rest}
use Rattle.formula_text.specs.laws.Loops.{products_from}
use Rattle.formula_text.proofs.put_products.Given as goal

abbrev pub invariant-loop-x : goal.invariant-loop-x
invariant-loop-x l = Rest l.initial.out l.at (products_text l.xs l.ys []) l.out l.e (products_from l.xs l.ys (length l.yielded))
