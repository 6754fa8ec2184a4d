-- `maps::target` meets its contract: a square poly size stands in the table. Assumes nothing.
use mathlib.Core.Path.{sym, ◌∙◌}
use Rattle.maps.specs.Accepted.{accepted_in_table, accepted_square}
use Rattle.maps.proofs.target.Goals as goal

pub square-requires : goal.square-requires
square-requires c =
    let a = c.args in
    accepted_in_table a.shape a.n a.m a.t c.requires c.in-Poly.is c.if-shape.true

pub returns-then-shape : goal.returns-then-shape
returns-then-shape c =
    let a = c.args in
    let pre = c.requires in
    c.square.ensures
    ∙ sym (accepted_square a.shape a.n a.m a.t pre c.in-Poly.is c.if-shape.true)
