-- `catalogue::noting::is_full` meets its contract. Assumes nothing.
use mathlib.Core.Path.{refl}
use Rattle.catalogue.proofs.laws.of_noting.Noting.{is_full_as}
use Rattle.catalogue.specs.declared.noting.Aim.TheVariants as aim
use Rattle.catalogue.proofs.noting.is_full.Goals as goal

pub returns-in-Records : goal.returns-in-Records
returns-in-Records c = is_full_as c.args.t.found (aim.Records _) c.in-Records.is refl

pub returns-in-Cheapest : goal.returns-in-Cheapest
returns-in-Cheapest c = is_full_as c.args.t.found aim.Cheapest c.in-Cheapest.is refl
