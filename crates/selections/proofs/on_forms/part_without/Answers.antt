-- `selections::on_forms::part_without` meets its contract. Assumes nothing.
use native.Mathlib.Omega.{arith}
use mathlib.Core.Path.{refl, subst}
use mathlib.Core.List.{List}
use lib.ListN.{length}
use Prim.Native.Nat.{ℕ}
use Rattle.choices.specs.Choice.{Chose}
use Rattle.selections.specs.on_forms.Selected.{without}
use Rattle.selections.proofs.laws.of_on_forms.Marking.{misfit_below, marked_part}
use Rattle.selections.proofs.on_forms.part_without.Goals as goal

pub mark-requires : goal.mark-requires
mark-requires c =
    λ e m. let h = misfit_below (length c.args.gens.now) c.args.sel.now c.requires.1 e m in omega (arith, h, c.requires.0)

pub returns : goal.returns
returns c =
    let a = c.args in
    subst (λ (es : List ℕ). Chose a.gens.now es c.choose.result)
    (marked_part a.gens.now (without a.skip a.sel.now) _ _ 4095 refl c.mark.ensures) c.choose.ensures
