-- `program_output::write_formulae`: the parts end, and what is printed is never refused. Assumes nothing.
use Rattle.std.proofs.Common.{sym, ℕ}
use lib.ListN.{length-replicate}
use Rattle.printing.specs.pages.laws.Printed.{never_refused}
use Rattle.formulae_program.specs.parts.laws.Parts.{parts_few}
use Rattle.program_output.proofs.write_formulae.Goals as goal

pub loop-gs-init : goal.loop-gs-init
loop-gs-init g c = (sym c.part_page-page.ensures, parts_few _ _ _ _ c.start-started.result _ _ _ (length-replicate {A = ℕ} _ 0) c.start-started.ensures)

pub write_printed-requires : goal.write_printed-requires
write_printed-requires g c =
    let p = c.part_page-said in
    never_refused _ _ p.result _ _ p.ensures c.loop-gs.invariant.0 p.auto.page
