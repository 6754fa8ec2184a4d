-- `turn_output::write_turn`: its reply is never refused. Assumes nothing.
use Rattle.std.proofs.Common.{sym}
use Rattle.printing.specs.pages.laws.Printed.{never_refused}
use Rattle.turn_output.proofs.write_turn.Goals as goal

pub write_printed-requires : goal.write_printed-requires
write_printed-requires g c =
    let p = c.turn_program-said in
    never_refused _ _ p.result _ _ p.ensures (sym c.formula_page-page.ensures) p.auto.page
