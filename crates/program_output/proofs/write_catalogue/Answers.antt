-- `program_output::write_catalogue`: its reply is never refused. Assumes nothing.
use Rattle.std.proofs.Common.{sym}
use Rattle.printing.specs.pages.laws.Printed.{never_refused}
use Rattle.program_output.proofs.write_catalogue.Goals as goal

pub write_printed-requires : goal.write_printed-requires
write_printed-requires g c =
    let p = c.catalogue_program-said in
    never_refused _ _ p.result _ _ p.ensures (sym c.reply_page-page.ensures) p.auto.page
