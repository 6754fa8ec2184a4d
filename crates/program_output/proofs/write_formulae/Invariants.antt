-- `program_output::write_formulae`: the page keeps its length, and the parts are few.
use Rattle.std.specs.Prelude.{suc}
use Rattle.std.proofs.Common.{length, ◌-◌, ◌≤◌, ◌≡◌}
use Rattle.text.specs.Limits.{program_words}
use Rattle.printing.specs.refusals.Pages.{part_page}
use Rattle.formulae_program.specs.parts.Parts.{part_count}
use Rattle.program_output.proofs.write_formulae.Given as goal

abbrev pub invariant-loop-gs : goal.invariant-loop-gs
invariant-loop-gs g l = (length l.page ≡ part_page) × (part_count l.started ≤ suc program_words)

abbrev pub decreases-loop-gs : goal.decreases-loop-gs
decreases-loop-gs g l = part_count l.started - l.i
