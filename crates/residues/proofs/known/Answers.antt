-- `residues::known` meets its contract: the residue is 0, or stands earlier. Assumes nothing.
use Rattle.residues.proofs.laws.of_children.Known.{known_zero, known_any}
use mathlib.Core.Path.{◌∙◌}
use borrow.Author.Tests.{eq-eqb}
use Rattle.residues.proofs.known.Goals as goal

pub returns-then-v-eq0 : goal.returns-then-v-eq0
returns-then-v-eq0 c = eq-eqb _ 0 c.if-v-eq0.true ∙ known_zero c.args.h.now c.args.j c.if-v-eq0.true

pub returns-else-v-eq0 : goal.returns-else-v-eq0
returns-else-v-eq0 c = c.contains.ensures.value ∙ known_any c.args.h.now c.args.j c.if-v-eq0.false
