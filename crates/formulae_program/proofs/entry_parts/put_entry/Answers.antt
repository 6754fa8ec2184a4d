-- `formulae_program::entry_parts::put_entry` meets its contract. Assumes nothing.
use mathlib.Core.Path.{◌∙◌}
use native.Mathlib.Omega.{arith}
use borrow.Author.Rules.{rules}
use Rattle.problems.specs.Problem.{problem}
use Rattle.formulae_program.specs.entry_parts.laws.Parts.{told_few, told_none, told_many}
use Rattle.formulae_program.proofs.entry_parts.put_entry.Goals as goal

pub returns-then-targets-eq0 : goal.returns-then-targets-eq0
returns-then-targets-eq0 c =
    let if1 = c.if-targets-eq0 in
    let args = c.args in
    let r = c.refused_page.ensures in
    (r.0 ∙ told_none args.entry (problem args.gens.now args.targets.now) args.rows.now if1.true, omega (arith, r.1))

pub returns-then-targets-gt-TARGETS : goal.returns-then-targets-gt-TARGETS
returns-then-targets-gt-TARGETS c =
    let if2 = c.if-targets-gt-TARGETS in
    let args = c.args in
    let r = c.refused_page-then-targets-gt-TARGETS.ensures in
    (r.0 ∙ told_many args.entry (problem args.gens.now args.targets.now) args.rows.now if2.true, omega (arith, r.1))

pub returns : goal.returns
returns c =
    let if1 = c.if-targets-eq0 in
    let if2 = c.if-targets-gt-TARGETS in
    let args = c.args in
    let r = c.entry_formulae.ensures in (
      r.0 ∙ told_few args.entry (problem args.gens.now args.targets.now) args.rows.now (omega (arith, if1.false))
          (omega (arith, if2.false)),
      r.1,
    )
