-- `formulae_text::entry_formulae` meets its contract. Assumes nothing.
use Rattle.std.specs.Prelude.{true, false}
use Rattle.problems.specs.Problem.{problem}
use Rattle.formulae_text.specs.laws.Formulae.{Said, said_refused, said_all, said_more, said_records, said_lines}
use Rattle.formulae_text.proofs.entry_formulae.Goals as goal
use Rattle.formulae_text.proofs.entry_formulae.Goals.{After-formulae_for-said}

-- what the call says
said : (c : After-formulae_for-said)
    → Said c.args.entry (problem c.args.gens.now c.args.targets.now) c.args.rows.now c.formulae_for-said.result c.formulae_for-said.new.out
said c = record { few = c.requires.1; answer = c.formulae_for-said.ensures.0; size = c.formulae_for-said.auto.out }

pub formulae_text-requires : goal.formulae_text-requires
formulae_text-requires c =
    let l = said (goal.at.formulae_text-requires c).After-formulae_for-said in
    said_records _ _ _ _ _ l _ true (said_all _ _ _ _ _ l _ c.in-All.is)

pub formulae_text-requires-in-More : goal.formulae_text-requires-in-More
formulae_text-requires-in-More c =
    let l = said (goal.at.formulae_text-requires-in-More c).After-formulae_for-said in
    said_records _ _ _ _ _ l _ false (said_more _ _ _ _ _ l _ c.in-More.is)

pub returns-in-Refused : goal.returns-in-Refused
returns-in-Refused c =
    said_refused _ _ _ _ _ (said (goal.at.returns-in-Refused c).After-formulae_for-said) _ _ _ c.in-Refused.is c.refused_page.ensures

pub returns-in-All : goal.returns-in-All
returns-in-All c =
    let l = said (goal.at.returns-in-All c).After-formulae_for-said in
    said_lines _ _ _ _ _ l _ true (said_all _ _ _ _ _ l _ c.in-All.is) c.args.page.now _ _ c.requires.0 c.formulae_text.ensures

pub returns-in-More : goal.returns-in-More
returns-in-More c =
    let l = said (goal.at.returns-in-More c).After-formulae_for-said in
    said_lines _ _ _ _ _ l _ false (said_more _ _ _ _ _ l _ c.in-More.is) c.args.page.now _ _ c.requires.0 c.formulae_text-in-More.ensures
