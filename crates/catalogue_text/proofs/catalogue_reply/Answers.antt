-- `catalogue_text::catalogue_reply` meets its contract. Assumes nothing.
use Rattle.problems.specs.Problem.{problem}
use Rattle.catalogue_text.specs.laws.Catalogue.{Said, reply_refused, reply_records, reply_entries}
use Rattle.catalogue_text.proofs.catalogue_reply.Goals as goal
use Rattle.catalogue_text.proofs.catalogue_reply.Goals.{After-catalogue_of-said}

-- what the call says
said : (c : After-catalogue_of-said)
    → Said c.args.shape c.args.k (problem c.args.gens.now c.args.targets.now) c.catalogue_of-said.result c.catalogue_of-said.new.out
said c = record { few = c.requires.1; answer = c.catalogue_of-said.ensures.0; size = c.catalogue_of-said.auto.out }

pub catalogue_text-requires : goal.catalogue_text-requires
catalogue_text-requires c = reply_records _ _ _ _ _ (said (goal.at.catalogue_text-requires c).After-catalogue_of-said) _ _ _ c.in-Entries.is

pub returns-in-Refused : goal.returns-in-Refused
returns-in-Refused c =
    reply_refused _ _ _ _ _ (said (goal.at.returns-in-Refused c).After-catalogue_of-said) _ _ _ c.in-Refused.is c.refused_page.ensures

pub returns-in-Entries : goal.returns-in-Entries
returns-in-Entries c =
    reply_entries _ _ _ _ _ (said (goal.at.returns-in-Entries c).After-catalogue_of-said) _ _ _ c.in-Entries.is c.args.page.now _ _ c.requires.0 c.catalogue_text.ensures
