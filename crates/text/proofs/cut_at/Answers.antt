-- `text::cut_at` meets its contract. Assumes nothing.
use Rattle.std.specs.Prelude.{eqb}
use Rattle.std.proofs.Common.{rules}
use borrow.Author.Tests.{tests}
use Rattle.std.proofs.lemmas.Iterator.{YieldsList-from_slice}
use Rattle.std.proofs.lemmas.Iterator.Search.{position_from_yields_List}
use Rattle.text.specs.laws.Line.{cut_place}
use Rattle.text.proofs.cut_at.Goals as goal

pub returns : goal.returns
returns c =
    cut_place c.args.c c.args.s.now _
    (position_from_yields_List (λ b. eqb b c.args.c) _ _ _ c.position.ensures.ran (YieldsList-from_slice c.args.s.now cc) (λ x b q k. search (rules, tests)))
