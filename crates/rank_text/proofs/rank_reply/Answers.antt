-- `rank_text::rank_reply` meets its contract. Assumes nothing.
use Rattle.bases.specs.Basis.{based_dim}
use Rattle.problems.specs.Problem.{problem}
use Rattle.rank_text.specs.laws.Rank.{Said, said_refused, said_room, said_formula, said_above, said_beyond}
use Rattle.rank_text.proofs.rank_reply.Goals as goal

pub put_formula-requires : goal.put_formula-requires
put_formula-requires c =
    let args = c.args in
    let basis = c.basis_of-b in
    let said = c.rank_posed-said in
    let answer : Said args.shape args.k (problem args.gens.now args.targets.now) args.prices.now basis.result.len said.result said.new.out =
    record { dimension = based_dim args.targets.now basis.result basis.ensures; answer = said.ensures.0; size = said.auto.out } in
    let room = said_room _ _ _ _ _ _ _ answer _ c.in-Is.is in
    (said.auto.out, room)

pub returns-in-Refused : goal.returns-in-Refused
returns-in-Refused c =
    let args = c.args in
    let basis = c.basis_of-b in
    let said = c.rank_posed-said in
    let answer : Said args.shape args.k (problem args.gens.now args.targets.now) args.prices.now basis.result.len said.result said.new.out =
    record { dimension = based_dim args.targets.now basis.result basis.ensures; answer = said.ensures.0; size = said.auto.out } in
    said_refused _ _ _ _ _ _ _ answer _ _ _ c.in-Refused.is
    c.refused_page.ensures

pub returns-in-Is : goal.returns-in-Is
returns-in-Is c =
    let args = c.args in
    let basis = c.basis_of-b in
    let said = c.rank_posed-said in
    let answer : Said args.shape args.k (problem args.gens.now args.targets.now) args.prices.now basis.result.len said.result said.new.out =
    record { dimension = based_dim args.targets.now basis.result basis.ensures; answer = said.ensures.0; size = said.auto.out } in
    let pre = c.requires in
    said_formula _ _ _ _ _ _ _ answer _ c.in-Is.is args.page.now
    _ _ pre.0 c.put_formula.ensures

pub returns-in-Above : goal.returns-in-Above
returns-in-Above c =
    let args = c.args in
    let basis = c.basis_of-b in
    let said = c.rank_posed-said in
    let answer : Said args.shape args.k (problem args.gens.now args.targets.now) args.prices.now basis.result.len said.result said.new.out =
    record { dimension = based_dim args.targets.now basis.result basis.ensures; answer = said.ensures.0; size = said.auto.out } in
    let pre = c.requires in
    said_above _ _ _ _ _ _ _ answer
    c.in-Above.is args.page.now _ _ pre.0 c.far_rank_text.ensures

pub returns-in-Beyond : goal.returns-in-Beyond
returns-in-Beyond c =
    let args = c.args in
    let basis = c.basis_of-b in
    let said = c.rank_posed-said in
    let answer : Said args.shape args.k (problem args.gens.now args.targets.now) args.prices.now basis.result.len said.result said.new.out =
    record { dimension = based_dim args.targets.now basis.result basis.ensures; answer = said.ensures.0; size = said.auto.out } in
    let pre = c.requires in
    said_beyond _ _ _ _ _ _ _ answer
    c.in-Beyond.is args.page.now _ _ pre.0 c.far_rank_text-in-Beyond.ensures
