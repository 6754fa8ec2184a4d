-- `cheapest::keep` meets its contract. Assumes nothing.
use Rattle.cheapest.specs.laws.Offers.{candidate_room, offered_is}
use Rattle.cheapest.proofs.keep.Goals as goal

pub replace-requires : goal.replace-requires
replace-requires c =
    let args = c.args in
    let pre = c.requires in
    let choose-along = c.choose_along-n in
    let first-words = c.first_words in
    candidate_room choose-along.ensures args.out.now first-words.ensures pre.1

pub returns : goal.returns
returns c =
    let args = c.args in
    let choose-along = c.choose_along-n in
    let first-words = c.first_words in
    let replace = c.replace in
    offered_is choose-along.ensures args.first args.out.now first-words.ensures replace.ensures
