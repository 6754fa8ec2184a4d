-- `cheapest::choose_along` meets its contract: the cost, and behind it the numbers taken. Assumes nothing.
use mathlib.Core.Path.{◌∙◌}
use native.Mathlib.Omega.{arith}
use lib.ListN.{length-set}
use Rattle.cheapest.specs.laws.Offers.{taken_costed, taken_room, written_whole}
use Rattle.cheapest.proofs.choose_along.Goals as goal

pub total-requires : goal.total-requires
total-requires c =
    let pre = c.requires in
    let take-along = c.take_along-n in
    let first-words = c.first_words-taken in
    taken_costed take-along.ensures pre.0 first-words.ensures

pub copy-requires : goal.copy-requires
copy-requires c =
    let args = c.args in
    let pre = c.requires in
    let take-along = c.take_along-n in
    let first-words = c.first_words-taken in
    let room = taken_room args.prices.now args.out.now take-along.ensures first-words.ensures pre.1 in
    simp length-set (omega arith)

pub shape_of-out : goal.shape_of-out
shape_of-out c =
    let args = c.args in
    let total = c.total in
    let copy = c.copy in
    copy.auto.out ∙ length-set args.out.now 0 total.result

pub returns : goal.returns
returns c =
    let args = c.args in
    let pre = c.requires in
    let take-along = c.take_along-n in
    let first-words = c.first_words-taken in
    let total = c.total in
    let copy = c.copy in
    written_whole args.prices.now args.out.now take-along.ensures _ _ _ first-words.ensures total.ensures copy.ensures pre.1
