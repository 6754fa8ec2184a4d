-- `cheapest::replace` meets its contract. Assumes nothing.
use mathlib.Core.Path.{sym, ap, ◌∙◌}
use lib.ListN.{length}
use lib.Seq.{length-take-le}
use Rattle.cheapest.specs.laws.Offers.{replaced_yes, replaced_no}
use Rattle.cheapest.proofs.replace.Goals as goal

pub is_better-requires : goal.is_better-requires
is_better-requires c =
    let args = c.args in
    let pre = c.requires in
    let first-words = c.first_words in
    sym (ap length first-words.ensures ∙ length-take-le (length args.new.now) args.held.now pre)

pub returns-then-is_better : goal.returns-then-is_better
returns-then-is_better c =
    let args = c.args in
    let first-words = c.first_words in
    let is-better = c.is_better in
    let if1 = c.if-is_better in
    let copy = c.copy in
    replaced_yes args.first args.new.now args.held.now _ _ first-words.ensures is-better.ensures _ if1.true copy.ensures

pub returns-else-is_better : goal.returns-else-is_better
returns-else-is_better c =
    let args = c.args in
    let first-words = c.first_words in
    let is-better = c.is_better in
    let if1 = c.if-is_better in
    replaced_no args.first args.new.now args.held.now _ _ first-words.ensures is-better.ensures if1.false
