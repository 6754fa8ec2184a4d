-- `space_formulae::spaces::is_entry` meets its contract. Assumes nothing.
use Rattle.space_formulae.proofs.laws.of_spaces.Entry.{rows_other, rows_short, rows_judged}
use Rattle.space_formulae.proofs.spaces.is_entry.Goals as goal

pub has_rows-requires : goal.has_rows-requires
has_rows-requires c = c.basis_of-b.ensures.valid

pub returns-then-not-has_rows : goal.returns-then-not-has_rows
returns-then-not-has_rows c =
    let args = c.args in
    let basis-of = c.basis_of-b in
    rows_other args.gens.now args.targets.now args.rows.now basis-of.result basis-of.ensures c.has_rows.result
    c.has_rows.ensures c.if-not-has_rows.true-raw

pub completes-requires : goal.completes-requires
completes-requires c = c.empty.ensures.valid

pub returns-then-not-completes : goal.returns-then-not-completes
returns-then-not-completes c =
    let args = c.args in
    let basis-of = c.basis_of-b in
    let has-rows = c.has_rows in
    let if1 = c.if-not-has_rows in
    let empty = c.empty in
    rows_short args.gens.now args.targets.now args.rows.now basis-of.result basis-of.ensures has-rows.result has-rows.ensures
    if1.false-raw empty.result empty.ensures c.completes.result c.completes.ensures c.if-not-completes.true-raw

pub misses-requires : goal.misses-requires
misses-requires c = c.basis_of-b.ensures.valid

pub returns : goal.returns
returns c =
    let args = c.args in
    let basis-of = c.basis_of-b in
    let has-rows = c.has_rows in
    let if1 = c.if-not-has_rows in
    let empty = c.empty in
    let completes = c.completes in
    rows_judged args.gens.now args.targets.now args.rows.now basis-of.result basis-of.ensures has-rows.result has-rows.ensures
    if1.false-raw empty.result empty.ensures completes.result completes.ensures c.if-not-completes.false-raw c.misses.result
    c.misses.ensures
