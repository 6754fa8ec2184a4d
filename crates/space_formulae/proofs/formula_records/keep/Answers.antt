-- `space_formulae::formula_records::keep` meets its contract. Assumes nothing.
use Rattle.choices.specs.Choice.{record_of}
use Rattle.records.specs.laws.Counted.{sane_counting, kept_unshown, kept_room, kept_shown}
use Rattle.space_formulae.proofs.Keeping.{record_length_law}
use Rattle.space_formulae.proofs.formula_records.keep.Goals as goal

pub count-r-requires : goal.count-r-requires
count-r-requires c =
    let args = c.args in
    let pre = c.requires in
    sane_counting args.limit args.t args.out.now pre.sane

pub returns-then-r-t : goal.returns-then-r-t
returns-then-r-t c =
    let args = c.args in
    let pre = c.requires in
    let count = c.count-r in
    kept_unshown args.limit args.t _ args.out.now (record_of args.c args.targets.now) count.result
    (record_length_law args.c args.targets.now pre.whole)
    count.ensures c.if-r-t.true

pub write_formula-requires : goal.write_formula-requires
write_formula-requires c =
    let args = c.args in
    let pre = c.requires in
    let count = c.count-r in
    let l = record_length_law args.c args.targets.now pre.whole in (
      pre.whole,
      kept_room args.limit args.t _ args.out.now (record_of args.c args.targets.now) count.result l count.ensures
          c.if-r-t.false,
      pre.solves,
    )

pub returns : goal.returns
returns c =
    let args = c.args in
    let pre = c.requires in
    let count = c.count-r in
    let if1 = c.if-r-t in
    let l = record_length_law args.c args.targets.now pre.whole in
    kept_shown args.limit args.t _ args.out.now (record_of args.c args.targets.now) count.result l count.ensures if1.false _
    c.write_formula.ensures
