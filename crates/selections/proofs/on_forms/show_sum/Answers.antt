-- `selections::on_forms::show_sum` meets its contract. Assumes nothing.
use native.Mathlib.Omega.{arith}
use mathlib.Core.Path.{sym, ap}
use lib.Seq.{length-take-le}
use Rattle.kinds.specs.Refusal.{Answer}
use Rattle.bases.specs.rows.Terms.{named}
use Rattle.choices.specs.Choice.{numbers_of}
use Rattle.choices.specs.laws.Writing.{numbers_length}
use Rattle.selections.specs.on_forms.Shown.{Summing, lent_summed}
use Rattle.selections.proofs.laws.of_on_forms.Replies.{shown_none, shown_short, shown_sum, filled_room}
use Rattle.selections.proofs.on_forms.show_sum.Goals as goal

pub returns-then-rest-ne0 : goal.returns-then-rest-ne0
returns-then-rest-ne0 c =
    let a = c.args in
    let r = c.rest_over-rest in
    let e = shown_none a.c a.form a.out.now (r.ensures.some_left c.if-rest-ne0.true) in
    (e, sym (ap (λ (x : Answer Summing). lent_summed x a.out.now) e))

pub slice_bounds-put_named-end : goal.slice_bounds-put_named-end
slice_bounds-put_named-end c =
    numbers_length c.args.c c.requires.whole

pub put_named-m-requires : goal.put_named-m-requires
put_named-m-requires c =
    omega (arith, numbers_length c.args.c c.requires.whole, c.requires.whole.room)

pub returns-then-out-m : goal.returns-then-out-m
returns-then-out-m c =
    let a = c.args in
    let r = c.rest_over-rest in
    let p = c.put_named-m in
    let f = c.if-rest-ne0 in
    let z = f.false in
    let e = shown_short a.c a.form a.out.now r.result.mask p.result (r.ensures.none_left z) (r.ensures.row z)
    p.ensures.1 c.if-out-m.true in
    (e, sym (ap (λ (x : Answer Summing). lent_summed x a.out.now) e))

pub slice_bounds-terms-end : goal.slice_bounds-terms-end
slice_bounds-terms-end c =
    let p = c.put_named-m in filled_room (named (numbers_of c.args.c) c.rest_over-rest.result.mask 0) _ _ p.result p.ensures.1 p.ensures.0

pub slice_bounds-copy-end : goal.slice_bounds-copy-end
slice_bounds-copy-end c = (let p = c.put_named-m in sym (length-take-le p.result p.new.out ((let p = c.put_named-m in let a = c.args in
    let r = c.rest_over-rest in filled_room (named (numbers_of a.c) r.result.mask 0) _ _ p.result p.ensures.1 p.ensures.0))))

pub copy-requires : goal.copy-requires
copy-requires c =
    let h = c.if-out-m.false in
    omega (
      arith,
      (let p = c.put_named-m in sym (length-take-le p.result p.new.out ((let p = c.put_named-m in let a = c.args in
          let r = c.rest_over-rest in filled_room (named (numbers_of a.c) r.result.mask 0) _ _ p.result p.ensures.1 p.ensures.0)))),
      h,
    )

pub returns : goal.returns
returns c =
    let a = c.args in
    let r = c.rest_over-rest in
    let copied = c.copy in
    let g = c.if-out-m in
    let p = c.put_named-m in
    let f = c.if-rest-ne0 in
    let z = f.false in
    let e = shown_sum a.c a.form a.out.now r.result.mask p.result (r.ensures.none_left z) (r.ensures.row z)
    p.ensures.1 (let h = g.false in omega arith) _ _ _ p.ensures.0 copied.ensures in
    (e, sym (ap (λ (x : Answer Summing). lent_summed x a.out.now) e))
