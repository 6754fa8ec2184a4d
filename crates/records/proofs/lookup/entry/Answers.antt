-- `records::lookup::entry` meets its contract. Assumes nothing.
use native.Mathlib.Omega.{arith}
use Rattle.records.specs.lookup.laws.Lookup.{not_shown, below, too_long, no_size, runs_past, fits_in, held}
use Rattle.records.proofs.lookup.entry.Goals as goal
use Rattle.records.proofs.lookup.entry.Goals.{then-number-shown-via-then-number-shown, then-number-shown-via-else-number-shown+then-k-ell}
use Rattle.records.proofs.lookup.entry.Goals.{then-number-shown-via-else-number-shown+else-k-ell+then-k-room}
use Rattle.records.proofs.lookup.entry.Goals.{then-size-eq0-via-then-size-eq0, then-size-eq0-via-else-size-eq0+then-number-room}

pub returns-then-number-shown : goal.returns-then-number-shown
returns-then-number-shown c =
    let a = c.args in
    elim c.then-number-shown.branch [
      | then-number-shown-via-then-number-shown w ↦
          not_shown a.ell a.k a.shown a.number a.listing.now (let h = w.if-number-shown.true in omega arith)
      | then-number-shown-via-else-number-shown+then-k-ell w ↦
          below a.ell a.k a.shown a.number a.listing.now (let h = w.if-k-ell.true in omega arith)
      | then-number-shown-via-else-number-shown+else-k-ell+then-k-room w ↦
          too_long a.ell a.k a.shown a.number a.listing.now (let h = w.if-k-room.true in omega arith)
    ]

pub returns-then-size-eq0 : goal.returns-then-size-eq0
returns-then-size-eq0 c =
    let a = c.args in
    elim c.then-size-eq0.branch [
      | then-size-eq0-via-then-size-eq0 w ↦ no_size a.ell a.k a.shown a.number a.listing.now w.if-size-eq0.true
      | then-size-eq0-via-else-size-eq0+then-number-room w ↦
          runs_past a.ell a.k a.shown a.number a.listing.now (let n = w.if-size-eq0.false in omega arith) w.if-number-room.true
    ]

pub overflow_mul-at : goal.overflow_mul-at
overflow_mul-at c =
    let args = c.args in
    let h = fits_in args.ell args.k args.shown args.number args.listing.now (let n = c.if-size-eq0.false in omega arith)
    (let l = c.if-number-room.false in omega arith) in
    record { fits = omega arith }

pub overflow_add-result : goal.overflow_add-result
overflow_add-result c =
    let args = c.args in
    let h = fits_in args.ell args.k args.shown args.number args.listing.now (let n = c.if-size-eq0.false in omega arith)
    (let l = c.if-number-room.false in omega arith) in
    omega arith

pub offset_bounds-listing-at : goal.offset_bounds-listing-at
offset_bounds-listing-at c =
    let args = c.args in
    let h = fits_in args.ell args.k args.shown args.number args.listing.now (let n = c.if-size-eq0.false in omega arith)
    (let l = c.if-number-room.false in omega arith) in
    omega arith

pub returns : goal.returns
returns c =
    let args = c.args in
    let if1 = c.if-number-shown in
    let if2 = c.if-k-ell in
    held args.ell args.k args.shown args.number args.listing.now (let h = if1.false in omega arith) (let h = if2.false in omega arith)
    (fits_in args.ell args.k args.shown args.number args.listing.now (let n = c.if-size-eq0.false in omega arith)
    (let l = c.if-number-room.false in omega arith))
