-- `catalogue_text::report::put_entries` meets its contract. Assumes nothing.
use native.Mathlib.Omega.{arith}
use Prim.Native.Nat.{◌-◌}
use Rattle.printing.specs.record_lines.RecordLines.{entry_text}
use Rattle.printing.specs.record_lines.laws.Lines.{listing_start, listing_end}
use Rattle.catalogue_text.specs.report.laws.Catalogue.{looked_short, looked_next}
use Rattle.catalogue_text.proofs.report.put_entries.Goals as goal

pub loop-i-init : goal.loop-i-init
loop-i-init c =
    let args = c.args in
    listing_start entry_text 25 args.listing.now (args.k - args.ell) args.k args.shown args.out.now args.at

pub put_entry-e-requires : goal.put_entry-e-requires
put_entry-e-requires c =
    let pre = c.requires in
    let loop-test = c.loop-i-test in
    let args = c.args in
    let loop = c.loop-i in
    looked_short args.listing.now args.ell args.k args.shown args.at loop.i pre.0 pre.1 loop-test.true
    c.extension-extension.ensures
    c.rows-rows.ensures args.out.now loop.out loop.e loop.invariant

pub loop-i-preserved : goal.loop-i-preserved
loop-i-preserved c =
    let pre = c.requires in
    let loop-test = c.loop-i-test in
    let extension = c.extension-extension in
    let rows = c.rows-rows in
    let args = c.args in
    let loop = c.loop-i in
    let put-entry = c.put_entry-e in
    looked_next args.listing.now args.ell args.k args.shown args.at loop.i pre.0 pre.1 loop-test.true extension.ensures
    rows.ensures args.out.now loop.out _ loop.e _ loop.invariant put-entry.ensures put-entry.auto.out

pub returns : goal.returns
returns c =
    let args = c.args in
    let loop = c.loop-i in
    listing_end entry_text 25 args.listing.now (args.k - args.ell) args.k args.shown args.out.now args.at loop.out loop.e loop.i
    loop.invariant (omega arith)
