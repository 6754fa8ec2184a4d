-- `catalogue_text::report::catalogue_text` meets its contract. Assumes nothing.
use Rattle.catalogue_text.specs.report.laws.Catalogue.{catalogue_put}
use Rattle.catalogue_text.proofs.report.catalogue_text.Goals as goal

pub returns : goal.returns
returns c =
    let put-counts = c.put_counts-a in
    let put-bytes = c.put_bytes-b in
    let args = c.args in
    catalogue_put args.shape args.k args.ell _ args.shown _ _ _ args.listing.now _ _ _ _ put-counts.ensures put-bytes.ensures
    c.put_entries.ensures
