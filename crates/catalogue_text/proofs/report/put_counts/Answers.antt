-- `catalogue_text::report::put_counts` meets its contract. Assumes nothing.
use Rattle.catalogue_text.specs.report.laws.Catalogue.{counts_put}
use Rattle.catalogue_text.proofs.report.put_counts.Goals as goal

pub returns : goal.returns
returns c =
    let args = c.args in
    let put-bytes = c.put_bytes-a in
    let put-sizes = c.put_sizes-b in
    let put-field = c.put_field-c in
    let put-field2 = c.put_field-d in
    let put-field3 = c.put_field-e in
    counts_put args.shape _ _ _ _ _ _ _ _ _ _ _ _ _ _ _ _ _ put-bytes.ensures put-sizes.ensures put-field.ensures
    put-field2.ensures put-field3.ensures c.put_bytes.ensures
