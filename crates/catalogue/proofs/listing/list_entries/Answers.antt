-- `catalogue::listing::list_entries` meets its contract: the walk from the targets' space writes the records of the entries. Assumes nothing.
use Rattle.catalogue.proofs.Root.{rooted, listed_none, listed_end}
use Rattle.catalogue.proofs.listing.list_entries.Goals as goal

pub returns-then-k-ell : goal.returns-then-k-ell
returns-then-k-ell c =
    let a = c.args in
    listed_none a.gens.now a.k a.limit a.out.now a.b c.if-k-ell.true

pub meet_all-counts-requires : goal.meet_all-counts-requires
meet_all-counts-requires c = rooted _ _ _ _ c.requires c.if-k-ell.false

pub shape_of-out : goal.shape_of-out
shape_of-out c = c.meet_all-counts.auto.out

pub returns : goal.returns
returns c =
    let a = c.args in
    let if1 = c.if-k-ell in
    let met = c.meet_all-counts in
    listed_end a.gens.now a.k a.limit _ _ a.out.now a.b if1.false met.result met.new.out met.ensures
