-- `formulae_text::lines::formulae_text` meets its contract. Assumes nothing.
use Rattle.formulae_text.specs.lines.laws.Lines.{text_put}
use Rattle.formulae_text.proofs.lines.formulae_text.Goals as goal

pub returns : goal.returns
returns c =
    let args = c.args in
    let put-formulae = c.put_formulae-a in
    text_put args.entry args.k args.t args.n args.whole args.listing.now _ _ args.out.now _ _ put-formulae.ensures
    c.put_left.ensures
