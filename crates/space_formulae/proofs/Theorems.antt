-- What the numbers of a reply on a space's formulae tell. What the reply means: `spaces`.
--   formulae_numbers_told   two replies of the call, to whatever it is handed, are the same if their numbers are
-- Assumes nothing.
use Rattle.std.specs.Prelude.{◌≡◌, List, ℕ}
use Rattle.kinds.specs.laws.Numbers.{seen_numbered}
use Rattle.space_formulae.specs.spaces.Spaces.{formulae_of, seen_formulae, formulae_numbers}
use Rattle.space_formulae.proofs.laws.Numbers.{formulae_differ, formulae_numbered}
use Rattle.space_formulae.specs.declared.spaces.Listed.{Listed as Reply}

pub formulae_numbers_told : (number p q r number' p' q' r' : ℕ) (gs ts rows old after gs' ts' rows' old' after' : List ℕ) (x y : Reply)
    → formulae_of number p q r gs ts rows old ≡ seen_formulae x after → formulae_of number' p' q' r' gs' ts' rows' old' ≡ seen_formulae y after'
    → formulae_numbers x ≡ formulae_numbers y → x ≡ y
formulae_numbers_told number p q r number' p' q' r' gs ts rows old after gs' ts' rows' old' after' x y e f =
    formulae_differ x y after after' (seen_numbered e (formulae_numbered number p q r gs ts rows old))
    (seen_numbered f (formulae_numbered number' p' q' r' gs' ts' rows' old'))
