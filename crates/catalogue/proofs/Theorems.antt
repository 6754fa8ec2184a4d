-- What the numbers of Catalogue's reply tell. What the reply means: theorems, catalogue_and_rank.
--   catalogue_numbers_told   two replies of the call, to whatever it is handed, are the same if their numbers are
-- Assumes nothing.
use Rattle.std.specs.Prelude.{◌≡◌, List, ℕ}
use Rattle.kinds.specs.laws.Numbers.{seen_numbered}
use Rattle.catalogue.specs.Catalogue.{catalogue, seen_catalogue, catalogue_numbers}
use Rattle.catalogue.proofs.laws.Numbers.{catalogue_differ, catalogue_numbered}
use Rattle.catalogue.specs.declared.Catalogued.{Catalogued as Reply}

pub catalogue_numbers_told : (number p q r k number' p' q' r' k' : ℕ) (gs ts old after gs' ts' old' after' : List ℕ) (x y : Reply)
    → catalogue number p q r k gs ts old ≡ seen_catalogue x after → catalogue number' p' q' r' k' gs' ts' old' ≡ seen_catalogue y after'
    → catalogue_numbers x ≡ catalogue_numbers y → x ≡ y
catalogue_numbers_told number p q r k number' p' q' r' k' gs ts old after gs' ts' old' after' x y e f =
    catalogue_differ x y after after' (seen_numbered e (catalogue_numbered number p q r k gs ts old))
    (seen_numbered f (catalogue_numbered number' p' q' r' k' gs' ts' old'))
