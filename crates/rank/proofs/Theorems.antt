-- What the numbers of Rank's reply tell. What the reply means: theorems, catalogue_and_rank.
--   rank_numbers_told   two replies of the call, to whatever it is handed, are the same if their numbers are
-- Assumes nothing.
use Rattle.std.specs.Prelude.{◌≡◌, List, ℕ}
use Rattle.kinds.specs.laws.Numbers.{seen_numbered}
use Rattle.rank.specs.Rank.{rank}
use Rattle.rank.specs.fewest.Fewest.{seen_ranked, rank_numbers}
use Rattle.rank.proofs.laws.Numbers.{rank_differ, rank_numbered}
use Rattle.rank.specs.declared.fewest.Ranked.{Ranked}

pub rank_numbers_told : (number p q r k number' p' q' r' k' : ℕ) (gs ts costs old after gs' ts' costs' old' after' : List ℕ) (x y : Ranked)
    → rank number p q r k gs ts costs old ≡ seen_ranked x after → rank number' p' q' r' k' gs' ts' costs' old' ≡ seen_ranked y after'
    → rank_numbers x ≡ rank_numbers y → x ≡ y
rank_numbers_told number p q r k number' p' q' r' k' gs ts costs old after gs' ts' costs' old' after' x y e f =
    rank_differ x y after after' (seen_numbered e (rank_numbered number p q r k gs ts costs old))
    (seen_numbered f (rank_numbered number' p' q' r' k' gs' ts' costs' old'))
