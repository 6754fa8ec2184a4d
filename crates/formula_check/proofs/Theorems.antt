-- What the numbers of Check's reply tell. What the reply means: `meaning`.
--   check_numbers_told   two replies of the call, to whatever it is handed, are the same if their numbers are
-- Assumes nothing.
use Rattle.std.specs.Prelude.{◌≡◌, List, ℕ}
use Rattle.kinds.specs.laws.Numbers.{seen_numbered}
use Rattle.formula_check.specs.Formula.{check}
use Rattle.formula_check.specs.Replies.{seen_reply, check_numbers}
use Rattle.formula_check.proofs.laws.Numbers.{check_differ, check_numbered}
use Rattle.formula_check.specs.declared.Reply.{Reply}

pub check_numbers_told : (number p q r k number' p' q' r' k' : ℕ) (xs ys rows xs' ys' rows' : List ℕ) (x y : Reply)
    → check number p q r k xs ys rows ≡ seen_reply x → check number' p' q' r' k' xs' ys' rows' ≡ seen_reply y
    → check_numbers x ≡ check_numbers y → x ≡ y
check_numbers_told number p q r k number' p' q' r' k' xs ys rows xs' ys' rows' x y e f =
    check_differ x y (seen_numbered e (check_numbered number p q r k xs ys rows))
    (seen_numbered f (check_numbered number' p' q' r' k' xs' ys' rows'))
