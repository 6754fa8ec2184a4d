-- What is printed of a problem's Rank.
--   rank_answer .. a     == the text of Rank's answer a, for t targets of dimension ell
--   rank_reply shape k x prices == the text of the Rank of the problem x, whose kind and sizes these are and whose generators have the prices
-- The texts are in `report`. Assumes nothing.
use Rattle.std.specs.Prelude.{ℕ, true, false, List, length, take, drop}
use Rattle.kinds.specs.declared.Shape.{Shape}
use Rattle.kinds.specs.Refusal.{Answer, refused, accepted}
use Rattle.linear.specs.Basis.{dim}
use Rattle.linear.specs.Word.{word}
use Rattle.problems.specs.Problem.{Problem}
use Rattle.printing.specs.fields.RefusedText.{refused_text}
use Rattle.rank_text.specs.report.RankReports.{rank_text, far_rank_text}
use Rattle.rank.specs.Rank.{rank_for}
use Rattle.rank.specs.fewest.Fewest.{Ranking, is, above, beyond}
use Rattle.printing.specs.refusals.Pages.{listing_room}

-- the formula: the numbers of its products, then a row for every target
abbrev pub rank_answer : Shape → (k ell t : ℕ) → Answer Ranking → List ℕ
rank_answer shape k ell t (refused e) = refused_text e
rank_answer shape k ell t (accepted (is n buffer)) = rank_text shape k ell (take n buffer) (take t (drop n buffer))
rank_answer shape k ell t (accepted above) = far_rank_text shape k ell true
rank_answer shape k ell t (accepted beyond) = far_rank_text shape k ell false

unfoldable pub rank_reply : Shape → ℕ → Problem → List ℕ → List ℕ
rank_reply shape k x prices = rank_answer shape k (dim word x.targets) (length x.targets) (rank_for x prices k listing_room)
