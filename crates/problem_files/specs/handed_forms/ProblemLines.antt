-- The lines of a problem's file under the first two: the first refusal that applies, or what the file hands in: generators, targets, the generators' costs.
--   list_lines q r s, map_lines n m s, body_of shape n m s  == refusals 4 and 5 of the lines s under the first two, or what is handed in
--   handed_in shape g t c                                 == what is handed in, as it stands at the start of g, t and c
--   CostsFit shape cs                                    == the costs cs are as many as the generators handed in, and of 16 bits each: at most 65,535
--   FormRoom shape g t c                                 == g, t and c have room for all that a file hands in, and it hands in at most 64 targets
-- Document 01, "Refused, in this order":
--   4. "The menu of a Rank, of a Catalogue [..] has more than 4,095 forms"
--   5. "The remaining lines are too few, too many, out of order or misshapen"
-- Assumes nothing.
use Rattle.std.specs.Prelude.{ℕ, ◌≤◌, ◌≡◌, List, [], false, not, cond, length, take, ltb}
use Rattle.kinds.specs.declared.Shape.{Shape}
use Rattle.kinds.specs.Refusal.{Answer, accepted, need, refuse}
use Rattle.words.specs.Masks.{wide}
use Rattle.maps.specs.Generators.{count_of}
use Rattle.formula_files.specs.lines.Formula.{ended}
use Rattle.kinds.specs.Kinds.{is_list, handed}
use Rattle.problem_files.specs.list_lines.Roles.{list_body}
use Rattle.kinds.specs.Limits.{most_generators, most_targets, cost_bits}

unfoldable pub list_lines : (q r : ℕ) → List ℕ → Answer (List ℕ × List ℕ × List ℕ)
list_lines q r s = refuse 4 (ltb most_generators q) (need 5 (list_body q r s) accepted)

-- nothing follows
unfoldable pub map_lines : (n m : ℕ) → List ℕ → Answer (List ℕ × List ℕ × List ℕ)
map_lines n m s = need 4 (count_of n m) λ c. refuse 5 (not (ended s)) (accepted ([], [], []))

abbrev pub body_of : Shape → (n m : ℕ) → List ℕ → Answer (List ℕ × List ℕ × List ℕ)
body_of shape n m s = cond (is_list shape.kind) (list_lines shape.q shape.r s) (map_lines n m s)

abbrev pub handed_in : Shape → (g t c : List ℕ) → List ℕ × List ℕ × List ℕ
handed_in shape g t c = (take (handed shape.kind shape.q) g, take (handed shape.kind shape.r) t, take (handed shape.kind shape.q) c)

pub record CostsFit (shape : Shape) (cs : List ℕ) : Type 0 where
  pub counted : length cs ≡ handed shape.kind shape.q
  pub small : wide cost_bits cs ≡ false

pub record FormRoom (shape : Shape) (g t c : List ℕ) : Type 0 where
  pub generators : most_generators ≤ length g
  pub targets : most_targets ≤ length t
  pub costs : most_generators ≤ length c
  pub few : handed shape.kind shape.r ≤ most_targets
