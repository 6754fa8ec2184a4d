-- The part of a selection of generator numbers that is independent and spans all of it.
--   part sel == of the selected numbers, ascending, each whose generator is not in the span of those taken before it
-- Document 02: "Only the dictionary_first part that is independent and spans all of the selection may be used". That it is that part: proofs/laws/Part.
-- Assumes nothing.
use Rattle.std.specs.Prelude.{List, [], ℕ, length, eqb}
use Rattle.linear.specs.Space.{Space}
use Rattle.linear.specs.Select.{any_of}
use Rattle.linear.specs.Greedy.{greedy}

module _ (S : Space) (gens : List S.Vec) where
  unfoldable pub part : List ℕ → List ℕ
  part sel = greedy S gens (λ j. any_of (eqb j) sel) [] (length gens) 0
