-- The reply of the turning, and what its three lent buffers hold at exit.
--   turned_reply o       == the code's answer
--   turned_numbers x     == its numbers: the refusal's, the kind's, p, q, r and k; `formula_values` (formula_check), the same of what is accepted
--   full_of n xs ys rows == the full product formula of n by n variables with those lists
--   Words ..            == what the parts of a turned formula ask: at most 64 bits, masks and rows
--   after part o d      == the buffer d after the answer o: a part of the formula from its start, or as it was
--   Lent o ..           == the buffers as they were where o is refused, else filled from the start with the parts of the formula
-- Document 01: "An accepted call writes from a buffer's start, and the rest keeps its values." Assumes nothing.
use Rattle.std.specs.Prelude.{ℕ, ◌≤◌, ◌≡◌, List, [], ◌∷◌, length}
use Rattle.kinds.specs.Kinds.{number_of}
use Rattle.kinds.specs.Numbers.{refusal_numbers, answer_numbers}
use Rattle.kinds.specs.Sizes.{shape_of}
use Rattle.kinds.specs.Refusal.{Answer, refused, accepted}
use Rattle.kinds.specs.declared.Kind.TheVariants as kind
use Rattle.words.specs.Buffers.{filled}
use Rattle.formula_check.specs.Formula.{Admitted, formula_of}
use Rattle.turning.specs.declared.Turned.{Turned}
use Rattle.turning.specs.declared.Turned.TheVariants as reply

abbrev pub turned_reply : Answer Admitted → Turned
turned_reply (refused e) = reply.Refused e
turned_reply (accepted g) = reply.Formula g.shape (length g.firsts)

-- "A refusal is its number, every other number of the reply 0."
abbrev pub turned_numbers : Turned → List ℕ
turned_numbers (reply.Refused e) = refusal_numbers 5 e
turned_numbers (reply.Formula shape k) = answer_numbers (number_of shape.kind ∷ shape.p ∷ shape.q ∷ shape.r ∷ k ∷ [])

abbrev pub full_of : (n : ℕ) (xs ys rows : List ℕ) → Admitted
full_of n xs ys rows = formula_of (shape_of kind.Poly n n 0) n n xs ys rows

pub record Words (n : ℕ) (xs ys rows : List ℕ) : Type 0 where
  pub bits : n ≤ 64
  pub products : length xs ≤ 64
  pub pairs : length ys ≤ 64
  pub outputs : length rows ≤ 64

abbrev pub after : (Admitted → List ℕ) → Answer Admitted → List ℕ → List ℕ
after part (refused e) d = d
after part (accepted g) d = filled (part g) d

pub record Lent (o : Answer Admitted) (a b d a₁ b₁ d₁ : List ℕ) : Type 0 where
  pub firsts : a₁ ≡ after (λ g. g.firsts) o a
  pub seconds : b₁ ≡ after (λ g. g.seconds) o b
  pub rows : d₁ ≡ after (λ g. g.rows) o d
