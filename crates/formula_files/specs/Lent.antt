-- The reply to a reading, and what the three lent buffers hold at exit.
--   formula_reply o                  == the code's answer
--   formula_read_numbers x            == its numbers: the refusal's, the kind's, p, q, r and k; `formula_values` (formula_check), the same of what is accepted
--   first_of, second_of, rows_lent o d == the buffer d after it: all 0 where the reading is refused, else filled from the start
-- Assumes nothing.
use Rattle.std.specs.Prelude.{ℕ, ◌≡◌, List, [], ◌∷◌, length}
use Rattle.kinds.specs.declared.Shape.{Shape}
use Rattle.kinds.specs.Kinds.{number_of}
use Rattle.kinds.specs.Refusal.{Answer, refused, accepted}
use Rattle.kinds.specs.Numbers.{refusal_numbers, answer_numbers}
use Rattle.words.specs.Buffers.{filled, zeros}
use Rattle.formula_check.specs.Formula.{Admitted}
use Rattle.formula_files.specs.FormulaFile.{under}
use Rattle.formula_files.specs.declared.Read.{Read}
use Rattle.formula_files.specs.declared.Read.TheVariants as read

abbrev pub formula_reply : Answer Admitted → Read
formula_reply (refused e) = read.Refused e
formula_reply (accepted f) = read.Formula f.shape (length f.firsts)

-- "A refusal is its number, every other number of the reply 0."
abbrev pub formula_read_numbers : Read → List ℕ
formula_read_numbers (read.Refused e) = refusal_numbers 5 e
formula_read_numbers (read.Formula shape k) = answer_numbers (number_of shape.kind ∷ shape.p ∷ shape.q ∷ shape.r ∷ k ∷ [])

abbrev pub first_of : Answer Admitted → List ℕ → List ℕ
first_of (refused e) d = zeros d
first_of (accepted f) d = filled f.firsts d

abbrev pub second_of : Answer Admitted → List ℕ → List ℕ
second_of (refused e) d = zeros d
second_of (accepted f) d = filled f.seconds d

abbrev pub rows_lent : Answer Admitted → List ℕ → List ℕ
rows_lent (refused e) d = zeros d
rows_lent (accepted f) d = filled f.rows d

-- what the attempt leaves behind
abbrev pub Left : Answer Admitted → (a b d a₁ b₁ d₁ : List ℕ) → Type 0
Left (refused e) a b d a₁ b₁ d₁ = Unit {0}
Left (accepted f) a b d a₁ b₁ d₁ = (a₁ ≡ filled f.firsts a) × (b₁ ≡ filled f.seconds b) × (d₁ ≡ filled f.rows d)

-- what the number e of the refusal, or 0, and the buffers say of the lines under the first two
pub record Under (k n m t : ℕ) (s a b d a₁ b₁ d₁ : List ℕ) (e : ℕ) : Type 0 where
  pub stopped : (shape : Shape) → (e ≡ 0 → ⊥) → under shape k n m t (length a) (length b) (length d) s ≡ refused e
  pub all : (shape : Shape) → e ≡ 0
      → (read.Formula shape k ≡ formula_reply (under shape k n m t (length a) (length b) (length d) s)) × Left (under shape k n m t (length a) (length b) (length d) s) a b d a₁ b₁ d₁
