-- The numbers of a reply. Document 01: "If an answer is an enum, a definition gives this paper's number and values for each case. The promises use
-- that definition"; "A refusal is its number, every other number of the reply 0."
--   refusal_numbers c e == of a refusal by e where a reply has c values: e, and c zeros
--   answer_numbers v    == of an answer with the values v: 0, and the values
--   reply_numbers c f o == of what a definition says, f giving the c values of what is accepted
--   NotByZero o        == o is not refused by 0, which is the number of an answer
-- Assumes nothing.
use Rattle.std.specs.Prelude.{List, ◌∷◌, ℕ, ◌≤◌, replicate}
use Rattle.kinds.specs.Refusal.{Answer, refused, accepted, RefusedOnly}

abbrev pub refusal_numbers : (count e : ℕ) → List ℕ
refusal_numbers count e = e ∷ replicate count 0

abbrev pub answer_numbers : List ℕ → List ℕ
answer_numbers values = 0 ∷ values

abbrev pub reply_numbers : {A : Type 0} → (count : ℕ) → (A → List ℕ) → Answer A → List ℕ
reply_numbers count values (refused e) = refusal_numbers count e
reply_numbers count values (accepted a) = answer_numbers (values a)

abbrev pub NotByZero : {A : Type 0} → Answer A → Type 0
NotByZero o = RefusedOnly (λ e. 1 ≤ e) o
