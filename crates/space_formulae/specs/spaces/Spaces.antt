-- The formulae of a space, on numbers.
--   is_entry gens targets rows  == rows are the reduced basis of a solution space: they are their own reduced basis, the generators inside span them, and no target
--                                 is outside
--   record_size targets rows    == how many words the record of a formula has
--   Formulae                   == how many formulae are listed, whether these are all, and the buffer's content
--   formulae_listing x rows old == what is said of the problem x and the space with those rows, in a buffer that holds old
--   formulae_for x rows old     == refused by 8 or 10, or that
--   formulae_of ..              == refused by a number of document 01's list (2 to 8, 10), or that
--   seen_formulae r after       == what the code's answer r says, the buffer holding `after`
--   formulae_numbers r          == its numbers: the refusal's; 0 for all, 1 for more; how many are listed; `formulae_values`, the same of what is accepted
--   lent_formulae a old         == the buffer's content at exit
-- The test is true exactly for the solution spaces, `entry_exactly`; what it all means is in `Theorems`. Assumes nothing.
use Rattle.std.specs.Prelude.{Bool, true, false, not, ◌&&◌, cond, List, [], ◌∷◌, ◌++◌, map, ℕ, ◌+◌, ◌*◌, ◌≤◌, length, take, drop, eqb, ltb, ◌≡◌}
use Rattle.kinds.specs.Refusal.{Answer, refused, accepted, refuse, follow}
use Rattle.kinds.specs.Numbers.{refusal_numbers, answer_numbers}
use Rattle.problems.specs.Problem.{Problem, posed, problem}
use Rattle.linear.specs.Basis.{basis_of, dim}
use Rattle.linear.specs.Select.{any_of}
use Rattle.linear.specs.Entry.{same_basis, inside, fits, Solution}
use Rattle.linear.specs.Formulae.{formulae}
use Rattle.linear.specs.Word.{word}
use Rattle.catalogue.specs.listing.Listing.{flat, fitting}
use Rattle.choices.specs.Choice.{formula_record}
use Rattle.space_formulae.specs.declared.spaces.Listed.{Listed as Reply}
use Rattle.space_formulae.specs.declared.spaces.Listed.TheVariants as reply

unfoldable pub is_entry : (gens targets rows : List ℕ) → Bool
is_entry gens targets rows =
    same_basis word (basis_of word rows) rows && (fits word gens (length rows) rows && not (any_of (λ t. not (inside word rows t)) targets))

pub record Formulae : Type 0 where
  pub listed : ℕ
  pub whole : Bool
  pub buffer : List ℕ

-- Document 01: "Each is recorded as its k menu numbers, then its rows: for every target, the mask of those products that sum to it".
abbrev pub record_size : List ℕ → List ℕ → ℕ
record_size targets rows = length rows + length targets

-- as many as fit, from the buffer's start; then its old content
unfoldable pub formulae_listing : Problem → List ℕ → List ℕ → Formulae
formulae_listing x rows old =
    let all = formulae word x.generators rows in
    let size = record_size x.targets rows in
    let listed = fitting size (length all) (length old) in
    record {
      listed = listed;
      whole = eqb listed (length all);
      buffer = flat (take listed (map (formula_record x.generators x.targets) all)) ++ drop (listed * size) old;
    }

-- Refusal 8: k exceeds ℓ + 6; 10: the rows are not the reduced basis of an entry.
unfoldable pub formulae_for : Problem → (rows old : List ℕ) → Answer Formulae
formulae_for x rows old =
    refuse 8 (ltb (dim word x.targets + 6) (length rows))
    (refuse 10 (not (is_entry x.generators x.targets rows))
    (accepted (formulae_listing x rows old)))

-- of the problem handed in: refusals 2 to 7 come first. The rows are further forms of the call: a bit outside the width is refusal 6.
unfoldable pub formulae_of : (number p q r : ℕ) (gs ts rows old : List ℕ) → Answer Formulae
formulae_of number p q r gs ts rows old =
    follow (posed number p q r gs ts rows) λ x. formulae_for x rows old

-- the answer of the code
abbrev pub seen_formulae : Reply → List ℕ → Answer Formulae
seen_formulae (reply.Refused e) after = refused e
seen_formulae (reply.All n) after = accepted (record { listed = n; whole = true; buffer = after })
seen_formulae (reply.More n) after = accepted (record { listed = n; whole = false; buffer = after })

-- "A refusal is its number, every other number of the reply 0."
abbrev pub formulae_numbers : Reply → List ℕ
formulae_numbers (reply.Refused e) = refusal_numbers 2 e
formulae_numbers (reply.All n) = answer_numbers (0 ∷ n ∷ [])
formulae_numbers (reply.More n) = answer_numbers (1 ∷ n ∷ [])

abbrev pub formulae_values : Formulae → List ℕ
formulae_values x = cond x.whole 0 1 ∷ x.listed ∷ []

-- "any other refused call leaves its buffers unchanged"
abbrev pub lent_formulae : Answer Formulae → List ℕ → List ℕ
lent_formulae (refused e) old = old
lent_formulae (accepted x) old = x.buffer

pub record SpaceAccepted (gens targets rows : List ℕ) : Type 0 where
  pub entry : Solution word gens targets (length rows) rows
  pub few : length rows ≤ 64
  pub some_target : 1 ≤ length targets
  pub targets_few_law : length targets ≤ 64

pub record FormulaeTold (gens targets rows old : List ℕ) (r : Reply) (after : List ℕ) : Type 0 where
  pub answer : accepted (formulae_listing (problem gens targets) rows old) ≡ seen_formulae r after

-- the test of `is_entry` as the code makes it: rows that pass are at most 64
module _ (gens targets rows : List ℕ) where
  pub record Rows (r : Bool) : Type 0 where
    pub is : r ≡ is_entry gens targets rows
    pub room : r ≡ true → length rows ≤ 64
