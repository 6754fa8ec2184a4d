-- What the Formulae program prints of an entry, by its plan.
--   entry_told e x rows            == of entry e of the problem x, the entry with these rows; targets that no problem has are refused by 5
--   plan_text x g t listing i      == what is printed of entry i by the plan x, the problem's generators and targets in g and t
--   plan_texts x g t listing i n   == of n entries from i on
-- Assumes nothing.
use Rattle.std.specs.Prelude.{ℕ, zero, suc, ◌-◌, Bool, ◌&&◌, cond, List, [], ◌++◌, length, take, drop, leb}
use Rattle.kinds.specs.Limits.{most_targets}
use Rattle.problems.specs.Problem.{Problem, problem}
use Rattle.records.specs.lookup.Lookup.{lookup}
use Rattle.printing.specs.fields.RefusedText.{refused_text}
use Rattle.formulae_text.specs.FormulaAnswers.{entry_formulae}
use Rattle.formulae_program.specs.declared.plan.Plan.{Plan}

abbrev pub targets_few : List ℕ → Bool
targets_few ts = leb 1 (length ts) && leb (length ts) most_targets

abbrev pub entry_told : ℕ → Problem → List ℕ → List ℕ
entry_told e x rows = cond (targets_few x.targets) (entry_formulae e x rows) (refused_text 5)

-- an entry's record: k − ℓ numbers, then its rows; one that the plan does not show, or the listing does not hold, has none
abbrev pub plan_text : Plan → (g t listing : List ℕ) → ℕ → List ℕ
plan_text x g t listing i =
    entry_told i (problem (take x.generators g) (take x.targets t)) (drop (x.k - x.ell) (lookup x.ell x.k x.shown i listing))

unfoldable pub plan_texts : Plan → (g t listing : List ℕ) → (i n : ℕ) → List ℕ
plan_texts x g t listing i zero = []
plan_texts x g t listing i (suc n) = plan_text x g t listing i ++ plan_texts x g t listing (suc i) n
