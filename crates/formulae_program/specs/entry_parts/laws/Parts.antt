-- What is printed of an entry.
--   told_few, told_none, told_many   of targets that a problem has, and of others
--   part_told   it is what the plan says, from the parts that the code hands on
-- Assumes nothing.
use Rattle.std.specs.Prelude.{ℕ, ◌-◌, ◌<◌, ◌≤◌, ◌≡◌, Bool, true, false, ◌&&◌, cond, List, length, take, drop, leb}
use Rattle.std.proofs.Common.{sym, ap, ap₂, ◌∙◌, arith, le-leb}
use Rattle.std.proofs.lemmas.Bool.{lt-leb}
use Rattle.kinds.specs.Limits.{most_targets}
use Rattle.problems.specs.Problem.{Problem, problem}
use Rattle.printing.specs.fields.RefusedText.{refused_text}
use Rattle.records.specs.lookup.Lookup.{lookup}
use Rattle.formulae_text.specs.FormulaAnswers.{entry_formulae}
use Rattle.formulae_program.specs.declared.plan.Plan.{Plan}
use Rattle.formulae_program.specs.entry_parts.EntryPages.{targets_few, entry_told, plan_text}

-- ---- targets that a problem has
module _ (e : ℕ) (x : Problem) (rows : List ℕ) where
  told_as : (b : Bool) → targets_few x.targets ≡ b → entry_told e x rows ≡ cond b (entry_formulae e x rows) (refused_text 5)
  told_as b h = ap (λ (b : Bool). cond b (entry_formulae e x rows) (refused_text 5)) h

  pub told_few : 1 ≤ length x.targets → length x.targets ≤ most_targets → entry_formulae e x rows ≡ entry_told e x rows
  told_few a b = sym (told_as true (ap₂ ◌&&◌ (le-leb 1 (length x.targets) a) (le-leb (length x.targets) most_targets b)))

  pub told_none : length x.targets ≡ 0 → refused_text 5 ≡ entry_told e x rows
  told_none a = sym (told_as false (ap (λ (b : Bool). b && leb (length x.targets) most_targets) (lt-leb 1 (length x.targets) (omega arith))))

  pub told_many : most_targets < length x.targets → refused_text 5 ≡ entry_told e x rows
  told_many a =
      sym (told_as false (ap₂ ◌&&◌ (le-leb 1 (length x.targets) (omega arith)) (lt-leb (length x.targets) most_targets a)))

pub part_told : (x : Plan) (g t listing : List ℕ) (i : ℕ) (text gs ts rows : List ℕ) → text ≡ entry_told i (problem gs ts) rows
    → gs ≡ take x.generators g → ts ≡ take x.targets t → rows ≡ drop (x.k - x.ell) (lookup x.ell x.k x.shown i listing)
    → text ≡ plan_text x g t listing i
part_told x g t listing i text gs ts rows T hg ht hr =
    T ∙ ap₂ (λ (a b : List ℕ). entry_told i (problem a b) rows) hg ht
    ∙ ap (entry_told i (problem (take x.generators g) (take x.targets t))) hr
