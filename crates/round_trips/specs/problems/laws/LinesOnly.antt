-- Lines that are read are the text of what was read.
--   list_only   the lines of a list
--   body_only   the lines under the first two, by the kind
-- Assumes nothing.
use Rattle.std.specs.Prelude.{ℕ, zero, suc, ◌≡◌, refl, List, [], ◌∷◌, ◌++◌, Bool, true, false, not, cond, length, replicate, ltb, Some}
use Rattle.std.proofs.Common.{sym, ap, ap₂, ◌∙◌, arith}
use Rattle.kinds.specs.declared.Shape.{Shape}
use Rattle.kinds.specs.Refusal.{Answer, accepted, need, refuse}
use Rattle.kinds.specs.laws.Refusal.{accepted_inj, need_inv, refuse_inv}
use Rattle.maps.specs.Generators.{count_of}
use Rattle.words.specs.Buffers.{zeros}
use Rattle.words.specs.laws.Masks.{AllBelow}
use Rattle.text.specs.laws.Reading.{inj}
use Rattle.text.specs.Line.{LF, comma}
use Rattle.printing.specs.Print.{mask_text}
use Rattle.formula_files.specs.lines.Formula.{ended}
use Rattle.kinds.specs.Kinds.{is_list}
use Rattle.problem_files.specs.list_lines.Roles.{role_names, generator_role, target_role, target_cost, form_and_cost, role_line, role_lines, list_body}
use Rattle.problem_files.proofs.laws.of_list_lines.Read.{form_inv, role_inv, roles_inv, list_inv}
use Rattle.problem_files.proofs.laws.of_list_lines.Costs.{roles_costs}
use Rattle.problem_files.specs.handed_forms.ProblemLines.{list_lines, map_lines, body_of}
use Rattle.round_trips.specs.formulae.laws.HeadOnly.{name_only, field_only}
use Rattle.round_trips.specs.problems.ProblemText.{cost_text, roles_text, list_text, lines_text}
use Rattle.kinds.specs.Limits.{most_generators, most_cost}

-- a form, its cost and the text t behind them
abbrev lines_with : (ℕ × ℕ) × List ℕ → List ℕ
lines_with l = mask_text l.0.0 ++ (comma ∷ (cost_text l.0.1 ++ (LF ∷ l.1)))

form_only : (most : ℕ) (s : List ℕ) (l : (ℕ × ℕ) × List ℕ) → form_and_cost most s ≡ Some l → s ≡ lines_with l
form_only most s l e =
    let F = form_inv most s l e in
    field_only 16 16 comma s F.form (omega arith) (omega arith) F.first
    ∙ ap (λ (w : List ℕ). mask_text F.form.0 ++ (comma ∷ w)) (field_only 10 5 LF F.form.1 F.cost (omega arith) (omega arith) F.second)
    ∙ ap lines_with F.is

role_only : (c most : ℕ) (s : List ℕ) (l : (ℕ × ℕ) × List ℕ) → role_line c most s ≡ Some l → s ≡ c ∷ comma ∷ lines_with l
role_only c most s l e = let R = role_inv c most s l e in R.1 ∙ ap (λ (w : List ℕ). c ∷ comma ∷ w) (form_only most R.0 l R.2)

roles_only : (c most n : ℕ) (s : List ℕ) (l : (List ℕ × List ℕ) × List ℕ) → role_lines c most n s ≡ Some l → s ≡ roles_text c l.0.0 l.0.1 l.1
unfolding role_lines roles_text
roles_only c most zero s l e =
    ap (λ (w : (List ℕ × List ℕ) × List ℕ). roles_text c w.0.0 w.0.1 w.1) (inj (([], []), s) l e)
roles_only c most (suc n) s l e =
    let R = roles_inv c most n s l e in
    role_only c most s R.one R.first
    ∙ ap (λ (w : List ℕ). c ∷ comma ∷ lines_with (R.one.0, w)) (roles_only c most n R.one.1 R.others R.rest)
    ∙ ap (λ (w : (List ℕ × List ℕ) × List ℕ). roles_text c w.0.0 w.0.1 w.1) R.is

ended_only : (s : List ℕ) → ended s ≡ true → s ≡ []
unfolding ended
ended_only [] e = refl
ended_only (b ∷ s) e = absurd (let q : ◌≡◌ {A = ℕ} 0 1 = cc in omega arith)

-- costs of at most 0
none_else : (n : ℕ) (ys : List ℕ) → length ys ≡ n → AllBelow 1 ys → ys ≡ replicate n 0
none_else zero [] e h = refl
none_else zero (y ∷ ys) e h = absurd (omega arith)
none_else (suc n) [] e h = absurd (omega arith)
none_else (suc n) (y ∷ ys) e h =
    let z : y ≡ 0 = (let l = h.0 in omega arith) in
    ap₂ (λ (a : ℕ) (l : List ℕ). a ∷ l) z (none_else n ys (omega arith) h.1)

targets_only : (r : ℕ) (s : List ℕ) (l : (List ℕ × List ℕ) × List ℕ) → role_lines target_role target_cost r s ≡ Some l → ended l.1 ≡ true
    → s ≡ roles_text target_role l.0.0 (zeros l.0.0) []
targets_only r s l e h =
    let C = roles_costs target_role target_cost r s l e in
    roles_only target_role target_cost r s l e
    ∙ ap₂ (roles_text target_role l.0.0) (none_else (length l.0.0) l.0.1 (C.costs ∙ sym C.forms) C.small) (ended_only l.1 h)

pub list_only : (q r : ℕ) (s : List ℕ) (f : List ℕ × List ℕ × List ℕ) → list_body q r s ≡ Some f → s ≡ list_text f.0 f.1 f.2
unfolding list_text
list_only q r s f e =
    let R = list_inv q r s f e in
    let g = R.generators in
    name_only role_names s R.text R.names
    ∙ ap (λ (w : List ℕ). role_names ++ (LF ∷ w))
    (roles_only generator_role most_cost q R.text g R.first
    ∙ ap (roles_text generator_role g.0.0 g.0.1) (targets_only r g.1 R.targets R.second R.whole))
    ∙ ap (λ (w : List ℕ × List ℕ × List ℕ). role_names ++ (LF ∷ roles_text generator_role w.0 w.2 (roles_text target_role w.1 (zeros w.1) [])))
    R.is

-- ---- by the kind
lines_only : (q r : ℕ) (s : List ℕ) (f : List ℕ × List ℕ × List ℕ) → list_lines q r s ≡ accepted f → s ≡ list_text f.0 f.1 f.2
unfolding list_lines
lines_only q r s f e =
    let a = refuse_inv 4 (ltb most_generators q) (need 5 (list_body q r s) accepted) f e in
    let b = need_inv 5 (list_body q r s) accepted f a.1 in
    list_only q r s f (b.1 ∙ ap Some (accepted_inj b.0 f b.2))

none_only : (n m : ℕ) (s : List ℕ) (f : List ℕ × List ℕ × List ℕ) → map_lines n m s ≡ accepted f → s ≡ []
unfolding map_lines
none_only n m s f e =
    let last : Answer (List ℕ × List ℕ × List ℕ) = accepted ([], [], []) in
    let a = need_inv 4 (count_of n m) (λ c. refuse 5 (not (ended s)) last) f e in
    let b = refuse_inv 5 (not (ended s)) last f a.2 in
    ended_only s (go (ended s) b.0)
  where
    go : (t : Bool) → not t ≡ false → t ≡ true
    go true h = refl
    go false h = absurd (let q : ◌≡◌ {A = ℕ} 0 1 = cc in omega arith)

pub body_only : (shape : Shape) (n m : ℕ) (s : List ℕ) (f : List ℕ × List ℕ × List ℕ) → body_of shape n m s ≡ accepted f
    → s ≡ lines_text shape.kind f.0 f.1 f.2
body_only shape n m s f = go (is_list shape.kind)
  where
    go : (b : Bool) → cond b (list_lines shape.q shape.r s) (map_lines n m s) ≡ accepted f → s ≡ cond b (list_text f.0 f.1 f.2) []
    go true e = lines_only shape.q shape.r s f e
    go false e = none_only n m s f e
