-- The costs of lines that are read.
--   Costs most n xs ys   == n forms xs and as many costs ys, none above the largest allowed
--   roles_costs          such are those of n lines of a role
--   list_costs           those of a list: one for each generator, of 16 bits each
-- Assumes nothing.
use Rattle.std.specs.Prelude.{ℕ, zero, suc, ◌≤◌, ◌≡◌, refl, List, [], ◌∷◌, false, length, Some}
use Rattle.std.proofs.Common.{ap, subst, arith}
use Rattle.kinds.specs.Limits.{most_cost, cost_bits}
use Rattle.words.specs.Masks.{wide}
use Rattle.words.specs.laws.Masks.{AllBelow, below_wide}
use Rattle.text.specs.laws.Reading.{inj}
use Rattle.problem_files.specs.list_lines.Roles.{generator_role, role_line, role_lines, list_body}
use Rattle.problem_files.proofs.laws.of_list_lines.Read.{form_inv, role_inv, roles_inv, list_inv}

pub record Costs (most n : ℕ) (xs ys : List ℕ) : Type 0 where
  pub forms : length xs ≡ n
  pub costs : length ys ≡ n
  pub small : AllBelow (suc most) ys

costs_more : {most n : ℕ} {xs ys : List ℕ} (x y : ℕ) → y ≤ most → Costs most n xs ys → Costs most (suc n) (x ∷ xs) (y ∷ ys)
costs_more x y h C = record { forms = ap suc C.forms; costs = ap suc C.costs; small = (omega arith, C.small) }

role_cost : (c most : ℕ) (s : List ℕ) (l : (ℕ × ℕ) × List ℕ) → role_line c most s ≡ Some l → l.0.1 ≤ most
role_cost c most s l e =
    let R = role_inv c most s l e in
    let F = form_inv most R.0 l R.2 in
    subst (λ (w : (ℕ × ℕ) × List ℕ). w.0.1 ≤ most) F.is F.allowed

pub roles_costs : (c most n : ℕ) (s : List ℕ) (l : (List ℕ × List ℕ) × List ℕ) → role_lines c most n s ≡ Some l → Costs most n l.0.0 l.0.1
unfolding role_lines
roles_costs c most zero s l e =
    let none_read : Costs most zero [] [] = record { forms = refl; costs = refl; small = tt } in
    subst (λ (w : (List ℕ × List ℕ) × List ℕ). Costs most zero w.0.0 w.0.1) (inj (([], []), s) l e) none_read
roles_costs c most (suc n) s l e =
    let R = roles_inv c most n s l e in
    subst (λ (w : (List ℕ × List ℕ) × List ℕ). Costs most (suc n) w.0.0 w.0.1) R.is
    (costs_more R.one.0.0 R.one.0.1 (role_cost c most s R.one R.first) (roles_costs c most n R.one.1 R.others R.rest))

pub list_costs : (q r : ℕ) (s : List ℕ) (f : List ℕ × List ℕ × List ℕ) → list_body q r s ≡ Some f → (length f.2 ≡ q) × (wide cost_bits f.2 ≡ false)
list_costs q r s f e =
    let R = list_inv q r s f e in
    let C = roles_costs generator_role most_cost q R.text R.generators R.first in
    subst (λ (w : List ℕ × List ℕ × List ℕ). (length w.2 ≡ q) × (wide cost_bits w.2 ≡ false)) R.is
    (C.costs, below_wide cost_bits R.generators.0.1 C.small)
