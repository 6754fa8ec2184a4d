-- The text of a list's lines is read back.
--   roles_back   the lines of a role
--   list_back    all lines under the first two
-- Assumes nothing.
use Rattle.std.specs.Prelude.{ℕ, zero, suc, ◌^◌, ◌<◌, ◌≤◌, ◌≡◌, true, false, length, replicate, Some}
use Rattle.std.proofs.Math.Path.{refl}
use Rattle.std.proofs.Common.{sym, ◌∙◌, arith}
use mathlib.Core.List.{List, [], ◌∷◌, ◌++◌}
use Rattle.std.proofs.lemmas.List.{length-replicate}
use Rattle.kinds.specs.Limits.{most_cost, cost_bits}
use Rattle.words.specs.Buffers.{zeros}
use Rattle.words.specs.Masks.{wide}
use Rattle.words.specs.laws.Masks.{AllBelow, wide_below}
use Rattle.text.specs.Line.{LF, comma}
use Rattle.printing.specs.Print.{mask_text}
use Rattle.formula_files.specs.lines.Formula.{ended}
use Rattle.problem_files.specs.list_lines.Roles.{role_names, generator_role, target_role, target_cost, role_line, role_lines, list_body}
use Rattle.problem_files.proofs.laws.of_list_lines.Line.{role_is, form_is}
use Rattle.problem_files.proofs.laws.of_list_lines.Body.{list_is}
use Rattle.round_trips.specs.formulae.laws.HeadBack.{numeral_back, mask_back, field_back, name_back}
use Rattle.round_trips.specs.problems.ProblemText.{cost_text, roles_text, list_text}

module _ (c most : ℕ) (few : most ≤ most_cost) where
  role_back : (x y : ℕ) (t : List ℕ) → x < 2 ^ 64 → y ≤ most
      → role_line c most (c ∷ comma ∷ (mask_text x ++ (comma ∷ (cost_text y ++ (LF ∷ t))))) ≡ Some ((x, y), t)
  role_back x y t h l =
      role_is c most (c ∷ comma ∷ (mask_text x ++ (comma ∷ (cost_text y ++ (LF ∷ t))))) (omega arith) refl refl
      ∙ form_is most (mask_text x ++ (comma ∷ (cost_text y ++ (LF ∷ t)))) x y (cost_text y ++ (LF ∷ t)) t
      (field_back 16 16 comma x (cost_text y ++ (LF ∷ t)) (omega arith) (mask_back x h))
      (field_back 10 5 LF y t (omega arith) (numeral_back 10 (omega arith) (omega arith) 4 y (omega arith))) l

  roles_back : (xs ys t : List ℕ) → length xs ≡ length ys → AllBelow (2 ^ 64) xs → AllBelow (suc most) ys
      → role_lines c most (length xs) (roles_text c xs ys t) ≡ Some ((xs, ys), t)
  unfolding role_lines roles_text
  roles_back [] [] t e h l = refl
  roles_back [] (y ∷ ys) t e h l = absurd (omega arith)
  roles_back (x ∷ xs) [] t e h l = absurd (omega arith)
  roles_back (x ∷ xs) (y ∷ ys) t e h l =
      rw (role_back x y (roles_text c xs ys t) h.0 (let m = l.0 in omega arith), roles_back xs ys t (omega arith) h.1 l.1)

ended_none : ended [] ≡ true
unfolding ended
ended_none = refl

no_costs : (n : ℕ) → AllBelow 1 (replicate n 0)
no_costs zero = tt
no_costs (suc n) = (omega arith, no_costs n)

pub list_back : (gs ts cs : List ℕ) → length gs ≡ length cs → AllBelow (2 ^ 64) gs → AllBelow (2 ^ 64) ts → wide cost_bits cs ≡ false
    → list_body (length gs) (length ts) (list_text gs ts cs) ≡ Some (gs, ts, cs)
unfolding list_text
list_back gs ts cs e hg ht hc =
    let t = roles_text target_role ts (zeros ts) [] in
    let g = roles_text generator_role gs cs t in
    list_is (length gs) (length ts) (role_names ++ (LF ∷ g)) g gs cs t ts (zeros ts) [] true (name_back role_names g (omega arith))
    (roles_back generator_role most_cost (omega arith) gs cs t e hg (wide_below 16 (suc most_cost) cs (omega arith) hc))
    (roles_back target_role target_cost (omega arith) ts (zeros ts) [] (sym (length-replicate (length ts) 0)) ht (no_costs (length ts))) ended_none
