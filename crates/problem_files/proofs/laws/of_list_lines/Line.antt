-- The cases of a role's line.
--   form_not, cost_not, cost_above, form_is   no form; no cost; too large a cost; both
--   role_short, role_other, role_comma        it has not two bytes; its first byte is another; its second is no comma
--   role_is                                   else it is the form and the cost behind them
-- Assumes nothing.
use Rattle.std.specs.Prelude.{ℕ, ◌+◌, ◌-◌, ◌<◌, ◌≤◌, ◌≡◌, Bool, ◌&&◌, length, get_or, take, drop, Option, None, Some}
use Rattle.std.proofs.Math.Path.{refl, ap}
use Rattle.std.proofs.Common.{◌∙◌, arith, drop-drop}
use mathlib.Core.List.{List, [], ◌∷◌}
use Rattle.std.proofs.Math.Bool.{cond}
use Rattle.std.proofs.Math.Dec.{eqb}
use borrow.Author.Tests.{eq-eqb, ne_eqb, lt-ltb, le-ltb}
use Rattle.text.specs.Line.{comma, mask_field}
use Rattle.problem_files.specs.list_lines.Roles.{cost_line, form_and_cost, role_line}

-- ---- a form and its cost
module _ (most : ℕ) (s : List ℕ) where
  pub form_not : mask_field s ≡ None → form_and_cost most s ≡ None
  unfolding form_and_cost
  form_not e = rw e

  pub cost_not : (x : ℕ) (t : List ℕ) → mask_field s ≡ Some (x, t) → cost_line t ≡ None → form_and_cost most s ≡ None
  unfolding form_and_cost
  cost_not x t e f = rw (e, f)

  module _ (x y : ℕ) (t u : List ℕ) (e : mask_field s ≡ Some (x, t)) (f : cost_line t ≡ Some (y, u)) where
    pub cost_above : most < y → form_and_cost most s ≡ None
    unfolding form_and_cost
    cost_above h = rw (e, f, lt-ltb most y h)

    pub form_is : y ≤ most → form_and_cost most s ≡ Some ((x, y), u)
    unfolding form_and_cost
    form_is h = rw (e, f, le-ltb most y h)

-- ---- a line
module _ (c most : ℕ) where
  pub role_short : (s : List ℕ) → length s < 2 → role_line c most s ≡ None
  unfolding role_line
  role_short [] h = refl
  role_short (a ∷ []) h = refl
  role_short (a ∷ b ∷ s) h = absurd (omega arith)

  pub role_other : (s : List ℕ) → (get_or s 0 0 ≡ c → ⊥) → role_line c most s ≡ None
  unfolding role_line
  role_other [] h = refl
  role_other (a ∷ []) h = refl
  role_other (a ∷ b ∷ s) h = ap (λ (t : Bool). cond (t && eqb b comma) (form_and_cost most s) None) (ne_eqb a c h)

  pub role_comma : (s : List ℕ) → get_or s 0 0 ≡ c → (get_or s 1 0 ≡ 44 → ⊥) → role_line c most s ≡ None
  unfolding role_line
  role_comma [] e h = refl
  role_comma (a ∷ []) e h = refl
  role_comma (a ∷ b ∷ s) e h = rw (eq-eqb a c e, ne_eqb b comma h)

  pub role_is : (s : List ℕ) → 2 ≤ length s → get_or s 0 0 ≡ c → get_or s 1 0 ≡ 44 → role_line c most s ≡ form_and_cost most (drop 2 s)
  unfolding role_line
  role_is [] l e h = absurd (omega arith)
  role_is (a ∷ []) l e h = absurd (omega arith)
  role_is (a ∷ b ∷ s) l e h = rw (eq-eqb a c e, eq-eqb b comma h)
