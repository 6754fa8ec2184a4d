-- The cases of a list's lines.
--   list_1 .. list_is     its cases
--   ended_is              a text is used up exactly if as many bytes are used as it has
-- Assumes nothing.
use Rattle.std.specs.Prelude.{ℕ, ◌+◌, ◌-◌, ◌≤◌, ◌≡◌, refl, List, Bool, true, false, length, take, drop, eqb, None, Some}
use Rattle.std.proofs.Common.{ap, ◌∙◌, arith, drop-drop, eqb-true}
use Rattle.std.proofs.lemmas.Bool.{eqb-false}
use Rattle.kinds.specs.Limits.{most_cost}
use Rattle.kinds.specs.Sizes.{given}
use Rattle.text.specs.Line.{name_line}
use Rattle.formula_files.specs.lines.Formula.{ended}
use Rattle.formula_files.specs.lines.laws.Body.{ended_not, ended_yes}
use Rattle.problem_files.specs.list_lines.Roles.{role_names, generator_role, target_role, target_cost, role_lines, list_body}

module _ (q r : ℕ) (s : List ℕ) where
  pub list_1 : name_line role_names s ≡ None → list_body q r s ≡ None
  unfolding list_body
  list_1 e = rw e

  pub list_2 : (u : List ℕ) → name_line role_names s ≡ Some u → role_lines generator_role most_cost q u ≡ None → list_body q r s ≡ None
  unfolding list_body
  list_2 u e f = rw (e, f)

  pub list_3 : (u g c v : List ℕ) → name_line role_names s ≡ Some u → role_lines generator_role most_cost q u ≡ Some ((g, c), v)
      → role_lines target_role target_cost r v ≡ None → list_body q r s ≡ None
  unfolding list_body
  list_3 u g c v e f h = rw (e, f, h)

  pub list_is : (u g c v t d w : List ℕ) (b : Bool) → name_line role_names s ≡ Some u → role_lines generator_role most_cost q u ≡ Some ((g, c), v)
      → role_lines target_role target_cost r v ≡ Some ((t, d), w) → ended w ≡ b → list_body q r s ≡ given b (g, t, c)
  unfolding list_body
  list_is u g c v t d w b e f h i = rw (e, f, h, i)

pub ended_is : (s : List ℕ) (i : ℕ) → i ≤ length s → ended (drop i s) ≡ eqb i (length s)
ended_is s i h = go (eqb i (length s)) refl
  where
    go : (b : Bool) → eqb i (length s) ≡ b → ended (drop i s) ≡ b
    go true e = ended_yes s i (omega (arith, eqb-true i (length s) e))
    go false e = ended_not s i (omega (arith, eqb-false i (length s) e))
