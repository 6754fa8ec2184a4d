-- What a list's lines that are read have been through.
--   FormRead, form_inv     a form and its cost
--   role_inv               a line of a role: the role's byte, a comma, and a form with its cost
--   RolesRead, roles_inv   lines of a role: the first, and the others
--   ListRead, list_inv     all lines: the names, the generators, the targets, and nothing behind them
-- Assumes nothing.
use Rattle.std.specs.Prelude.{ℕ, suc, ◌≤◌, ◌≡◌, refl, List, [], ◌∷◌, Bool, true, false, not, ◌&&◌, cond, eqb, ltb, None, Some}
use Rattle.std.proofs.Common.{ap, ◌∙◌, arith, eqb-true, ltb-false}
use Rattle.std.proofs.lemmas.Bool.{not-true}
use Rattle.kinds.specs.Limits.{most_cost}
use Rattle.kinds.specs.Sizes.{given}
use Rattle.kinds.specs.laws.Sizes.{given_some, both}
use Rattle.text.specs.Reading.{◌>>=◌}
use Rattle.text.specs.Line.{comma, name_line, mask_field}
use Rattle.text.specs.laws.Reading.{inv, inj}
use Rattle.formula_files.specs.lines.Formula.{ended}
use Rattle.problem_files.specs.list_lines.Roles.{role_names, generator_role, target_role, target_cost, cost_line, form_and_cost, role_line, role_lines, list_body}

pub record FormRead (most : ℕ) (s : List ℕ) (l : (ℕ × ℕ) × List ℕ) : Type 0 where
  pub form : ℕ × List ℕ
  pub first : mask_field s ≡ Some form
  pub cost : ℕ × List ℕ
  pub second : cost_line form.1 ≡ Some cost
  pub allowed : cost.0 ≤ most
  pub is : ((form.0, cost.0), cost.1) ≡ l

pub form_inv : (most : ℕ) (s : List ℕ) (l : (ℕ × ℕ) × List ℕ) → form_and_cost most s ≡ Some l → FormRead most s l
unfolding form_and_cost
form_inv most s l e =
    let i = inv (mask_field s) (λ x. cost_line x.1 >>= λ y. given (not (ltb most y.0)) ((x.0, y.0), y.1)) l e in
    let j = inv (cost_line i.0.1) (λ y. given (not (ltb most y.0)) ((i.0.0, y.0), y.1)) l i.2 in
    let g = given_some (not (ltb most j.0.0)) ((i.0.0, j.0.0), j.0.1) l j.2 in
    record {
      form = i.0;
      first = i.1;
      cost = j.0;
      second = j.1;
      allowed = ltb-false most j.0.0 (not-true (ltb most j.0.0) g.0);
      is = g.1;
    }

pub role_inv : (c most : ℕ) (s : List ℕ) (l : (ℕ × ℕ) × List ℕ) → role_line c most s ≡ Some l
    → (t : List ℕ) × (s ≡ c ∷ comma ∷ t) × (form_and_cost most t ≡ Some l)
unfolding role_line
role_inv c most [] l e = absurd (let q : ◌≡◌ {A = ℕ} 0 1 = cc in omega arith)
role_inv c most (a ∷ []) l e = absurd (let q : ◌≡◌ {A = ℕ} 0 1 = cc in omega arith)
role_inv c most (a ∷ b ∷ s) l e = go (eqb a c && eqb b comma) refl e
  where
    go : (t : Bool) → eqb a c && eqb b comma ≡ t → cond t (form_and_cost most s) None ≡ Some l
        → (t : List ℕ) × (a ∷ b ∷ s ≡ c ∷ comma ∷ t) × (form_and_cost most t ≡ Some l)
    go true h f =
        let k = both (eqb a c) (eqb b comma) h in
        let x : a ≡ c = eqb-true a c k.0 in
        let y : b ≡ comma = eqb-true b comma k.1 in
        (s, ap (λ (i : ℕ). i ∷ b ∷ s) x ∙ ap (λ (i : ℕ). c ∷ i ∷ s) y, f)
    go false h f = absurd (let q : ◌≡◌ {A = ℕ} 0 1 = cc in omega arith)

pub record RolesRead (c most n : ℕ) (s : List ℕ) (l : (List ℕ × List ℕ) × List ℕ) : Type 0 where
  pub one : (ℕ × ℕ) × List ℕ
  pub first : role_line c most s ≡ Some one
  pub others : (List ℕ × List ℕ) × List ℕ
  pub rest : role_lines c most n one.1 ≡ Some others
  pub is : ((one.0.0 ∷ others.0.0, one.0.1 ∷ others.0.1), others.1) ≡ l

pub roles_inv : (c most n : ℕ) (s : List ℕ) (l : (List ℕ × List ℕ) × List ℕ) → role_lines c most (suc n) s ≡ Some l → RolesRead c most n s l
unfolding role_lines
roles_inv c most n s l e =
    let i = inv (role_line c most s) (λ x. role_lines c most n x.1 >>= λ m. Some ((x.0.0 ∷ m.0.0, x.0.1 ∷ m.0.1), m.1)) l e in
    let j = inv (role_lines c most n i.0.1) (λ m. Some ((i.0.0.0 ∷ m.0.0, i.0.0.1 ∷ m.0.1), m.1)) l i.2 in
    record { one = i.0; first = i.1; others = j.0; rest = j.1; is = inj _ l j.2 }

pub record ListRead (q r : ℕ) (s : List ℕ) (f : List ℕ × List ℕ × List ℕ) : Type 0 where
  pub text : List ℕ
  pub names : name_line role_names s ≡ Some text
  pub generators : (List ℕ × List ℕ) × List ℕ
  pub first : role_lines generator_role most_cost q text ≡ Some generators
  pub targets : (List ℕ × List ℕ) × List ℕ
  pub second : role_lines target_role target_cost r generators.1 ≡ Some targets
  pub whole : ended targets.1 ≡ true
  pub is : (generators.0.0, targets.0.0, generators.0.1) ≡ f

pub list_inv : (q r : ℕ) (s : List ℕ) (f : List ℕ × List ℕ × List ℕ) → list_body q r s ≡ Some f → ListRead q r s f
unfolding list_body
list_inv q r s f e =
    let i = inv (name_line role_names s) (λ u. role_lines generator_role most_cost q u >>= λ g.
    role_lines target_role target_cost r g.1 >>= λ t. given (ended t.1) (g.0.0, t.0.0, g.0.1)) f e in
    let j = inv (role_lines generator_role most_cost q i.0) (λ g.
    role_lines target_role target_cost r g.1 >>= λ t. given (ended t.1) (g.0.0, t.0.0, g.0.1)) f i.2 in
    let k = inv (role_lines target_role target_cost r j.0.1) (λ t. given (ended t.1) (j.0.0.0, t.0.0, j.0.0.1)) f j.2 in
    let d = given_some (ended k.0.1) (j.0.0.0, k.0.0.0, j.0.0.1) f k.2 in
    record { text = i.0; names = i.1; generators = j.0; first = j.1; targets = k.0; second = k.1; whole = d.0; is = d.1 }
