-- The lines of a problem's file, case by case.
--   list_many .. map_none  refusals 4 and 5
--   body_list, body_map    the lines, by the kind
--   body_few, body_targets at most 4,095 generators and 64 targets are handed in
--   body_priced            with a cost for each generator
-- Assumes nothing.
use Rattle.std.specs.Prelude.{ℕ, ◌<◌, ◌≤◌, ◌≡◌, refl, List, [], Bool, true, false, not, cond, length, take, ltb, None, Some}
use Rattle.std.proofs.Common.{ap, ◌∙◌, subst, arith, lt-ltb, le-ltb, ltb-false}
use Rattle.kinds.specs.declared.Shape.{Shape}
use Rattle.kinds.specs.Sizes.{sizes, given}
use Rattle.kinds.specs.Refusal.{Answer, refused, accepted, need, refuse, refused_by}
use Rattle.kinds.specs.laws.Refusal.{accepted_inj, need_inv, refuse_inv}
use Rattle.words.specs.Masks.{wide}
use Rattle.maps.specs.Generators.{count_of}
use Rattle.problems.proofs.laws.Laying.{list_targets}
use Rattle.formula_files.specs.lines.Formula.{ended}
use Rattle.formula_files.specs.lines.laws.Body.{ended_not, ended_yes}
use Rattle.problem_files.specs.list_lines.Roles.{list_body}
use Rattle.problem_files.proofs.laws.of_list_lines.Costs.{list_costs}
use Rattle.kinds.specs.Kinds.{is_list, handed}
use Rattle.problem_files.specs.handed_forms.ProblemLines.{handed_in, list_lines, map_lines, body_of, CostsFit, FormRoom}
use Rattle.kinds.specs.Limits.{most_generators, most_targets, cost_bits}

pub ready_list : (shape : Shape) (g t c : List ℕ) → FormRoom shape g t c → is_list shape.kind ≡ true
    → (most_generators ≤ length g) × (shape.r ≤ length t) × (most_generators ≤ length c) × (shape.r ≤ most_targets)
ready_list shape g t c R e =
    let f : shape.r ≤ most_targets = subst (λ (b : Bool). cond b shape.r 0 ≤ most_targets) e R.few in
    let h = R.targets in
    (R.generators, omega arith, R.costs, f)

-- ---- 4 and 5
module _ (q r : ℕ) (s : List ℕ) where
  pub list_many : most_generators < q → list_lines q r s ≡ refused 4
  unfolding list_lines
  list_many h = rw (lt-ltb most_generators q h)

  pub list_taken : (gs ts cs : List ℕ) (b : Bool) → q ≤ most_generators → list_body q r s ≡ given b (gs, ts, cs) → b ≡ true
      → list_lines q r s ≡ accepted (gs, ts, cs)
  unfolding list_lines
  list_taken gs ts cs b h e t = rw (le-ltb most_generators q h, e, t)

  pub list_not : (gs ts cs : List ℕ) (b : Bool) → q ≤ most_generators → list_body q r s ≡ given b (gs, ts, cs) → b ≡ false
      → list_lines q r s ≡ refused 5
  unfolding list_lines
  list_not gs ts cs b h e t = rw (le-ltb most_generators q h, e, t)

module _ (n m : ℕ) (s : List ℕ) where
  pub map_many : count_of n m ≡ None → map_lines n m s ≡ refused 4
  unfolding map_lines
  map_many e = rw e

  pub map_more : (c : ℕ) → count_of n m ≡ Some c → 0 < length s → map_lines n m s ≡ refused 5
  unfolding map_lines
  map_more c e h = rw (e, ended_not s 0 h)

  pub map_none : (c : ℕ) → count_of n m ≡ Some c → length s ≤ 0 → map_lines n m s ≡ accepted ([], [], [])
  unfolding map_lines
  map_none c e h = rw (e, ended_yes s 0 h)

module _ (shape : Shape) (n m : ℕ) (s g t c : List ℕ) (e : ℕ) where
  pub body_list : is_list shape.kind ≡ true → list_lines shape.q shape.r s ≡ refused_by e (take shape.q g, take shape.r t, take shape.q c)
      → body_of shape n m s ≡ refused_by e (handed_in shape g t c)
  body_list k h = rw k h

  pub body_map : is_list shape.kind ≡ false → map_lines n m s ≡ refused_by e ([], [], []) → body_of shape n m s ≡ refused_by e (handed_in shape g t c)
  body_map k h = rw k h

-- what a list's lines that are read say of its sizes
list_few : (q r : ℕ) (s : List ℕ) (x : List ℕ × List ℕ × List ℕ) → list_lines q r s ≡ accepted x → q ≤ most_generators
unfolding list_lines
list_few q r s x e = ltb-false most_generators q (refuse_inv 4 (ltb most_generators q) (need 5 (list_body q r s) accepted) x e).0

pub body_few : (shape : Shape) (n m : ℕ) (s : List ℕ) (x : List ℕ × List ℕ × List ℕ) → body_of shape n m s ≡ accepted x
    → handed shape.kind shape.q ≤ most_generators
body_few shape n m s x = go (is_list shape.kind)
  where
    go : (b : Bool) → cond b (list_lines shape.q shape.r s) (map_lines n m s) ≡ accepted x → cond b shape.q 0 ≤ most_generators
    go true e = list_few shape.q shape.r s x e
    go false e = omega arith

pub body_targets : (shape : Shape) (z : ℕ × ℕ × ℕ) → sizes shape ≡ Some z → handed shape.kind shape.r ≤ most_targets
body_targets shape z e = go (is_list shape.kind) refl
  where
    go : (b : Bool) → is_list shape.kind ≡ b → cond b shape.r 0 ≤ most_targets
    go true k = (list_targets shape z k e).1
    go false k = omega arith

-- ---- the costs
list_priced : (q r : ℕ) (s : List ℕ) (x : List ℕ × List ℕ × List ℕ) → list_lines q r s ≡ accepted x → (length x.2 ≡ q) × (wide cost_bits x.2 ≡ false)
unfolding list_lines
list_priced q r s x e =
    let a = refuse_inv 4 (ltb most_generators q) (need 5 (list_body q r s) accepted) x e in
    let b = need_inv 5 (list_body q r s) accepted x a.1 in
    list_costs q r s x (b.1 ∙ ap Some (accepted_inj b.0 x b.2))

map_priced : (n m : ℕ) (s : List ℕ) (x : List ℕ × List ℕ × List ℕ) → map_lines n m s ≡ accepted x → (length x.2 ≡ 0) × (wide cost_bits x.2 ≡ false)
unfolding map_lines wide
map_priced n m s x e =
    let last : Answer (List ℕ × List ℕ × List ℕ) = accepted ([], [], []) in
    let a = need_inv 4 (count_of n m) (λ c. refuse 5 (not (ended s)) last) x e in
    let b = refuse_inv 5 (not (ended s)) last x a.2 in
    subst (λ (w : List ℕ × List ℕ × List ℕ). (length w.2 ≡ 0) × (wide cost_bits w.2 ≡ false)) (accepted_inj ([], [], []) x b.1) (refl, refl)

pub body_priced : (shape : Shape) (n m : ℕ) (s : List ℕ) (x : List ℕ × List ℕ × List ℕ) → body_of shape n m s ≡ accepted x → CostsFit shape x.2
body_priced shape n m s x e = let P = go (is_list shape.kind) e in record { counted = P.0; small = P.1 }
  where
    go : (b : Bool) → cond b (list_lines shape.q shape.r s) (map_lines n m s) ≡ accepted x
        → (length x.2 ≡ cond b shape.q 0) × (wide cost_bits x.2 ≡ false)
    go true f = list_priced shape.q shape.r s x f
    go false f = map_priced n m s x f
