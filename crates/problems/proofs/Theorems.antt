-- What an accepted problem is like. What is refused, and by which number, is the definition `posed` itself.
--   Few P        == P has at most 4,095 generators, and between 1 and 64 targets
--   IsMap shape .. == the sizes fit the kind, and P has the generators and the targets of the map
--   shaped_few, shaped_map, shaped_list   the same of a kind with its sizes, posed_shaped
--   posed_few    an accepted problem has few generators and targets
--   posed_map    one of a kind other than list has the map's generators and targets, no list was handed in, and the further forms have n × m bits
--   posed_list   one of kind list has the forms handed in: as many as its sizes say, of p bits, no generator zero or twice
--   targets_length, targets_at   the list of targets has u forms, and the form of output t at t
-- Assumes nothing.
use Rattle.std.specs.Prelude.{◌≡◌, refl, Bool, true, false, List, ℕ, ◌<◌, ◌≤◌, length, get_or, Some}
use Rattle.std.proofs.Common.{sym, ◌∙◌, subst, zero-add, arith}
use Rattle.std.proofs.Math.Path.{ap}
use Rattle.kinds.specs.Kinds.{kind_numbered, is_list}
use Rattle.kinds.specs.Sizes.{shape_of, sizes}
use Rattle.kinds.specs.laws.Sizes.{sizes_bounds}
use Rattle.kinds.specs.Refusal.{accepted}
use Rattle.kinds.specs.declared.Kind.{Kind}
use Rattle.kinds.specs.declared.Shape.{Shape}
use Rattle.maps.specs.Target.{target_form}
use Rattle.maps.specs.Generators.{length_list_of, at_list_of, forms_length}
use Rattle.problems.specs.Problem.{Problem, target_forms, shaped, posed}
use Rattle.problems.specs.Taken.{ListTaken, MapTaken}
use Rattle.problems.proofs.laws.Taken.{listed_taken, mapped_taken, Kinded, shaped_inv, posed_inv}
use Rattle.problems.proofs.laws.Laying.{sorted_list, sorted_map, list_targets}
use Rattle.kinds.specs.Limits.{most_generators, most_targets}

module _ (shape : Shape) (n m u : ℕ) where
  pub targets_length : length (target_forms shape n m u) ≡ u
  unfolding target_forms
  targets_length = length_list_of (target_form shape n m) 0 u

  pub targets_at : (t : ℕ) → t < u → get_or (target_forms shape n m u) t 0 ≡ target_form shape n m t
  unfolding target_forms
  targets_at t h = at_list_of (target_form shape n m) 0 u t h ∙ ap (target_form shape n m) (zero-add t)

pub record Few (P : Problem) : Type 0 where
  pub generators : length P.generators ≤ most_generators
  pub some_target : 1 ≤ length P.targets
  pub targets : length P.targets ≤ most_targets

pub record IsMap (shape : Shape) (gs ts others : List ℕ) (P : Problem) : Type 0 where
  pub n : ℕ
  pub m : ℕ
  pub u : ℕ
  pub sized : sizes shape ≡ Some (n, m, u)
  pub taken : MapTaken shape n m u gs ts others P

module _ (shape : Shape) (gs ts others : List ℕ) (P : Problem) (e : shaped shape gs ts others ≡ accepted P) where
  K : Kinded shape gs ts others P
  K = shaped_inv shape gs ts others P e

  pub shaped_map : is_list shape.kind ≡ false → IsMap shape gs ts others P
  shaped_map d =
      record {
        n = K.n;
        m = K.m;
        u = K.u;
        sized = K.sized;
        taken = mapped_taken shape K.n K.m K.u gs ts others P (sym (sorted_map shape K.n K.m K.u gs ts others d) ∙ K.rest);
      }

  pub shaped_list : is_list shape.kind ≡ true → ListTaken shape.p shape.q shape.r gs ts others P
  shaped_list d = listed_taken shape.p shape.q shape.r gs ts others P (sym (sorted_list shape K.n K.m K.u gs ts others d) ∙ K.rest)

  of_map : IsMap shape gs ts others P → Few P
  of_map M =
      let b = sizes_bounds shape (M.n, M.m, M.u) M.sized in
      let T = M.taken in
      let g : length P.generators ≡ _ = ap (λ (x : Problem). length x.generators) T.is ∙ forms_length M.n M.m in
      let t : length P.targets ≡ M.u = ap (λ (x : Problem). length x.targets) T.is ∙ targets_length shape M.n M.m M.u in
      record {
        generators = (let f = T.few in omega arith);
        some_target = (let f = b.some_output in omega arith);
        targets = (let f = b.most_outputs in omega arith);
      }

  of_list : is_list shape.kind ≡ true → Few P
  of_list d =
      let b = list_targets shape (K.n, K.m, K.u) d K.sized in
      let T = shaped_list d in
      let g : length P.generators ≡ shape.q = ap (λ (x : Problem). length x.generators) T.is ∙ T.generators in
      let t : length P.targets ≡ shape.r = ap (λ (x : Problem). length x.targets) T.is ∙ T.targets in
      record {
        generators = (let f = T.few in omega arith);
        some_target = (let f = b.0 in omega arith);
        targets = (let f = b.1 in omega arith);
      }

  pub shaped_few : Few P
  shaped_few = go (is_list shape.kind) refl
    where
      go : (b : Bool) → is_list shape.kind ≡ b → Few P
      go true d = of_list d
      go false d = of_map (shaped_map d)

-- ---- the kind by its number
module _ (p q r : ℕ) (gs ts others : List ℕ) (P : Problem) (number : ℕ) (e : posed number p q r gs ts others ≡ accepted P) where
  pub posed_shaped : (kd : Kind) → kind_numbered number ≡ Some kd → shaped (shape_of kd p q r) gs ts others ≡ accepted P
  posed_shaped kd a =
      let N = posed_inv number p q r gs ts others P e in
      let k : N.0 ≡ kd = (let b = N.1 in cc) in
      subst (λ (x : Kind). shaped (shape_of x p q r) gs ts others ≡ accepted P) k N.2

  pub posed_few : Few P
  posed_few = let N = posed_inv number p q r gs ts others P e in shaped_few (shape_of N.0 p q r) gs ts others P N.2

  pub posed_map : (kd : Kind) → kind_numbered number ≡ Some kd → is_list kd ≡ false → IsMap (shape_of kd p q r) gs ts others P
  posed_map kd a d = shaped_map (shape_of kd p q r) gs ts others P (posed_shaped kd a) d

  pub posed_list : (kd : Kind) → kind_numbered number ≡ Some kd → is_list kd ≡ true → ListTaken p q r gs ts others P
  posed_list kd a d = shaped_list (shape_of kd p q r) gs ts others P (posed_shaped kd a) d
