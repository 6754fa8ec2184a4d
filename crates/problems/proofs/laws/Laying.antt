-- What is promised at each way out, in the definitions' terms.
--   mapped_4_laid, mapped_by_laid, mapped_laid   of a map: too many generators, refused by 5 or 6, taken
--   listed_by_laid, listed_laid                  of a list: refused, taken
--   shaped_3_laid, shaped_list_laid, shaped_map_laid   of a kind and sizes: sizes that misfit, what is said of its list or map
--   posed_2_laid, posed_kind_laid                of a problem: no such kind, what is said of its kind and sizes
--   list_targets                                 a list has between 1 and 64 targets
--   sorted_list, sorted_map                      a list is sorted as a list, another kind as a map
-- Assumes nothing.
use Rattle.std.specs.Prelude.{◌≡◌, Bool, true, false, cond, length, take, Option, None, Some}
use Rattle.std.proofs.Common.{sym, ◌∙◌, arith}
use Rattle.std.proofs.Math.Path.{ap, ap₂}
use mathlib.Core.List.{List}
use Prim.Native.Nat.{ℕ, ◌*◌, ◌≤◌}
use Rattle.kinds.specs.Kinds.{kind_numbered, is_list}
use Rattle.kinds.specs.Sizes.{shape_of, sizes}
use Rattle.kinds.specs.laws.Sizes.{sizes_bounds, list_outputs}
use Rattle.kinds.specs.Refusal.{Answer, accepted, need, refused_by}
use Rattle.kinds.specs.declared.Kind.{Kind}
use Rattle.kinds.specs.declared.Shape.{Shape}
use Rattle.words.specs.lists.Lists.{list_refusal, map_refusal}
use Rattle.maps.specs.Target.{target_form}
use Rattle.maps.specs.Generators.{list_of, generator_forms, count_of}
use Rattle.problems.specs.Problem.{Problem, problem, target_forms, listed, mapped, sorted, shaped, posed}
use Rattle.problems.specs.declared.Posed.{Posed}
use Rattle.problems.specs.declared.Posed.TheVariants as reply
use Rattle.problems.specs.Replies.{Laid}
use Rattle.problems.proofs.laws.Refusals.{listed_by, mapped_by, mapped_4, mapped_counted, counted}
use Rattle.problems.proofs.laws.Taken.{listed_taken}
use Rattle.kinds.specs.Limits.{most_generators}
use Rattle.kinds.specs.laws.Refusal.{by_some, by_none}

module _ (shape : Shape) (n m u : ℕ) (gs ts others g t : List ℕ) where
  abbrev made : Problem
  made = problem (generator_forms n m) (target_forms shape n m u)

  pub mapped_4_laid : count_of n m ≡ None → Laid (mapped shape n m u gs ts others) (reply.Refused 4) g t
  mapped_4_laid e = record { answer = mapped_4 shape n m u gs ts others e; room = tt }

  module _ (c e : ℕ) (C : count_of n m ≡ Some c) (B : map_refusal (n * m) gs ts others ≡ e) where
    by : mapped shape n m u gs ts others ≡ refused_by e made
    by = mapped_counted shape n m u gs ts others c C ∙ mapped_by (n * m) gs ts others made e B

    pub mapped_by_laid : (e ≡ 0 → ⊥) → Laid (mapped shape n m u gs ts others) (reply.Refused e) g t
    mapped_by_laid d = record { answer = by ∙ by_some e made d; room = tt }

    pub mapped_laid : e ≡ 0 → sizes shape ≡ Some (n, m, u) → take c g ≡ generator_forms n m → take u t ≡ list_of (target_form shape n m) 0 u
        → Laid (mapped shape n m u gs ts others) (reply.Are c u) g t
    unfolding target_forms
    mapped_laid d s G T =
        let b = sizes_bounds shape (n, m, u) s in
        record {
          answer = by ∙ by_none e made d ∙ ap₂ (λ (x y : List ℕ). accepted (problem x y)) (sym G) (sym T);
          room = record { generators = (counted n m c C).1; some_target = b.some_output; targets = b.most_outputs };
        }

module _ (p q r : ℕ) (gs ts others : List ℕ) (e : ℕ) (R : list_refusal p q r gs ts others ≡ e) where
  by_number : listed p q r gs ts others ≡ refused_by e (problem gs ts)
  by_number = listed_by p q r gs ts others e R

  pub listed_by_laid : (g t : List ℕ) → (e ≡ 0 → ⊥) → Laid (listed p q r gs ts others) (reply.Refused e) g t
  listed_by_laid g t d = record { answer = by_number ∙ by_some e (problem gs ts) d; room = tt }

  -- the forms of a list that is taken have room in the buffers
  pub record Few : Type 0 where
    pub generators : length gs ≤ most_generators
    pub targets : length ts ≡ r

  pub listed_few : e ≡ 0 → Few
  listed_few d =
      let T = listed_taken p q r gs ts others (problem gs ts) (by_number ∙ by_none e (problem gs ts) d) in
      let a = T.few in
      let b = T.generators in
      record { generators = omega arith; targets = T.targets }

  pub listed_laid : (g t : List ℕ) → e ≡ 0 → 1 ≤ r → r ≤ 64 → take (length gs) g ≡ gs → take (length ts) t ≡ ts
      → Laid (listed p q r gs ts others) (reply.Are (length gs) (length ts)) g t
  listed_laid g t d a b G T =
      let F = listed_few d in
      let f = F.targets in
      record {
        answer = by_number ∙ by_none e (problem gs ts) d ∙ ap₂ (λ (x y : List ℕ). accepted (problem x y)) (sym G) (sym T);
        room = record { generators = F.generators; some_target = omega arith; targets = omega arith };
      }

-- ---- 2 and 3
-- of a list r is the number of targets, between 1 and 64
pub list_targets : (shape : Shape) (z : ℕ × ℕ × ℕ) → is_list shape.kind ≡ true → sizes shape ≡ Some z → (1 ≤ shape.r) × (shape.r ≤ 64)
list_targets shape z k e =
    let b = sizes_bounds shape z e in
    let u : shape.r ≡ z.2 = list_outputs shape z k e in
    (let s = b.some_output in omega arith, let s = b.most_outputs in omega arith)

module _ (shape : Shape) (n m u : ℕ) (gs ts others : List ℕ) where
  sorted_as : (b : Bool) → is_list shape.kind ≡ b
      → sorted shape n m u gs ts others ≡ cond b (listed shape.p shape.q shape.r gs ts others) (mapped shape n m u gs ts others)
  sorted_as b e = ap (λ (x : Bool). cond x (listed shape.p shape.q shape.r gs ts others) (mapped shape n m u gs ts others)) e

  pub sorted_list : is_list shape.kind ≡ true → sorted shape n m u gs ts others ≡ listed shape.p shape.q shape.r gs ts others
  sorted_list = sorted_as true

  pub sorted_map : is_list shape.kind ≡ false → sorted shape n m u gs ts others ≡ mapped shape n m u gs ts others
  sorted_map = sorted_as false

module _ (shape : Shape) (gs ts others g t : List ℕ) where
  abbrev after : ℕ × ℕ × ℕ → Answer Problem
  after z = sorted shape z.0 z.1 z.2 gs ts others

  pub shaped_3_laid : sizes shape ≡ None → Laid (shaped shape gs ts others) (reply.Refused 3) g t
  unfolding shaped
  shaped_3_laid e = record { answer = ap (λ (o : Option (ℕ × ℕ × ℕ)). need 3 o after) e; room = tt }

  module _ (n m u : ℕ) (S : sizes shape ≡ Some (n, m, u)) (x : Posed) where
    of_sizes : shaped shape gs ts others ≡ sorted shape n m u gs ts others
    unfolding shaped
    of_sizes = ap (λ (o : Option (ℕ × ℕ × ℕ)). need 3 o after) S

    pub shaped_list_laid : is_list shape.kind ≡ true → Laid (listed shape.p shape.q shape.r gs ts others) x g t → Laid (shaped shape gs ts others) x g t
    shaped_list_laid d L = record { answer = of_sizes ∙ sorted_list shape n m u gs ts others d ∙ L.answer; room = L.room }

    pub shaped_map_laid : is_list shape.kind ≡ false → Laid (mapped shape n m u gs ts others) x g t → Laid (shaped shape gs ts others) x g t
    shaped_map_laid d L = record { answer = of_sizes ∙ sorted_map shape n m u gs ts others d ∙ L.answer; room = L.room }

module _ (number p q r : ℕ) (gs ts others g t : List ℕ) where
  posed_of : (o : Option Kind) → kind_numbered number ≡ o → posed number p q r gs ts others ≡ need 2 o λ kd. shaped (shape_of kd p q r) gs ts others
  unfolding posed
  posed_of o e = ap (λ (o : Option Kind). need 2 o λ kd. shaped (shape_of kd p q r) gs ts others) e

  pub posed_2_laid : kind_numbered number ≡ None → Laid (posed number p q r gs ts others) (reply.Refused 2) g t
  posed_2_laid e = record { answer = posed_of None e; room = tt }

  pub posed_kind_laid : (kd : Kind) (x : Posed) → kind_numbered number ≡ Some kd → Laid (shaped (shape_of kd p q r) gs ts others) x g t
      → Laid (posed number p q r gs ts others) x g t
  posed_kind_laid kd x K L = record { answer = posed_of (Some kd) K ∙ L.answer; room = L.room }
