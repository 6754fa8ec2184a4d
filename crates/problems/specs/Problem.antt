-- A problem handed in as numbers and lists: what it is, and by which number of document 01's list it is refused.
--   Problem                         == the generators' forms and the target forms, each in order
--   problem gs ts                   == the problem with those
--   target_forms shape n m u         == the target forms of a map with u outputs, in order
--   listed p q r gs ts others       == a list of p bits: refusals 4 to 7, then the forms handed in
--   mapped shape .. gs ts others    == a map in n and m variables with u outputs: refusals 4 to 6, then its generators and targets
--   shaped shape gs ts others       == the problem of that kind and sizes: refusals 3 to 7, or what it is
--   posed number p q r gs ts others == the problem of the kind with that number: refusals 2 to 7, or what it is
-- `repeats` and `unlike`: words, lists. gs and ts are handed in for list only; `others` are further forms of the same call (the rows of a space, a form asked for).
-- Theorems: posed_few, posed_map, posed_list (Theorems). Assumes nothing.
use Rattle.std.specs.Prelude.{◌||◌, cond, List, ℕ, ◌*◌, ltb}
use Rattle.kinds.specs.Kinds.{kind_numbered, is_list}
use Rattle.kinds.specs.Sizes.{shape_of, sizes}
use Rattle.kinds.specs.Refusal.{Answer, accepted, need, refuse}
use Rattle.kinds.specs.declared.Shape.{Shape}
use Rattle.words.specs.Masks.{wide, zero_in}
use Rattle.words.specs.lists.Lists.{repeats, unlike}
use Rattle.maps.specs.Target.{target_form}
use Rattle.maps.specs.Generators.{list_of, generator_forms, count_of}
use Rattle.kinds.specs.Limits.{most_generators}

-- "A menu is a list of forms, numbered from 0. The targets are the forms to be computed."
pub record Problem : Type 0 where
  pub generators : List ℕ
  pub targets : List ℕ

abbrev pub problem : List ℕ → List ℕ → Problem
problem gs ts = record { generators = gs; targets = ts }

unfoldable pub target_forms : Shape → (n m u : ℕ) → List ℕ
target_forms shape n m u = list_of (target_form shape n m) 0 u

-- refusal 4: "has more than 4,095 forms"; refusal 6: "A form, factor or row has a bit outside its width"
unfoldable pub listed : (p q r : ℕ) (gs ts others : List ℕ) → Answer Problem
listed p q r gs ts others =
    refuse 4 (ltb most_generators q)
    (refuse 5 (unlike q r gs ts)
    (refuse 6 (wide p gs || (wide p ts || wide p others))
    (refuse 7 (zero_in gs || repeats gs)
    (accepted (problem gs ts)))))

unfoldable pub mapped : Shape → (n m u : ℕ) (gs ts others : List ℕ) → Answer Problem
mapped shape n m u gs ts others =
    need 4 (count_of n m) λ c.
    refuse 5 (unlike 0 0 gs ts)
    (refuse 6 (wide (n * m) others)
    (accepted (problem (generator_forms n m) (target_forms shape n m u))))

-- refusals 4 to 7: a list, or a map
abbrev pub sorted : Shape → (n m u : ℕ) (gs ts others : List ℕ) → Answer Problem
sorted shape n m u gs ts others = cond (is_list shape.kind) (listed shape.p shape.q shape.r gs ts others) (mapped shape n m u gs ts others)

unfoldable pub shaped : Shape → (gs ts others : List ℕ) → Answer Problem
shaped shape gs ts others = need 3 (sizes shape) λ z. sorted shape z.0 z.1 z.2 gs ts others

unfoldable pub posed : (number p q r : ℕ) (gs ts others : List ℕ) → Answer Problem
posed number p q r gs ts others = need 2 (kind_numbered number) λ kd. shaped (shape_of kd p q r) gs ts others
