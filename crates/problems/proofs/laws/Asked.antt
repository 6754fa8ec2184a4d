-- A target handed in as a further form of a call: the problem is accepted with it as without.
--   wide_member, target_fits             a member of forms that fit a width fits it, and so does a target of a map
--   listed_target, mapped_target, shaped_target, posed_target   of a list, of a map, of a kind with its sizes, of a kind by its number
-- Assumes nothing.
use Rattle.std.specs.Prelude.{◌≡◌, Bool, not, ℕ, ◌+◌, ◌*◌, ◌^◌, ◌<◌, ltb, Option}
use Rattle.std.proofs.Math.Path.{refl, ap, subst}
use Rattle.std.proofs.Common.{sym, ap₂, ◌∙◌, lt-ltb}
use Rattle.std.proofs.Math.Bool.{true, false, ◌||◌}
use mathlib.Core.List.{List, [], ◌∷◌, Memᴰ}
use Rattle.kinds.specs.Kinds.{is_list}
use Rattle.kinds.specs.Sizes.{shape_of}
use Rattle.kinds.specs.Refusal.{Answer, accepted, need, refuse}
use Rattle.kinds.specs.laws.Refusal.{accepted_inj, need_inv, refuse_inv, neither}
use Rattle.kinds.specs.declared.Kind.{Kind}
use Rattle.kinds.specs.declared.Shape.{Shape}
use Rattle.kinds.specs.Limits.{most_generators}
use Rattle.linear.specs.laws.Span.{mem_cons}
use Rattle.linear.proofs.laws.Order.{mem_index}
use Rattle.words.specs.Masks.{outside, wide, zero_in}
use Rattle.words.specs.lists.Lists.{repeats, unlike}
use Rattle.maps.specs.Generators.{generator_forms, count_of, length_list_of, at_list_of}
use Rattle.maps.specs.Target.{target_form}
use Rattle.maps.specs.Meaning.{target_below}
use Rattle.problems.specs.Problem.{Problem, problem, target_forms, listed, mapped, sorted, shaped, posed}
use Rattle.problems.proofs.laws.Laying.{sorted_list, sorted_map}
use Rattle.problems.proofs.laws.Taken.{shaped_inv, posed_inv}

-- ---- one form
alone : (n t : ℕ) → outside n t ≡ false → wide n (t ∷ []) ≡ false
unfolding wide
alone n t e = ap (λ (b : Bool). b || false) e

fits_each : (n : ℕ) (xs : List ℕ) → wide n xs ≡ false → (t : ℕ) → Memᴰ t xs → outside n t ≡ false
unfolding wide
fits_each n [] e = λ t m. absurd (mathlib.Core.List.Memᴰ.not-nil m)
fits_each n (x ∷ xs) e = let b = neither (outside n x) (wide n xs) e in mem_cons {P = λ t. outside n t ≡ false} b.0 (fits_each n xs b.1)

pub wide_member : (n : ℕ) (xs : List ℕ) (t : ℕ) → wide n xs ≡ false → Memᴰ t xs → wide n (t ∷ []) ≡ false
wide_member n xs t e m = alone n t (fits_each n xs e t m)

pub target_fits : (shape : Shape) (n m u t : ℕ) → Memᴰ t (target_forms shape n m u) → wide (n * m) (t ∷ []) ≡ false
unfolding target_forms
target_fits shape n m u t k =
    let f : ℕ → ℕ = target_form shape n m in
    let i = mem_index 0 k in
    let h : i.0 < u = subst (λ (l : ℕ). i.0 < l) (length_list_of f 0 u) i.1 in
    let e : t ≡ f (0 + i.0) = i.2 ∙ at_list_of f 0 u i.0 h in
    alone (n * m) t (ap not (lt-ltb t (2 ^ (n * m)) (subst (λ (x : ℕ). x < 2 ^ (n * m)) (sym e) (target_below shape n m (0 + i.0)))))

-- ---- a list, and a map
module _ (t : ℕ) (P : Problem) (k : Memᴰ t P.targets) where
  pub listed_target : (p q r : ℕ) (gs ts others : List ℕ) → listed p q r gs ts others ≡ accepted P → listed p q r gs ts (t ∷ []) ≡ accepted P
  unfolding listed
  listed_target p q r gs ts others e =
      let seven : Answer Problem = refuse 7 (zero_in gs || repeats gs) (accepted (problem gs ts)) in
      let six : Answer Problem = refuse 6 (wide p gs || (wide p ts || wide p others)) seven in
      let six' : Answer Problem = refuse 6 (wide p gs || (wide p ts || wide p (t ∷ []))) seven in
      let a = refuse_inv 4 (ltb most_generators q) (refuse 5 (unlike q r gs ts) six) P e in
      let b = refuse_inv 5 (unlike q r gs ts) six P a.1 in
      let c = refuse_inv 6 (wide p gs || (wide p ts || wide p others)) seven P b.1 in
      let d = refuse_inv 7 (zero_in gs || repeats gs) (accepted (problem gs ts)) P c.1 in
      let w = neither (wide p gs) (wide p ts || wide p others) c.0 in
      let v = neither (wide p ts) (wide p others) w.1 in
      let m : Memᴰ t ts = subst (λ (x : Problem). Memᴰ t x.targets) (sym (accepted_inj (problem gs ts) P d.1)) k in
      ap (λ (x : Bool). refuse 4 x (refuse 5 (unlike q r gs ts) six')) a.0 ∙ ap (λ (x : Bool). refuse 5 x six') b.0
      ∙ ap (λ (x : Bool). refuse 6 x seven) (ap₂ ◌||◌ w.0 (ap₂ ◌||◌ v.0 (wide_member p ts t v.0 m))) ∙ c.1

  pub mapped_target : (shape : Shape) (n m u : ℕ) (gs ts others : List ℕ) → mapped shape n m u gs ts others ≡ accepted P
      → mapped shape n m u gs ts (t ∷ []) ≡ accepted P
  unfolding mapped
  mapped_target shape n m u gs ts others e =
      let made : Problem = problem (generator_forms n m) (target_forms shape n m u) in
      let a = need_inv 4 (count_of n m) (λ c. refuse 5 (unlike 0 0 gs ts) (refuse 6 (wide (n * m) others) (accepted made))) P e in
      let b = refuse_inv 5 (unlike 0 0 gs ts) (refuse 6 (wide (n * m) others) (accepted made)) P a.2 in
      let c = refuse_inv 6 (wide (n * m) others) (accepted made) P b.1 in
      let j : Memᴰ t (target_forms shape n m u) = subst (λ (x : Problem). Memᴰ t x.targets) (sym (accepted_inj made P c.1)) k in
      ap (λ (o : Option ℕ). need 4 o λ c. refuse 5 (unlike 0 0 gs ts) (refuse 6 (wide (n * m) (t ∷ [])) (accepted made))) a.1
      ∙ ap (λ (x : Bool). refuse 5 x (refuse 6 (wide (n * m) (t ∷ [])) (accepted made))) b.0
      ∙ ap (λ (x : Bool). refuse 6 x (accepted made)) (target_fits shape n m u t j) ∙ c.1

  -- ---- of either
  pub shaped_target : (shape : Shape) (gs ts others : List ℕ) → shaped shape gs ts others ≡ accepted P → shaped shape gs ts (t ∷ []) ≡ accepted P
  unfolding shaped
  shaped_target shape gs ts others e =
      let K = shaped_inv shape gs ts others P e in
      ap (λ z. need 3 z λ y. sorted shape y.0 y.1 y.2 gs ts (t ∷ [])) K.sized ∙ go K.n K.m K.u (is_list shape.kind) refl K.rest
    where
      go : (n m u : ℕ) (b : Bool) → is_list shape.kind ≡ b → sorted shape n m u gs ts others ≡ accepted P → sorted shape n m u gs ts (t ∷ []) ≡ accepted P
      go n m u true d r =
          sorted_list shape n m u gs ts (t ∷ []) d
          ∙ listed_target shape.p shape.q shape.r gs ts others (sym (sorted_list shape n m u gs ts others d) ∙ r)
      go n m u false d r =
          sorted_map shape n m u gs ts (t ∷ []) d ∙ mapped_target shape n m u gs ts others (sym (sorted_map shape n m u gs ts others d) ∙ r)

  pub posed_target : (number p q r : ℕ) (gs ts others : List ℕ) → posed number p q r gs ts others ≡ accepted P → posed number p q r gs ts (t ∷ []) ≡ accepted P
  unfolding posed
  posed_target number p q r gs ts others e =
      let N = posed_inv number p q r gs ts others P e in
      ap (λ (o : Option Kind). need 2 o λ kd. shaped (shape_of kd p q r) gs ts (t ∷ [])) N.1
      ∙ shaped_target (shape_of N.0 p q r) gs ts others N.2
