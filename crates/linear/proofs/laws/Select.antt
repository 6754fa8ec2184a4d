-- What tests over a list choose; numbers in a list (`stands`, `stood`); the library's test of some
-- member (`any_of_is`); the chosen of a joined and of a mapped list (`only_append`, `only_map`).
-- Of `first_of_each`: each chosen passes (`first_mem`), no key comes twice (`first_once`), every key that passes is there (`first_some`), and in a list in order
-- each chosen one stands before all others with its key (`first_first`). Assumes nothing.
use Rattle.std.specs.Prelude.{◌≡◌, ◌≢◌, ◌⊎◌, ◌↔◌, Bool, cond, ◌&&◌, eqb}
use Rattle.std.proofs.Math.Path.{refl, ap₂}
use Rattle.std.proofs.Common.{sym, ap, ◌∙◌, subst, inl, inr, true≢false, eq-eqb, eqb-true}
use Rattle.std.proofs.Math.Bool.{true, false, not, ◌||◌}
use Rattle.std.proofs.lemmas.Bool.{false≢true}
use mathlib.Core.List.{List, [], ◌∷◌, ◌++◌, map, Memᴰ}
use Prim.Native.Nat.{ℕ, suc, ◌≤◌}
use native.Mathlib.Omega.{arith}
use Rattle.std.proofs.Math.ListN.{length}
use Rattle.std.specs.List.{list_any}
use Rattle.linear.specs.Order.{Ordered}
use Rattle.linear.specs.Select.{any_of, only, first_of_each, Once}
use Rattle.linear.specs.laws.Span.{mem_cons}

-- ---- tests
module _ {A : Type 0} (p : A → Bool) where
  pub any_of_no : (l : List A) → any_of p l ≡ false → (x : A) → Memᴰ x l → p x ≡ false
  unfolding any_of
  any_of_no [] e = λ x m. absurd (mathlib.Core.List.Memᴰ.not-nil m)
  any_of_no (y ∷ l) e = go (p y) refl (any_of_no l)
    where
      go : (t : Bool) → p y ≡ t → (any_of p l ≡ false → (x : A) → Memᴰ x l → p x ≡ false) → (x : A) → Memᴰ x (y ∷ l) → p x ≡ false
      go true q ih = absurd (true≢false (ap (λ t. t || any_of p l) (sym q) ∙ e))
      go false q ih = mem_cons {P = λ x. p x ≡ false} q (ih (ap (λ t. t || any_of p l) (sym q) ∙ e))

  pub no_any_of : (l : List A) → ((x : A) → Memᴰ x l → p x ≡ false) → any_of p l ≡ false
  unfolding any_of
  no_any_of [] h = refl
  no_any_of (y ∷ l) h = ap₂ ◌||◌ (h y (mathlib.Core.List.Memᴰ.head refl)) (no_any_of l (λ x m. h x (mathlib.Core.List.Memᴰ.tail m)))

  pub any_of_here : (l : List A) (x : A) → Memᴰ x l → p x ≡ true → any_of p l ≡ true
  any_of_here l x m e = go (any_of p l) refl
    where
      go : (t : Bool) → any_of p l ≡ t → t ≡ true
      go true q = refl
      go false q = absurd (true≢false (sym e ∙ any_of_no l q x m))

  pub only_mem : (l : List A) (x : A) → Memᴰ x (only p l) → Memᴰ x l × (p x ≡ true)
  unfolding only
  only_mem [] = λ x m. absurd (mathlib.Core.List.Memᴰ.not-nil m)
  only_mem (y ∷ l) = go (p y) refl (only_mem l)
    where
      go : (t : Bool) → p y ≡ t → ((x : A) → Memᴰ x (only p l) → Memᴰ x l × (p x ≡ true))
          → (x : A) → Memᴰ x (cond t (y ∷ only p l) (only p l)) → Memᴰ x (y ∷ l) × (p x ≡ true)
      go true q ih = mem_cons {P = λ x. Memᴰ x (y ∷ l) × (p x ≡ true)} (mathlib.Core.List.Memᴰ.head refl, q) (λ x m. let r = ih x m in (mathlib.Core.List.Memᴰ.tail r.0, r.1))
      go false q ih = λ x m. let r = ih x m in (mathlib.Core.List.Memᴰ.tail r.0, r.1)

  pub mem_only : (l : List A) (x : A) → Memᴰ x l → p x ≡ true → Memᴰ x (only p l)
  unfolding only
  mem_only [] = λ x m. absurd (mathlib.Core.List.Memᴰ.not-nil m)
  mem_only (y ∷ l) = go (p y) refl (mem_only l)
    where
      go : (t : Bool) → p y ≡ t → ((x : A) → Memᴰ x l → p x ≡ true → Memᴰ x (only p l))
          → (x : A) → Memᴰ x (y ∷ l) → p x ≡ true → Memᴰ x (cond t (y ∷ only p l) (only p l))
      go true q ih = mem_cons {P = λ x. p x ≡ true → Memᴰ x (y ∷ only p l)} (λ e. mathlib.Core.List.Memᴰ.head refl) (λ x m e. mathlib.Core.List.Memᴰ.tail (ih x m e))
      go false q ih = mem_cons {P = λ x. p x ≡ true → Memᴰ x (only p l)} (λ e. absurd (false≢true (sym q ∙ e))) ih

-- the library's test of some member is this one
pub any_of_is : {A : Type 0} (p : A → Bool) (l : List A) → list_any p l ≡ any_of p l
unfolding any_of
any_of_is p [] = refl
any_of_is p (x ∷ l) = ap (λ (t : Bool). p x || t) (any_of_is p l)

pub any_of_yes : {A : Type 0} (p : A → Bool) (l : List A) → any_of p l ≡ true → (x : A) × Memᴰ x l × (p x ≡ true)
unfolding any_of
any_of_yes p [] e = absurd (false≢true e)
any_of_yes {A} p (y ∷ l) e = go (p y) refl e (any_of_yes p l)
  where
    go : (t : Bool) → p y ≡ t → t || any_of p l ≡ true → (any_of p l ≡ true → (x : A) × Memᴰ x l × (p x ≡ true))
        → (x : A) × Memᴰ x (y ∷ l) × (p x ≡ true)
    go true q e ih = (y, mathlib.Core.List.Memᴰ.head refl, q)
    go false q e ih = let r = ih e in (r.0, mathlib.Core.List.Memᴰ.tail r.1, r.2)

-- a number that stands in a list passes the test for it, and what passes stands there
pub stands : (x : ℕ) (l : List ℕ) → Memᴰ x l → any_of (eqb x) l ≡ true
stands x l m = any_of_here (eqb x) l x m (eq-eqb x x refl)

pub stood : (x : ℕ) (l : List ℕ) → any_of (eqb x) l ≡ true → Memᴰ x l
stood x l e = let r = any_of_yes (eqb x) l e in mathlib.Core.List.Memᴰ.cast (eqb-true x r.0 r.2) r.1

-- so the test is the same for lists with the same members
pub stands_same : (l m : List ℕ) → ((x : ℕ) → Memᴰ x l ↔ Memᴰ x m) → (x : ℕ) → any_of (eqb x) l ≡ any_of (eqb x) m
stands_same l m h x = go (any_of (eqb x) l) refl (any_of (eqb x) m) refl
  where
    go : (a : Bool) → any_of (eqb x) l ≡ a → (b : Bool) → any_of (eqb x) m ≡ b → a ≡ b
    go true p b q = sym (stands x m ((h x).0 (stood x l p))) ∙ q
    go false p true q = sym p ∙ stands x l ((h x).1 (stood x m q))
    go false p false q = refl

pub only_append : {A : Type 0} (q : A → Bool) (xs ys : List A) → only q (xs ++ ys) ≡ only q xs ++ only q ys
unfolding only
only_append q [] ys = refl
only_append {A} q (x ∷ xs) ys = go (q x) (only_append q xs ys)
  where
    go : (t : Bool) → only q (xs ++ ys) ≡ only q xs ++ only q ys
        → cond t (x ∷ only q (xs ++ ys)) (only q (xs ++ ys)) ≡ cond t (x ∷ only q xs) (only q xs) ++ only q ys
    go true e = ap {B = List A} (λ r. x ∷ r) e
    go false e = e

pub only_map : {A B : Type 0} (q : B → Bool) (f : A → B) (l : List A) → only q (map f l) ≡ map f (only (λ a. q (f a)) l)
unfolding only
only_map q f [] = refl
only_map {A} {B} q f (x ∷ l) = go (q (f x)) (only_map q f l)
  where
    go : (t : Bool) → only q (map f l) ≡ map f (only (λ a. q (f a)) l)
        → cond t (f x ∷ only q (map f l)) (only q (map f l)) ≡ map f (cond t (x ∷ only (λ a. q (f a)) l) (only (λ a. q (f a)) l))
    go true e = ap {B = List B} (λ r. f x ∷ r) e
    go false e = e

pub only_none : {A : Type 0} (q : A → Bool) (l : List A) → ((x : A) → Memᴰ x l → q x ≡ false) → only q l ≡ []
unfolding only
only_none q [] h = refl
only_none {A} q (x ∷ l) h =
    ap (λ t. cond t (x ∷ only q l) (only q l)) (h x (mathlib.Core.List.Memᴰ.head refl)) ∙ only_none q l (λ y m. h y (mathlib.Core.List.Memᴰ.tail m))

-- ---- of each key that passes the first in the list
module _ {A B : Type 0} (key : A → B) (ok : B → Bool) (same : B → B → Bool) where
  module _ (same_yes : (a b : B) → same a b ≡ true → a ≡ b) (same_no : (a b : B) → same a b ≡ false → a ≢ b) where
    -- what the test of `pick` says
    test_yes : (x : A) (earlier : List A) → ok (key x) && not (any_of (λ y. same (key y) (key x)) earlier) ≡ true
        → (ok (key x) ≡ true) × ((y : A) → Memᴰ y earlier → key y ≢ key x)
    test_yes x earlier e = go (ok (key x)) refl (any_of (λ y. same (key y) (key x)) earlier) refl e
      where
        go : (s : Bool) → ok (key x) ≡ s → (t : Bool) → any_of (λ y. same (key y) (key x)) earlier ≡ t → s && not t ≡ true
            → (ok (key x) ≡ true) × ((y : A) → Memᴰ y earlier → key y ≢ key x)
        go true p true q e = absurd (false≢true e)
        go true p false q e = (p, λ y m. same_no (key y) (key x) (any_of_no (λ y. same (key y) (key x)) earlier q y m))
        go false p t q e = absurd (false≢true e)

    test_no : (x : A) (earlier : List A) → ok (key x) ≡ true → ((y : A) → Memᴰ y earlier → key y ≢ key x)
        → ok (key x) && not (any_of (λ y. same (key y) (key x)) earlier) ≡ true
    test_no x earlier p h = ap₂ (λ s t. s && not t) p (no_any_of (λ y. same (key y) (key x)) earlier (λ y m. low y (same (key y) (key x)) refl (h y m)))
      where
        low : (y : A) (t : Bool) → same (key y) (key x) ≡ t → key y ≢ key x → same (key y) (key x) ≡ false
        low y true q h = absurd (h (same_yes (key y) (key x) q))
        low y false q h = q

    pub first_mem : (l earlier : List A) (x : A) → Memᴰ x (first_of_each key ok same earlier l)
        → Memᴰ x l × (ok (key x) ≡ true) × ((y : A) → Memᴰ y earlier → key y ≢ key x)
    unfolding first_of_each
    first_mem [] earlier = λ x m. absurd (mathlib.Core.List.Memᴰ.not-nil m)
    first_mem (z ∷ l) earlier = go (ok (key z) && not (any_of (λ y. same (key y) (key z)) earlier)) refl (first_mem l (z ∷ earlier))
      where
        Good : List A → List A → A → Type 0
        Good l earlier x = Memᴰ x l × (ok (key x) ≡ true) × ((y : A) → Memᴰ y earlier → key y ≢ key x)

        go : (t : Bool) → ok (key z) && not (any_of (λ y. same (key y) (key z)) earlier) ≡ t
            → ((x : A) → Memᴰ x (first_of_each key ok same (z ∷ earlier) l) → Good l (z ∷ earlier) x)
            → (x : A) → Memᴰ x (cond t (z ∷ first_of_each key ok same (z ∷ earlier) l) (first_of_each key ok same (z ∷ earlier) l)) → Good (z ∷ l) earlier x
        go true q ih =
            mem_cons {P = Good (z ∷ l) earlier} (let r = test_yes z earlier q in (mathlib.Core.List.Memᴰ.head refl, r.0, r.1))
            (λ x m. let r = ih x m in (mathlib.Core.List.Memᴰ.tail r.0, r.1, λ y k. r.2 y (mathlib.Core.List.Memᴰ.tail k)))
        go false q ih = λ x m. let r = ih x m in (mathlib.Core.List.Memᴰ.tail r.0, r.1, λ y k. r.2 y (mathlib.Core.List.Memᴰ.tail k))

    pub first_once : (l earlier : List A) → Once key (first_of_each key ok same earlier l)
    unfolding first_of_each
    first_once [] earlier = tt
    first_once (z ∷ l) earlier = go (ok (key z) && not (any_of (λ y. same (key y) (key z)) earlier)) (first_once l (z ∷ earlier))
      where
        go : (t : Bool) → Once key (first_of_each key ok same (z ∷ earlier) l)
            → Once key (cond t (z ∷ first_of_each key ok same (z ∷ earlier) l) (first_of_each key ok same (z ∷ earlier) l))
        go true ih = (λ y m. (first_mem l (z ∷ earlier) y m).2 z (mathlib.Core.List.Memᴰ.head refl), ih)
        go false ih = ih

    pub once_eq : (l : List A) → Once key l → (x y : A) → Memᴰ x l → Memᴰ y l → key x ≡ key y → x ≡ y
    once_eq [] o x y m k e = absurd (mathlib.Core.List.Memᴰ.not-nil m)
    once_eq (z ∷ l) o x y m k e = go (mathlib.Core.List.Memᴰ.cases_cons m) (mathlib.Core.List.Memᴰ.cases_cons k) (once_eq l o.1 x y)
      where
        go : (x ≡ z) ⊎ Memᴰ x l → (y ≡ z) ⊎ Memᴰ y l → (Memᴰ x l → Memᴰ y l → key x ≡ key y → x ≡ y) → x ≡ y
        go (inl a) (inl b) ih = a ∙ sym b
        go (inl a) (inr b) ih = absurd (o.0 y b (ap key (sym a) ∙ e))
        go (inr a) (inl b) ih = absurd (o.0 x a (ap key (sym b) ∙ sym e))
        go (inr a) (inr b) ih = ih a b e

    -- every key that passes and stands in the list, and not earlier, is the key of one that is picked
    pub first_some : (l earlier : List A) (x : A) → Memᴰ x l → ok (key x) ≡ true → ((y : A) → Memᴰ y earlier → key y ≢ key x)
        → (y : A) × Memᴰ y (first_of_each key ok same earlier l) × (key y ≡ key x)
    unfolding first_of_each
    first_some [] earlier x m p h = absurd (mathlib.Core.List.Memᴰ.not-nil m)
    first_some (z ∷ l) earlier x m p h = go (same (key z) (key x)) refl (λ k j. first_some l (z ∷ earlier) x k p j)
      where
        Found : List A → Type 0
        Found r = (y : A) × Memᴰ y r × (key y ≡ key x)

        later : (t : Bool) → Found (first_of_each key ok same (z ∷ earlier) l)
            → Found (cond t (z ∷ first_of_each key ok same (z ∷ earlier) l) (first_of_each key ok same (z ∷ earlier) l))
        later true f = (f.0, mathlib.Core.List.Memᴰ.tail f.1, f.2)
        later false f = f

        go : (t : Bool) → same (key z) (key x) ≡ t
            → (Memᴰ x l → ((y : A) → Memᴰ y (z ∷ earlier) → key y ≢ key x) → Found (first_of_each key ok same (z ∷ earlier) l))
            → Found (cond (ok (key z) && not (any_of (λ y. same (key y) (key z)) earlier)) (z ∷ first_of_each key ok same (z ∷ earlier) l)
            (first_of_each key ok same (z ∷ earlier) l))
        go true q ih =
            let e : key z ≡ key x = same_yes (key z) (key x) q in
            subst (λ t. Found (cond t (z ∷ first_of_each key ok same (z ∷ earlier) l) (first_of_each key ok same (z ∷ earlier) l)))
            (sym (test_no z earlier (ap ok e ∙ p) (λ y k g. h y k (g ∙ e)))) (z, mathlib.Core.List.Memᴰ.head refl, e)
        go false q ih =
            let n : key z ≢ key x = same_no (key z) (key x) q in
            later (ok (key z) && not (any_of (λ y. same (key y) (key z)) earlier))
            (ih (old n (mathlib.Core.List.Memᴰ.cases_cons m)) (mem_cons {P = λ y. key y ≢ key x} n h))
          where
            old : key z ≢ key x → (x ≡ z) ⊎ Memᴰ x l → Memᴰ x l
            old n (inl e) = absurd (n (ap key (sym e)))
            old n (inr k) = k

    -- in a list in order a picked one stands before all others of its key, and the picked ones are in order
    module _ (◌≺◌ : A → A → Type 0) where
      pub first_first : (l earlier : List A) → Ordered ◌≺◌ l → (x : A) → Memᴰ x (first_of_each key ok same earlier l) → (y : A) → Memᴰ y l
          → key y ≡ key x → (x ≡ y) ⊎ (◌≺◌ x y)
      unfolding first_of_each
      first_first [] earlier o = λ x m. absurd (mathlib.Core.List.Memᴰ.not-nil m)
      first_first (z ∷ l) earlier o = go (ok (key z) && not (any_of (λ y. same (key y) (key z)) earlier)) (first_first l (z ∷ earlier) o.1)
        where
          First : List A → A → Type 0
          First l x = (y : A) → Memᴰ y l → key y ≡ key x → (x ≡ y) ⊎ (◌≺◌ x y)

          after : ((x : A) → Memᴰ x (first_of_each key ok same (z ∷ earlier) l) → First l x) → (x : A)
              → Memᴰ x (first_of_each key ok same (z ∷ earlier) l) → First (z ∷ l) x
          after ih x m = mem_cons {P = λ y. key y ≡ key x → (x ≡ y) ⊎ (◌≺◌ x y)} (λ e. absurd ((first_mem l (z ∷ earlier) x m).2 z (mathlib.Core.List.Memᴰ.head refl) e))
              (ih x m)

          go : (t : Bool) → ((x : A) → Memᴰ x (first_of_each key ok same (z ∷ earlier) l) → First l x)
              → (x : A) → Memᴰ x (cond t (z ∷ first_of_each key ok same (z ∷ earlier) l) (first_of_each key ok same (z ∷ earlier) l)) → First (z ∷ l) x
          go true ih = mem_cons {P = First (z ∷ l)} (mem_cons {P = λ y. key y ≡ key z → (z ≡ y) ⊎ (◌≺◌ z y)} (λ e. inl refl) (λ y k e. inr (o.0 y k)))
              (after ih)
          go false ih = after ih

      pub first_ordered : (l earlier : List A) → Ordered ◌≺◌ l → Ordered ◌≺◌ (first_of_each key ok same earlier l)
      unfolding first_of_each
      first_ordered [] earlier o = tt
      first_ordered (z ∷ l) earlier o = go (ok (key z) && not (any_of (λ y. same (key y) (key z)) earlier)) (first_ordered l (z ∷ earlier) o.1)
        where
          go : (t : Bool) → Ordered ◌≺◌ (first_of_each key ok same (z ∷ earlier) l)
              → Ordered ◌≺◌ (cond t (z ∷ first_of_each key ok same (z ∷ earlier) l) (first_of_each key ok same (z ∷ earlier) l))
          go true ih = (λ y m. o.0 y (first_mem l (z ∷ earlier) y m).0, ih)
          go false ih = ih

  -- at most as many as there are in the list
  pub first_length : (l earlier : List A) → length (first_of_each key ok same earlier l) ≤ length l
  unfolding first_of_each
  first_length [] earlier = omega arith
  first_length (z ∷ l) earlier = go (ok (key z) && not (any_of (λ y. same (key y) (key z)) earlier)) (first_length l (z ∷ earlier))
    where
      go : (t : Bool) → length (first_of_each key ok same (z ∷ earlier) l) ≤ length l
          → length (cond t (z ∷ first_of_each key ok same (z ∷ earlier) l) (first_of_each key ok same (z ∷ earlier) l)) ≤ suc (length l)
      go true h = omega arith
      go false h = omega arith
