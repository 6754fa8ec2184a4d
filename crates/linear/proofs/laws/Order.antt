-- The rising lists of m numbers: each that `rising_lists` has is one, each one is there, and they stand in dictionary order.
-- Assumes nothing.
use Rattle.std.specs.Prelude.{◌≡◌, refl, ◌⊎◌, ◌↔◌, ℕ, zero, suc, ◌+◌, ◌<◌, ◌≤◌, length, get_or}
use Rattle.std.proofs.Common.{sym, ap, ap₂, ◌∙◌, subst, inl, inr, ⊎_elim, arith}
use mathlib.Core.List.Memᴰ
use mathlib.Core.List.{List, [], ◌∷◌, ◌++◌, map, Memᴰ}
use Rattle.std.proofs.Math.Nat.{suc_inj}
use Rattle.std.proofs.Math.Decide.{ℕ_discrete}
use Rattle.linear.specs.Order.{Before, Rising, rising_lists, Ordered}
use Rattle.linear.specs.laws.Span.{mem_cons}

pub before_asym : (es fs : List ℕ) → Before es fs → Before fs es → ⊥
before_asym [] [] h k = h
before_asym [] (f ∷ fs) h k = k
before_asym (e ∷ es) [] h k = h
before_asym (e ∷ es) (f ∷ fs) h k = go h k (before_asym es fs)
  where
    go : (e < f) ⊎ ((e ≡ f) × Before es fs) → (f < e) ⊎ ((f ≡ e) × Before fs es) → (Before es fs → Before fs es → ⊥) → ⊥
    go (inl a) (inl b) ih = omega arith
    go (inl a) (inr b) ih = omega arith
    go (inr a) (inl b) ih = omega arith
    go (inr a) (inr b) ih = ih a.1 b.1

-- two lists in dictionary order with the same members are one
pub ordered_same : (l m : List (List ℕ)) → Ordered Before l → Ordered Before m → ((x : List ℕ) → Memᴰ x l ↔ Memᴰ x m) → l ≡ m
ordered_same [] [] o p h = refl
ordered_same [] (y ∷ m) o p h = absurd (Memᴰ.not-nil ((h y).1 (Memᴰ.head refl)))
ordered_same (x ∷ l) [] o p h = absurd (Memᴰ.not-nil ((h x).0 (Memᴰ.head refl)))
ordered_same (x ∷ l) (y ∷ m) o p h = ap₂ ◌∷◌ same (ordered_same l m o.1 p.1 (λ z. (left z, right z)))
  where
    meet : (x ≡ y) ⊎ Memᴰ x m → (y ≡ x) ⊎ Memᴰ y l → x ≡ y
    meet (inl e) b = e
    meet (inr a) (inl e) = sym e
    meet (inr a) (inr b) = absurd (before_asym x y (o.0 y b) (p.0 x a))

    same : x ≡ y
    same = meet (Memᴰ.cases_cons ((h x).0 (Memᴰ.head refl))) (Memᴰ.cases_cons ((h y).1 (Memᴰ.head refl)))

    -- the first of a list is not among the others
    left : (z : List ℕ) → Memᴰ z l → Memᴰ z m
    left z k = ⊎_elim (λ (e : z ≡ y). absurd (let b = subst (Before x) (e ∙ sym same) (o.0 z k) in before_asym x x b b)) (λ n. n)
        (Memᴰ.cases_cons ((h z).0 (Memᴰ.tail k)))

    right : (z : List ℕ) → Memᴰ z m → Memᴰ z l
    right z k = ⊎_elim (λ (e : z ≡ x). absurd (let b = subst (Before y) (e ∙ same) (p.0 z k) in before_asym y y b b)) (λ n. n)
        (Memᴰ.cases_cons ((h z).1 (Memᴰ.tail k)))

pub rising_from : (lo lo' hi : ℕ) (es : List ℕ) → lo ≤ lo' → Rising lo' hi es → Rising lo hi es
rising_from lo lo' hi [] h r = tt
rising_from lo lo' hi (e ∷ es) h r = (let k : lo' ≤ e = r.0 in omega arith, r.1, r.2)

-- the numbers of a rising list are within its bounds
pub rising_mem : (lo hi : ℕ) (es : List ℕ) → Rising lo hi es → (e : ℕ) → Memᴰ e es → (lo ≤ e) × (e < hi)
rising_mem lo hi [] r = λ e m. absurd (Memᴰ.not-nil m)
rising_mem lo hi (f ∷ es) r =
    mem_cons {P = λ e. (lo ≤ e) × (e < hi)} (r.0, r.1)
    (λ e m. let a : lo ≤ f = r.0 in let b = rising_mem (suc f) hi es r.2 e m in (let c = b.0 in omega arith, b.1))

pub mem_map : {A B : Type 0} (f : A → B) {a : A} {l : List A} → Memᴰ a l → Memᴰ (f a) (map f l)
mem_map f (Memᴰ.head e) = Memᴰ.head (ap f e)
mem_map f (Memᴰ.tail m) = Memᴰ.tail (mem_map f m)

pub mem_map_inv : {A B : Type 0} (f : A → B) (P : B → Type 0) (l : List A) → ((a : A) → Memᴰ a l → P (f a)) → (b : B) → Memᴰ b (map f l) → P b
mem_map_inv f P [] h b m = absurd (Memᴰ.not-nil m)
mem_map_inv f P (x ∷ xs) h b m = mem_cons {P = P} (h x (Memᴰ.head refl)) (mem_map_inv f P xs (λ a k. h a (Memᴰ.tail k))) b m

pub mem_append : {A : Type 0} (P : A → Type 0) (xs : List A) {ys : List A} → ((a : A) → Memᴰ a xs → P a) → ((a : A) → Memᴰ a ys → P a)
    → (a : A) → Memᴰ a (xs ++ ys) → P a
mem_append P [] h k = k
mem_append P (x ∷ xs) h k = mem_cons {P = P} (h x (Memᴰ.head refl)) (mem_append P xs (λ a m. h a (Memᴰ.tail m)) k)

abbrev pub RisingList : ℕ → ℕ → ℕ → List ℕ → Type 0
RisingList m lo hi es = (length es ≡ m) × Rising lo hi es

pub rising_sound : (n i m hi : ℕ) → i + n ≡ hi → (es : List ℕ) → Memᴰ es (rising_lists n i m) → RisingList m i hi es
unfolding rising_lists
rising_sound n i zero hi q = mem_cons {P = RisingList zero i hi} (refl, tt) (λ x m. absurd (Memᴰ.not-nil m))
rising_sound zero i (suc m) hi q = λ es k. absurd (Memᴰ.not-nil k)
rising_sound (suc n) i (suc m) hi q =
    let ih₁ : (es : List ℕ) → Memᴰ es (rising_lists n (suc i) m) → RisingList m (suc i) hi es = rising_sound n (suc i) m hi (omega arith) in
    let ih₂ : (es : List ℕ) → Memᴰ es (rising_lists n (suc i) (suc m)) → RisingList (suc m) (suc i) hi es = rising_sound n (suc i) (suc m) hi
    (omega arith) in
    mem_append (RisingList (suc m) i hi) (map (λ es. i ∷ es) (rising_lists n (suc i) m))
    (mem_map_inv (λ es. i ∷ es) (RisingList (suc m) i hi) (rising_lists n (suc i) m)
    (λ es k. let r : RisingList m (suc i) hi es = ih₁ es k in (ap suc r.0, (omega arith, omega arith, r.1))))
    (λ es k. let r : RisingList (suc m) (suc i) hi es = ih₂ es k in (r.0, rising_from i (suc i) hi es (omega arith) r.1))

pub rising_complete : (n i m hi : ℕ) → i + n ≡ hi → (es : List ℕ) → length es ≡ m → Rising i hi es → Memᴰ es (rising_lists n i m)
unfolding rising_lists
rising_complete n i zero hi q [] l r = Memᴰ.head refl
rising_complete n i zero hi q (e ∷ es) l r = absurd (omega arith)
rising_complete zero i (suc m) hi q [] l r = absurd (omega arith)
rising_complete zero i (suc m) hi q (e ∷ es) l r = absurd (omega arith)
rising_complete (suc n) i (suc m) hi q [] l r = absurd (omega arith)
rising_complete (suc n) i (suc m) hi q (e ∷ es) l r =
    go (ℕ_discrete e i) (rising_complete n (suc i) m hi (omega arith) es (suc_inj l)) (rising_complete n (suc i) (suc m) hi (omega arith) (e ∷ es) l)
  where
    go : Dec (e ≡ i) → (Rising (suc i) hi es → Memᴰ es (rising_lists n (suc i) m))
        → (Rising (suc i) hi (e ∷ es) → Memᴰ (e ∷ es) (rising_lists n (suc i) (suc m)))
        → Memᴰ (e ∷ es) (map (λ es. i ∷ es) (rising_lists n (suc i) m) ++ rising_lists n (suc i) (suc m))
    go (yes p) f g =
        Memᴰ.append_left (rising_lists n (suc i) (suc m))
        (subst (λ x. Memᴰ (x ∷ es) (map (λ es. i ∷ es) (rising_lists n (suc i) m))) (sym p)
        (mem_map (λ es. i ∷ es) (f (subst (λ x. Rising (suc x) hi es) p r.2))))
    go (no p) f g = Memᴰ.append_right (map (λ es. i ∷ es) (rising_lists n (suc i) m)) (g (let k : i ≤ e = r.0 in omega arith, r.1, r.2))

-- ---- members by number
pub mem_index : {A : Type 0} (d : A) {x : A} {l : List A} → Memᴰ x l → (j : ℕ) × (j < length l) × (x ≡ get_or l j d)
mem_index d (Memᴰ.head e) = (zero, omega arith, e)
mem_index d (Memᴰ.tail m) = let r = mem_index d m in (suc r.0, (let h = r.1 in omega arith), r.2)

pub mem_get_d : {A : Type 0} (l : List A) (j : ℕ) (d : A) → j < length l → Memᴰ (get_or l j d) l
mem_get_d [] j d h = absurd (omega arith)
mem_get_d (x ∷ l) zero d h = Memᴰ.head refl
mem_get_d (x ∷ l) (suc j) d h = Memᴰ.tail (mem_get_d l j d (omega arith))

-- ---- lists in order
module _ {A : Type 0} (◌≺◌ : A → A → Type 0) where
  pub ordered_append : (xs ys : List A) → Ordered ◌≺◌ xs → Ordered ◌≺◌ ys → ((x : A) → Memᴰ x xs → (y : A) → Memᴰ y ys → ◌≺◌ x y)
      → Ordered ◌≺◌ (xs ++ ys)
  ordered_append [] ys h k r = k
  ordered_append (x ∷ xs) ys h k r =
      (mem_append (◌≺◌ x) xs h.0 (r x (Memᴰ.head refl)), ordered_append xs ys h.1 k (λ x m. r x (Memᴰ.tail m)))

pub ordered_map : (i : ℕ) (l : List (List ℕ)) → Ordered Before l → Ordered Before (map (λ es. i ∷ es) l)
ordered_map i [] h = tt
ordered_map i (x ∷ l) h = (mem_map_inv (λ es. i ∷ es) (Before (i ∷ x)) l (λ a m. inr (refl, h.0 a m)), ordered_map i l h.1)

pub rising_ordered : (n i m : ℕ) → Ordered Before (rising_lists n i m)
unfolding rising_lists
rising_ordered n i zero = (λ y k. absurd (Memᴰ.not-nil k), tt)
rising_ordered zero i (suc m) = tt
rising_ordered (suc n) i (suc m) =
    ordered_append Before (map (λ es. i ∷ es) (rising_lists n (suc i) m)) (rising_lists n (suc i) (suc m))
    (ordered_map i (rising_lists n (suc i) m) (rising_ordered n (suc i) m)) (rising_ordered n (suc i) (suc m))
    (mem_map_inv (λ es. i ∷ es) (λ x. (y : List ℕ) → Memᴰ y (rising_lists n (suc i) (suc m)) → Before x y) (rising_lists n (suc i) m)
    (λ es k y j. first es y (rising_sound n (suc i) (suc m) (suc i + n) refl y j)))
  where
    first : (es y : List ℕ) → RisingList (suc m) (suc i) (suc i + n) y → Before (i ∷ es) y
    first es [] c = absurd (omega (arith, c.0))
    first es (f ∷ fs) c = inl c.1.0
