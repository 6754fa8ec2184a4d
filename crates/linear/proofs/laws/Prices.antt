-- Prices: what precedes what, the cheapest of some choices, and the generators by price.
--   total_perm, total_sorted             a choice costs the same in any order
--   earlier_is                           the test is the order of a dictionary, which is total: `before_total`, `before_trans`
--   Precedes es fs                       == es costs less than fs, or as much and stands before it in a dictionary
--   precedes_is, precedes_no, no_precedes   the test for it
--   precedes_self, precedes_trans, precedes_total   it is a strict order, and of two choices that are not the same one precedes the other
--   precedes_not                         what does not precede one that does not precede a third does not precede the third
--   Cheapest l es                        == es is one of l, and none of l precedes it
--   cheapest_unique                      there is one at most
--   cheapest_is, cheapest_only, cheapest_none   `cheapest` finds it wherever there is one, and finds none only of no choices
--   cheapest_joined, cheapest_parts      the cheapest of joined lists, and of many by the cheapest of each
--   cost j                               == what the generator j costs
--   Ahead i j, NoLater i j               == i costs less than j, or as much and is the lesser number (or they are the same)
--   by_price_mem, by_price_ordered, by_price_once, by_price_length   the generators by price: all numbers, each ahead of those after it, each once
-- Assumes nothing.
use Rattle.std.proofs.Math.Path.{◌≡◌, refl, sym, ap, subst}
use Rattle.std.proofs.Common.{ap₂, ◌∙◌, suc-mul, mul-le-mul_right, ltb-true, lt-ltb, eqb-true, eq-eqb}
use Rattle.std.specs.Prelude.{◌≢◌, ◌⊎◌, ◌↔◌, Bool, true, false, cond, ◌&&◌, ◌||◌, eqb, ltb, Option, None, Some}
use Rattle.std.proofs.Math.Logic.{inl, inr}
use Rattle.std.proofs.lemmas.Bool.{false≢true}
use mathlib.Core.List.{List, [], ◌∷◌, ◌++◌, map, cons≢nil}
use mathlib.Core.List.Memᴰ
use mathlib.Core.List.{Memᴰ}
use mathlib.Core.List.Permᴰ
use mathlib.Core.List.{Permᴰ}
use Prim.Native.Nat.{ℕ, zero, suc, ◌+◌, ◌*◌, ◌%◌, ◌<◌, ◌≤◌}
use native.Mathlib.Omega.{arith}
use Rattle.std.proofs.Math.Decide.{dec_lt}
use Rattle.std.proofs.Math.ListN.{length, get_or, length-map}
use Rattle.std.proofs.Math.Arith.{digits_mod}
use Rattle.linear.specs.Order.{Before, Ordered}
use Rattle.linear.specs.Sorted.{sorted}
use Rattle.linear.specs.Prices.{total, earlier, precedes, cheaper, cheapest_from, cheapest, price_keys, by_price}
use Rattle.linear.specs.Share.{gather}
use Rattle.linear.specs.laws.Span.{mem_cons}
use Rattle.linear.proofs.laws.Order.{mem_map, mem_map_inv}
use Rattle.linear.proofs.laws.Permuted.{Distinct, perm_once}
use Rattle.linear.proofs.laws.Sorted.{sorted_perm, sorted_mem, sorted_length, sorted_ascends, ascends_strictly}
use Rattle.linear.proofs.laws.Share.{gather_mem, gather_from}

-- ---- what a choice costs, in any order
pub total_perm : (prices : List ℕ) {l m : List ℕ} → Permᴰ l m → total prices l ≡ total prices m
unfolding total
total_perm prices Permᴰ.nil = refl
total_perm prices (Permᴰ.cons e d) = ap₂ (λ (x t : ℕ). get_or prices x 0 + t) e (total_perm prices d)
total_perm prices (Permᴰ.swap {a' = a} {b' = b} {l = l} e f) =
    let z : get_or prices b 0 + (get_or prices a 0 + total prices l) ≡ get_or prices a 0 + (get_or prices b 0 + total prices l) = omega arith in
    ap₂ (λ (x y : ℕ). get_or prices x 0 + (get_or prices y 0 + total prices l)) e f ∙ z
total_perm prices (Permᴰ.trans c d) = total_perm prices c ∙ total_perm prices d

pub total_sorted : (prices l : List ℕ) → total prices (sorted l) ≡ total prices l
total_sorted prices l = total_perm prices (sorted_perm l)

-- ---- the order
-- less, or equal and something more
less_or : (a b : ℕ) (t : Bool) → (ltb a b || (eqb a b && t) ≡ true) ↔ ((a < b) ⊎ ((a ≡ b) × (t ≡ true)))
less_or a b t = (λ e. from (ltb a b) refl (eqb a b) refl t refl e, to)
  where
    from : (x : Bool) → ltb a b ≡ x → (y : Bool) → eqb a b ≡ y → (z : Bool) → t ≡ z → x || (y && z) ≡ true → (a < b) ⊎ ((a ≡ b) × (t ≡ true))
    from true p y q z r e = inl (ltb-true a b p)
    from false p true q z r e = inr (eqb-true a b q, r ∙ e)
    from false p false q z r e = absurd (false≢true e)

    second : (x y : Bool) → y ≡ true → x || y ≡ true
    second true y e = refl
    second false y e = e

    to : (a < b) ⊎ ((a ≡ b) × (t ≡ true)) → ltb a b || (eqb a b && t) ≡ true
    to (inl h) = ap (λ x. x || (eqb a b && t)) (lt-ltb a b h)
    to (inr h) = second (ltb a b) (eqb a b && t) (ap₂ ◌&&◌ (eq-eqb a b h.0) h.1)

pub earlier_is : (es fs : List ℕ) → (earlier es fs ≡ true) ↔ Before es fs
unfolding earlier
earlier_is [] [] = (λ e. absurd (false≢true e), λ b. absurd b)
earlier_is [] (f ∷ fs) = (λ e. tt, λ b. refl)
earlier_is (e ∷ es) [] = (λ q. absurd (false≢true q), λ b. absurd b)
earlier_is (e ∷ es) (f ∷ fs) = (
  λ q. on ((less_or e f (earlier es fs)).0 q) (earlier_is es fs).0,
  λ b. (less_or e f (earlier es fs)).1 (back b (earlier_is es fs).1),
)
  where
    on : (e < f) ⊎ ((e ≡ f) × (earlier es fs ≡ true)) → (earlier es fs ≡ true → Before es fs) → (e < f) ⊎ ((e ≡ f) × Before es fs)
    on (inl h) k = inl h
    on (inr h) k = inr (h.0, k h.1)

    back : (e < f) ⊎ ((e ≡ f) × Before es fs) → (Before es fs → earlier es fs ≡ true) → (e < f) ⊎ ((e ≡ f) × (earlier es fs ≡ true))
    back (inl h) k = inl h
    back (inr h) k = inr (h.0, k h.1)

pub before_total : (es fs : List ℕ) → (es ≡ fs) ⊎ (Before es fs ⊎ Before fs es)
before_total [] [] = inl refl
before_total [] (f ∷ fs) = inr (inl tt)
before_total (e ∷ es) [] = inr (inr tt)
before_total (e ∷ es) (f ∷ fs) = go (dec_lt e f) (dec_lt f e) (before_total es fs)
  where
    go : Dec (e < f) → Dec (f < e) → (es ≡ fs) ⊎ (Before es fs ⊎ Before fs es)
        → (e ∷ es ≡ f ∷ fs) ⊎ (Before (e ∷ es) (f ∷ fs) ⊎ Before (f ∷ fs) (e ∷ es))
    go (yes h) k r = inr (inl (inl h))
    go (no h) (yes k) r = inr (inr (inl k))
    go (no h) (no k) (inl q) = let z : e ≡ f = omega arith in inl (ap₂ ◌∷◌ z q)
    go (no h) (no k) (inr (inl b)) = let z : e ≡ f = omega arith in inr (inl (inr (z, b)))
    go (no h) (no k) (inr (inr b)) = let z : f ≡ e = omega arith in inr (inr (inr (z, b)))

pub before_trans : (es fs gs : List ℕ) → Before es fs → Before fs gs → Before es gs
before_trans [] [] gs a b = absurd a
before_trans [] (f ∷ fs) [] a b = absurd b
before_trans [] (f ∷ fs) (g ∷ gs) a b = tt
before_trans (e ∷ es) [] gs a b = absurd a
before_trans (e ∷ es) (f ∷ fs) [] a b = absurd b
before_trans (e ∷ es) (f ∷ fs) (g ∷ gs) a b = go a b (before_trans es fs gs)
  where
    go : (e < f) ⊎ ((e ≡ f) × Before es fs) → (f < g) ⊎ ((f ≡ g) × Before fs gs) → (Before es fs → Before fs gs → Before es gs)
        → (e < g) ⊎ ((e ≡ g) × Before es gs)
    go (inl h) (inl k) t = inl (omega arith)
    go (inl h) (inr k) t = let z = k.0 in inl (omega arith)
    go (inr h) (inl k) t = let z = h.0 in inl (omega arith)
    go (inr h) (inr k) t = inr (h.0 ∙ k.0, t h.1 k.1)

before_self : (es : List ℕ) → ¬ Before es es
before_self [] b = b
before_self (e ∷ es) (inl h) = omega arith
before_self (e ∷ es) (inr h) = before_self es h.1

-- a test that is not false is true
not_no : (t : Bool) → (t ≡ true → ⊥) → t ≡ false
not_no true h = absurd (h refl)
not_no false h = refl

module _ (prices : List ℕ) where
  abbrev pub Precedes : List ℕ → List ℕ → Type 0
  Precedes es fs = (total prices es < total prices fs) ⊎ ((total prices es ≡ total prices fs) × Before es fs)

  pub precedes_is : (es fs : List ℕ) → (precedes prices es fs ≡ true) ↔ Precedes es fs
  unfolding precedes
  precedes_is es fs = (λ q. on ((less_or _ _ _).0 q), λ p. (less_or _ _ _).1 (back p))
    where
      on : (total prices es < total prices fs) ⊎ ((total prices es ≡ total prices fs) × (earlier es fs ≡ true)) → Precedes es fs
      on (inl h) = inl h
      on (inr h) = inr (h.0, (earlier_is es fs).0 h.1)

      back : Precedes es fs → (total prices es < total prices fs) ⊎ ((total prices es ≡ total prices fs) × (earlier es fs ≡ true))
      back (inl h) = inl h
      back (inr h) = inr (h.0, (earlier_is es fs).1 h.1)

  pub precedes_no : (es fs : List ℕ) → ¬ Precedes es fs → precedes prices es fs ≡ false
  precedes_no es fs h = not_no (precedes prices es fs) (λ e. h ((precedes_is es fs).0 e))

  pub no_precedes : (es fs : List ℕ) → precedes prices es fs ≡ false → ¬ Precedes es fs
  no_precedes es fs e p = false≢true (sym e ∙ (precedes_is es fs).1 p)

  pub precedes_self : (es : List ℕ) → ¬ Precedes es es
  precedes_self es (inl h) = omega arith
  precedes_self es (inr h) = before_self es h.1

  pub precedes_trans : (es fs gs : List ℕ) → Precedes es fs → Precedes fs gs → Precedes es gs
  precedes_trans es fs gs (inl h) (inl k) = inl (omega arith)
  precedes_trans es fs gs (inl h) (inr k) = let z = k.0 in inl (omega arith)
  precedes_trans es fs gs (inr h) (inl k) = let z = h.0 in inl (omega arith)
  precedes_trans es fs gs (inr h) (inr k) = inr (h.0 ∙ k.0, before_trans es fs gs h.1 k.1)

  pub precedes_total : (es fs : List ℕ) → (es ≡ fs) ⊎ (Precedes es fs ⊎ Precedes fs es)
  precedes_total es fs = go (dec_lt (total prices es) (total prices fs)) (dec_lt (total prices fs) (total prices es)) (before_total es fs)
    where
      go : Dec (total prices es < total prices fs) → Dec (total prices fs < total prices es) → (es ≡ fs) ⊎ (Before es fs ⊎ Before fs es)
          → (es ≡ fs) ⊎ (Precedes es fs ⊎ Precedes fs es)
      go (yes h) k r = inr (inl (inl h))
      go (no h) (yes k) r = inr (inr (inl k))
      go (no h) (no k) (inl q) = inl q
      go (no h) (no k) (inr (inl b)) = inr (inl (inr (omega arith, b)))
      go (no h) (no k) (inr (inr b)) = inr (inr (inr (omega arith, b)))

  -- what does not precede one that does not precede a third does not precede the third
  pub precedes_not : (es fs gs : List ℕ) → ¬ Precedes es fs → ¬ Precedes fs gs → ¬ Precedes es gs
  precedes_not es fs gs h k p = go (precedes_total fs gs)
    where
      go : (fs ≡ gs) ⊎ (Precedes fs gs ⊎ Precedes gs fs) → ⊥
      go (inl e) = h (subst (Precedes es) (sym e) p)
      go (inr (inl q)) = k q
      go (inr (inr q)) = h (precedes_trans es gs fs p q)

  -- ---- the cheapest
  pub record Cheapest (l : List (List ℕ)) (es : List ℕ) : Type 0 where
    pub member : Memᴰ es l
    pub first : (fs : List ℕ) → Memᴰ fs l → ¬ Precedes fs es

  pub cheapest_unique : (l : List (List ℕ)) (es fs : List ℕ) → Cheapest l es → Cheapest l fs → es ≡ fs
  cheapest_unique l es fs c d = go (precedes_total es fs)
    where
      go : (es ≡ fs) ⊎ (Precedes es fs ⊎ Precedes fs es) → es ≡ fs
      go (inl e) = e
      go (inr (inl p)) = absurd (d.first es c.member p)
      go (inr (inr p)) = absurd (c.first fs d.member p)

  -- from one that is held
  held_cheapest : (l : List (List ℕ)) (h : List ℕ) → (es : List ℕ) × (cheapest_from prices (Some h) l ≡ Some es) × Cheapest (h ∷ l) es
  unfolding cheapest_from cheaper
  held_cheapest [] h =
      (h, refl, record { member = Memᴰ.head refl; first = mem_cons {P = λ fs. ¬ Precedes fs h} (precedes_self h) (λ fs m. absurd (Memᴰ.not-nil m)) })
  held_cheapest (x ∷ l) h = go (precedes prices x h) refl (held_cheapest l x) (held_cheapest l h)
    where
      Found : List ℕ → List (List ℕ) → Type 0
      Found k m = (es : List ℕ) × (cheapest_from prices (Some k) l ≡ Some es) × Cheapest m es

      behind : (es : List ℕ) → Memᴰ es (x ∷ l) → Memᴰ es (h ∷ x ∷ l)
      behind es m = Memᴰ.tail m

      past : (es : List ℕ) → Memᴰ es (h ∷ l) → Memᴰ es (h ∷ x ∷ l)
      past = mem_cons {P = λ es. Memᴰ es (h ∷ x ∷ l)} (Memᴰ.head refl) (λ es m. Memᴰ.tail (Memᴰ.tail m))

      go : (t : Bool) → precedes prices x h ≡ t → Found x (x ∷ l) → Found h (h ∷ l) → Found (cond t x h) (h ∷ x ∷ l)
      go true e (es, q, c) g = (
        es,
        q,
        record {
          member = behind es c.member;
          first = mem_cons {P = λ fs. ¬ Precedes fs es}
              (λ p. c.first x (Memᴰ.head refl) (precedes_trans x h es ((precedes_is x h).0 e) p)) c.first;
        },
      )
      go false e f (es, q, c) = (
        es,
        q,
        record {
          member = past es c.member;
          first = mem_cons {P = λ fs. ¬ Precedes fs es} (c.first h (Memᴰ.head refl))
              (mem_cons {P = λ fs. ¬ Precedes fs es} (precedes_not x h es (no_precedes x h e) (c.first h (Memᴰ.head refl)))
              (λ fs m. c.first fs (Memᴰ.tail m)));
        },
      )

  pub cheapest_is : (l : List (List ℕ)) (es : List ℕ) → cheapest prices l ≡ Some es → Cheapest l es
  unfolding cheapest_from cheaper
  cheapest_is [] es e = absurd (let z : ◌≡◌ {A = ℕ} 0 1 = cc in omega arith)
  cheapest_is (x ∷ l) es e =
      let r = held_cheapest l x in
      let s : ◌≡◌ {A = Option (List ℕ)} (Some r.0) (Some es) = sym r.1 ∙ e in
      subst (Cheapest (x ∷ l)) (let z : r.0 ≡ es = cc in z) r.2

  pub cheapest_only : (l : List (List ℕ)) (es : List ℕ) → Cheapest l es → cheapest prices l ≡ Some es
  unfolding cheapest_from cheaper
  cheapest_only [] es c = absurd (Memᴰ.not-nil c.member)
  cheapest_only (x ∷ l) es c = let r = held_cheapest l x in r.1 ∙ ap Some (cheapest_unique (x ∷ l) r.0 es r.2 c)

  pub cheapest_none : (l : List (List ℕ)) → (cheapest prices l ≡ None) ↔ (l ≡ [])
  unfolding cheapest_from cheaper
  cheapest_none [] = (λ e. refl, λ e. refl)
  cheapest_none (x ∷ l) =
      let r = held_cheapest l x in
      let s = r.1 in
      (λ e. absurd (let z : ◌≡◌ {A = ℕ} 0 1 = cc in omega arith), λ e. absurd (cons≢nil e))

  -- of two lists joined: the cheapest of the first is held, and the second gone through
  pub cheapest_joined : (held : Option (List ℕ)) (l m : List (List ℕ)) → cheapest_from prices held (l ++ m) ≡ cheapest_from prices (cheapest_from prices held l) m
  unfolding cheapest_from
  cheapest_joined held [] m = refl
  cheapest_joined held (x ∷ l) m = cheapest_joined (cheaper prices held x) l m

  -- the cheapest of many lists joined is the cheapest of the cheapest of each
  pub cheapest_parts : {A : Type 0} (f : A → List (List ℕ)) (g : A → List ℕ) (l : List A) → ((a : A) → Memᴰ a l → Cheapest (f a) (g a))
      → cheapest prices (gather f l) ≡ cheapest prices (map g l)
  unfolding gather
  cheapest_parts f g [] h = refl
  cheapest_parts {A} f g (a ∷ l) h = cheapest_only (gather f (a ∷ l)) r.0 best ∙ sym r.1
    where
      r : (es : List ℕ) × (cheapest prices (map g (a ∷ l)) ≡ Some es) × Cheapest (map g (a ∷ l)) es
      r = unfold cheapest_from cheaper in held_cheapest (map g l) (g a)

      es : List ℕ
      es = r.0

      best : Cheapest (gather f (a ∷ l)) es
      best = unfold gather in
          record {
            member = mem_map_inv g (λ x. Memᴰ x (gather f (a ∷ l))) (a ∷ l) (λ b m. gather_mem f (g b) (a ∷ l) b m (h b m).member) es r.2.member;
            first = λ fs m. let w = gather_from f fs (a ∷ l) m in
                precedes_not fs (g w.0) es ((h w.0 w.1).first fs w.2) (r.2.first (g w.0) (mem_map g w.1));
          }

-- ---- the generators by price
module _ (prices : List ℕ) where
  abbrev pub cost : ℕ → ℕ
  cost j = get_or prices j 0

  abbrev pub Ahead : ℕ → ℕ → Type 0
  Ahead i j = (cost i < cost j) ⊎ ((cost i ≡ cost j) × (i < j))

  abbrev pub NoLater : ℕ → ℕ → Type 0
  NoLater i j = (cost i < cost j) ⊎ ((cost i ≡ cost j) × (i ≤ j))

-- keys compare as the pairs of a cost and a number do
keys_compare : (base c d i k : ℕ) → i < base → k < base → c * base + i < d * base + k → (c < d) ⊎ ((c ≡ d) × (i < k))
keys_compare base c d i k a b h = go (dec_lt c d) (dec_lt d c)
  where
    go : Dec (c < d) → Dec (d < c) → (c < d) ⊎ ((c ≡ d) × (i < k))
    go (yes l) r = inl l
    go (no l) (yes r) = absurd (omega (arith, h, b, suc-mul d base, mul-le-mul_right base (let z : suc d ≤ c = r in z)))
    go (no l) (no r) = let e : c ≡ d = omega arith in inr (e, omega (arith, h, ap (λ (x : ℕ). x * base) e))

module _ (base : ℕ) where
  -- what holds of the key of each holds of the keys, and these are there
  keys_each : (P : ℕ → Type 0) (cs : List ℕ) (j : ℕ) → ((i : ℕ) → i < length cs → P (get_or cs i 0 * base + (j + i)))
      → (x : ℕ) → Memᴰ x (price_keys base j cs) → P x
  unfolding price_keys
  keys_each P [] j h = λ x m. absurd (Memᴰ.not-nil m)
  keys_each P (c ∷ cs) j h =
      mem_cons {P = P} (subst (λ k. P (c * base + k)) (let z : j + 0 ≡ j = omega arith in z) (h 0 (omega arith)))
      (keys_each P cs (suc j) (λ i l. subst (λ k. P (get_or cs i 0 * base + k)) (let z : j + suc i ≡ suc j + i = omega arith in z) (h (suc i) (omega arith))))

  keys_mem : (cs : List ℕ) (j i : ℕ) → i < length cs → Memᴰ (get_or cs i 0 * base + (j + i)) (price_keys base j cs)
  unfolding price_keys
  keys_mem [] j i h = absurd (omega arith)
  keys_mem (c ∷ cs) j zero h = Memᴰ.head (let z : c * base + (j + 0) ≡ c * base + j = omega arith in z)
  keys_mem (c ∷ cs) j (suc i) h =
      let z : get_or cs i 0 * base + (j + suc i) ≡ get_or cs i 0 * base + (suc j + i) = omega arith in
      Memᴰ.tail (Memᴰ.cast z (keys_mem cs (suc j) i (omega arith)))

  keys_length : (cs : List ℕ) (j : ℕ) → length (price_keys base j cs) ≡ length cs
  unfolding price_keys
  keys_length [] j = refl
  keys_length (c ∷ cs) j = ap suc (keys_length cs (suc j))

  keys_once : (cs : List ℕ) (j : ℕ) → j + length cs ≤ base → Distinct (price_keys base j cs)
  unfolding price_keys
  keys_once [] j h = tt
  keys_once (c ∷ cs) j h = (keys_each (λ x. c * base + j ≢ x) cs (suc j) apart, keys_once cs (suc j) (omega arith))
    where
      apart : (i : ℕ) → i < length cs → c * base + j ≢ get_or cs i 0 * base + (suc j + i)
      apart i l e =
          let a : j < base = omega arith in
          let b : suc j + i < base = omega arith in
          let z : j ≡ suc j + i = sym (digits_mod c a) ∙ ap (λ (x : ℕ). x % base) e ∙ digits_mod (get_or cs i 0) b in
          omega arith

module _ (base : ℕ) (prices : List ℕ) (wide : length prices ≤ base) where
  -- a key is the cost and the number of a generator
  abbrev IsKey : ℕ → Type 0
  IsKey x = (x ≡ cost prices (x % base) * base + x % base) × (x % base < length prices)

  are_keys : (x : ℕ) → Memᴰ x (price_keys base 0 prices) → IsKey x
  are_keys = keys_each base IsKey prices 0 key
    where
      key : (i : ℕ) → i < length prices → IsKey (cost prices i * base + (0 + i))
      key i l =
          let z : 0 + i ≡ i = omega arith in
          let b : i < base = omega arith in
          let e : (cost prices i * base + (0 + i)) % base ≡ i = ap (λ (k : ℕ). (cost prices i * base + k) % base) z ∙ digits_mod (cost prices i) b in
          (ap (λ (k : ℕ). cost prices i * base + k) z ∙ sym (ap (λ (k : ℕ). cost prices k * base + k) e), omega (arith, e, l))

  -- its members are exactly the generators' numbers
  pub by_price_mem : (j : ℕ) → Memᴰ j (by_price base prices) ↔ (j < length prices)
  unfolding by_price
  by_price_mem j = (
    mem_map_inv (λ x. x % base) (λ i. i < length prices) (sorted (price_keys base 0 prices))
        (λ x m. (are_keys x ((sorted_mem (price_keys base 0 prices) x).0 m)).1) j,
    λ l. let b : 0 + j < base = omega arith in
        let z : 0 + j ≡ j = omega arith in
        Memᴰ.cast (sym (digits_mod (cost prices j) b ∙ z))
        (mem_map (λ x. x % base) ((sorted_mem (price_keys base 0 prices) (cost prices j * base + (0 + j))).1 (keys_mem base prices 0 j l))),
  )

  -- and each stands ahead of those after it
  keys_ahead : (l : List ℕ) → ((x : ℕ) → Memᴰ x l → IsKey x) → Ordered ◌<◌ l → Ordered (Ahead prices) (map (λ x. x % base) l)
  keys_ahead [] h o = tt
  keys_ahead (x ∷ l) h o = (
    mem_map_inv (λ y. y % base) (Ahead prices (x % base)) l (λ y m. ahead y (h y (Memᴰ.tail m)) (o.0 y m)),
    keys_ahead l (λ y m. h y (Memᴰ.tail m)) o.1,
  )
    where
      ahead : (y : ℕ) → IsKey y → x < y → Ahead prices (x % base) (y % base)
      ahead y k l =
          let a = h x (Memᴰ.head refl) in
          keys_compare base (cost prices (x % base)) (cost prices (y % base)) (x % base) (y % base) (omega (arith, a.1, wide)) (omega (arith, k.1, wide))
          (omega (arith, l, a.0, k.0))

  pub by_price_ordered : Ordered (Ahead prices) (by_price base prices)
  unfolding by_price
  by_price_ordered =
      let keys = price_keys base 0 prices in
      keys_ahead (sorted keys) (λ x m. are_keys x ((sorted_mem keys x).0 m))
      (ascends_strictly (sorted keys) (sorted_ascends keys) (perm_once (Permᴰ.symm (sorted_perm keys)) (keys_once base prices 0 (omega (arith, wide)))))

  pub by_price_length : length (by_price base prices) ≡ length prices
  unfolding by_price
  by_price_length = length-map (sorted (price_keys base 0 prices)) (λ x. x % base) ∙ sorted_length (price_keys base 0 prices) ∙ keys_length base prices 0

-- what stands in order stands once
ahead_once : (prices l : List ℕ) → Ordered (Ahead prices) l → Distinct l
ahead_once prices [] o = tt
ahead_once prices (x ∷ l) o = (λ y m e. apart y e (o.0 y m), ahead_once prices l o.1)
  where
    apart : (y : ℕ) → x ≡ y → Ahead prices x y → ⊥
    apart y e (inl h) = let z : cost prices x ≡ cost prices y = ap (cost prices) e in omega arith
    apart y e (inr h) = let k = h.1 in omega arith

pub by_price_once : (base : ℕ) (prices : List ℕ) → length prices ≤ base → Distinct (by_price base prices)
by_price_once base prices h = ahead_once prices (by_price base prices) (by_price_ordered base prices h)
