-- Sorting.
--   place_perm, sorted_perm       a sorted list is the list in another order
--   place_mem, sorted_mem         so it has the same members
--   sorted_length                 and as many of them
--   sorted_ascends                each number is at most those after it
--   sorted_rising                 numbers below n, none of them twice, rise strictly when sorted
--   rising_once, rising_same      no number stands twice in a rising list, and two rising lists with the same members are one
--   sorted_own                    a rising list, in any order, is sorted to itself
--   Pointwise es fs               == of two lists of one length each number of the first is at most the one at its place in the second
--   sorted_pointwise              which sorting keeps
--   pointwise_before              and then the first stands before the second in a dictionary, or is the same
-- Assumes nothing.
use Rattle.std.specs.Prelude.{◌≡◌, refl, ◌⊎◌, ◌↔◌, Bool, true, false, cond, ℕ, suc, ◌<◌, ◌≤◌, length, ltb}
use Rattle.std.proofs.Common.{sym, ap₂, subst, inl, inr, ⊎_elim, arith, ltb-true, ltb-false}
use mathlib.Core.List.Memᴰ
use mathlib.Core.List.{List, [], ◌∷◌, ◌++◌, Memᴰ}
use mathlib.Core.List.Permᴰ
use mathlib.Core.List.{Permᴰ}
use Rattle.std.proofs.Math.Decide.{ℕ_discrete}
use Rattle.linear.specs.Order.{Before, Rising, Ordered}
use Rattle.linear.specs.Sorted.{place, placing, sorted}
use Rattle.linear.specs.laws.Span.{mem_cons}
use Rattle.linear.proofs.laws.Order.{rising_mem}
use Rattle.linear.proofs.laws.Permuted.{perm_mem, perm_length, Distinct, perm_once}

-- ---- the same numbers
pub place_perm : (x : ℕ) (l : List ℕ) → Permᴰ (place x l) (x ∷ l)
unfolding place
place_perm x [] = Permᴰ.refl (x ∷ [])
place_perm x (y ∷ l) = go (ltb x y) (place_perm x l) (place_perm y l)
  where
    go : (t : Bool) → Permᴰ (place x l) (x ∷ l) → Permᴰ (place y l) (y ∷ l) → Permᴰ (cond t (x ∷ place y l) (y ∷ place x l)) (x ∷ y ∷ l)
    go true p q = Permᴰ.cons refl q
    go false p q = Permᴰ.trans (Permᴰ.cons refl p) (Permᴰ.swap refl refl)

pub place_mem : (x : ℕ) (l : List ℕ) (z : ℕ) → Memᴰ z (place x l) ↔ Memᴰ z (x ∷ l)
place_mem x l z = (perm_mem (place_perm x l), perm_mem (Permᴰ.symm (place_perm x l)))

placing_perm : (acc l : List ℕ) → Permᴰ (placing acc l) (l ++ acc)
unfolding placing
placing_perm acc [] = Permᴰ.refl acc
placing_perm acc (x ∷ l) =
    Permᴰ.trans (placing_perm (place x acc) l) (Permᴰ.trans (Permᴰ.append_left l (place_perm x acc)) (Permᴰ.middle x l acc))

pub sorted_perm : (l : List ℕ) → Permᴰ (sorted l) l
sorted_perm l = Permᴰ.trans (placing_perm [] l) (Permᴰ.append-nil l)

pub sorted_mem : (l : List ℕ) (z : ℕ) → Memᴰ z (sorted l) ↔ Memᴰ z l
sorted_mem l z = (perm_mem (sorted_perm l), perm_mem (Permᴰ.symm (sorted_perm l)))

pub sorted_length : (l : List ℕ) → length (sorted l) ≡ length l
sorted_length l = perm_length (sorted_perm l)

-- ---- ascending
pub place_ascends : (x : ℕ) (l : List ℕ) → Ordered ◌≤◌ l → Ordered ◌≤◌ (place x l)
unfolding place
place_ascends x [] o = (λ y m. absurd (Memᴰ.not-nil m), tt)
place_ascends x (y ∷ l) o = go (ltb x y) refl (place_ascends x l o.1) (place_ascends y l o.1)
  where
    go : (t : Bool) → ltb x y ≡ t → Ordered ◌≤◌ (place x l) → Ordered ◌≤◌ (place y l) → Ordered ◌≤◌ (cond t (x ∷ place y l) (y ∷ place x l))
    go true e p q =
        let h : x < y = ltb-true x y e in
        (λ z m. mem_cons {P = λ w. x ≤ w} (omega arith) (λ w k. let j : y ≤ w = o.0 w k in omega arith) z ((place_mem y l z).0 m), q)
    go false e p q = (λ z m. mem_cons {P = λ w. y ≤ w} (ltb-false x y e) o.0 z ((place_mem x l z).0 m), p)

placing_ascends : (acc l : List ℕ) → Ordered ◌≤◌ acc → Ordered ◌≤◌ (placing acc l)
unfolding placing
placing_ascends acc [] o = o
placing_ascends acc (x ∷ l) o = placing_ascends (place x acc) l (place_ascends x acc o)

pub sorted_ascends : (l : List ℕ) → Ordered ◌≤◌ (sorted l)
sorted_ascends l = placing_ascends [] l tt

-- strictly, where no number stands twice
pub ascends_strictly : (l : List ℕ) → Ordered ◌≤◌ l → Distinct l → Ordered ◌<◌ l
ascends_strictly [] o d = tt
ascends_strictly (x ∷ l) o d = (λ y m. let a : x ≤ y = o.0 y m in omega (arith, a, d.0 y m), ascends_strictly l o.1 d.1)

rising_of : (lo hi : ℕ) (l : List ℕ) → Ordered ◌<◌ l → ((e : ℕ) → Memᴰ e l → (lo ≤ e) × (e < hi)) → Rising lo hi l
rising_of lo hi [] o h = tt
rising_of lo hi (x ∷ l) o h =
    let b = h x (Memᴰ.head refl) in
    (b.0, b.1, rising_of (suc x) hi l o.1 (λ e m. (o.0 e m, (h e (Memᴰ.tail m)).1)))

pub sorted_rising : (n : ℕ) (js : List ℕ) → Distinct js → ((j : ℕ) → Memᴰ j js → j < n) → Rising 0 n (sorted js)
sorted_rising n js d h =
    rising_of 0 n (sorted js) (ascends_strictly (sorted js) (sorted_ascends js) (perm_once (Permᴰ.symm (sorted_perm js)) d))
    (λ e m. (omega arith, h e ((sorted_mem js e).0 m)))

-- ---- rising lists by their members
pub rising_once : (lo hi : ℕ) (es : List ℕ) → Rising lo hi es → Distinct es
rising_once lo hi [] r = tt
rising_once lo hi (e ∷ es) r =
    (λ y m q. let a : suc e ≤ y = (rising_mem (suc e) hi es r.2 y m).0 in omega arith, rising_once (suc e) hi es r.2)

pub rising_same : (lo hi : ℕ) (es fs : List ℕ) → Rising lo hi es → Rising lo hi fs → ((x : ℕ) → Memᴰ x es ↔ Memᴰ x fs) → es ≡ fs
rising_same lo hi [] [] r s h = refl
rising_same lo hi [] (f ∷ fs) r s h = absurd (Memᴰ.not-nil ((h f).1 (Memᴰ.head refl)))
rising_same lo hi (e ∷ es) [] r s h = absurd (Memᴰ.not-nil ((h e).0 (Memᴰ.head refl)))
rising_same lo hi (e ∷ es) (f ∷ fs) r s h =
    ap₂ ◌∷◌ same (rising_same (suc e) hi es fs r.2 (subst (λ x. Rising (suc x) hi fs) (sym same) s.2) (λ z. (left z, right z)))
  where
    least : (x : ℕ) (l : List ℕ) → Rising (suc x) hi l → (z : ℕ) → Memᴰ z (x ∷ l) → x ≤ z
    least x l q = mem_cons {P = λ z. x ≤ z} (omega arith) (λ z m. let a : suc x ≤ z = (rising_mem (suc x) hi l q z m).0 in omega arith)

    same : e ≡ f
    same = omega (arith, least e es r.2 f ((h f).1 (Memᴰ.head refl)), least f fs s.2 e ((h e).0 (Memᴰ.head refl)))

    left : (z : ℕ) → Memᴰ z es → Memᴰ z fs
    left z k =
        ⊎_elim (λ (q : z ≡ f). absurd (let a : suc e ≤ z = (rising_mem (suc e) hi es r.2 z k).0 in omega (arith, same))) (λ n. n)
        (Memᴰ.cases_cons ((h z).0 (Memᴰ.tail k)))

    right : (z : ℕ) → Memᴰ z fs → Memᴰ z es
    right z k =
        ⊎_elim (λ (q : z ≡ e). absurd (let a : suc f ≤ z = (rising_mem (suc f) hi fs s.2 z k).0 in omega (arith, same))) (λ n. n)
        (Memᴰ.cases_cons ((h z).1 (Memᴰ.tail k)))

-- a rising list in any order is sorted to itself
pub sorted_own : (hi : ℕ) (js es : List ℕ) → Rising 0 hi es → Permᴰ js es → sorted js ≡ es
sorted_own hi js es r p =
    rising_same 0 hi (sorted js) es
    (sorted_rising hi js (perm_once (Permᴰ.symm p) (rising_once 0 hi es r)) (λ j m. (rising_mem 0 hi es r j (perm_mem p m)).1)) r
    (λ x. (λ m. perm_mem p ((sorted_mem js x).0 m), λ m. (sorted_mem js x).1 (perm_mem (Permᴰ.symm p) m)))

-- ---- place by place
abbrev pub Pointwise : List ℕ → List ℕ → Type 0
Pointwise [] [] = Unit {0}
Pointwise [] (f ∷ fs) = ⊥
Pointwise (e ∷ es) [] = ⊥
Pointwise (e ∷ es) (f ∷ fs) = (e ≤ f) × Pointwise es fs

-- the lesser of two is placed, the greater carried on
place_pointwise : (l m : List ℕ) (x y : ℕ) → x ≤ y → Pointwise l m → Pointwise (place x l) (place y m)
unfolding place
place_pointwise [] [] x y h p = (h, tt)
place_pointwise [] (b ∷ m) x y h p = absurd p
place_pointwise (a ∷ l) [] x y h p = absurd p
place_pointwise (a ∷ l) (b ∷ m) x y h p = go (ltb x a) refl (ltb y b) refl (λ v w q. place_pointwise l m v w q p.1)
  where
    k : a ≤ b
    k = p.0

    go : (s : Bool) → ltb x a ≡ s → (t : Bool) → ltb y b ≡ t → ((v w : ℕ) → v ≤ w → Pointwise (place v l) (place w m))
        → Pointwise (cond s (x ∷ place a l) (a ∷ place x l)) (cond t (y ∷ place b m) (b ∷ place y m))
    go true d true e ih = (h, ih a b k)
    go true d false e ih = let u = ltb-true x a d in let v = ltb-false y b e in (omega (arith, u, v, k), ih a y (omega (arith, u, v, k)))
    go false d true e ih = let u = ltb-false x a d in let v = ltb-true y b e in (omega (arith, u, v, h), ih x b (omega (arith, u, v, h)))
    go false d false e ih = (k, ih x y h)

placing_pointwise : (l m acc acc' : List ℕ) → Pointwise acc acc' → Pointwise l m → Pointwise (placing acc l) (placing acc' m)
unfolding placing
placing_pointwise [] [] acc acc' q p = q
placing_pointwise [] (b ∷ m) acc acc' q p = absurd p
placing_pointwise (a ∷ l) [] acc acc' q p = absurd p
placing_pointwise (a ∷ l) (b ∷ m) acc acc' q p = placing_pointwise l m (place a acc) (place b acc') (place_pointwise acc acc' a b p.0 q) p.1

pub sorted_pointwise : (l m : List ℕ) → Pointwise l m → Pointwise (sorted l) (sorted m)
sorted_pointwise l m p = placing_pointwise l m [] [] tt p

pub pointwise_before : (es fs : List ℕ) → Pointwise es fs → (es ≡ fs) ⊎ Before es fs
pointwise_before [] [] p = inl refl
pointwise_before [] (f ∷ fs) p = absurd p
pointwise_before (e ∷ es) [] p = absurd p
pointwise_before (e ∷ es) (f ∷ fs) p = go (ℕ_discrete e f) (pointwise_before es fs p.1)
  where
    go : Dec (e ≡ f) → (es ≡ fs) ⊎ Before es fs → (e ∷ es ≡ f ∷ fs) ⊎ Before (e ∷ es) (f ∷ fs)
    go (yes q) (inl r) = inl (ap₂ ◌∷◌ q r)
    go (yes q) (inr b) = inr (inr (q, b))
    go (no q) r = inr (inl (let a : e ≤ f = p.0 in omega arith))
