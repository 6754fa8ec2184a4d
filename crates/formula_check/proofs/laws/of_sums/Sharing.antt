-- What it means to count each mask of a side once.
--   sides_known, sides_new, sides_light, sides_end   a turn of a loop that walks down a side from its end: the adders from i on by those from i + 1 on
--   distinct_masks, distinct_once                    the distinct masks of a list are its masks, each once
--   once_most                                        masks that stand once each and all stand in a list need no more adders than it
--   side_pinned, side_masks, side_most, side_equal   the adders of a side
--   adders_most, adders_equal, adders_order          the adders of a formula
-- Assumes nothing.
use Rattle.std.specs.Prelude.{◌≡◌, refl, ◌≢◌, ◌↔◌, Bool, true, false, cond, ℕ, zero, suc, ◌+◌, ◌-◌, ◌<◌, ◌≤◌, length, get_or, drop, eqb}
use Rattle.std.proofs.Common.{sym, ap, ap₂, ◌∙◌, le_antisymm, arith, drop_of_length-le}
use mathlib.Core.Logic.Iff as iff
use Rattle.std.proofs.lemmas.Bool.{false≢true, eqb-false}
use mathlib.Core.List.Memᴰ
use mathlib.Core.List.{List, [], ◌∷◌, Memᴰ}
use mathlib.Core.List.Permᴰ
use mathlib.Core.List.{Permᴰ}
use Rattle.linear.specs.Select.{any_of, Once}
use Rattle.linear.specs.laws.Span.{mem_cons}
use Rattle.linear.proofs.laws.Select.{any_of_no, stands, stood}
use Rattle.linear.proofs.laws.Permuted.{perm_mem}
use Rattle.linear.proofs.laws.Order.{mem_index, mem_get_d}
use Rattle.words.specs.laws.Scan.{next}
use Rattle.forms.specs.Weight.{weight}
use Rattle.formula_check.specs.Formula.{adders, unshared_adders}
use Rattle.formula_check.specs.sums.Sums.{adders_of, distinct, side_adders}
use Rattle.formula_check.specs.sums.Sharing.{SameMasks, NoneTwice}

-- ---- one mask more
one_more : (x : ℕ) (l : List ℕ) {t : Bool} → any_of (eqb x) l ≡ t → distinct (x ∷ l) ≡ cond t (distinct l) (x ∷ distinct l)
unfolding distinct
one_more x l e = ap (λ (t : Bool). cond t (distinct l) (x ∷ distinct l)) e

-- ---- walking down a side
pub sides_known : (xs : List ℕ) (i : ℕ) → i < length xs → any_of (eqb (get_or xs i 0)) (drop (i + 1) xs) ≡ true
    → side_adders (drop i xs) ≡ side_adders (drop (i + 1) xs)
sides_known xs i h e = ap side_adders (next xs i h) ∙ ap adders_of (one_more (get_or xs i 0) (drop (i + 1) xs) e)

pub sides_new : (xs : List ℕ) (i : ℕ) → i < length xs → any_of (eqb (get_or xs i 0)) (drop (i + 1) xs) ≡ false
    → side_adders (drop i xs) ≡ (weight 64 (get_or xs i 0) - 1) + side_adders (drop (i + 1) xs)
unfolding adders_of
sides_new xs i h e = ap side_adders (next xs i h) ∙ ap adders_of (one_more (get_or xs i 0) (drop (i + 1) xs) e)

pub sides_light : (xs : List ℕ) (i : ℕ) → i < length xs → weight 64 (get_or xs i 0) ≤ 1 → side_adders (drop i xs) ≡ side_adders (drop (i + 1) xs)
sides_light xs i h w = go (any_of (eqb (get_or xs i 0)) (drop (i + 1) xs)) refl
  where
    go : (t : Bool) → any_of (eqb (get_or xs i 0)) (drop (i + 1) xs) ≡ t → side_adders (drop i xs) ≡ side_adders (drop (i + 1) xs)
    go true q = sides_known xs i h q
    go false q = let s = sides_new xs i h q in omega arith

pub sides_end : (xs : List ℕ) (i : ℕ) → length xs ≤ i → side_adders (drop i xs) ≡ 0
unfolding adders_of distinct
sides_end xs i h = ap side_adders (drop_of_length-le xs h)

-- ---- the distinct masks
distinct_from : (l : List ℕ) (x : ℕ) → Memᴰ x (distinct l) → Memᴰ x l
unfolding distinct
distinct_from [] = λ x m. m
distinct_from (y ∷ l) = go (any_of (eqb y) l) (distinct_from l)
  where
    go : (t : Bool) → ((x : ℕ) → Memᴰ x (distinct l) → Memᴰ x l) → (x : ℕ) → Memᴰ x (cond t (distinct l) (y ∷ distinct l)) → Memᴰ x (y ∷ l)
    go true ih = λ x m. Memᴰ.tail (ih x m)
    go false ih = mem_cons {P = λ x. Memᴰ x (y ∷ l)} (Memᴰ.head refl) (λ x m. Memᴰ.tail (ih x m))

distinct_has : (l : List ℕ) (x : ℕ) → Memᴰ x l → Memᴰ x (distinct l)
unfolding distinct
distinct_has [] = λ x m. m
distinct_has (y ∷ l) = go (any_of (eqb y) l) refl (distinct_has l)
  where
    go : (t : Bool) → any_of (eqb y) l ≡ t → ((x : ℕ) → Memᴰ x l → Memᴰ x (distinct l))
        → (x : ℕ) → Memᴰ x (y ∷ l) → Memᴰ x (cond t (distinct l) (y ∷ distinct l))
    go true q ih = mem_cons {P = λ x. Memᴰ x (distinct l)} (ih y (stood y l q)) ih
    go false q ih = mem_cons {P = λ x. Memᴰ x (y ∷ distinct l)} (Memᴰ.head refl) (λ x m. Memᴰ.tail (ih x m))

pub distinct_masks : (xs : List ℕ) → SameMasks (distinct xs) xs
distinct_masks xs x = (distinct_from xs x, distinct_has xs x)

pub distinct_once : (xs : List ℕ) → Once (λ x. x) (distinct xs)
unfolding distinct
distinct_once [] = tt
distinct_once (x ∷ xs) = go (any_of (eqb x) xs) refl (distinct_once xs)
  where
    go : (t : Bool) → any_of (eqb x) xs ≡ t → Once (λ x. x) (distinct xs) → Once (λ x. x) (cond t (distinct xs) (x ∷ distinct xs))
    go true q ih = ih
    go false q ih = (λ y m. eqb-false x y (any_of_no (eqb x) xs q y (distinct_from xs y m)), ih)

-- ---- masks that stand once each
-- a list without one of its masks, at one place: the adders of that mask less, and the other masks stay
taken : {x : ℕ} {l : List ℕ} → Memᴰ x l
    → (r : List ℕ) × (adders_of l ≡ (weight 64 x - 1) + adders_of r) × ((y : ℕ) → Memᴰ y l → y ≢ x → Memᴰ y r)
unfolding adders_of
taken {x = x} {l = []} m = elim m [ ]
taken {x = x} {l = z ∷ l} (Memᴰ.head e) =
    (l, ap (λ (k : ℕ). (weight 64 k - 1) + adders_of l) (sym e), mem_cons {P = λ y. y ≢ x → Memᴰ y l} (λ n. absurd (n (sym e))) (λ y m n. m))
taken {x = x} {l = z ∷ l} (Memᴰ.tail m) =
    let t = taken m in
    let a = t.1 in
    (z ∷ t.0, omega arith, mem_cons {P = λ y. y ≢ x → Memᴰ y (z ∷ t.0)} (λ n. Memᴰ.head refl) (λ y k n. Memᴰ.tail (t.2 y k n)))

pub once_most : (us vs : List ℕ) → Once (λ x. x) us → ((x : ℕ) → Memᴰ x us → Memᴰ x vs) → adders_of us ≤ adders_of vs
unfolding adders_of
once_most [] vs o h = omega arith
once_most (x ∷ us) vs o h =
    let t = taken (h x (Memᴰ.head refl)) in
    let a = t.1 in
    let ih = once_most us t.0 o.1 (λ y m. t.2 y (h y (Memᴰ.tail m)) (λ e. o.0 y m (sym e))) in
    omega arith

-- ---- the adders of a side
pub side_pinned : (xs us : List ℕ) → Once (λ x. x) us → SameMasks us xs → side_adders xs ≡ adders_of us
side_pinned xs us o s =
    le_antisymm (once_most (distinct xs) us (distinct_once xs) (λ x m. (s x).1 (distinct_from xs x m)))
    (once_most us (distinct xs) o (λ x m. distinct_has xs x ((s x).0 m)))

pub side_masks : (xs ys : List ℕ) → SameMasks xs ys → side_adders xs ≡ side_adders ys
side_masks xs ys s = side_pinned xs (distinct ys) (distinct_once ys) (λ x. iff.trans (distinct_masks ys x) (iff.symm (s x)))

pub side_most : (xs : List ℕ) → side_adders xs ≤ adders_of xs
side_most xs = once_most (distinct xs) xs (distinct_once xs) (distinct_from xs)

-- no mask with two or more ones stands twice in a list exactly if its first does not stand again and none stands twice in the rest ..
twice_cons : (x : ℕ) (xs : List ℕ) → (Memᴰ x xs → weight 64 x ≤ 1) → NoneTwice xs → NoneTwice (x ∷ xs)
twice_cons x xs f h zero zero a b e = absurd (omega arith)
twice_cons x xs f h zero (suc j) a b e = f (Memᴰ.cast e (mem_get_d xs j 0 (omega arith)))
twice_cons x xs f h (suc i) zero a b e = absurd (omega arith)
twice_cons x xs f h (suc i) (suc j) a b e = h i j (omega arith) (omega arith) e

twice_first : (x : ℕ) (xs : List ℕ) → NoneTwice (x ∷ xs) → Memᴰ x xs → weight 64 x ≤ 1
twice_first x xs h m = let r = mem_index 0 m in let l : r.0 < length xs = r.1 in h 0 (suc r.0) (omega arith) (omega arith) r.2

twice_rest : (x : ℕ) (xs : List ℕ) → NoneTwice (x ∷ xs) → NoneTwice xs
twice_rest x xs h i j a b e = h (suc i) (suc j) (omega arith) (omega arith) e

-- .. and just then nothing is saved at the first, and nothing in the rest
equal_uncons : (x : ℕ) (xs : List ℕ) → side_adders (x ∷ xs) ≡ adders_of (x ∷ xs) → (Memᴰ x xs → weight 64 x ≤ 1) × (side_adders xs ≡ adders_of xs)
unfolding adders_of
equal_uncons x xs e = go (any_of (eqb x) xs) refl
  where
    go : (t : Bool) → any_of (eqb x) xs ≡ t → (Memᴰ x xs → weight 64 x ≤ 1) × (side_adders xs ≡ adders_of xs)
    go true q = let k = ap adders_of (one_more x xs q) in let s = side_most xs in (λ m. omega arith, omega arith)
    go false q = let k = ap adders_of (one_more x xs q) in (λ m. absurd (false≢true (sym q ∙ stands x xs m)), omega arith)

equal_cons : (x : ℕ) (xs : List ℕ) → (Memᴰ x xs → weight 64 x ≤ 1) → side_adders xs ≡ adders_of xs → side_adders (x ∷ xs) ≡ adders_of (x ∷ xs)
unfolding adders_of
equal_cons x xs f e = go (any_of (eqb x) xs) refl
  where
    go : (t : Bool) → any_of (eqb x) xs ≡ t → side_adders (x ∷ xs) ≡ adders_of (x ∷ xs)
    go true q = let k = ap adders_of (one_more x xs q) in let w = f (stood x xs q) in omega arith
    go false q = let k = ap adders_of (one_more x xs q) in omega arith

pub side_equal : (xs : List ℕ) → (side_adders xs ≡ adders_of xs) ↔ NoneTwice xs
unfolding adders_of distinct
side_equal [] = (λ e i j a b. absurd (omega arith), λ h. refl)
side_equal (x ∷ xs) =
    let ih = side_equal xs in
    (λ e. let u = equal_uncons x xs e in twice_cons x xs u.0 (ih.0 u.1), λ h. equal_cons x xs (twice_first x xs h) (ih.1 (twice_rest x xs h)))

-- ---- the adders of a formula
pub adders_most : (xs ys rows : List ℕ) → adders xs ys rows ≤ unshared_adders xs ys rows
adders_most xs ys rows = let a = side_most xs in let b = side_most ys in omega arith

pub adders_equal : (xs ys rows : List ℕ) → (adders xs ys rows ≡ unshared_adders xs ys rows) ↔ (NoneTwice xs × NoneTwice ys)
adders_equal xs ys rows =
    let a = side_most xs in
    let b = side_most ys in (
      λ e. ((side_equal xs).0 (omega arith), (side_equal ys).0 (omega arith)),
      λ h. let p = (side_equal xs).1 h.0 in let q = (side_equal ys).1 h.1 in omega arith,
    )

-- a list in another order has the same masks
perm_masks : {xs ys : List ℕ} → Permᴰ xs ys → SameMasks xs ys
perm_masks d x = (perm_mem d, perm_mem (Permᴰ.symm d))

pub adders_order : (xs ys rows xs' ys' : List ℕ) → Permᴰ xs xs' → Permᴰ ys ys' → adders xs ys rows ≡ adders xs' ys' rows
adders_order xs ys rows xs' ys' c d =
    ap₂ (λ (s t : ℕ). s + t + adders_of rows) (side_masks xs xs' (perm_masks c)) (side_masks ys ys' (perm_masks d))
