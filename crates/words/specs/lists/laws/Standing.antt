-- What a turn of the loop does, over plain lists, and forms that stand in a list.
--   repeats_turn, repeats_end   looking for one that stands again
--   stands_at, stands_where     a form stands in a list from some place on: a place of it is known, or is had
--   repeats_perm                whatever the order, some form stands again or none does
-- Assumes nothing.
use Rattle.std.specs.Prelude.{◌≡◌, refl, Bool, true, false, ◌||◌, ℕ, ◌+◌, ◌-◌, ◌<◌, ◌≤◌, length, get_or, drop, eqb}
use Rattle.std.proofs.Common.{sym, ap, ap₂, ◌∙◌, arith, length-drop, get_or-drop, eq-eqb, ne_eqb}
use mathlib.Core.List.Memᴰ
use mathlib.Core.List.{List, Permᴰ}
use Rattle.std.proofs.Math.Decide.{ℕ_discrete}
use Rattle.linear.specs.Select.{any_of}
use Rattle.linear.proofs.laws.Select.{stands, stood}
use Rattle.linear.proofs.laws.Permuted.{any_of_perm}
use Rattle.linear.proofs.laws.Order.{mem_index, mem_get_d}
use Rattle.words.specs.laws.Scan.{turn, done}
use Rattle.words.specs.lists.Lists.{repeats}

pub repeats_turn : (xs : List ℕ) (i : ℕ) → i < length xs → {s S : Bool} → repeats (drop i xs) ≡ S → any_of (eqb (get_or xs i 0)) (drop (i + 1) xs) ≡ s
    → s || repeats (drop (i + 1) xs) ≡ S
unfolding repeats
repeats_turn xs i h = turn repeats xs i h refl

pub repeats_end : (xs : List ℕ) (i : ℕ) → length xs ≤ i → {S : Bool} → repeats (drop i xs) ≡ S → false ≡ S
unfolding repeats
repeats_end xs i h = done repeats xs i h refl

-- ---- a form in a list: the test, and the number of a place
pub stands_at : (x : ℕ) (xs : List ℕ) (from j : ℕ) → from ≤ j → j < length xs → get_or xs j 0 ≡ x → any_of (eqb x) (drop from xs) ≡ true
stands_at x xs from j a b e =
    let l = length-drop from xs in
    let s : from + (j - from) ≡ j = omega arith in
    let here : get_or (drop from xs) (j - from) 0 ≡ x = get_or-drop from xs (j - from) 0 ∙ ap (λ (k : ℕ). get_or xs k 0) s ∙ e in
    stands x (drop from xs) (Memᴰ.cast (sym here) (mem_get_d (drop from xs) (j - from) 0 (omega arith)))

pub stands_where : (x : ℕ) (xs : List ℕ) (from : ℕ) → any_of (eqb x) (drop from xs) ≡ true → (j : ℕ) × (from ≤ j) × (j < length xs) × (get_or xs j 0 ≡ x)
stands_where x xs from e =
    let l = length-drop from xs in
    let r = mem_index 0 (stood x (drop from xs) e) in
    let h : r.0 < length (drop from xs) = r.1 in
    (from + r.0, omega arith, omega arith, sym (get_or-drop from xs r.0 0) ∙ sym r.2)

-- ---- in another order
eqb_swapped : (a b : ℕ) → eqb a b ≡ eqb b a
eqb_swapped a b = go (ℕ_discrete a b)
  where
    go : Dec (a ≡ b) → eqb a b ≡ eqb b a
    go (yes e) = eq-eqb a b e ∙ sym (eq-eqb b a (sym e))
    go (no n) = ne_eqb a b n ∙ sym (ne_eqb b a (λ e. n (sym e)))

crossed : (e x y r : Bool) → (e || x) || (y || r) ≡ (e || y) || (x || r)
crossed true x y r = refl
crossed false true true r = refl
crossed false true false r = refl
crossed false false y r = refl

pub repeats_perm : {l m : List ℕ} → Permᴰ l m → repeats l ≡ repeats m
unfolding repeats any_of
repeats_perm Permᴰ.nil = refl
repeats_perm (Permᴰ.cons {b = b} {l₁ = l} e d) = ap₂ ◌||◌ (ap (λ (x : ℕ). any_of (eqb x) l) e ∙ any_of_perm (eqb b) d) (repeats_perm d)
repeats_perm (Permᴰ.swap {a' = a} {b' = b} {l = l} e f) =
    ap₂ (λ (x y : ℕ). (eqb x y || any_of (eqb x) l) || (any_of (eqb y) l || repeats l)) e f
    ∙ ap (λ (t : Bool). (t || any_of (eqb b) l) || (any_of (eqb a) l || repeats l)) (eqb_swapped b a)
    ∙ crossed (eqb a b) (any_of (eqb b) l) (any_of (eqb a) l) (repeats l)
repeats_perm (Permᴰ.trans c d) = repeats_perm c ∙ repeats_perm d
