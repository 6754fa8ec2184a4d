-- What a known number is.
--   known_zero, known_found, known_none   by what stands in the residues
--   known_any                              of a residue that is not 0: whether an earlier one is equal
--   is_zero_of                             a number that is not 0
--   known_ne                              the residue of a number that is not known is not 0
--   known_yes, known_no                   at a space with these residues: a known number brings in nothing, or what an earlier one does; any other is next
-- Assumes nothing.
use Rattle.std.specs.Prelude.{◌≡◌, refl, ◌≢◌, ◌⊎◌, Bool, true, false, ◌||◌, ℕ, zero, suc, ◌<◌, length, get_or, take, eqb}
use Rattle.std.specs.List.{list_any}
use Rattle.std.proofs.Common.{sym, ap, ap₂, ◌∙◌, inl, inr, ⊎_elim, true≢false, arith, length-take, get_or-take, eq-eqb, ne_eqb, eqb-true}
use mathlib.Core.List.{List, [], ◌∷◌, Memᴰ}
use Rattle.std.proofs.Math.Decide.{dec_lt}
use Rattle.std.proofs.Math.ListN.{get_or-eq_default}
use Rattle.linear.specs.Span.{Span}
use Rattle.linear.specs.Basis.{reduce, insert, Reduced}
use Rattle.linear.specs.Select.{any_of}
use Rattle.linear.specs.Entry.{generator}
use Rattle.linear.specs.Walk.{Next}
use Rattle.linear.specs.Word.{word, scale_w, is_zero}
use Rattle.linear.proofs.laws.Reduce.{member}
use Rattle.linear.proofs.laws.Insert.{insert_reduced}
use Rattle.linear.proofs.laws.Select.{no_any_of, any_of_here, any_of_yes}
use Rattle.linear.proofs.laws.Order.{mem_index, mem_get_d}
use Rattle.residues.specs.children.Residues.{residues, known}
use Rattle.residues.proofs.laws.of_children.Child.{residue_at, reduce_child, clear_zero, zero_yes}

pub is_zero_of : (x : ℕ) → x ≢ 0 → is_zero x ≡ false
is_zero_of zero n = absurd (n refl)
is_zero_of (suc x) n = refl

-- a test of two numbers does not depend on their order
equal_sides : (a b : ℕ) → eqb a b ≡ eqb b a
equal_sides a b = go (eqb a b) refl
  where
    go : (t : Bool) → eqb a b ≡ t → t ≡ eqb b a
    go true q = sym (eq-eqb b a (sym (eqb-true a b q)))
    go false q = sym (ne_eqb b a (λ e. true≢false (sym (eq-eqb a b (sym e)) ∙ q)))

pub known_zero : (h : List ℕ) (j : ℕ) → get_or h j 0 ≡ 0 → true ≡ known h j
unfolding known
known_zero h j e = sym (ap (λ (x : ℕ). is_zero x || any_of (eqb (get_or h j 0)) (take j h)) e)

pub known_found : (h : List ℕ) (j i : ℕ) → get_or h j 0 ≢ 0 → i < j → j < length h → get_or h i 0 ≡ get_or h j 0 → true ≡ known h j
unfolding known
known_found h j i n l k e =
    let z : i < length (take j h) = omega (arith, length-take j h) in
    sym
    (ap (λ (t : Bool). t || any_of (eqb (get_or h j 0)) (take j h)) (is_zero_of (get_or h j 0) n)
    ∙ any_of_here (eqb (get_or h j 0)) (take j h) (get_or (take j h) i 0) (mem_get_d (take j h) i 0 z) (eq-eqb (get_or h j 0) (get_or (take j h) i 0) (sym
    (get_or-take j h i 0 l ∙ e))))

pub known_none : (h : List ℕ) (j : ℕ) → get_or h j 0 ≢ 0 → ((i : ℕ) → i < j → get_or h i 0 ≢ get_or h j 0) → false ≡ known h j
unfolding known
known_none h j n f =
    sym
    (ap (λ (t : Bool). t || any_of (eqb (get_or h j 0)) (take j h)) (is_zero_of (get_or h j 0) n)
    ∙ no_any_of (eqb (get_or h j 0)) (take j h) each)
  where
    each : (x : ℕ) → Memᴰ x (take j h) → eqb (get_or h j 0) x ≡ false
    each x m =
        let r = mem_index 0 m in
        let l : r.0 < length (take j h) = r.1 in
        let k : r.0 < j = omega (arith, l, length-take j h) in
        ne_eqb (get_or h j 0) x (λ e. f r.0 k (sym (get_or-take j h r.0 0 k) ∙ sym r.2 ∙ sym e))

-- `any_of` and std's word for the same test, with its sides changed
any_equal : (v : ℕ) (l : List ℕ) → list_any (λ y. eqb y v) l ≡ any_of (eqb v) l
unfolding any_of
any_equal v [] = refl
any_equal v (y ∷ l) = ap₂ ◌||◌ (equal_sides y v) (any_equal v l)

pub known_any : (h : List ℕ) (j : ℕ) → get_or h j 0 ≢ 0 → list_any (λ y. eqb y (get_or h j 0)) (take j h) ≡ known h j
unfolding known
known_any h j n =
    any_equal (get_or h j 0) (take j h)
    ∙ sym (ap (λ (t : Bool). t || any_of (eqb (get_or h j 0)) (take j h)) (is_zero_of (get_or h j 0) n))

-- the residue of a number that is not known
pub known_ne : (h : List ℕ) (j : ℕ) → false ≡ known h j → get_or h j 0 ≢ 0
unfolding known
known_ne h j e z = true≢false (sym (ap (λ (x : ℕ). is_zero x || any_of (eqb (get_or h j 0)) (take j h)) z) ∙ sym e)

-- the residue of one that is known
known_by : (h : List ℕ) (i : ℕ) → known h i ≡ true → (get_or h i 0 ≡ 0) ⊎ ((j : ℕ) × (j < i) × (get_or h i 0 ≡ get_or h j 0))
unfolding known
known_by h i = go (is_zero (get_or h i 0)) refl
  where
    go : (t : Bool) → is_zero (get_or h i 0) ≡ t → t || any_of (eqb (get_or h i 0)) (take i h) ≡ true
        → (get_or h i 0 ≡ 0) ⊎ ((j : ℕ) × (j < i) × (get_or h i 0 ≡ get_or h j 0))
    go true q e = inl (zero_yes (get_or h i 0) q)
    go false q e =
        let r = any_of_yes (eqb (get_or h i 0)) (take i h) e in
        let s = mem_index 0 r.1 in
        let l : s.0 < length (take i h) = s.1 in
        let k : s.0 < i = omega (arith, l, length-take i h) in
        inr (s.0, k, eqb-true (get_or h i 0) r.0 r.2 ∙ s.2 ∙ get_or-take i h s.0 0 k)

-- ---- at a space
module _ (gens : List ℕ) where
  pub known_yes : (C : List ℕ) (i : ℕ) → Reduced word C → known (residues gens C) i ≡ true
      → (reduce word C (generator word gens i) ≡ 0)
      ⊎ ((j : ℕ) × (j < i) × (c : Bool) × (d : Bool) × (reduce word C (generator word gens j) ≡ scale_w c (reduce word C (generator word gens i))) ×
      (reduce word C (generator word gens i) ≡ scale_w d (reduce word C (generator word gens j))))
  known_yes C i ρ e =
      ⊎_elim (λ z. inl (sym (residue_at gens C i) ∙ z))
      (λ r.
      let f : reduce word C (generator word gens i) ≡ reduce word C (generator word gens r.0) =
      sym (residue_at gens C i) ∙ r.2 ∙ residue_at gens C r.0 in
      inr (r.0, r.1, true, true, sym f, f))
      (known_by (residues gens C) i e)

  pub known_no : (C : List ℕ) (i : ℕ) → Reduced word C → known (residues gens C) i ≡ false → Next word gens C i
  known_no C i ρ e =
      record {
        new = λ s. ne ((member word C ρ g).0 s);
        first = λ j l s. back j l (clear_zero (reduce word C g) (reduce word C (generator word gens j)) (sym (reduce_child C ρ g
            (generator word gens j) ne) ∙ (member word (insert word C g) (insert_reduced word C g ρ) (generator word gens j)).0 s));
      }
    where
      h : List ℕ
      h = residues gens C

      g : ℕ
      g = generator word gens i

      residue : get_or h i 0 ≢ 0
      residue = known_ne h i (sym e)

      ne : reduce word C g ≢ 0
      ne z = residue (residue_at gens C i ∙ z)

      inside_h : Dec (i < length h) → i < length h
      inside_h (yes l) = l
      inside_h (no n) = absurd (residue (get_or-eq_default h 0 {n = i} (omega arith)))

      back : (j : ℕ) → j < i → (reduce word C (generator word gens j) ≡ 0) ⊎ (reduce word C g ≡ reduce word C (generator word gens j))
          → Span word C (generator word gens j)
      back j l (inl z) = (member word C ρ (generator word gens j)).1 z
      back j l (inr z) =
          absurd (true≢false (known_found h i j residue l (inside_h (dec_lt i (length h))) (residue_at gens C j ∙ sym z ∙ sym (residue_at gens C i)) ∙ e))
