-- The turned formula is right exactly if the old one is: by the coefficients, which are the same with their three places turned, as are the conditions
-- i + j = t and i + j = n − 1 + t.
--   coefficients_turned   the coefficients of the turned formula are the middle product's exactly if the old ones are the full product's
--   right_turned          the same on bits
-- Assumes nothing.
use Rattle.std.specs.Prelude.{◌≡◌, refl, ◌↔◌, List, ℕ, ◌+◌, ◌-◌, ◌*◌, ◌<◌, length, get_or, eqb, Some}
use Rattle.std.proofs.Common.{sym, ap, ◌∙◌, subst, arith, eq-eqb, ne_eqb}
use Rattle.std.proofs.Math.Decide.{ℕ_discrete}
use Rattle.kinds.specs.Sizes.{shape_of}
use Rattle.kinds.specs.declared.Kind.TheVariants as kind
use Rattle.maps.specs.Target.{pair_for, pair}
use Rattle.maps.specs.Generators.{length_list_of}
use Rattle.formula_check.specs.Formula.{Admitted}
use Rattle.formula_check.specs.meaning.Meaning.{RightFormula}
use Rattle.formula_check.specs.meaning.Tensor.{tensor, Coefficients}
use Rattle.formula_check.proofs.laws.of_meaning.Theorems.{right_coefficients}
use Rattle.turning.specs.Turning.{column, middle_of, turned}
use Rattle.turning.specs.Lent.{full_of}
use Rattle.turning.proofs.laws.Bits.{turned_tensor}
use Rattle.turning.proofs.laws.Accepted.{TurnedSo}

-- ---- the terms: i + j = n − 1 + t exactly if (n − 1 − i) + t = j
same_test : (a b c d : ℕ) → (a ≡ b → c ≡ d) → (c ≡ d → a ≡ b) → eqb a b ≡ eqb c d
same_test a b c d to from = go (ℕ_discrete a b)
  where
    go : Dec (a ≡ b) → eqb a b ≡ eqb c d
    go (yes e) = eq-eqb a b e ∙ sym (eq-eqb c d (to e))
    go (no n) = ne_eqb a b n ∙ sym (ne_eqb c d (λ e. n (from e)))

turned_pair : (n i j t : ℕ) → i < n → pair (shape_of kind.Poly n n 0) j (n - 1 - i) t ≡ pair (middle_of n) t i j
unfolding pair_for
turned_pair n i j t h = same_test (n - 1 - i + t) j (i + j) (n - 1 + t) (λ e. omega arith) (λ e. omega arith)

-- ---- the coefficients
module _ (n : ℕ) (xs ys rows : List ℕ) (paired : length ys ≡ length xs) (outputs : length rows ≡ 2 * n - 1) where
  abbrev g : Admitted
  g = turned (full_of n xs ys rows)

  turns : (i j t : ℕ) → i < n → j < length rows → t < n → tensor g.firsts g.seconds (get_or g.rows t 0) i j ≡ tensor xs ys (get_or rows j 0) (n - 1 - i) t
  turns i j t I J T = turned_tensor n (length xs) xs ys rows refl paired i j t I J T

  pub coefficients_turned : Coefficients (shape_of kind.Poly n n 0) n n xs ys rows ↔ Coefficients (middle_of n) n (2 * n - 1) g.firsts g.seconds g.rows
  coefficients_turned = (to, from)
    where
      to : Coefficients (shape_of kind.Poly n n 0) n n xs ys rows → Coefficients (middle_of n) n (2 * n - 1) g.firsts g.seconds g.rows
      to C t i j T I J =
          let K : j < length rows = omega arith in
          let U : t < n = omega (arith, T, length_list_of (column ys) 0 n) in
          turns i j t I K U ∙ C j (n - 1 - i) t K (omega arith) U ∙ turned_pair n i j t I

      from : Coefficients (middle_of n) n (2 * n - 1) g.firsts g.seconds g.rows → Coefficients (shape_of kind.Poly n n 0) n n xs ys rows
      from C t i j T I J =
          let e : i ≡ n - 1 - (n - 1 - i) = omega arith in
          let L : n - 1 - i < n = omega arith in
          ap (λ (x : ℕ). tensor xs ys (get_or rows t 0) x j) e ∙ sym (turns (n - 1 - i) t j L T J)
          ∙ C j (n - 1 - i) t (omega (arith, J, length_list_of (column ys) 0 n)) L (omega arith)
          ∙ sym (turned_pair n (n - 1 - i) t j L) ∙ ap (λ (x : ℕ). pair (shape_of kind.Poly n n 0) t x j) (sym e)

-- ---- on bits
pub right_turned : {number p q r k : ℕ} {xs ys rows : List ℕ} {g : Admitted} → TurnedSo number p q r k xs ys rows g
    → RightFormula (full_of p xs ys rows) ↔ RightFormula g
right_turned {number} {p} {q} {r} {k} {xs} {ys} {rows} S =
    subst (λ (g : Admitted). RightFormula (full_of p xs ys rows) ↔ RightFormula g) S.is
    ((λ R. new.1 (turn.0 (old.0 R))), (λ R. old.1 (turn.1 (new.0 R))))
  where
    turn :
        let g = turned (full_of p xs ys rows) in
        Coefficients (shape_of kind.Poly p p 0) p p xs ys rows ↔ Coefficients (middle_of p) p (2 * p - 1) g.firsts g.seconds g.rows
    turn = coefficients_turned p xs ys rows (S.pairs ∙ sym S.products) S.outputs

    old : RightFormula (full_of p xs ys rows) ↔ Coefficients (shape_of kind.Poly p p 0) p p xs ys rows
    old = right_coefficients (shape_of kind.Poly p p 0) p p xs ys rows S.sized refl

    new : let g = turned (full_of p xs ys rows) in RightFormula g ↔ Coefficients (middle_of p) p (2 * p - 1) g.firsts g.seconds g.rows
    new =
        let g = turned (full_of p xs ys rows) in
        right_coefficients (middle_of p) p (2 * p - 1) g.firsts g.seconds g.rows
        (S.middle ∙ ap (λ (u : ℕ). Some (p, 2 * p - 1, u)) (sym (length_list_of (column ys) 0 p))) refl
