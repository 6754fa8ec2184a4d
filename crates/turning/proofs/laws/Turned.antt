-- The proofs of the theorems on an accepted turning.
-- Assumes nothing.
use Rattle.std.specs.Prelude.{◌≡◌, ◌↔◌, List, ℕ, ◌-◌, ◌*◌, ◌<◌, length, get_or, None}
use Rattle.std.proofs.Common.{sym, ◌∙◌, subst, arith}
use Rattle.std.proofs.lemmas.List.{length-map}
use Rattle.linear.specs.Bit.{bit}
use Rattle.kinds.specs.Kinds.{kind_numbered}
use Rattle.kinds.specs.Refusal.{accepted}
use Rattle.kinds.specs.laws.Refusal.{accepted_inj}
use Rattle.maps.specs.Generators.{length_list_of}
use Rattle.formula_check.specs.Formula.{Admitted, admit, lists_handed, check}
use Rattle.formula_check.proofs.laws.Admitted.{handed_is}
use Rattle.formula_check.specs.meaning.Meaning.{RightFormula}
use Rattle.formula_check.proofs.laws.of_meaning.Theorems.{check_right}
use Rattle.turning.specs.Turning.{reversed, column, turned, turning}
use Rattle.turning.specs.Lent.{full_of}
use Rattle.turning.proofs.laws.Bits.{firsts_at, columns_at}
use Rattle.turning.proofs.laws.Accepted.{TurnedSo, turning_inv, turned_handed}
use Rattle.turning.proofs.laws.Right.{right_turned}

module _ (number p q r k : ℕ) (xs ys rows : List ℕ) (u v w : ℕ) (g : Admitted) (T : turning number p q r k xs ys rows u v w ≡ accepted g) where
  so : TurnedSo number p q r k xs ys rows g
  so = turning_inv number p q r k xs ys rows u v w g T

  pub turned_accepted : admit (kind_numbered 5) p (2 * p - 1) 0 k (lists_handed k g.firsts g.seconds g.rows) ≡ accepted g
  turned_accepted = handed_is 5 p (2 * p - 1) 0 k g.firsts g.seconds g.rows g (turned_handed so)

  pub turned_order : (length g.firsts ≡ k) × (length g.seconds ≡ k) × (length g.rows ≡ p)
      × ((l : ℕ) → l < k → get_or g.firsts l 0 ≡ reversed p (get_or xs l 0))
      × ((l t : ℕ) → l < k → t < 2 * p - 1 → bit (get_or g.seconds l 0) t ≡ bit (get_or rows t 0) l)
      × ((l t : ℕ) → l < k → t < p → bit (get_or g.rows t 0) l ≡ bit (get_or ys l 0) t)
  turned_order = subst Order so.is made
    where
      Order : Admitted → Type 0
      Order g =
          (length g.firsts ≡ k) × (length g.seconds ≡ k) × (length g.rows ≡ p)
          × ((l : ℕ) → l < k → get_or g.firsts l 0 ≡ reversed p (get_or xs l 0))
          × ((l t : ℕ) → l < k → t < 2 * p - 1 → bit (get_or g.seconds l 0) t ≡ bit (get_or rows t 0) l)
          × ((l t : ℕ) → l < k → t < p → bit (get_or g.rows t 0) l ≡ bit (get_or ys l 0) t)

      made : Order (turned (full_of p xs ys rows))
      made =
          let X = so.products in
          let Y = so.pairs in
          let U = so.outputs in (
            length-map xs (reversed p) ∙ X,
            length_list_of (column rows) 0 (length xs) ∙ X,
            length_list_of (column ys) 0 p,
            (λ l h. firsts_at p xs l (omega arith)),
            (λ l t h m. columns_at rows (length xs) l t (omega arith) (omega arith)),
            λ l t h m. columns_at ys p t l m (omega arith),
          )

  pub turned_right : (f : Admitted) → admit (kind_numbered number) p q r k (lists_handed k xs ys rows) ≡ accepted f → RightFormula f ↔ RightFormula g
  turned_right f A =
      subst (λ (f : Admitted). RightFormula f ↔ RightFormula g) (accepted_inj (full_of p xs ys rows) f (sym so.admitted ∙ A)) (right_turned so)

  pub turned_check : ((x : ℕ) × (check number p q r k xs ys rows ≡ accepted (None, x)))
      ↔ ((x : ℕ) × (check 5 p (2 * p - 1) 0 k g.firsts g.seconds g.rows ≡ accepted (None, x)))
  turned_check =
      let old = check_right number p q r k xs ys rows (full_of p xs ys rows) so.admitted in
      let new = check_right 5 p (2 * p - 1) 0 k g.firsts g.seconds g.rows g turned_accepted in
      let right = right_turned so in
      ((λ s. new.1 (right.0 (old.0 s))), (λ s. old.1 (right.1 (new.0 s))))
