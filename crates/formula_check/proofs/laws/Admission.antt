-- The steps of an admission, one after the other, in the definition's terms.
--   unlike_a, unlike_b, unlike_rows   5: a list has the wrong length; alike: none has
--   passed_not, passed_is             6 to 8, by their number
--   admit_2, admit_3, admit_5         those refusals; admit_passed, admit_alike: what is left
--   check_as                          Check judges what is admitted
-- Assumes nothing.
use Rattle.std.specs.Prelude.{◌≡◌, refl, Bool, true, false, ◌||◌, cond, List, ℕ, ◌≤◌, length, eqb, ltb, Option, None, Some}
use Rattle.std.proofs.Common.{sym, ◌∙◌, arith}
use Rattle.std.proofs.Math.Path.{ap, ap₂}
use Rattle.std.proofs.Math.Bool.{not}
use borrow.Author.Tests.{eq-eqb, ne_eqb, ltb-false}
use Rattle.kinds.specs.Kinds.{kind_numbered, known_map}
use Rattle.kinds.specs.Limits.{most_products}
use Rattle.kinds.specs.Sizes.{shape_of, sizes}
use Rattle.kinds.specs.Refusal.{Answer, refused, accepted, need, refuse, follow}
use Rattle.words.specs.Masks.{wide, zero_in}
use Rattle.kinds.specs.declared.Kind.{Kind}
use Rattle.kinds.specs.declared.Shape.{Shape}
use Rattle.formula_check.specs.Formula.{Lists, Admitted, formula_of, passed, admit, lengths, lists_handed, verdict, check}
use Rattle.formula_check.specs.Refusals.{refusal_of}

-- ---- 5: the lengths
or_last : (a b : Bool) → a || (b || true) ≡ true
or_last true b = refl
or_last false true = refl
or_last false false = refl

or_mid : (a b : Bool) → a || (true || b) ≡ true
or_mid true b = refl
or_mid false b = refl

module _ (k u : ℕ) (xs ys rows : List ℕ) where
  pub unlike_a : (length xs ≡ k → ⊥) → lengths k u xs ys rows ≡ true
  unfolding lengths
  unlike_a d = ap (λ (b : Bool). not b || (not (eqb (length ys) k) || not (eqb (length rows) u))) (ne_eqb (length xs) k d)

  pub unlike_b : (length ys ≡ k → ⊥) → lengths k u xs ys rows ≡ true
  unfolding lengths
  unlike_b d =
      ap (λ (b : Bool). not (eqb (length xs) k) || (not b || not (eqb (length rows) u))) (ne_eqb (length ys) k d)
      ∙ or_mid (not (eqb (length xs) k)) (not (eqb (length rows) u))

  pub unlike_rows : (length rows ≡ u → ⊥) → lengths k u xs ys rows ≡ true
  unfolding lengths
  unlike_rows d =
      ap (λ (b : Bool). not (eqb (length xs) k) || (not (eqb (length ys) k) || not b)) (ne_eqb (length rows) u d)
      ∙ or_last (not (eqb (length xs) k)) (not (eqb (length ys) k))

  pub alike : length xs ≡ k → length ys ≡ k → length rows ≡ u → lengths k u xs ys rows ≡ false
  unfolding lengths
  alike a b c =
      ap₂ (λ (x y : Bool). not x || y) (eq-eqb (length xs) k a) (ap₂ (λ (x y : Bool). not x || not y) (eq-eqb (length ys) k b) (eq-eqb (length rows) u c))

-- ---- 6 to 8
module _ {A : Type 0} (a : Answer A) where
  by_not : (w z b : Bool) (e : ℕ) → e ≡ cond w 6 (cond z 7 (cond b 8 0)) → (e ≡ 0 → ⊥) → refuse 6 w (refuse 7 z (refuse 8 b a)) ≡ refused e
  by_not true z b e h n = ap refused (sym h)
  by_not false true b e h n = ap refused (sym h)
  by_not false false true e h n = ap refused (sym h)
  by_not false false false e h n = absurd (n h)

  by_is : (w z b : Bool) → ◌≡◌ {A = ℕ} (cond w 6 (cond z 7 (cond b 8 0))) 0 → (refuse 6 w (refuse 7 z (refuse 8 b a)) ≡ a) × (b ≡ false)
  by_is true z b h = absurd (let q : ◌≡◌ {A = ℕ} 6 0 = h in omega arith)
  by_is false true b h = absurd (let q : ◌≡◌ {A = ℕ} 7 0 = h in omega arith)
  by_is false false true h = absurd (let q : ◌≡◌ {A = ℕ} 8 0 = h in omega arith)
  by_is false false false h = (refl, refl)

module _ (shape : Shape) (n m k : ℕ) (xs ys rows : List ℕ) (w z : Bool) (e : ℕ) (W : w ≡ (wide n xs || (wide m ys || wide k rows))) (Z : z ≡ (zero_in xs || zero_in ys)) (E : e ≡ refusal_of w z k) where
  pub passed_not : (e ≡ 0 → ⊥) → passed shape n m k xs ys rows ≡ refused e
  unfolding passed
  passed_not h = rw (← W, ← Z) (by_not (accepted (formula_of shape n m xs ys rows)) w z (ltb most_products k) e E h)

  pub passed_is : e ≡ 0 → (passed shape n m k xs ys rows ≡ accepted (formula_of shape n m xs ys rows)) × (k ≤ most_products)
  unfolding passed
  passed_is h =
      let b = by_is (accepted (formula_of shape n m xs ys rows)) w z (ltb most_products k) (sym E ∙ h) in
      ((rw (← W, ← Z) b.0), ltb-false most_products k b.1)

-- ---- the answer
abbrev pub judged_by : Admitted → Answer (Option ℕ × ℕ)
judged_by f = accepted (verdict f)

module _ (number p q r k : ℕ) (xs ys rows : List ℕ) where
  abbrev answer : Answer Admitted
  answer = admit (kind_numbered number) p q r k (lists_handed k xs ys rows)

  abbrev after : Kind → ℕ × ℕ × ℕ → Option Lists → Answer Admitted
  after kd z o = need 5 o λ l. passed (shape_of kd p q r) z.0 z.1 k l.0 l.1 l.2

  abbrev sized : Kind → Option (ℕ × ℕ × ℕ) → Answer Admitted
  sized kd o = need 3 o λ z. after kd z (lists_handed k xs ys rows z.2)

  admit_known : (o : Option Kind) → known_map (kind_numbered number) ≡ o → answer ≡ need 2 o λ kd. sized kd (sizes (shape_of kd p q r))
  unfolding admit
  admit_known o e = ap (λ (o : Option Kind). need 2 o λ kd. sized kd (sizes (shape_of kd p q r))) e

  pub check_as : {o : Answer Admitted} → answer ≡ o → check number p q r k xs ys rows ≡ follow o judged_by
  unfolding check
  check_as e = ap (λ (o : Answer Admitted). follow o judged_by) e

  pub admit_2 : known_map (kind_numbered number) ≡ None → answer ≡ refused 2
  admit_2 = admit_known None

  module _ (kd : Kind) (K : known_map (kind_numbered number) ≡ Some kd) where
    admit_sized : (o : Option (ℕ × ℕ × ℕ)) → sizes (shape_of kd p q r) ≡ o → answer ≡ sized kd o
    admit_sized o e = admit_known (Some kd) K ∙ ap (sized kd) e

    pub admit_3 : sizes (shape_of kd p q r) ≡ None → answer ≡ refused 3
    admit_3 = admit_sized None

    module _ (n m u : ℕ) (S : sizes (shape_of kd p q r) ≡ Some (n, m, u)) where
      admit_lists : (b : Bool) → lengths k u xs ys rows ≡ b → answer ≡ after kd (n, m, u) (cond b None (Some (xs, ys, rows)))
      admit_lists b e = admit_sized (Some (n, m, u)) S ∙ ap (λ (b : Bool). after kd (n, m, u) (cond b None (Some (xs, ys, rows)))) e

      pub admit_5 : lengths k u xs ys rows ≡ true → answer ≡ refused 5
      admit_5 = admit_lists true

      pub admit_passed : lengths k u xs ys rows ≡ false → answer ≡ passed (shape_of kd p q r) n m k xs ys rows
      admit_passed = admit_lists false

      -- with lists of the right lengths
      pub admit_alike : length xs ≡ k → length ys ≡ k → length rows ≡ u → answer ≡ passed (shape_of kd p q r) n m (length xs) xs ys rows
      admit_alike a b c = admit_passed (alike k u xs ys rows a b c) ∙ ap (λ (k : ℕ). passed (shape_of kd p q r) n m k xs ys rows) (sym a)
