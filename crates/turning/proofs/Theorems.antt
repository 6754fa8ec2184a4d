-- What the turning gives, to be read from top to bottom. The definitions are in Turning; the proofs in laws/.
-- Document 02: "They also want a full product formula for n,n turned into a middle product formula. Its products keep their order: .. The new formula is right
-- exactly if the old one is."
--   reversed_bit         bit i of a mask reversed in n bits is its bit n − 1 − i
--   turned_accepted      Check accepts the turned formula as mid n,2n−1 with the same k
--   turned_order         product l of the new formula is the turned product l of the old one, and its rows are the old b masks
--   turned_right         the new formula is right, at every input, exactly if the old one is
--   turned_check         Check says right of the new formula exactly if it says so of the old one
--   turning_refused      the turning is refused by 2, 3, 5 to 8, 12 or 9 and by no other number
--   turn_numbers_told    two replies of the call, to whatever it is handed, are the same if their numbers are
-- Worked: Examples. Assumes nothing.
use Rattle.std.specs.Prelude.{◌≡◌, refl, true, ◌↔◌, List, [], ◌∷◌, ℕ, ◌-◌, ◌*◌, ◌<◌, length, get_or, eqb, None}
use Rattle.linear.specs.Bit.{bit}
use Rattle.linear.specs.Select.{any_of}
use Rattle.kinds.specs.Kinds.{kind_numbered}
use Rattle.kinds.specs.Refusal.{refused, accepted}
use Rattle.kinds.specs.laws.Refusal.{refused_only}
use Rattle.formula_check.specs.Formula.{Admitted, admit, lists_handed, check}
use Rattle.formula_check.specs.meaning.Meaning.{RightFormula}
use Rattle.turning.specs.Turning.{reversed, turning}
use Rattle.turning.specs.Lent.{turned_reply, turned_numbers}
use Rattle.turning.proofs.laws.Bits as bits
use Rattle.turning.proofs.laws.Turned as laws
use Rattle.turning.proofs.laws.Numbers.{turned_differ, turning_only, turning_numbered}
use Rattle.turning.specs.declared.Turned.{Turned}

pub reversed_bit : (n x i : ℕ) → i < n → bit (reversed n x) i ≡ bit x (n - 1 - i)
reversed_bit = bits.reversed_bit

module _ (number p q r k : ℕ) (xs ys rows : List ℕ) (u v w : ℕ) (g : Admitted) (T : turning number p q r k xs ys rows u v w ≡ accepted g) where
  pub turned_accepted : admit (kind_numbered 5) p (2 * p - 1) 0 k (lists_handed k g.firsts g.seconds g.rows) ≡ accepted g
  turned_accepted = laws.turned_accepted number p q r k xs ys rows u v w g T

  -- "Its products keep their order: the a mask is reversed in its n bits, the b mask becomes the column of the old rows at that product (bit t from
  -- row t), and old b masks give the new rows."
  pub turned_order : (length g.firsts ≡ k) × (length g.seconds ≡ k) × (length g.rows ≡ p)
      × ((l : ℕ) → l < k → get_or g.firsts l 0 ≡ reversed p (get_or xs l 0))
      × ((l t : ℕ) → l < k → t < 2 * p - 1 → bit (get_or g.seconds l 0) t ≡ bit (get_or rows t 0) l)
      × ((l t : ℕ) → l < k → t < p → bit (get_or g.rows t 0) l ≡ bit (get_or ys l 0) t)
  turned_order = laws.turned_order number p q r k xs ys rows u v w g T

  -- "The new formula is right exactly if the old one is."
  pub turned_right : (f : Admitted) → admit (kind_numbered number) p q r k (lists_handed k xs ys rows) ≡ accepted f → RightFormula f ↔ RightFormula g
  turned_right = laws.turned_right number p q r k xs ys rows u v w g T

  pub turned_check : ((x : ℕ) × (check number p q r k xs ys rows ≡ accepted (None, x)))
      ↔ ((x : ℕ) × (check 5 p (2 * p - 1) 0 k g.firsts g.seconds g.rows ≡ accepted (None, x)))
  turned_check = laws.turned_check number p q r k xs ys rows u v w g T

pub turning_refused : (number p q r k : ℕ) (xs ys rows : List ℕ) (u v w e : ℕ) → turning number p q r k xs ys rows u v w ≡ refused e
    → any_of (eqb e) (2 ∷ 3 ∷ 5 ∷ 6 ∷ 7 ∷ 8 ∷ 12 ∷ 9 ∷ []) ≡ true
unfolding any_of
turning_refused number p q r k xs ys rows u v w e =
    let P : ℕ → Type 0 = λ e. any_of (eqb e) (2 ∷ 3 ∷ 5 ∷ 6 ∷ 7 ∷ 8 ∷ 12 ∷ 9 ∷ []) ≡ true in
    refused_only P (turning_only P number p q r k xs ys rows u v w refl refl refl refl refl refl refl refl)

pub turn_numbers_told : (number p q r k number' p' q' r' k' : ℕ) (xs ys rows xs' ys' rows' : List ℕ) (u v w u' v' w' : ℕ) (x y : Turned)
    → x ≡ turned_reply (turning number p q r k xs ys rows u v w) → y ≡ turned_reply (turning number' p' q' r' k' xs' ys' rows' u' v' w')
    → turned_numbers x ≡ turned_numbers y → x ≡ y
turn_numbers_told number p q r k number' p' q' r' k' xs ys rows xs' ys' rows' u v w u' v' w' x y e f =
    turned_differ (turning number p q r k xs ys rows u v w) (turning number' p' q' r' k' xs' ys' rows' u' v' w') x y e f
    (turning_numbered number p q r k xs ys rows u v w) (turning_numbered number' p' q' r' k' xs' ys' rows' u' v' w')
