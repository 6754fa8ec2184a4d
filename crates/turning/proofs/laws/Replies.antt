-- The steps of the turning on numbers, one after the other, in the definition's terms.
--   fitting_words     the parts of a formula that can be judged fit words
--   turning_unfit     refused by 2 or 3; turning-else: what is left
--   turned_numbers_law    the numbers of what the definition says
--   turned_told       a reply that is seen as the definition says, and the buffers, over the answer of a step
-- Assumes nothing.
use Rattle.std.specs.Prelude.{◌≡◌, refl, List, ℕ, length}
use Rattle.std.proofs.Common.{sym, ◌∙◌, subst, arith}
use Rattle.std.proofs.Math.Path.{ap}
use Rattle.kinds.specs.Kinds.{kind_numbered}
use Rattle.kinds.specs.Refusal.{Answer, refused, accepted, follow, refused_by}
use Rattle.kinds.specs.Numbers.{reply_numbers}
use Rattle.kinds.specs.laws.Refusal.{by_some, by_none}
use Rattle.kinds.specs.laws.Sizes.{sizes_bounds}
use Rattle.kinds.specs.declared.Shape.{Shape}
use Rattle.formula_check.specs.Formula.{Admitted, admit, lists_handed}
use Rattle.formula_check.specs.Replies.{Fitting, formula_values}
use Rattle.turning.specs.Turning.{turnable, turned_into, turning}
use Rattle.turning.specs.Lent.{turned_reply, turned_numbers, Words, Lent}
use Rattle.turning.specs.declared.Turned.{Turned}

pub fitting_words : {shape : Shape} {n m : ℕ} {xs ys rows : List ℕ} → Fitting shape n m xs ys rows → Words n xs ys rows
fitting_words {shape} {n} {m} {xs} {ys} {rows} F =
    let B = sizes_bounds shape (n, m, length rows) F.sized in
    record { bits = B.fits.first_most; products = F.few; pairs = (let e = F.paired in let h = F.few in omega arith); outputs = B.most_outputs }

module _ (number p q r k : ℕ) (xs ys rows : List ℕ) (u v w e : ℕ) (T : turnable (kind_numbered number) p q r ≡ refused_by e tt) where
  abbrev rest : Answer (Unit {0}) → Answer Admitted
  rest o = follow o λ _. follow (admit (kind_numbered number) p q r k (lists_handed k xs ys rows)) (turned_into u v w)

  pub turning_unfit : (e ≡ 0 → ⊥) → turning number p q r k xs ys rows u v w ≡ refused e
  unfolding turning
  turning_unfit h = ap rest (T ∙ by_some e tt h)

  pub turning_else : e ≡ 0 → {o : Answer Admitted} → admit (kind_numbered number) p q r k (lists_handed k xs ys rows) ≡ o
      → turning number p q r k xs ys rows u v w ≡ follow o (turned_into u v w)
  unfolding turning
  turning_else h A = ap rest (T ∙ by_none e tt h) ∙ ap (λ (o : Answer Admitted). follow o (turned_into u v w)) A

-- ---- the reply
pub turned_numbers_law : (o : Answer Admitted) → turned_numbers (turned_reply o) ≡ reply_numbers 5 formula_values o
turned_numbers_law (refused e) = refl
turned_numbers_law (accepted g) = refl

pub turned_told : {o s : Answer Admitted} {a b d a₁ b₁ d₁ : List ℕ} (x : Turned) → o ≡ s → x ≡ turned_reply s → Lent s a b d a₁ b₁ d₁
    → (x ≡ turned_reply o) × Lent o a b d a₁ b₁ d₁ × (turned_numbers x ≡ reply_numbers 5 formula_values o)
turned_told {o} {s} {a} {b} {d} {a₁} {b₁} {d₁} x q e L =
    subst (λ (o : Answer Admitted). (x ≡ turned_reply o) × Lent o a b d a₁ b₁ d₁ × (turned_numbers x ≡ reply_numbers 5 formula_values o)) (sym q)
    (e, L, ap turned_numbers e ∙ turned_numbers_law s)
