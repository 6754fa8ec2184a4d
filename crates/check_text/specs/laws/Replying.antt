-- From a verdict to the reply and the bytes that tell it. Assumes nothing.
use Rattle.std.proofs.Math.Path.{◌≡◌, refl}
use Rattle.std.proofs.Common.{sym, ap, ap₂, ◌∙◌, arith}
use Rattle.std.specs.Prelude.{Bool, cond, List, ℕ, length, take, ltb, Option, Some}
use Rattle.std.proofs.Math.Bool.{true, false}
use Rattle.kinds.specs.declared.Shape.{Shape}
use Rattle.kinds.specs.Sizes.{sizes}
use Rattle.kinds.specs.Refusal.{Answer, accepted}
use Rattle.formula_check.specs.Formula.{Admitted, formula_of, verdict}
use Rattle.formula_check.specs.verdicts.Verdicts.{seen_verdict}
use Rattle.formula_check.specs.declared.verdicts.Verdict.{Verdict}
use Rattle.formula_check.specs.declared.verdicts.Verdict.TheVariants as said
use Rattle.check_text.specs.replies.CheckText.{check_text}
use Rattle.check_text.specs.replies.CheckTextLong.{check_text_long}
use Rattle.printing.specs.fields.Written.{bytes_in, written_in}
use Rattle.check_text.specs.CheckAnswers.{verdict_of, admitted_text, reply_of, bytes_of}
use Rattle.formula_check.specs.Buffers.{formula_in, FormulaBuffers}
use Rattle.formula_check.proofs.laws.Buffers.{in_is, in_products}

pub verdict_same : (v : Verdict) → verdict_of (seen_verdict v) ≡ v
verdict_same said.Right = refl
verdict_same (said.Wrong t) = refl

-- ---- the text of the formula in the buffers, whose parts are xs, ys and zs, by the judgement that was found
module _ (shape : Shape) (k : ℕ) (a b rows : List ℕ) (B : FormulaBuffers shape k a b rows) (n m u : ℕ) (S : sizes shape ≡ Some (n, m, u))
    (xs ys zs : List ℕ) (X : xs ≡ take k a) (Y : ys ≡ take k b) (Z : zs ≡ take u rows) where
  pub in_text : (v : Verdict) (w : ℕ) → verdict (formula_of shape n m xs ys zs) ≡ (seen_verdict v, w)
      → ◌≡◌ {A = Answer (List ℕ)} (accepted (admitted_text (formula_in shape k a b rows))) (accepted (check_text shape k v w))
  in_text v w e =
      ap (λ (f : Admitted). accepted (admitted_text f)) (in_is shape k a b rows B n m u S xs ys zs X Y Z)
      ∙ ap (λ (x : Option ℕ × ℕ). accepted (check_text shape (length xs) (verdict_of x.0) x.1)) e
      ∙ ap₂ (λ (i : ℕ) (x : Verdict). accepted (check_text shape i x w)) (in_products shape k a b rows B n m u S xs ys zs X Y Z) (verdict_same v)

-- ---- the text
module _ (shape : Shape) (k : ℕ) (v : Verdict) (w : ℕ) (d : List ℕ) where
  abbrev T : List ℕ
  T = check_text shape k v w

  -- no bytes written: too short
  pub text_short : bytes_in (check_text shape k v w) d ≡ 0 → 9 ≡ reply_of (accepted (check_text shape k v w)) d
  unfolding bytes_in
  text_short = go (ltb (length d) (length T))
    where
      go : (t : Bool) → ◌≡◌ {A = ℕ} (cond t 0 (length T)) 0 → ◌≡◌ {A = ℕ} 9 (cond t 9 (length T))
      go true e = refl
      go false e = absurd (let l = check_text_long shape k v w in omega arith)

  pub text_whole : (bytes_in (check_text shape k v w) d ≡ 0 → ⊥) → bytes_in (check_text shape k v w) d ≡ reply_of (accepted (check_text shape k v w)) d
  unfolding bytes_in
  text_whole = go (ltb (length d) (length T))
    where
      go : (t : Bool) → (◌≡◌ {A = ℕ} (cond t 0 (length T)) 0 → ⊥) → ◌≡◌ {A = ℕ} (cond t 0 (length T)) (cond t 9 (length T))
      go true h = absurd (h refl)
      go false h = refl

-- the answer o, by the text that was handed over
module _ (shape : Shape) (k : ℕ) (v : Verdict) (w : ℕ) (d d₁ : List ℕ) (n : ℕ) (o : Answer (List ℕ)) (e : o ≡ accepted (check_text shape k v w))
    (h : (n ≡ bytes_in (check_text shape k v w) d) × (d₁ ≡ written_in (check_text shape k v w) d)) where
  pub answer_short : n ≡ 0 → (9 ≡ reply_of o d) × (d₁ ≡ bytes_of o d)
  answer_short z = rw e (text_short shape k v w d (sym h.0 ∙ z), h.1)

  pub answer_whole : (n ≡ 0 → ⊥) → (n ≡ reply_of o d) × (d₁ ≡ bytes_of o d)
  answer_whole z = rw e (h.0 ∙ text_whole shape k v w d (λ y. z (h.0 ∙ y)), h.1)
