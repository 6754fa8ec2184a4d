-- From the reading of a file to the formula that is judged.
--   read_checks      a formula is read, and its text is the answer
--   refused_checks   the reading is refused, and so is the file
-- Assumes nothing.
use Rattle.std.specs.Prelude.{◌≡◌, List, ℕ, length}
use Rattle.std.proofs.Common.{sym, ap, ap₂, ◌∙◌}
use Rattle.kinds.specs.Limits.{most_products, most_targets}
use Rattle.kinds.specs.Refusal.{Answer, refused, accepted, follow}
use Rattle.kinds.specs.declared.Shape.{Shape}
use Rattle.formula_check.specs.Formula.{Admitted}
use Rattle.formula_check.specs.Buffers.{formula_in}
use Rattle.formula_files.specs.FormulaFile.{formula_file}
use Rattle.formula_files.specs.Lent.{formula_reply}
use Rattle.formula_files.proofs.laws.Held.{Held, refused_is}
use Rattle.formula_files.specs.declared.Read.TheVariants as read
use Rattle.check_text.specs.CheckAnswers.{admitted_text}
use Rattle.service.specs.Service.{check_file}

-- what is read into buffers of these lengths is what the call reads
lent_as : (s a b rows : List ℕ) → length a ≡ most_products → length b ≡ most_products → length rows ≡ most_targets
    → formula_file s most_products most_products most_targets ≡ formula_file s (length a) (length b) (length rows)
lent_as s a b rows la lb lr = ap₂ (λ (x y : ℕ). formula_file s x y most_targets) (sym la) (sym lb) ∙ ap (formula_file s (length a) (length b)) (sym lr)

pub read_checks : (s : List ℕ) (shape : Shape) (k : ℕ) (a b rows a₁ b₁ rows₁ : List ℕ) → length a ≡ most_products → length b ≡ most_products
    → length rows ≡ most_targets → Held (formula_file s (length a) (length b) (length rows)) shape k a₁ b₁ rows₁
    → check_file s ≡ accepted (admitted_text (formula_in shape k a₁ b₁ rows₁))
unfolding check_file
read_checks s shape k a b rows a₁ b₁ rows₁ la lb lr H =
    ap (λ (o : Answer Admitted). follow o (λ g. accepted (admitted_text g))) (lent_as s a b rows la lb lr ∙ H.is)
    ∙ sym (ap (λ (g : Admitted). accepted (admitted_text g)) H.holds)

pub refused_checks : (s : List ℕ) (a b rows : List ℕ) (e : ℕ) → length a ≡ most_products → length b ≡ most_products → length rows ≡ most_targets
    → read.Refused e ≡ formula_reply (formula_file s (length a) (length b) (length rows)) → check_file s ≡ refused e
unfolding check_file
refused_checks s a b rows e la lb lr told =
    ap (λ (o : Answer Admitted). follow o (λ g. accepted (admitted_text g)))
    (lent_as s a b rows la lb lr ∙ refused_is (formula_file s (length a) (length b) (length rows)) e told)
