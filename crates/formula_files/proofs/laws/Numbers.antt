-- The numbers of the reply to a reading.
--   formula_told      the reply that the definition says has its numbers
--   formula_differ    distinct replies have distinct numbers
--   formula_numbered  a formula's file is never refused by 0
-- Assumes nothing.
use Rattle.std.specs.Prelude.{◌≡◌, refl, List, ℕ, Option}
use Rattle.std.proofs.Common.{sym, ap, ◌∙◌, arith}
use Rattle.kinds.specs.declared.Shape.{Shape}
use Rattle.kinds.specs.Refusal.{Answer, refused, accepted}
use Rattle.kinds.specs.Numbers.{reply_numbers, NotByZero}
use Rattle.kinds.specs.laws.Numbers.{need_numbered, refuse_numbered, follow_numbered}
use Rattle.text.specs.heads.Head.{head_lines}
use Rattle.formula_check.specs.Formula.{Admitted, Lists, admit, too_short}
use Rattle.formula_check.specs.Replies.{formula_values, outline}
use Rattle.formula_check.proofs.laws.Numbers.{admit_numbered, outlines_differ}
use Rattle.formula_files.specs.lines.Formula.{body}
use Rattle.formula_files.specs.FormulaFile.{rest, formula_file}
use Rattle.formula_files.specs.Lent.{formula_reply, formula_read_numbers}
use Rattle.formula_files.specs.declared.Read.{Read}
use Rattle.formula_files.specs.declared.Read.TheVariants as read

formula_numbers : (o : Answer Admitted) → formula_read_numbers (formula_reply o) ≡ reply_numbers 5 formula_values o
formula_numbers (refused e) = refl
formula_numbers (accepted f) = refl

-- A, B and C are what is promised of the lent buffers
pub formula_told : {A B C : Type 0} (o : Answer Admitted) (x : Read) → (x ≡ formula_reply o) × A × B × C
    → (x ≡ formula_reply o) × A × B × C × (formula_read_numbers x ≡ reply_numbers 5 formula_values o)
formula_told o x P = (P.0, P.1, P.2, P.3, ap formula_read_numbers P.0 ∙ formula_numbers o)

-- the reply with that outline
reply_of : Answer (Shape × ℕ) → Read
reply_of (refused e) = read.Refused e
reply_of (accepted (shape, k)) = read.Formula shape k

outlined : (o : Answer Admitted) → formula_reply o ≡ reply_of (outline o)
unfolding reply_of
outlined (refused e) = refl
outlined (accepted f) = refl

pub formula_differ : (o u : Answer Admitted) (x y : Read) → x ≡ formula_reply o → y ≡ formula_reply u → NotByZero o → NotByZero u
    → formula_read_numbers x ≡ formula_read_numbers y → x ≡ y
formula_differ o u x y e f n m h =
    e ∙ outlined o ∙ ap reply_of (outlines_differ o u n m (sym (formula_numbers o) ∙ sym (ap formula_read_numbers e) ∙ h ∙ ap formula_read_numbers f ∙ formula_numbers u))
    ∙ sym (outlined u) ∙ sym f

pub formula_numbered : (s : List ℕ) (la lb lr : ℕ) → NotByZero (formula_file s la lb lr)
unfolding formula_file rest
formula_numbered s la lb lr =
    need_numbered 1 (head_lines s) _ (omega arith) λ h.
    let lists : ℕ → Option Lists = λ t. body h.0.k t h.1 in
    follow_numbered (admit h.0.kind h.0.p h.0.q h.0.r h.0.k lists) _
    (admit_numbered h.0.kind h.0.p h.0.q h.0.r h.0.k lists) λ f.
    refuse_numbered 9 (too_short la lb lr f) _ (omega arith) tt
