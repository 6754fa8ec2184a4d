-- What is printed of an input, by its length and by the turning of the file.
--   printed_long      an input that is too long
--   printed_refused   one that is refused
--   turned_held       else the buffers hold the turned formula
--   printed_formula   which is printed
-- Assumes nothing.
use Rattle.std.specs.Prelude.{◌≡◌, Bool, cond, List, ℕ, ◌<◌, ◌≤◌, length, take}
use Rattle.std.proofs.Common.{sym, ap, ◌∙◌, arith, lt-ltb, le-ltb}
use Rattle.kinds.specs.Limits.{most_products, most_targets}
use Rattle.kinds.specs.Refusal.{Answer, refused, accepted, follow}
use Rattle.kinds.specs.declared.Shape.{Shape}
use Rattle.text.specs.Limits.{most_bytes}
use Rattle.printing.specs.fields.RefusedText.{refused_text}
use Rattle.printing.specs.refusals.Pages.{formula_page, answer_text}
use Rattle.formula_check.specs.Formula.{Admitted}
use Rattle.formula_check.specs.Buffers.{formula_in}
use Rattle.formula_files.specs.Lent.{formula_reply, Left}
use Rattle.formula_files.proofs.laws.Held.{Held, held, refused_is}
use Rattle.formula_files.specs.declared.Read.TheVariants as read
use Rattle.formula_text.specs.FileText.{file_text}
use Rattle.turn_program.specs.TurnFile.{turn_file}
use Rattle.turn_program.specs.TurnProgram.{turn_program}
use Rattle.turn_program.specs.laws.Numbers.{turned_sound}

abbrev told : Answer Admitted → List ℕ
told o = answer_text (follow o λ g. accepted (file_text g))

program_long : (s : List ℕ) → most_bytes < length s → refused_text 1 ≡ turn_program s
unfolding turn_program
program_long s h = sym (ap (λ (b : Bool). cond b (refused_text 1) (told (turn_file s))) (lt-ltb most_bytes (length s) h))

pub program_short : (s : List ℕ) (o : Answer Admitted) → length s ≤ most_bytes → turn_file s ≡ o
    → answer_text (follow o λ g. accepted (file_text g)) ≡ turn_program s
unfolding turn_program
program_short s o h e =
    sym (ap (λ (b : Bool). cond b (refused_text 1) (told (turn_file s))) (le-ltb most_bytes (length s) h) ∙ ap told e)

module _ (s d : List ℕ) (e : ℕ) where
  pub printed_long : most_bytes < length s → (take e d ≡ refused_text 1) × (e ≤ 32) → (take e d ≡ turn_program s) × (e ≤ formula_page)
  printed_long h P = (P.0 ∙ program_long s h, omega (arith, P.1))

  pub printed_refused : (i : ℕ) → length s ≤ most_bytes → read.Refused i ≡ formula_reply (turn_file s) → (take e d ≡ refused_text i) × (e ≤ 32)
      → (take e d ≡ turn_program s) × (e ≤ formula_page)
  printed_refused i h t P = (P.0 ∙ program_short s (refused i) h (refused_is (turn_file s) i t), omega (arith, P.1))

  pub printed_formula : (shape : Shape) (k : ℕ) (a b rows : List ℕ) → length s ≤ most_bytes → Held (turn_file s) shape k a b rows
      → (take e d ≡ file_text (formula_in shape k a b rows)) × (e ≤ formula_page) → (take e d ≡ turn_program s) × (e ≤ formula_page)
  printed_formula shape k a b rows h H P = (P.0 ∙ ap file_text H.holds ∙ program_short s (accepted H.f) h H.is, P.1)

pub turned_held : (s : List ℕ) (shape : Shape) (k : ℕ) (a b rows a₁ b₁ rows₁ : List ℕ) → length a ≡ most_products → length b ≡ most_products
    → length rows ≡ most_targets → read.Formula shape k ≡ formula_reply (turn_file s) → Left (turn_file s) a b rows a₁ b₁ rows₁
    → Held (turn_file s) shape k a₁ b₁ rows₁
turned_held s shape k a b rows a₁ b₁ rows₁ x y z =
    held (turn_file s) shape k a b rows a₁ b₁ rows₁ (λ g e. rw (x, y, z) (turned_sound s g e))
