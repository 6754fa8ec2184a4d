-- The text of a Check, from its pieces.
-- Assumes nothing.
use Rattle.std.specs.Prelude.{ℕ, List, [], ◌∷◌}
use Rattle.std.proofs.Common.{arith}
use Rattle.kinds.specs.declared.Shape.{Shape}
use Rattle.text.specs.Line.{LF}
use Rattle.check_text.specs.replies.CheckText.{check_names, wrong, verdict_text, check_text}
use Rattle.printing.specs.fields.Piece.{Piece}
use Rattle.printing.specs.fields.Fields.{field_text, sizes_text}
use Rattle.printing.specs.fields.laws.Pieces.{Put, piece, piece_then}
use Rattle.formula_check.specs.declared.verdicts.Verdict.{Verdict}
use Rattle.formula_check.specs.declared.verdicts.Verdict.TheVariants as verdict

pub right_put : (at e : ℕ) (o o₁ : List ℕ) → Put o at (verdict_text verdict.Right) o₁ e → Piece o at (verdict_text verdict.Right) 27 o₁ e
right_put at e o o₁ h = piece o at (verdict_text verdict.Right) 27 o₁ e h (omega arith)

pub wrong_put : (t at a e : ℕ) (o o₁ o₂ : List ℕ) → Put o at wrong o₁ a → Piece o₁ a (field_text t) 21 o₂ e
    → Piece o at (verdict_text (verdict.Wrong t)) 27 o₂ e
wrong_put t at a e o o₁ o₂ h ht = piece_then (piece o at wrong 6 o₁ a h (omega arith)) ht

pub check_put : (shape : Shape) (k : ℕ) (v : Verdict) (adders a b c d e : ℕ) (o o₁ o₂ o₃ o₄ o₅ : List ℕ) → Put o 0 check_names o₁ a
    → Piece o₁ a (sizes_text shape k) 89 o₂ b → Piece o₂ b (verdict_text v) 27 o₃ c → Piece o₃ c (field_text adders) 21 o₄ d → Put o₄ d (LF ∷ []) o₅ e
    → Piece o 0 (check_text shape k v adders) 173 o₅ e
unfolding check_text
check_put shape k v adders a b c d e o o₁ o₂ o₃ o₄ o₅ h hs hv ha hl =
    piece_then (piece_then (piece_then (piece_then (piece o 0 check_names 35 o₁ a h (omega arith)) hs) hv) ha) (piece o₄ d (LF ∷ []) 1 o₅ e hl (omega arith))
