-- Rank's texts from their pieces.
--   head_put, far_said, rank_put   the head, a rank that is not found, one that is
-- Assumes nothing.
use Rattle.std.specs.Prelude.{ℕ, ◌+◌, ◌*◌, ◌≤◌, ◌≡◌, Bool, true, false, length}
use Rattle.std.proofs.Common.{sym, subst, arith}
use Rattle.std.proofs.Math.Path.{ap}
use mathlib.Core.List.{List, [], ◌∷◌, ◌++◌, append_assoc}
use Rattle.text.specs.Line.{LF}
use Rattle.printing.specs.fields.Piece.{Piece}
use Rattle.printing.specs.fields.laws.Pieces.{Put, piece, piece_then}
use Rattle.kinds.specs.declared.Shape.{Shape}
use Rattle.printing.specs.fields.Fields.{field_text, sizes_text}
use Rattle.printing.specs.record_lines.RecordLines.{lists_text}
use Rattle.printing.specs.record_lines.laws.Lines.{weaker}
use Rattle.rank_text.specs.report.RankReports.{rank_names, formula_names, far_text, rank_head, far_rank_text, rank_text}

pub head_put : (shape : Shape) (k ell a b e : ℕ) (o o₁ o₂ o₃ : List ℕ) → Put o 0 rank_names o₁ a → Piece o₁ a (sizes_text shape k) 89 o₂ b → Piece o₂ b (field_text ell) 21 o₃ e
    → Piece o 0 (rank_head shape k ell) 132 o₃ e
unfolding rank_head
head_put shape k ell a b e o o₁ o₂ o₃ h hs hl = piece_then (piece_then (piece o 0 rank_names 22 o₁ a h (omega arith)) hs) hl

far_put : (shape : Shape) (k ell : ℕ) (above : Bool) (a e : ℕ) (o o₁ o₂ : List ℕ) → Piece o 0 (rank_head shape k ell) 132 o₁ a → Put o₁ a (far_text above) o₂ e
    → Piece o 0 (far_rank_text shape k ell above) 140 o₂ e
unfolding far_rank_text
far_put shape k ell above a e o o₁ o₂ P h = piece_then P (piece o₁ a (far_text above) 8 o₂ e h (short above))
  where
    short : (b : Bool) → length (far_text b) ≤ 8
    short true = omega arith
    short false = omega arith

pub far_said : (shape : Shape) (k ell : ℕ) (above b : Bool) (a e : ℕ) (o o₁ o₂ : List ℕ) → above ≡ b → Piece o 0 (rank_head shape k ell) 132 o₁ a → Put o₁ a (far_text b) o₂ e
    → Piece o 0 (far_rank_text shape k ell above) 140 o₂ e
far_said shape k ell above b a e o o₁ o₂ q' P h = far_put shape k ell above a e o o₁ o₂ P (subst (λ (x : Bool). Put o₁ a (far_text x) o₂ e) (sym q') h)

pub rank_put : (shape : Shape) (k ell a b c e : ℕ) (xs ys o o₁ o₂ o₃ o₄ : List ℕ) → Piece o 0 (rank_head shape k ell) 132 o₁ a → Piece o₁ a (field_text (length xs)) 21 o₂ b
    → Put o₂ b ((LF ∷ []) ++ formula_names) o₃ c → Piece o₃ c (lists_text xs ys) (21 * length xs + 21 * length ys + 4) o₄ e
    → Piece o 0 (rank_text shape k ell xs ys) (21 * length xs + 21 * length ys + 172) o₄ e
rank_put shape k ell a b c e xs ys o o₁ o₂ o₃ o₄ P Q h L =
    subst (λ (t : List ℕ). Piece o 0 t (21 * length xs + 21 * length ys + 172) o₄ e) text
    (weaker o (rank_head shape k ell ++ field_text (length xs) ++ ((LF ∷ []) ++ formula_names) ++ lists_text xs ys) o₄ 0 e
    (132 + 21 + 15 + (21 * length xs + 21 * length ys + 4)) (21 * length xs + 21 * length ys + 172) (omega arith)
    (piece_then (piece_then (piece_then P Q) (piece o₂ b ((LF ∷ []) ++ formula_names) 15 o₃ c h (omega arith))) L))
  where
    front : List ℕ
    front = rank_head shape k ell ++ field_text (length xs)

    text : front ++ ((LF ∷ []) ++ formula_names) ++ lists_text xs ys ≡ rank_text shape k ell xs ys
    text = unfold rank_text in ap (λ (t : List ℕ). t ++ lists_text xs ys) (sym (append_assoc front (LF ∷ []) formula_names))
