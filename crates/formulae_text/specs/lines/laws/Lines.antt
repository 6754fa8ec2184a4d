-- The lines of an entry's formulae, from their pieces.
-- Assumes nothing.
use Rattle.std.specs.Prelude.{ℕ, ◌+◌, ◌*◌, ◌≡◌, refl, Bool, true, false, List, ◌∷◌, ◌++◌, length}
use Rattle.std.proofs.Common.{sym, subst, arith}
use Rattle.printing.specs.Print.{number_text}
use Rattle.text.specs.Line.{comma}
use Rattle.printing.specs.fields.Piece.{Piece}
use Rattle.printing.specs.fields.laws.Pieces.{Put, piece, piece_then, number_short}
use Rattle.printing.specs.record_lines.RecordLines.{lead_text, entry_text}
use Rattle.printing.specs.record_lines.laws.Lines.{weaker, lead_then}
use Rattle.formulae_text.specs.lines.FormulaLines.{formula_text, more_text, formula_lines, left_text, formulae_text}

pub formula_put : (entry i : ℕ) (xs ys : List ℕ) (at a e : ℕ) (d d₁ d₂ : List ℕ) → Piece d at (lead_text entry) 21 d₁ a
    → Piece d₁ a (entry_text i xs ys) (21 * length xs + 21 * length ys + 25) d₂ e → Piece d at (formula_text entry i xs ys) (21 * length xs + 21 * length ys + 46) d₂ e
unfolding formula_text
formula_put entry i xs ys at a e d d₁ d₂ P Q = weaker d (number_text entry ++ (comma ∷ entry_text i xs ys)) d₂ at e _ _ (omega arith) (lead_then entry P Q)

-- ---- where all are there, and where one was left out
pub left_none : (entry : ℕ) (whole : Bool) (at : ℕ) (d : List ℕ) → whole ≡ true → Piece d at (left_text entry whole) 30 d at
left_none entry whole at d h = subst (λ (b : Bool). Piece d at (left_text entry b) 30 d at) (sym h) (record { after = omega arith; holds = refl; most = omega arith })

pub left_one : (entry : ℕ) (whole : Bool) (at a e : ℕ) (d d₁ d₂ : List ℕ) → whole ≡ false → Put d at (number_text entry) d₁ a → Put d₁ a more_text d₂ e → Piece d at (left_text entry whole) 30 d₂ e
left_one entry whole at a e d d₁ d₂ h p q =
    subst (λ (b : Bool). Piece d at (left_text entry b) 30 d₂ e) (sym h)
    (piece_then (piece d at (number_text entry) 20 d₁ a p (number_short entry)) (piece d₁ a more_text 10 d₂ e q (omega arith)))

pub text_put : (entry k t n : ℕ) (whole : Bool) (listing : List ℕ) (a e : ℕ) (d d₁ d₂ : List ℕ) → Piece d 0 (formula_lines entry k t n listing) (21 * (n * (k + t)) + 46 * n) d₁ a
    → Piece d₁ a (left_text entry whole) 30 d₂ e → Piece d 0 (formulae_text entry k t n whole listing) (21 * (n * (k + t)) + 46 * n + 30) d₂ e
unfolding formulae_text
text_put entry k t n whole listing a e d d₁ d₂ P Q = piece_then P Q
