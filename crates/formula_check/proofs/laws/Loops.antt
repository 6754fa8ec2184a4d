-- What a turn of the loop over the rows does, over plain lists: the list from t on is the row at t and the list from t + 1 on. Assumes nothing.
use Rattle.std.specs.Prelude.{◌≡◌, Bool, ℕ, ◌+◌, ◌<◌, ◌≤◌, length, get_or, drop, eqb, Option, None, Some}
use Rattle.std.proofs.Math.Path.{sym, ap}
use Rattle.std.proofs.Common.{◌∙◌, add-one, drop_of_length-le, eq-eqb, ne_eqb}
use Rattle.std.proofs.Math.Bool.{cond}
use mathlib.Core.List.{List}
use Rattle.words.specs.laws.Scan.{next}
use Rattle.kinds.specs.declared.Shape.{Shape}
use Rattle.maps.specs.Target.{target_form}
use Rattle.forms.specs.Row.{row_form}
use Rattle.formula_check.specs.Formula.{first_wrong}

-- ---- the first wrong output
module _ (shape : Shape) (n m : ℕ) (fs rows : List ℕ) (t : ℕ) (F : Option ℕ) (h : t < length rows) (inv : first_wrong shape n m fs (drop t rows) t ≡ F) where
  look : cond (eqb (row_form fs (get_or rows t 0) 0) (target_form shape n m t)) (first_wrong shape n m fs (drop (t + 1) rows) (t + 1)) (Some t) ≡ F
  unfolding first_wrong
  look =
      ap (λ (k : ℕ). cond (eqb (row_form fs (get_or rows t 0) 0) (target_form shape n m t)) (first_wrong shape n m fs (drop (t + 1) rows) k) (Some t)) (add-one t)
      ∙ sym (ap (λ (l : List ℕ). first_wrong shape n m fs l t) (next rows t h)) ∙ inv

  pub wrong_here : (row_form fs (get_or rows t 0) 0 ≡ target_form shape n m t → ⊥) → F ≡ Some t
  wrong_here d =
      sym look
      ∙ ap (λ (b : Bool). cond b (first_wrong shape n m fs (drop (t + 1) rows) (t + 1)) (Some t)) (ne_eqb (row_form fs (get_or rows t 0) 0) (target_form shape n m t) d)

  pub wrong_later : row_form fs (get_or rows t 0) 0 ≡ target_form shape n m t → first_wrong shape n m fs (drop (t + 1) rows) (t + 1) ≡ F
  wrong_later e =
      sym (ap (λ (b : Bool). cond b (first_wrong shape n m fs (drop (t + 1) rows) (t + 1)) (Some t)) (eq-eqb (row_form fs (get_or rows t 0) 0) (target_form shape n m t) e)) ∙ look

pub wrong_end : (shape : Shape) (n m : ℕ) (fs rows : List ℕ) (t : ℕ) (F : Option ℕ) → length rows ≤ t → first_wrong shape n m fs (drop t rows) t ≡ F → F ≡ None
unfolding first_wrong
wrong_end shape n m fs rows t F h inv = sym inv ∙ ap (λ (l : List ℕ). first_wrong shape n m fs l t) (drop_of_length-le rows h)
