-- The text of a Check's reply says one verdict.
--   says   texts that are the same but for the verdict say the same verdict
-- Assumes nothing.
use Rattle.std.specs.Prelude.{◌≡◌, refl, List, [], ◌∷◌, ◌++◌, ℕ, ◌^◌, ◌<◌, length, take, drop, get_or}
use Rattle.std.proofs.Common.{sym, ap, ◌∙◌, arith, length-append, take_at, drop_at}
use Rattle.kinds.specs.declared.Shape.{Shape}
use Rattle.text.specs.Line.{LF}
use Rattle.printing.specs.fields.Fields.{field_text, sizes_text}
use Rattle.printing.specs.laws.Digits.{number_same}
use Rattle.formula_check.specs.declared.verdicts.Verdict.{Verdict}
use Rattle.formula_check.specs.declared.verdicts.Verdict.TheVariants as said
use Rattle.check_text.specs.replies.CheckText.{check_names, wrong, verdict_text, check_text}

cancel_left : (a x y : List ℕ) → a ++ x ≡ a ++ y → x ≡ y
cancel_left a x y e = sym (drop_at a x (length a) refl) ∙ ap (drop (length a)) e ∙ drop_at a y (length a) refl

cancel_right : (x y b : List ℕ) → x ++ b ≡ y ++ b → x ≡ y
cancel_right x y b e =
    let l : length x ≡ length y = omega (arith, ap length e, length-append x b, length-append y b) in
    sym (take_at x b (length x) refl) ∙ ap (take (length x)) e ∙ ap (λ (n : ℕ). take n (y ++ b)) l ∙ take_at y b (length y) refl

-- an output that a decimal of twenty digits can name
abbrev pub Named : Verdict → Type 0
Named said.Right = Unit {0}
Named (said.Wrong t) = t < 10 ^ 20

verdict_says : (v u : Verdict) → Named v → Named u → verdict_text v ≡ verdict_text u → v ≡ u
verdict_says said.Right said.Right h k e = refl
verdict_says said.Right (said.Wrong t) h k e = absurd (let z : ◌≡◌ {A = ℕ} 114 119 = ap (λ (l : List ℕ). get_or l 1 0) e in omega arith)
verdict_says (said.Wrong t) said.Right h k e = absurd (let z : ◌≡◌ {A = ℕ} 119 114 = ap (λ (l : List ℕ). get_or l 1 0) e in omega arith)
verdict_says (said.Wrong t) (said.Wrong s) h k e = ap said.Wrong (number_same t s h k (ap (drop 1) (cancel_left wrong (field_text t) (field_text s) e)))

pub says : (shape : Shape) (k : ℕ) (v u : Verdict) (w : ℕ) → Named v → Named u → check_text shape k v w ≡ check_text shape k u w → v ≡ u
unfolding check_text
says shape k v u w h g e =
    let head = check_names ++ sizes_text shape k in
    verdict_says v u h g
    (cancel_left head (verdict_text v) (verdict_text u)
    (cancel_right (head ++ verdict_text v) (head ++ verdict_text u) (field_text w)
    (cancel_right ((head ++ verdict_text v) ++ field_text w) ((head ++ verdict_text u) ++ field_text w) (LF ∷ []) e)))
