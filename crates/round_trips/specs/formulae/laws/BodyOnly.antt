-- Lines that are read are the text of what was read.
--   body_only   the lines under the first two
-- Assumes nothing.
use Rattle.std.specs.Prelude.{ℕ, zero, suc, ◌≡◌, refl, List, [], ◌∷◌, ◌++◌, true, Some}
use Rattle.std.proofs.Common.{ap, ◌∙◌, arith}
use Rattle.kinds.specs.Sizes.{given}
use Rattle.kinds.specs.laws.Sizes.{given_some}
use Rattle.text.specs.Reading.{◌>>=◌}
use Rattle.text.specs.Line.{LF, comma, name_line, mask_field, mask_line}
use Rattle.printing.specs.Print.{mask_text}
use Rattle.text.specs.laws.Reading.{inv, inj}
use Rattle.round_trips.specs.formulae.laws.HeadOnly.{name_only, field_only}
use Rattle.formula_files.specs.lines.Formula.{product_line, products, rows, body, ended, product_names, row_name}
use Rattle.formula_text.specs.BodyText.{products_text, rows_text, body_text}

product_only : (s : List ℕ) (l : ℕ × ℕ × List ℕ) → product_line s ≡ Some l → s ≡ mask_text l.0 ++ (comma ∷ (mask_text l.1 ++ (LF ∷ l.2)))
unfolding product_line
product_only s l e =
    let i = inv (mask_field s) (λ x. mask_line x.1 >>= λ y. Some (x.0, y.0, y.1)) l e in
    let j = inv (mask_line i.0.1) (λ y. Some (i.0.0, y.0, y.1)) l i.2 in
    let g : ◌≡◌ {A = ℕ × ℕ × List ℕ} (i.0.0, j.0.0, j.0.1) l = inj (i.0.0, j.0.0, j.0.1) l j.2 in
    field_only 16 16 comma s i.0 (omega arith) (omega arith) i.1
    ∙ ap (λ (w : List ℕ). mask_text i.0.0 ++ (comma ∷ w)) (field_only 16 16 LF i.0.1 j.0 (omega arith) (omega arith) j.1)
    ∙ ap (λ (w : ℕ × ℕ × List ℕ). mask_text w.0 ++ (comma ∷ (mask_text w.1 ++ (LF ∷ w.2)))) g

pub products_only : (k : ℕ) (s xs ys t : List ℕ) → products k s ≡ Some (xs, ys, t) → s ≡ products_text xs ys t
unfolding products products_text
products_only zero s xs ys t e =
    let g : ◌≡◌ {A = List ℕ × List ℕ × List ℕ} ([], [], s) (xs, ys, t) = cc in
    ap (λ (w : List ℕ × List ℕ × List ℕ). products_text w.0 w.1 w.2) g
products_only (suc k) s xs ys t e =
    let i = inv (product_line s) (λ l. products k l.2 >>= λ m. Some (l.0 ∷ m.0, l.1 ∷ m.1, m.2)) (xs, ys, t) e in
    let j = inv (products k i.0.2) (λ m. Some (i.0.0 ∷ m.0, i.0.1 ∷ m.1, m.2)) (xs, ys, t) i.2 in
    let g : ◌≡◌ {A = List ℕ × List ℕ × List ℕ} (i.0.0 ∷ j.0.0, i.0.1 ∷ j.0.1, j.0.2) (xs, ys, t) = inj _ _ j.2 in
    product_only s i.0 i.1
    ∙ ap (λ (w : List ℕ). mask_text i.0.0 ++ (comma ∷ (mask_text i.0.1 ++ (LF ∷ w)))) (products_only k i.0.2 j.0.0 j.0.1 j.0.2 j.1)
    ∙ ap (λ (w : List ℕ × List ℕ × List ℕ). products_text w.0 w.1 w.2) g

pub rows_only : (t : ℕ) (s zs r : List ℕ) → rows t s ≡ Some (zs, r) → s ≡ rows_text zs r
unfolding rows rows_text
rows_only zero s zs r e =
    let g : ◌≡◌ {A = List ℕ × List ℕ} ([], s) (zs, r) = cc in
    ap (λ (w : List ℕ × List ℕ). rows_text w.0 w.1) g
rows_only (suc t) s zs r e =
    let i = inv (mask_line s) (λ l. rows t l.1 >>= λ m. Some (l.0 ∷ m.0, m.1)) (zs, r) e in
    let j = inv (rows t i.0.1) (λ m. Some (i.0.0 ∷ m.0, m.1)) (zs, r) i.2 in
    let g : ◌≡◌ {A = List ℕ × List ℕ} (i.0.0 ∷ j.0.0, j.0.1) (zs, r) = inj _ _ j.2 in
    field_only 16 16 LF s i.0 (omega arith) (omega arith) i.1
    ∙ ap (λ (w : List ℕ). mask_text i.0.0 ++ (LF ∷ w)) (rows_only t i.0.1 j.0.0 j.0.1 j.1)
    ∙ ap (λ (w : List ℕ × List ℕ). rows_text w.0 w.1) g

ended_only : (s : List ℕ) → ended s ≡ true → s ≡ []
unfolding ended
ended_only [] e = refl
ended_only (b ∷ s) e = absurd (let q : ◌≡◌ {A = ℕ} 0 1 = cc in omega arith)

-- a body that is read is the text of what was read
pub body_only : (k t : ℕ) (s xs ys zs : List ℕ) → body k t s ≡ Some (xs, ys, zs) → s ≡ body_text xs ys zs
unfolding body body_text
body_only k t s xs ys zs e =
    let i = inv (name_line product_names s) (λ u. products k u >>= λ p. name_line row_name p.2 >>= λ v. rows t v >>= λ r. given (ended r.1) (p.0, p.1, r.0)) (xs, ys, zs) e in
    let j = inv (products k i.0) (λ p. name_line row_name p.2 >>= λ v. rows t v >>= λ r. given (ended r.1) (p.0, p.1, r.0)) (xs, ys, zs) i.2 in
    let l = inv (name_line row_name j.0.2) (λ v. rows t v >>= λ r. given (ended r.1) (j.0.0, j.0.1, r.0)) (xs, ys, zs) j.2 in
    let m = inv (rows t l.0) (λ r. given (ended r.1) (j.0.0, j.0.1, r.0)) (xs, ys, zs) l.2 in
    let g = given_some (ended m.0.1) (j.0.0, j.0.1, m.0.0) (xs, ys, zs) m.2 in
    name_only product_names s i.0 i.1
    ∙ ap (λ (w : List ℕ). product_names ++ (LF ∷ w))
    (products_only k i.0 j.0.0 j.0.1 j.0.2 j.1
    ∙ ap (products_text j.0.0 j.0.1)
    (name_only row_name j.0.2 l.0 l.1
    ∙ ap (λ (w : List ℕ). row_name ++ (LF ∷ w)) (rows_only t l.0 m.0.0 m.0.1 m.1 ∙ ap (rows_text m.0.0) (ended_only m.0.1 g.0))))
    ∙ ap (λ (w : List ℕ × List ℕ × List ℕ). product_names ++ (LF ∷ products_text w.0 w.1 (row_name ++ (LF ∷ rows_text w.2 [])))) g.1
