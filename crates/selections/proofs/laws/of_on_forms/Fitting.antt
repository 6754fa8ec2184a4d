-- Selections that fit, in another order, with a number left out, and rising ones.
--   selection_fits, fits_misfit   `SelectionFits` is what `misfit` tests
--   misfit_perm, summed_perm, terms_perm   the order of the selected numbers plays no part
--   without_fits, rising_fits     a selection that fits still does without a number; a rising list fits
--   summed_span                   the test `summed` is of a sum of selected generators
-- Assumes nothing.
use Rattle.std.specs.Prelude.{◌≡◌, refl, ◌↔◌, Bool, true, false, cond, ℕ, suc, ◌≤◌, length, eqb, ltb}
use Rattle.std.proofs.Common.{sym, ◌∙◌, true≢false, arith, lt-ltb}
use Rattle.std.proofs.Math.Path.{ap, ap₂}
use Rattle.std.proofs.Math.Bool.{not, ◌||◌}
use mathlib.Core.List.Permᴰ
use mathlib.Core.List.{List, [], ◌∷◌, Permᴰ}
use Rattle.kinds.specs.laws.Refusal.{neither}
use Rattle.linear.specs.Span.{Span}
use Rattle.linear.specs.Basis.{basis_of}
use Rattle.linear.specs.Order.{Rising}
use Rattle.linear.specs.Select.{any_of, only}
use Rattle.linear.specs.Entry.{inside, chosen, generator}
use Rattle.linear.specs.Word.{word}
use Rattle.linear.proofs.laws.Order.{rising_mem}
use Rattle.linear.specs.laws.Span.{span_mono}
use Rattle.linear.proofs.laws.Insert.{basis_of_reduced, basis_of_span}
use Rattle.linear.proofs.laws.Dimension.{basis_of_is}
use Rattle.linear.proofs.laws.Entry.{inside_yes, yes_inside}
use Rattle.linear.proofs.laws.Select.{no_any_of, only_mem, stands, stood}
use Rattle.linear.proofs.laws.Permuted.{perm_mem, any_of_perm}
use Rattle.linear.proofs.laws.Share.{only_length}
use Rattle.words.specs.lists.Lists.{repeats}
use Rattle.words.specs.lists.laws.Standing.{repeats_perm}
use Rattle.bases.specs.rows.Terms.{terms}
use Rattle.bases.proofs.laws.of_rows.Terms.{terms_members}
use Rattle.selections.specs.on_forms.Selected.{misfit, without, summed, SelectionFits}
use Rattle.selections.proofs.laws.of_on_forms.Marking.{misfit_below}

module _ (n : ℕ) (sel : List ℕ) where
  pub selection_fits : misfit n sel ≡ false → SelectionFits n sel
  unfolding misfit
  selection_fits e = record { numbers = misfit_below n sel e; once = (neither (any_of (λ e. not (ltb e n)) sel) (repeats sel) e).1 }

  pub fits_misfit : SelectionFits n sel → misfit n sel ≡ false
  unfolding misfit
  fits_misfit F =
      ap₂ ◌||◌ (no_any_of (λ e. not (ltb e n)) sel (λ e m. ap not (lt-ltb e n (F.numbers e m)))) F.once

-- ---- a sum of selected generators, as a test
pub summed_span : (gens sel : List ℕ) (v : ℕ) → (summed gens sel v ≡ true) ↔ Span word (chosen word gens sel) v
unfolding summed
summed_span gens sel v =
    let xs = chosen word gens sel in (
      λ e. (basis_of_span word xs v).0 (inside_yes word (basis_of word xs) v e),
      λ s. yes_inside word (basis_of word xs) (basis_of_reduced word xs) v ((basis_of_span word xs v).1 s),
    )

-- ---- in another order
module _ {sel sel' : List ℕ} (d : Permᴰ sel sel') where
  pub misfit_perm : (n : ℕ) → misfit n sel ≡ misfit n sel'
  unfolding misfit
  misfit_perm n = ap₂ ◌||◌ (any_of_perm (λ e. not (ltb e n)) d) (repeats_perm d)

  pub terms_perm : (gens : List ℕ) (v : ℕ) → terms gens sel v ≡ terms gens sel' v
  terms_perm gens v = terms_members gens sel sel' (λ e. (perm_mem d, perm_mem (Permᴰ.symm d))) v

chosen_perm : (gens : List ℕ) {l m : List ℕ} → Permᴰ l m → Permᴰ (chosen word gens l) (chosen word gens m)
unfolding chosen
chosen_perm gens Permᴰ.nil = Permᴰ.nil
chosen_perm gens (Permᴰ.cons e d) = Permᴰ.cons (ap (generator word gens) e) (chosen_perm gens d)
chosen_perm gens (Permᴰ.swap e f) = Permᴰ.swap (ap (generator word gens) e) (ap (generator word gens) f)
chosen_perm gens (Permᴰ.trans c d) = Permᴰ.trans (chosen_perm gens c) (chosen_perm gens d)

pub summed_perm : (gens : List ℕ) {sel sel' : List ℕ} → Permᴰ sel sel' → (v : ℕ) → summed gens sel v ≡ summed gens sel' v
unfolding summed
summed_perm gens {sel} {sel'} d v =
    let xs = chosen word gens sel in
    let ys = chosen word gens sel' in
    let p = chosen_perm gens d in
    ap (λ (B : List ℕ). inside word B v)
    (basis_of_is word (basis_of word ys) xs (basis_of_reduced word ys)
    (λ u s. span_mono word (λ x m. perm_mem (Permᴰ.symm p) m) ((basis_of_span word ys u).0 s))
    (λ u s. (basis_of_span word ys u).1 (span_mono word (λ x m. perm_mem p m) s)))

-- ---- with a number left out
only_once : (p : ℕ → Bool) (l : List ℕ) → repeats l ≡ false → repeats (only p l) ≡ false
unfolding only repeats
only_once p [] e = refl
only_once p (x ∷ l) e = go (p x) (any_of (eqb x) (only p l)) refl (only_once p l both.1)
  where
    both : (any_of (eqb x) l ≡ false) × (repeats l ≡ false)
    both = neither (any_of (eqb x) l) (repeats l) e

    go : (t u : Bool) → any_of (eqb x) (only p l) ≡ u → repeats (only p l) ≡ false → repeats (cond t (x ∷ only p l) (only p l)) ≡ false
    go false u q ih = ih
    go true false q ih = ap₂ ◌||◌ q ih
    go true true q ih = absurd (true≢false (sym (stands x l (only_mem p l x (stood x (only p l) q)).0) ∙ both.0))

module _ (n j : ℕ) (sel : List ℕ) where
  pub without_fits : SelectionFits n sel → SelectionFits n (without j sel)
  unfolding without
  without_fits F =
      record { numbers = (λ e m. F.numbers e (only_mem (λ e. not (eqb j e)) sel e m).0); once = only_once (λ e. not (eqb j e)) sel F.once }

  pub without_length : length (without j sel) ≤ length sel
  unfolding without
  without_length = only_length (λ e. not (eqb j e)) sel

-- ---- rising lists
rising_once : (lo n : ℕ) (es : List ℕ) → Rising lo n es → repeats es ≡ false
unfolding repeats
rising_once lo n [] r = refl
rising_once lo n (x ∷ es) r = ap₂ ◌||◌ (go (any_of (eqb x) es) refl) (rising_once (suc x) n es r.2)
  where
    go : (t : Bool) → any_of (eqb x) es ≡ t → any_of (eqb x) es ≡ false
    go false e = e
    go true e = absurd (let a : suc x ≤ x = (rising_mem (suc x) n es r.2 x (stood x es e)).0 in omega arith)

pub rising_fits : (lo n : ℕ) (es : List ℕ) → Rising lo n es → SelectionFits n es
rising_fits lo n es r = record { numbers = (λ e m. (rising_mem lo n es r e m).1); once = rising_once lo n es r }
