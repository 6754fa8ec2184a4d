-- A form in the span of k vectors whose matrices have rank at most 1 has a matrix of rank at most k.
--   row_zero, row_sum_law     the rows of 0, and of a sum: the sums of the rows
--   spread                the rows of all that k such vectors span lie in the span of k rows
--   bounded               so no k below the rank of a form of the targets' space has an entry
--   bound_none            0 is a bound
-- Assumes nothing.
use Rattle.std.specs.Prelude.{◌≡◌, refl, Bool, true, false, ℕ, zero, suc, ◌/◌, ◌^◌, ◌≤◌, length}
use Rattle.std.proofs.Common.{sym, ap, ◌∙◌, subst, mod-eq_of_lt, arith, pow_pos}
use mathlib.Core.List.Memᴰ
use mathlib.Core.List.{List, [], ◌∷◌, Memᴰ}
use Rattle.std.proofs.Math.Nat.{zero-div}
use Rattle.std.specs.Int.Bits.{bit_xor}
use Rattle.std.proofs.lemmas.Nat.{xor_shr, xor_mod}
use Rattle.linear.specs.Basis.{dim}
use Rattle.linear.specs.Entry.{entries, space}
use Rattle.linear.specs.Span.{Span}
use Rattle.linear.specs.Word.{word, scale_w}
use Rattle.linear.proofs.laws.Dimension.{dim_le, dim_length}
use Rattle.linear.proofs.laws.Entry.{entries_sound}
use Rattle.linear.proofs.laws.Insert.{basis_of_span}
use Rattle.linear.proofs.laws.Rank.{chosen_from}
use Rattle.linear.specs.laws.Span.{cast, mem_cons, span_uncons, span_nil, span_weak, span_none, span_head, span_add, span_scale, span_bind}
use Rattle.bases.specs.declared.Basis.{Basis}
use Rattle.rank.specs.matrix_rank.Matrix.{row, Products, Ranked, Summed, Bound}

-- ---- rows
pub row_zero : (w i : ℕ) → row w 0 i ≡ 0
unfolding row
row_zero w zero = mod-eq_of_lt (pow_pos w)
row_zero w (suc i) = ap (λ (x : ℕ). row w x i) (zero-div (2 ^ w)) ∙ row_zero w i

pub row_sum_law : (w f g i : ℕ) → row w (bit_xor f g) i ≡ bit_xor (row w f i) (row w g i)
unfolding row
row_sum_law w f g zero = xor_mod f g w
row_sum_law w f g (suc i) = ap (λ (x : ℕ). row w x i) (xor_shr f g w) ∙ row_sum_law w (f / 2 ^ w) (g / 2 ^ w) i

row_scale : (w : ℕ) (c : Bool) (f i : ℕ) → row w (scale_w c f) i ≡ scale_w c (row w f i)
row_scale w true f i = refl
row_scale w false f i = row_zero w i

-- ---- what some products span
pub spread : (w : ℕ) (xs : List ℕ) → Products w xs
    → (ys : List ℕ) × (length ys ≡ length xs) × ((v : ℕ) → Span word xs v → (i : ℕ) → Span word ys (row w v i))
spread w [] h = ([], refl, λ v s i. span_none word (ap (λ (x : ℕ). row w x i) (span_nil word s) ∙ row_zero w i))
spread w (x ∷ xs) h =
    let r = spread w xs (λ y m. h y (Memᴰ.tail m)) in
    let p = h x (Memᴰ.head refl) in
    (p.0 ∷ r.0, ap suc r.1, λ v s i. step r.0 p.0 v i (p.1 i) (span_uncons word s) r.2)
  where
    step : (ys : List ℕ) (u v i : ℕ) → Span word (u ∷ []) (row w x i) → (c : Bool) × (t : ℕ) × Span word xs t × (v ≡ bit_xor (scale_w c x) t)
        → ((t : ℕ) → Span word xs t → (j : ℕ) → Span word ys (row w t j)) → Span word (u ∷ ys) (row w v i)
    step ys u v i a (c, t, s, e) f =
        cast word (ap (λ (y : ℕ). row w y i) e ∙ row_sum_law w (scale_w c x) t i ∙ ap (λ (y : ℕ). bit_xor y (row w t i)) (row_scale w c x i))
        (span_add word
        (span_scale word c (span_bind word (mem_cons {P = Span word (u ∷ ys)} (span_head word u ys) (λ y m. absurd (Memᴰ.not-nil m))) a))
        (span_weak word (f t s i)))

-- a form that k products sum to has no rank above k
pub rank_most : (w f r : ℕ) (xs : List ℕ) → Products w xs → Span word xs f → Ranked w f r → r ≤ length xs
rank_most w f r xs h s R =
    let y = spread w xs h in
    let a : dim word R.rows ≤ dim word y.0 =
    dim_le word R.rows y.0 (λ v q. span_bind word (λ x m. cast word (R.each x m).1 (y.2 f s (R.each x m).0)) q) in
    omega (arith, a, dim_length word y.0, y.1, R.size)

-- ---- the bound
pub bounded : (gens : List ℕ) (b : Basis) (w r : ℕ) → Products w gens → Summed b w r → Bound gens b r
bounded gens b w r h T targets B k l = go (entries word gens targets k) refl
  where
    few : (es : List ℕ) → Memᴰ es (entries word gens targets k) → r ≤ k
    few es m =
        let E = chosen_from word gens targets k (space word gens targets es) (entries_sound word gens targets k es m) in
        let s : Span word targets T.form = (basis_of_span word targets T.form).0 (subst (λ (C : List ℕ). Span word C T.form) B.is T.sum) in
        omega (arith, rank_most w T.form r E.0 (λ g n. h g (E.2 g n)) (span_bind word E.3 s) T.rank, E.1)

    go : (es : List (List ℕ)) → entries word gens targets k ≡ es → entries word gens targets k ≡ []
    go [] e = e
    go (es ∷ rest) e = absurd (omega (arith, l, few es (subst (Memᴰ es) (sym e) (Memᴰ.head refl))))

pub bound_none : (gens : List ℕ) (b : Basis) → Bound gens b 0
bound_none gens b targets B k l = absurd (omega arith)
