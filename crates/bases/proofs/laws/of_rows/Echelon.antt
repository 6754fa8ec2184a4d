-- Products reduced once, with the masks of the products that each row is a sum of.
--   rows_first, masks_first, first_fit   there are i first rows and masks
--   tracking_start, tracking_next        no product, and one more
--   rest_inside, rest_test   nothing is left of a form exactly if it is a sum of products
--   rest_row                 what was taken of a sum of independent products is its row
-- Assumes nothing.
use Rattle.std.specs.Prelude.{◌≡◌, ◌⊎◌, ◌↔◌, Bool, false, ℕ, suc, ◌+◌, ◌*◌, ◌%◌, ◌^◌, ◌<◌, ◌≤◌, length, get_or, take, set}
use Rattle.std.proofs.Math.Path.{refl}
use Rattle.std.proofs.Common.{sym, ap, ap₂, ◌∙◌, subst, inl, inr, add-one, arith, length-set, get_or-set_other, get_or-set_same, get_or-take, length-take-le, take-suc, take-suc-set}
use Rattle.std.proofs.Math.Bool.{true}
use mathlib.Core.List.Memᴰ
use mathlib.Core.List.{List, [], ◌∷◌, ◌++◌, Memᴰ}
use Rattle.std.proofs.Math.Decide.{dec_lt, ℕ_discrete}
use Rattle.std.specs.Int.Bits.{bit_xor, xor_zero_r}
use Rattle.std.proofs.lemmas.Nat.{xor_lt}
use Rattle.std.proofs.Math.Pow.{pow-lt}
use Rattle.std.proofs.Math.Seq.{take-length}
use Rattle.linear.specs.Basis as basis
use Rattle.linear.specs.Bit.{bit, top}
use Rattle.linear.specs.Entry.{inside}
use Rattle.linear.specs.Span.{Span, Independent}
use Rattle.linear.specs.Word.{word, is_zero}
use Rattle.linear.proofs.laws.Echelon.{echelon_next, next_span}
use Rattle.linear.proofs.laws.Entry.{inside_yes, yes_inside}
use Rattle.linear.proofs.laws.Insert.{norm_one, basis_of_reduced, basis_of_span}
use Rattle.linear.proofs.laws.Reduce.{echelon_member}
use Rattle.linear.proofs.laws.Shift.{one_shift}
use Rattle.linear.specs.laws.Space.{minus_add}
use Rattle.linear.specs.laws.Span.{mem_cons, span_bind, span_mono}
use Rattle.linear.proofs.laws.Word.{norm_word}
use Rattle.forms.specs.Row.{row_form}
use Rattle.bases.specs.Basis.{most_rows}
use Rattle.bases.specs.declared.rows.Echelon.{Echelon}
use Rattle.bases.specs.rows.Rows.{row_of}
use Rattle.bases.specs.rows.Echelon.{taken, Tracking, Tracks}
use Rattle.bases.proofs.laws.of_rows.Rest.{taken_sum, taken_below}
use Rattle.bases.specs.rows.laws.Rows.{row_one, row_only, row_span, row_xor}

-- ---- the first i rows and masks
module _ (xs rows masks : List ℕ) (i : ℕ) (R : Tracking xs rows masks i) where
  pub rows_first : length (take i rows) ≡ i
  rows_first = length-take-le i rows (omega (arith, R.whole, R.room))

  pub masks_first : length (take i masks) ≡ i
  masks_first = length-take-le i masks (omega (arith, R.masked, R.room))

  pub first_fit : length (take i rows) ≤ length (take i masks)
  first_fit = omega (arith, rows_first, masks_first)

  first_sum : (v : ℕ) → bit_xor (row_form xs (taken (take i rows) (take i masks) v) 0) (basis.reduce word (take i rows) v) ≡ v
  first_sum =
      taken_sum xs (take i rows) (take i masks) first_fit
      (λ j k. let l : j < i = omega (arith, k, rows_first) in
      ap (λ (m : ℕ). row_form xs m 0) (get_or-take i masks j 0 l) ∙ R.sums j l ∙ sym (get_or-take i rows j 0 l))

  first_below : (v : ℕ) → taken (take i rows) (take i masks) v < 2 ^ length xs
  first_below =
      taken_below (length xs) (take i rows) (take i masks) first_fit
      (λ j k. let l : j < i = omega (arith, k, rows_first) in subst (λ (m : ℕ). m < 2 ^ length xs) (sym (get_or-take i masks j 0 l)) (R.below j l))

-- ---- product by product
pub tracking_start : (xs rows masks : List ℕ) → length rows ≡ most_rows → length masks ≡ most_rows → Tracking xs rows masks 0
tracking_start xs rows masks a b =
    record {
      whole = a;
      masked = b;
      room = omega arith;
      echelon = tt;
      holds = λ x m. absurd (Memᴰ.not-nil m);
      sums = λ j h. absurd (omega arith);
      below = λ j h. absurd (omega arith);
    }

-- over two elements what is not 0 leads with 1
leads : (x : ℕ) → (x ≡ 0) ⊎ (bit x (top x) ≡ true)
leads x = go (ℕ_discrete x 0)
  where
    go : Dec (x ≡ 0) → (x ≡ 0) ⊎ (bit x (top x) ≡ true)
    go (yes z) = inl z
    go (no n) = inr (subst (λ (y : ℕ). bit y (top y) ≡ true) (norm_word x n) (norm_one word x n))

module _ (xs rows masks : List ℕ) (i : ℕ) (R : Tracking xs rows masks i) (h : i < length xs) (few : length xs ≤ most_rows) where
  abbrev x : ℕ
  x = get_or xs i 0

  abbrev form : ℕ
  form = basis.reduce word (take i rows) x

  abbrev mask : ℕ
  mask = taken (take i rows) (take i masks) x

  abbrev rows' : List ℕ
  rows' = set rows i form

  abbrev own : ℕ
  own = bit_xor mask (2 ^ i)

  abbrev masks' : List ℕ
  masks' = set masks i own

  in_rows : i < length rows
  in_rows = omega (arith, R.whole, h, few)

  in_masks : i < length masks
  in_masks = omega (arith, R.masked, h, few)

  one_more : take (suc i) rows' ≡ take i rows ++ form ∷ []
  one_more = take-suc-set rows i form in_rows

  -- what holds of the row that is set and of those before it holds of each
  either : {P : ℕ → Type 0} → P i → ((j : ℕ) → j < i → P j) → (j : ℕ) → j < suc i → P j
  either {P} here rest j l = go (dec_lt j i)
    where
      go : Dec (j < i) → P j
      go (yes k) = rest j k
      go (no n) = let e : i ≡ j = omega arith in subst P e here

  own_sum : row_form xs own 0 ≡ form
  own_sum =
      row_xor xs mask (2 ^ i) 0 ∙ ap (bit_xor (row_form xs mask 0)) (row_one xs i ∙ sym (first_sum xs rows masks i R x))
      ∙ minus_add word (row_form xs mask 0) form

  next : Tracking xs rows' masks' (suc i)
  next =
      record {
        whole = length-set rows i form ∙ R.whole;
        masked = length-set masks i own ∙ R.masked;
        room = omega (arith, h, few);
        echelon = subst (basis.Echelon word) (sym one_more) (echelon_next word (take i rows) R.echelon x (leads form));
        holds =
            λ y m. subst (λ (C : List ℕ). Span word C y) (sym one_more)
            (found y (Memᴰ.append_cases (take i xs) (subst (Memᴰ y) (take-suc xs i 0 h) m)));
        sums =
            either {P = λ j. row_form xs (get_or masks' j 0) 0 ≡ get_or rows' j 0}
            (ap (λ (m : ℕ). row_form xs m 0) (get_or-set_same masks i own 0 in_masks) ∙ own_sum ∙ sym (get_or-set_same rows i form 0 in_rows))
            (λ j k. ap (λ (m : ℕ). row_form xs m 0) (get_or-set_other masks i j own 0 (omega arith)) ∙ R.sums j k
            ∙ sym (get_or-set_other rows i j form 0 (omega arith)));
        below =
            either {P = λ j. get_or masks' j 0 < 2 ^ length xs}
            (subst (λ (m : ℕ). m < 2 ^ length xs) (sym (get_or-set_same masks i own 0 in_masks))
            (xor_lt (length xs) mask (2 ^ i) (first_below xs rows masks i R x) (pow-lt h)))
            (λ j k. subst (λ (m : ℕ). m < 2 ^ length xs) (sym (get_or-set_other masks i j own 0 (omega arith))) (R.below j k));
      }
    where
      found : (y : ℕ) → Memᴰ y (take i xs) ⊎ Memᴰ y (x ∷ []) → Span word (take i rows ++ form ∷ []) y
      found y (inl m) = span_mono word (λ z k. Memᴰ.append_left (form ∷ []) k) (R.holds y m)
      found y (inr m) =
          mem_cons {P = Span word (take i rows ++ form ∷ [])} (next_span word (take i rows) x) (λ z k. absurd (Memᴰ.not-nil k)) y m

  pub tracking_next : (f m : ℕ) → f ≡ basis.reduce word (take i rows) (get_or xs i 0) → m ≡ taken (take i rows) (take i masks) (get_or xs i 0)
      → Tracking xs (set rows i f) (set masks i (bit_xor m (1 * 2 ^ i % 2 ^ 64))) (i + 1)
  tracking_next f m p q =
      subst (Tracking xs (set rows i f) (set masks i (bit_xor m (1 * 2 ^ i % 2 ^ 64)))) (sym (add-one i))
      (subst (λ (C : List ℕ). Tracking xs C (set masks i (bit_xor m (1 * 2 ^ i % 2 ^ 64))) (suc i)) (ap (set rows i) (sym p))
      (subst (λ (C : List ℕ). Tracking xs rows' C (suc i))
      (ap (set masks i) (ap₂ bit_xor (sym q) (sym (one_shift i (omega (arith, h, few)))))) next))

-- ---- what is left, and what was taken
module _ (xs : List ℕ) (e : Echelon) (R : Tracks xs e) (v : ℕ) where
  abbrev C : List ℕ
  C = take (length xs) e.rows

  abbrev row : ℕ
  row = taken C (take (length xs) e.masks) v

  names : basis.reduce word C v ≡ 0 → row_form xs row 0 ≡ v
  names z = sym (xor_zero_r (row_form xs row 0)) ∙ ap (bit_xor (row_form xs row 0)) (sym z) ∙ first_sum xs e.rows e.masks (length xs) R v

  pub rest_inside : (basis.reduce word (take (length xs) e.rows) v ≡ 0) ↔ Span word xs v
  rest_inside = (
    λ z. subst (Span word xs) (names z) (row_span xs row 0),
    λ s. (echelon_member word C R.echelon v).0 (span_bind word (λ x m. R.holds x (subst (Memᴰ x) (sym (take-length xs)) m)) s),
  )

  pub rest_row : Independent word xs → Span word xs v → taken (take (length xs) e.rows) (take (length xs) e.masks) v ≡ row_of xs v
  rest_row i s = row_only xs v row i (first_below xs e.rows e.masks (length xs) R v) (names (rest_inside.1 s))

  pub rest_test : inside word (take (length xs) e.rows) v ≡ inside word (basis.basis_of word xs) v
  unfolding inside
  rest_test = go (inside word C v) (inside word (basis.basis_of word xs) v) refl refl
    where
      to : inside word C v ≡ true → inside word (basis.basis_of word xs) v ≡ true
      to t =
          yes_inside word (basis.basis_of word xs) (basis_of_reduced word xs) v
          ((basis_of_span word xs v).1 (rest_inside.0 ((echelon_member word C R.echelon v).0 (inside_yes word C v t))))

      back : inside word (basis.basis_of word xs) v ≡ true → inside word C v ≡ true
      back t = ap is_zero (rest_inside.1 ((basis_of_span word xs v).0 (inside_yes word (basis.basis_of word xs) v t)))

      go : (a b : Bool) → inside word C v ≡ a → inside word (basis.basis_of word xs) v ≡ b → a ≡ b
      go true b p q = sym (to p) ∙ q
      go false true p q = sym p ∙ back q
      go false false p q = refl
