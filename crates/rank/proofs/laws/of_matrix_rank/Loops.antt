-- The loops that cut forms into rows, and those over generators and sums.
--   shorter            what is left after a row is less
--   lowest             the lowest row, as the code masks it
--   Cutting w f b rest == the basis b has some rows of f, and what is left has only rows of f: `cutting_start`, `cutting_next`, `cutting_end`
--   Checking w u f rest == each row of f is a multiple of u, or one of what is left: `checking_start`, `checking_next`, `checking_end`
--   fits_zero, fits_same  a row that is 0, or u, is a multiple of u
--   passing-start, passing-next, passing-end   the first i generators are products
--   single             at width 1 every form is a product: it is a column
--   summed_start, joined                       sums of the rows of a basis
-- Assumes nothing.
use Rattle.std.specs.Prelude.{◌≡◌, ◌⊎◌, ◌≢◌, ℕ, zero, suc, ◌+◌, ◌-◌, ◌*◌, ◌/◌, ◌%◌, ◌^◌, ◌<◌, ◌≤◌, take, get_or}
use Rattle.std.proofs.Math.Path.{refl, sym, ap}
use Rattle.std.proofs.Common.{◌∙◌, subst, mod-lt, arith, take-suc, take_all, get_or-take, pow_pos, shr-shr}
use Rattle.std.proofs.Math.Logic.{inl, inr}
use mathlib.Core.List.Memᴰ
use mathlib.Core.List.{List, [], ◌∷◌, ◌++◌, Memᴰ}
use Rattle.std.specs.Int.Bits.{bit_and, bit_xor}
use Rattle.std.proofs.lemmas.Nat.{and_mask, shr_le}
use Rattle.std.proofs.Math.ListN.{length}
use Rattle.linear.specs.Basis.{basis_of, insert, inserts, dim}
use Rattle.linear.specs.Span.{Span}
use Rattle.linear.specs.Word.{word}
use Rattle.linear.proofs.laws.Extension.{inserts_append}
use Rattle.linear.proofs.laws.Order.{mem_get_d}
use Rattle.linear.proofs.laws.Shift.{one_shift}
use Rattle.linear.specs.laws.Span.{cast, mem_cons, span_none, span_nul, span_head, span_mem, span_add}
use Rattle.bases.specs.Basis.{rows_of, Valid, Holds, rows_length}
use Rattle.bases.specs.declared.Basis.{Basis}
use Rattle.rank.specs.matrix_rank.Matrix.{row, Width, Multiples, Product, Products, Ranked, Summed}
use Rattle.rank.proofs.laws.of_matrix_rank.Matrix.{row_zero}

-- ---- the lowest row, and what is left
pub shorter : (w rest : ℕ) → Width w → rest ≢ 0 → rest / 2 ^ w < rest
shorter w rest W n =
    let e : rest / 2 ^ w ≡ rest / 2 ^ 1 / 2 ^ (w - 1) =
    ap (λ (k : ℕ). rest / 2 ^ k) (let q : w ≡ 1 + (w - 1) = omega (arith, W.some) in q) ∙ sym (shr-shr rest 1 (w - 1)) in
    omega (arith, e, shr_le (rest / 2 ^ 1) (w - 1), n)

pub lowest : (w rest : ℕ) → w < 64 → bit_and rest (1 * 2 ^ w % 2 ^ 64 - 1) ≡ rest % 2 ^ w
lowest w rest h = ap (λ (x : ℕ). bit_and rest (x - 1)) (one_shift w h) ∙ and_mask rest w

-- ---- the rows of a form, in a basis
pub record Cutting (w f : ℕ) (b : Basis) (rest : ℕ) : Type 0 where
  pub valid : Valid b
  pub rows : List ℕ
  pub each : (x : ℕ) → Memᴰ x rows → (i : ℕ) × (x ≡ row w f i)
  pub is : rows_of b ≡ basis_of word rows
  pub ahead : (j : ℕ) → (i : ℕ) × (row w rest j ≡ row w f i)

module _ (w f : ℕ) where
  pub cutting_start : (b : Basis) → Holds [] b → Cutting w f b f
  cutting_start b B =
      record { valid = B.valid; rows = []; each = λ x m. absurd (Memᴰ.not-nil m); is = B.is ∙ (unfold basis_of inserts in refl); ahead = λ j. (j, refl) }

  pub cutting_next : (b : Basis) (rest : ℕ) → Cutting w f b rest → (b' : Basis) → Holds (insert word (rows_of b) (rest % 2 ^ w)) b'
      → Cutting w f b' (rest / 2 ^ w)
  unfolding row basis_of inserts
  cutting_next b rest C b' B =
      record {
        valid = B.valid;
        rows = C.rows ++ (rest % 2 ^ w ∷ []);
        each = λ x m. at x (Memᴰ.append_cases C.rows m);
        is = B.is ∙ ap (λ (D : List ℕ). insert word D (rest % 2 ^ w)) C.is ∙ sym (inserts_append word [] [] C.rows (rest % 2 ^ w ∷ []) []);
        ahead = λ j. C.ahead (suc j);
      }
    where
      at : (x : ℕ) → Memᴰ x C.rows ⊎ Memᴰ x (rest % 2 ^ w ∷ []) → (i : ℕ) × (x ≡ row w f i)
      at x (inl m) = C.each x m
      at x (inr m) =
          mem_cons {P = λ y. (i : ℕ) × (y ≡ row w f i)} (C.ahead 0) (λ y k. absurd (Memᴰ.not-nil k)) x m

  pub cutting_end : (b : Basis) (rest : ℕ) → Cutting w f b rest → Ranked w f b.len
  cutting_end b rest C = record { rows = C.rows; each = C.each; size = unfold dim in ap length (sym C.is) ∙ rows_length b C.valid }

-- ---- one row's multiples
pub fits_zero : (u x : ℕ) → x ≡ 0 → Span word (u ∷ []) x
fits_zero u x e = span_none word e

pub fits_same : (u x : ℕ) → x ≡ u → Span word (u ∷ []) x
fits_same u x e = cast word e (span_head word u [])

abbrev pub Checking : (w u f rest : ℕ) → Type 0
Checking w u f rest = (i : ℕ) → Span word (u ∷ []) (row w f i) ⊎ ((j : ℕ) × (row w f i ≡ row w rest j))

module _ (w u f : ℕ) where
  pub checking_start : Checking w u f f
  checking_start i = inr (i, refl)

  pub checking_next : (rest : ℕ) → Checking w u f rest → Span word (u ∷ []) (rest % 2 ^ w) → Checking w u f (rest / 2 ^ w)
  unfolding row
  checking_next rest C s i = go (C i)
    where
      go : Span word (u ∷ []) (row w f i) ⊎ ((j : ℕ) × (row w f i ≡ row w rest j))
          → Span word (u ∷ []) (row w f i) ⊎ ((j : ℕ) × (row w f i ≡ row w (rest / 2 ^ w) j))
      go (inl t) = inl t
      go (inr (zero, e)) = inl (cast word e s)
      go (inr (suc j, e)) = inr (j, e)

  pub checking_end : (rest : ℕ) → Checking w u f rest → rest ≡ 0 → Multiples w u f
  checking_end rest C z i = go (C i)
    where
      go : Span word (u ∷ []) (row w f i) ⊎ ((j : ℕ) × (row w f i ≡ row w rest j)) → Span word (u ∷ []) (row w f i)
      go (inl t) = t
      go (inr (j, e)) = span_none word (e ∙ ap (λ (x : ℕ). row w x j) z ∙ row_zero w j)

-- ---- the generators
abbrev pub Passed : (w : ℕ) (gens : List ℕ) (i : ℕ) → Type 0
Passed w gens i = Products w (take i gens)

module _ (w : ℕ) (gens : List ℕ) where
  pub passed_start : Passed w gens 0
  passed_start g m = absurd (Memᴰ.not-nil m)

  pub passed_next : (i : ℕ) → Passed w gens i → i < length gens → Product w (get_or gens i 0) → Passed w gens (i + 1)
  passed_next i P h p g m = at g (Memᴰ.append_cases (take i gens) (subst (Memᴰ g) more m))
    where
      more : take (i + 1) gens ≡ take i gens ++ (get_or gens i 0 ∷ [])
      more = ap (λ (n : ℕ). take n gens) (let e : i + 1 ≡ suc i = omega arith in e) ∙ take-suc gens i 0 h

      at : (x : ℕ) → Memᴰ x (take i gens) ⊎ Memᴰ x (get_or gens i 0 ∷ []) → Product w x
      at x (inl k) = P x k
      at x (inr k) = mem_cons {P = Product w} p (λ y n. absurd (Memᴰ.not-nil n)) x k

  pub passed_end : (i : ℕ) → Passed w gens i → length gens ≤ i → Products w gens
  passed_end i P h = subst (Products w) (take_all i gens h) P

-- at width 1 each row is 0 or 1
pub single : (gens : List ℕ) → Products 1 gens
unfolding row
single gens g m = (1, λ i. at g i)
  where
    bit : (x : ℕ) → x < 2 → Span word (1 ∷ []) x
    bit zero h = span_nul word (1 ∷ [])
    bit (suc zero) h = span_head word 1 []
    bit (suc (suc x)) h = absurd (omega arith)

    at : (f i : ℕ) → Span word (1 ∷ []) (row 1 f i)
    at f zero = bit (f % 2 ^ 1) (mod-lt f (pow_pos 1))
    at f (suc i) = at (f / 2 ^ 1) i

-- ---- the sums
pub joined : (b : Basis) → Valid b → (sum i : ℕ) → i < b.len → Span word (rows_of b) sum → Span word (rows_of b) (bit_xor sum (get_or b.rows i 0))
joined b G sum i h s =
    span_add word s
    (cast word (sym (get_or-take b.len b.rows i 0 h)) (span_mem word (mem_get_d (rows_of b) i 0 (omega (arith, h, rows_length b G)))))

pub summed_start : (b : Basis) (w : ℕ) → Summed b w 0
summed_start b w =
    record {
      form = 0;
      sum = span_nul word (rows_of b);
      rank = record { rows = []; each = λ x m. absurd (Memᴰ.not-nil m); size = unfold dim basis_of inserts in refl };
    }
