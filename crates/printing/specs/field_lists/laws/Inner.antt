-- Inner lists, number by number.
--   Asked xs base most at == a base from 2 to 16, at most 20 digits, and places that are words
--   Spacing ..            == the first i numbers stand in the buffer
-- Assumes nothing.
use Rattle.std.specs.Prelude.{ℕ, zero, suc, ◌+◌, ◌-◌, ◌*◌, ◌<◌, ◌≤◌, ◌≡◌, refl, List, [], ◌∷◌, ◌++◌, length, get_or, take, drop, set}
use Rattle.std.proofs.Common.{sym, ap, ◌∙◌, subst, append-nil, append_assoc, add-one, take_all}
use native.Mathlib.Omega.{arith}
use Rattle.std.proofs.lemmas.List.Edits.{sets}
use borrow.Author.Rules.{part_to_end}
use Rattle.printing.specs.Print.{numeral_text}
use Rattle.printing.specs.laws.Print.{printed_fits}
use Rattle.printing.specs.fields.Piece.{Piece}
use Rattle.printing.specs.fields.laws.Pieces.{Put, piece, piece_then}
use Rattle.printing.specs.field_lists.Inner.{spaced_text, inner_text}

spaced_snoc : (base most : ℕ) (xs : List ℕ) (y : ℕ) → spaced_text base most (xs ++ y ∷ []) ≡ spaced_text base most xs ++ (32 ∷ numeral_text base most y)
unfolding spaced_text
spaced_snoc base most [] y = append-nil (32 ∷ numeral_text base most y)
spaced_snoc base most (x ∷ xs) y =
    ap (λ (r : List ℕ). (32 ∷ numeral_text base most x) ++ r) (spaced_snoc base most xs y) ∙ sym (append_assoc (32 ∷ numeral_text base most x) (spaced_text base most xs) (32 ∷ numeral_text base most y))

take_next : (xs : List ℕ) (i : ℕ) → i < length xs → take (i + 1) xs ≡ take i xs ++ get_or xs i 0 ∷ []
take_next xs i h = ap (λ (k : ℕ). take k xs) (let e : i + 1 ≡ suc i = omega arith in e) ∙ go xs i h
  where
    go : (l : List ℕ) (j : ℕ) → j < length l → take (suc j) l ≡ take j l ++ get_or l j 0 ∷ []
    go [] j k = absurd (omega arith)
    go (x ∷ l) zero k = refl
    go (x ∷ l) (suc j) k = ap (λ (r : List ℕ). x ∷ r) (go l j (omega arith))

pub record Spacing (xs : List ℕ) (base most : ℕ) (d : List ℕ) (at : ℕ) (out : List ℕ) (e i : ℕ) : Type 0 where
  pub within : i ≤ length xs
  pub same : length out ≡ length d
  pub is : Piece d at (spaced_text base most (take i xs)) (21 * i) out e

-- a space and a number
one_put : (base most n at e : ℕ) (d d₁ d₂ : List ℕ) → most ≤ 20 → d₁ ≡ set d at 32 → Put d₁ (at + 1) (numeral_text base most n) d₂ e → Piece d at (32 ∷ numeral_text base most n) 21 d₂ e
one_put base most n at e d d₁ d₂ m h p =
    record {
      after = omega (arith, p.0);
      holds = p.1 ∙ rw (h, add-one at);
      most = omega (arith, printed_fits base most n, m);
    }

module _ (xs : List ℕ) (base most : ℕ) (d : List ℕ) (at : ℕ) where
  pub spacing_start : Spacing xs base most d at d at 0
  spacing_start = record { within = omega arith; same = refl; is = (unfold spaced_text in record { after = omega arith; holds = refl; most = omega arith }) }

  pub spacing_next : (out out₁ out₂ : List ℕ) (e f i : ℕ) → Spacing xs base most d at out e i → i < length xs → most ≤ 20 → out₁ ≡ set out e 32
      → Put out₁ (e + 1) (numeral_text base most (get_or xs i 0)) out₂ f → length out₂ ≡ length out → Spacing xs base most d at out₂ f (i + 1)
  spacing_next out out₁ out₂ e f i S h m p q l =
      let P = piece_then S.is (one_put base most (get_or xs i 0) e f out out₁ out₂ m p q) in
      record {
        within = omega arith;
        same = l ∙ S.same;
        is =
            record {
              after = P.after ∙ ap (λ (t : List ℕ). at + length t) (sym text);
              holds = P.holds ∙ ap (sets d at) (sym text);
              most = subst (λ (t : List ℕ). length t ≤ 21 * (i + 1)) (sym text) (let z = P.most in omega arith);
            };
      }
    where
      text : spaced_text base most (take (i + 1) xs) ≡ spaced_text base most (take i xs) ++ (32 ∷ numeral_text base most (get_or xs i 0))
      text = ap (spaced_text base most) (take_next xs i h) ∙ spaced_snoc base most (take i xs) (get_or xs i 0)

  pub spacing_end : (out : List ℕ) (e i : ℕ) → Spacing xs base most d at out e i → length xs ≤ i → Piece d at (spaced_text base most xs) (21 * length xs) out e
  spacing_end out e i S h =
      let t : take i xs ≡ xs = take_all i xs h in
      let n : i ≡ length xs = (let w = S.within in omega arith) in
      let P = S.is in
      record {
        after = P.after ∙ ap (λ (l : List ℕ). at + length (spaced_text base most l)) t;
        holds = P.holds ∙ ap (λ (l : List ℕ). sets d at (spaced_text base most l)) t;
        most = subst (λ (l : List ℕ). length (spaced_text base most l) ≤ 21 * length xs) t (let z = P.most in let w = ap (λ (k : ℕ). 21 * k) n in omega arith);
      }

-- ---- the whole list
pub inner_none : (xs : List ℕ) (base most at e : ℕ) (d d₁ : List ℕ) → length xs ≡ 0 → Put d at (45 ∷ []) d₁ e → Piece d at (inner_text base most xs) (21 * length xs + 1) d₁ e
unfolding inner_text
inner_none [] base most at e d d₁ z p = piece d at (45 ∷ []) 1 d₁ e p (omega arith)
inner_none (x ∷ xs) base most at e d d₁ z p = absurd (omega arith)

pub inner_some : (xs : List ℕ) (base most at a e : ℕ) (d d₁ d₂ : List ℕ) → (length xs ≡ 0 → ⊥) → most ≤ 20 → Put d at (numeral_text base most (get_or xs 0 0)) d₁ a
    → Piece d₁ a (spaced_text base most (take (length xs - 1) (drop 1 xs))) (21 * length (take (length xs - 1) (drop 1 xs))) d₂ e → Piece d at (inner_text base most xs) (21 * length xs + 1) d₂ e
unfolding inner_text
inner_some [] base most at a e d d₁ d₂ n m p s = absurd (n refl)
inner_some (x ∷ xs) base most at a e d d₁ d₂ n m p s =
    let t : take (length (x ∷ xs) - 1) xs ≡ xs = part_to_end (x ∷ xs) 1 in
    let s' : Piece d₁ a (spaced_text base most xs) (21 * length xs) d₂ e = subst (λ (l : List ℕ). Piece d₁ a (spaced_text base most l) (21 * length l) d₂ e) t s in
    let P = piece_then (piece d at (numeral_text base most x) 20 d₁ a p (omega (arith, printed_fits base most x, m))) s' in
    record { after = P.after; holds = P.holds; most = (let z = P.most in omega arith) }
