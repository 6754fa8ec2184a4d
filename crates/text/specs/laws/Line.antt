-- Lines and fields.
--   till_place, till_le                        the first c, as the library says where it stands
--   cut_some, cut_none, cut_place              the cut goes by that number
--   name_cut .. field_is                       the cases of a line and of a field
--   part, read_at, fits_at, rest_at, field_at  a reading of the part of s from u on, and what it leaves
-- Assumes nothing.
use Rattle.std.specs.Prelude.{ℕ, suc, ◌+◌, ◌-◌, ◌<◌, ◌≤◌, ◌≡◌, refl, List, [], ◌∷◌, Bool, true, false, cond, length, take, drop, eqb, not, position, Option, None, Some}
use Rattle.std.proofs.Common.{ap, ◌∙◌, arith, add-one, length-drop, drop-drop, lt-ltb, le-ltb}
use Rattle.std.specs.List.{position_or_len}
use Rattle.std.proofs.Math.Decide.{dec_le}
use borrow.Author.Rules.{part_to_end}
use Rattle.kinds.specs.Kinds.{same}
use Rattle.text.specs.Reading.{◌>>=◌}
use Rattle.text.specs.Numeral.{numeral}
use Rattle.text.specs.Line.{till, cut, LF, name_line, field}
use Rattle.text.specs.Views.{seen_cut, bytes_cut}

-- ---- the first c
pub till_place : (c : ℕ) (s : List ℕ) → till c s ≡ position_or_len (λ b. eqb b c) s
unfolding till
till_place c [] = refl
till_place c (b ∷ s) = go (eqb b c) (till_place c s)
  where
    go : (t : Bool) → till c s ≡ position_or_len (λ b. eqb b c) s → cond t 0 (suc (till c s)) ≡ cond (not t) (1 + position_or_len (λ b. eqb b c) s) 0
    go true e = refl
    go false e = omega arith

pub till_le : (c : ℕ) (s : List ℕ) → till c s ≤ length s
unfolding till
till_le c [] = omega arith
till_le c (b ∷ s) = go (eqb b c) (till_le c s)
  where
    go : (t : Bool) → till c s ≤ length s → cond t 0 (suc (till c s)) ≤ suc (length s)
    go true h = omega arith
    go false h = omega arith

-- cutting goes by that number
pub cut_some : (c : ℕ) (s : List ℕ) → till c s < length s → cut c s ≡ Some (take (till c s) s, drop (till c s + 1) s)
unfolding till cut
cut_some c [] h = absurd (omega arith)
cut_some c (b ∷ s) h = go (eqb b c) (cut_some c s) h
  where
    go : (t : Bool) → (till c s < length s → cut c s ≡ Some (take (till c s) s, drop (till c s + 1) s))
        → cond t 0 (suc (till c s)) < suc (length s)
        → cond {A = Option (List ℕ × List ℕ)} t (Some ([], s)) (cut c s >>= λ p. Some (b ∷ p.0, p.1)) ≡ Some (take (cond t 0 (suc (till c s))) (b ∷ s), drop (cond t 0 (suc (till c s)) + 1) (b ∷ s))
    go true ih l = refl
    go false ih l = rw (ih (omega arith), add-one, add-one)

pub cut_none : (c : ℕ) (s : List ℕ) → till c s ≡ length s → cut c s ≡ None
unfolding till cut
cut_none c [] h = refl
cut_none c (b ∷ s) h = go (eqb b c) (cut_none c s) h
  where
    go : (t : Bool) → (till c s ≡ length s → cut c s ≡ None)
        → cond t 0 (suc (till c s)) ≡ suc (length s)
        → cond {A = Option (List ℕ × List ℕ)} t (Some ([], s)) (cut c s >>= λ p. Some (b ∷ p.0, p.1)) ≡ None
    go true ih l = absurd (omega arith)
    go false ih l = rw (ih (omega arith))

-- ---- the cut, by the place of the first c
pub cut_place : (c : ℕ) (s : List ℕ) (r : Option ℕ) → r ≡ position (λ b. eqb b c) s → (cut c s ≡ seen_cut s r) × (bytes_cut r ≤ length s)
cut_place c s r e = rw e (go (dec_le (suc (till c s)) (length s)))
  where
    go : Dec (suc (till c s) ≤ length s) → (cut c s ≡ seen_cut s (position (λ b. eqb b c) s)) × (bytes_cut (position (λ b. eqb b c) s) ≤ length s)
    go (yes h) = rw (← till_place c s, lt-ltb (till c s) (length s) h) (cut_some c s h, omega arith)
    go (no h) = rw (← till_place c s, le-ltb (till c s) (length s) (omega arith)) (cut_none c s (omega (arith, till_le c s)), omega arith)

-- ---- fixed lines
pub name_cut : (n s : List ℕ) → cut LF s ≡ None → name_line n s ≡ None
unfolding name_line
name_cut n s e = rw e

pub name_other : (n s x t : List ℕ) → cut LF s ≡ Some (x, t) → same x n ≡ false → name_line n s ≡ None
unfolding name_line
name_other n s x t e h = rw (e, h)

pub name_is : (n s x t : List ℕ) → cut LF s ≡ Some (x, t) → same x n ≡ true → name_line n s ≡ Some t
unfolding name_line
name_is n s x t e h = rw (e, h)

-- ---- fields
module _ (base most c : ℕ) where
  pub field_cut : (s : List ℕ) → cut c s ≡ None → field base most c s ≡ None
  unfolding field
  field_cut s e = rw e

  pub field_not : (s x t : List ℕ) → cut c s ≡ Some (x, t) → numeral base most x ≡ None → field base most c s ≡ None
  unfolding field
  field_not s x t e h = rw (e, h)

  pub field_is : (s x t : List ℕ) (v : ℕ) → cut c s ≡ Some (x, t) → numeral base most x ≡ Some v → field base most c s ≡ Some (v, t)
  unfolding field
  field_is s x t v e h = rw (e, h)

-- ---- the part of s from u on, as the code lends it
pub part : (s : List ℕ) (u : ℕ) → take (length s - u) (drop u s) ≡ drop u s
part s u = part_to_end s u

pub read_at : {A : Type 0} (f : List ℕ → A) (s : List ℕ) (u : ℕ) (t : A) → f (take (length s - u) (drop u s)) ≡ t → f (drop u s) ≡ t
read_at f s u t e = rw (part_to_end s u) at e

-- w bytes of the part are within the whole
pub fits_at : (s : List ℕ) (u w : ℕ) → u ≤ length s → w ≤ length (take (length s - u) (drop u s)) → u + w ≤ length s
fits_at s u w h l =
    let e : w ≤ length (drop u s) = rw (part_to_end s u) at l in
    omega (arith, length-drop u s)

-- what is left behind the part's first w bytes
pub rest_at : (s : List ℕ) (u w : ℕ) → drop w (take (length s - u) (drop u s)) ≡ drop (u + w) s
rest_at s u w = rw (part_to_end s u) (drop-drop w u s)

-- what is read from the part, and what is left
pub field_at : {A : Type 0} (f : List ℕ → Option (A × List ℕ)) (s : List ℕ) (u : ℕ) (v : A) (w : ℕ) → f (take (length s - u) (drop u s)) ≡ Some (v, drop w (take (length s - u) (drop u s)))
    → f (drop u s) ≡ Some (v, drop (u + w) s)
field_at f s u v w e = read_at f s u _ e ∙ ap (λ (x : List ℕ). Some (v, x)) (rest_at s u w)
