-- One mask more in the table of a side.
--   numbered        the table may be sought in
--   mask_sought     what the search finds is the mask's slot
--   added_light, added_known, added_again, added_lone, added_new   the ways of `mask_adders`: fewer than two ones; in the table; without a slot, and after it
--                   again or not; new
--   counting_start, counting_entering, counting_next, counting_end   the loop of `side_adders`
-- Assumes nothing.
use Rattle.std.specs.Prelude.{◌≡◌, refl, ◌≢◌, Bool, true, false, List, ℕ, zero, suc, ◌+◌, ◌-◌, ◌*◌, ◌%◌, ◌<◌, ◌≤◌, eqb, length, get_or, set, drop, replicate}
use Rattle.std.proofs.Common.{sym, ap, ◌∙◌, subst, arith, length-set, get_or-set_same, get_or-set_other}
use Rattle.linear.specs.Select.{any_of}
use Rattle.kinds.specs.Limits.{most_products}
use Rattle.words.specs.laws.Blank.{zero_at, zero_length}
use Rattle.words.specs.lists.laws.Standing.{stands_at, stands_where}
use Rattle.words.specs.tables.Table.{slot_from, tries, Numbered}
use Rattle.words.specs.tables.laws.Seek.{either, apart, slot_owner, slot_kept, slot_own}
use Rattle.forms.specs.Weight.{weight}
use Rattle.formula_check.specs.sums.Sums.{side_adders}
use Rattle.forms.specs.laws.Weight.{weight_most}
use Rattle.formula_check.proofs.laws.of_sums.Sharing.{sides_known, sides_new, sides_light, sides_end}
use Rattle.formula_check.specs.sides.Sides.{mask_slots, mask_slot, InTable, Entered, Entering, MaskAdded, Counting}

pub numbered : (xs : List ℕ) (i : ℕ) (slots : List ℕ) → Entered xs i slots → Numbered slots xs
numbered xs i slots E q = at (get_or slots q 0) refl
  where
    at : (y : ℕ) → get_or slots q 0 ≡ y → y ≤ length xs
    at zero e = omega arith
    at (suc f) e = omega (arith, (E.numbers q f e).1)

pub mask_sought : (slots xs : List ℕ) (x from r : ℕ) → length slots ≡ mask_slots → from ≡ x % mask_slots
    → r ≡ slot_from (length slots) tries from slots xs x → r ≡ mask_slot slots xs x
unfolding mask_slot
mask_sought slots xs x from r whole e s =
    s ∙ ap (λ (n : ℕ). slot_from n tries from slots xs x) whole ∙ ap (λ (q : ℕ). slot_from mask_slots tries q slots xs x) e

owner : (slots xs : List ℕ) (x : ℕ) → length slots ≡ mask_slots → (f : ℕ) → get_or slots (mask_slot slots xs x) 0 ≡ suc f → get_or xs f 0 ≡ x
unfolding mask_slot
owner slots xs x whole f e = slot_owner mask_slots slots xs x whole tries (x % mask_slots) f e

below : (x : ℕ) → x % mask_slots < mask_slots
below x = omega arith

module _ (slots : List ℕ) (b n : ℕ) (free : get_or slots b 0 ≡ 0) (xs : List ℕ) (x : ℕ) where
  kept : (mask_slot slots xs x < mask_slots → get_or slots (mask_slot slots xs x) 0 ≢ 0) → mask_slot (set slots b n) xs x ≡ mask_slot slots xs x
  unfolding mask_slot
  kept h = slot_kept mask_slots slots b n free xs x tries (x % mask_slots) (below x) h

  own : b < length slots → b < mask_slots → get_or xs (n - 1) 0 ≡ x → mask_slot slots xs x ≡ b → mask_slot (set slots b n) xs x ≡ b
  unfolding mask_slot
  own within inside is e = slot_own mask_slots slots b n free xs x within inside is tries (x % mask_slots) e

module _ (xs : List ℕ) (i : ℕ) (slots : List ℕ) (G : Entering xs i slots) where
  abbrev pub x : ℕ
  x = get_or xs i 0

  abbrev pub slot : ℕ
  slot = mask_slot slots xs x

  abbrev pub stands : Bool
  stands = any_of (eqb x) (drop (i + 1) xs)

  -- the table as it is has mask i too
  lower : InTable slots xs x → Entered xs i slots
  lower h =
      record {
        whole = G.after.whole;
        numbers = λ q f e. let n = G.after.numbers q f e in (omega arith, n.1);
        each = λ j a b. either i j (λ e. subst (λ (k : ℕ). InTable slots xs (get_or xs k 0)) (sym e) h)
            (λ n. G.after.each j (omega arith) b);
      }

  -- what adds nothing, and what adds its own
  silent : side_adders (drop i xs) ≡ side_adders (drop (i + 1) xs) → Entered xs i slots → MaskAdded xs i slots 0
  silent e E = record { adds = omega arith; most = omega arith; table = E }

  pub added_light : weight 64 x < 2 → MaskAdded xs i slots 0
  added_light w = silent (sides_light xs i G.there (omega arith)) (lower (λ h. absurd (omega arith)))

  pub added_known : get_or slots slot 0 ≢ 0 → MaskAdded xs i slots 0
  added_known n = silent (sides_known xs i G.there again) (lower (λ h l. n))
    where
      at : (y : ℕ) → get_or slots slot 0 ≡ y → stands ≡ true
      at zero e = absurd (n e)
      at (suc f) e =
          let p = G.after.numbers slot f e in
          stands_at x xs (i + 1) f p.0 p.1 (owner slots xs x G.after.whole f e)

      again : stands ≡ true
      again = at (get_or slots slot 0) refl

  pub added_again : slot ≡ mask_slots → stands ≡ true → MaskAdded xs i slots 0
  added_again e s = silent (sides_known xs i G.there s) (lower (λ h l. absurd (omega (arith, e))))

  loud : (slots' : List ℕ) (r : ℕ) → r ≡ weight 64 x - 1 → stands ≡ false → Entered xs i slots' → MaskAdded xs i slots' r
  loud slots' r w s E = let n = sides_new xs i G.there s in let m = weight_most 64 x in record { adds = omega arith; most = omega arith; table = E }

  pub added_lone : slot ≡ mask_slots → stands ≡ false → (r : ℕ) → r ≡ weight 64 x - 1 → MaskAdded xs i slots r
  added_lone e s r w = loud slots r w s (lower (λ h l. absurd (omega (arith, e))))

  module _ (h : 2 ≤ weight 64 x) (l : slot < mask_slots) (z : get_or slots slot 0 ≡ 0) where
    -- a mask whose slot is free does not stand after itself
    lone : (t : Bool) → stands ≡ t → t ≡ false
    lone false e = refl
    lone true e =
        let w = stands_where x xs (i + 1) e in
        let y : get_or xs w.0 0 ≡ x = w.3 in
        absurd
        (G.after.each w.0 w.1 w.2 (subst (λ (k : ℕ). 2 ≤ weight 64 k) (sym y) h) (subst (λ (k : ℕ). mask_slot slots xs k < mask_slots) (sym y) l)
        (ap (λ (k : ℕ). get_or slots (mask_slot slots xs k) 0) y ∙ z))

    within : slot < length slots
    within = omega (arith, G.after.whole)

    abbrev pub slots' : List ℕ
    slots' = set slots slot (i + 1)

    mine : get_or slots' (mask_slot slots' xs x) 0 ≡ i + 1
    mine =
        ap (λ (k : ℕ). get_or slots' k 0) (own slots slot (i + 1) z xs x within l (ap (λ (k : ℕ). get_or xs k 0) (let e : i + 1 - 1 ≡ i = omega arith in e)) refl)
        ∙ get_or-set_same slots slot (i + 1) 0 within

    others : (j : ℕ) → i + 1 ≤ j → j < length xs → InTable slots' xs (get_or xs j 0)
    others j a b w k =
        let used = G.after.each j a b w in
        let stays = kept slots slot (i + 1) z xs (get_or xs j 0) used in
        let u = used (subst (λ (p : ℕ). p < mask_slots) stays k) in
        λ e. u (sym (apart slots slot (i + 1) z (mask_slot slots xs (get_or xs j 0)) u) ∙ ap (λ (p : ℕ). get_or slots' p 0) (sym stays) ∙ e)

    numbers' : (q f : ℕ) → get_or slots' q 0 ≡ suc f → (i ≤ f) × (f < length xs)
    numbers' q f e =
        either slot q
        (λ y. let m : suc f ≡ i + 1 = sym e ∙ ap (λ (k : ℕ). get_or slots' k 0) y ∙ get_or-set_same slots slot (i + 1) 0 within in
        (omega arith, omega (arith, G.there)))
        (λ n. let p = G.after.numbers q f (sym (get_or-set_other slots slot q (i + 1) 0 n) ∙ e) in (omega arith, p.1))

    pub added_new : (r : ℕ) → r ≡ weight 64 x - 1 → MaskAdded xs i slots' r
    added_new r w =
        loud slots' r w (lone stands refl)
        (record {
          whole = length-set slots slot (i + 1) ∙ G.after.whole;
          numbers = numbers';
          each = λ j a b. either i j (λ e. subst (λ (k : ℕ). InTable slots' xs (get_or xs k 0)) (sym e) (λ g m y. let o = mine in omega arith))
              (λ n. others j (omega arith) b);
        })

-- ---- the loop
pub counting_start : (xs slots : List ℕ) → slots ≡ replicate mask_slots 0 → Counting xs (length xs) slots 0
counting_start xs slots e =
    record {
      within = omega arith;
      is = sym (sides_end xs (length xs) (omega arith));
      most = omega arith;
      table =
          record {
            whole = zero_length mask_slots slots e;
            numbers = λ q f u. absurd (let z = zero_at mask_slots slots e q in omega arith);
            each = λ j a b w l. absurd (omega arith);
          };
    }

module _ (xs : List ℕ) (i : ℕ) (slots : List ℕ) (s : ℕ) (C : Counting xs i slots s) where
  module _ (more : 0 < i) where
    again : i - 1 + 1 ≡ i
    again = omega arith

    pub counting_entering : length xs ≤ most_products → Entering xs (i - 1) slots
    counting_entering few =
        record { there = omega (arith, C.within); few = few; after = subst (λ (k : ℕ). Entered xs k slots) (sym again) C.table }

    pub counting_next : (slots' : List ℕ) (r : ℕ) → MaskAdded xs (i - 1) slots' r → Counting xs (i - 1) slots' (s + r)
    counting_next slots' r A =
        let a : r + side_adders (drop (i - 1 + 1) xs) ≡ side_adders (drop (i - 1) xs) = A.adds in
        let b : side_adders (drop (i - 1 + 1) xs) ≡ side_adders (drop i xs) = ap (λ (k : ℕ). side_adders (drop k xs)) again in
        let l = C.within in
        let m = C.most in
        let n = A.most in
        record { within = omega arith; is = omega (arith, C.is); most = omega arith; table = A.table }

  pub counting_end : i ≤ 0 → length xs ≤ most_products → (s ≡ side_adders xs) × (s ≤ most_products * 64)
  counting_end z few = (C.is ∙ ap (λ (k : ℕ). side_adders (drop k xs)) (let e : i ≡ 0 = omega arith in e), omega (arith, C.most))
