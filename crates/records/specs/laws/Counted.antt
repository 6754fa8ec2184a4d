-- One record more, counted: the state that `note` says, in two cases.
--   counted_full, counted_short, counted_fits   the counts, case by case
--   kept_unshown   it is not shown: the buffer stays
--   kept_room      it is shown: it fits
--   kept_shown     it is shown: it is written at the first free place
-- Assumes nothing.
use Rattle.std.specs.Prelude.{◌≡◌, refl, ◌≢◌, Bool, true, false, List, ℕ, ◌+◌, ◌<◌, ◌≤◌, length, eqb, leb}
use Rattle.std.proofs.Common.{sym, ap, ap₂, ◌∙◌, arith}
use Rattle.std.proofs.Math.Seq.{paste}
use borrow.Author.Tests.{eq-eqb, ne_eqb, eqb-true, eqb-false, le-leb, lt-leb, leb-true, leb-false}
use Rattle.records.specs.declared.Tally.{Tally}
use Rattle.records.specs.Records.{note, Sane}
use Rattle.records.specs.Keep.{state_of, Counting, tallied}
use Rattle.records.specs.laws.Records.{note_full, note_fits, note_short}

module _ (limit : ℕ) (t : Tally) (size room : ℕ) where
  pub counted_full : t.found ≡ limit → t ≡ tallied limit t size room
  unfolding tallied
  counted_full e = simp (eq-eqb t.found limit e)

  pub counted_short : t.found ≢ limit → room < t.at + size → record { found = t.found + 1; shown = t.shown; at = t.at } ≡ tallied limit t size room
  unfolding tallied
  counted_short n h = simp (ne_eqb t.found limit n, lt-leb (t.at + size) room h)

  pub counted_fits : t.found ≢ limit → t.at + size ≤ room → record { found = t.found + 1; shown = t.shown + 1; at = t.at + size } ≡ tallied limit t size room
  unfolding tallied
  counted_fits n h = simp (ne_eqb t.found limit n, le-leb (t.at + size) room h)

pub sane_counting : (limit : ℕ) (t : Tally) (out : List ℕ) → Sane limit (state_of t out) → Counting t limit (length out)
sane_counting limit t out S = record { limited = S.limited; fewer = S.fewer; inside = S.inside }

-- which of the three cases it is
data Case (limit : ℕ) (t : Tally) (size room : ℕ) (r : Tally) : Type 0 where
  full : t.found ≡ limit → r ≡ t → Case limit t size room r
  short : t.found ≢ limit → room < t.at + size → r ≡ record { found = t.found + 1; shown = t.shown; at = t.at } → Case limit t size room r
  fits : t.found ≢ limit → t.at + size ≤ room → r ≡ record { found = t.found + 1; shown = t.shown + 1; at = t.at + size } → Case limit t size room r

case : (limit : ℕ) (t : Tally) (size room : ℕ) (r : Tally) → r ≡ tallied limit t size room → Case limit t size room r
case limit t size room r q = go (eqb t.found limit) refl (leb (t.at + size) room) refl
  where
    go : (a : Bool) → eqb t.found limit ≡ a → (b : Bool) → leb (t.at + size) room ≡ b → Case limit t size room r
    go true e b f = let h = eqb-true t.found limit e in full h (q ∙ sym (counted_full limit t size room h))
    go false e true f =
        let n = eqb-false t.found limit e in
        let h = leb-true (t.at + size) room f in
        fits n h (q ∙ sym (counted_fits limit t size room n h))
    go false e false f =
        let n = eqb-false t.found limit e in
        let h = leb-false (t.at + size) room f in
        short n h (q ∙ sym (counted_short limit t size room n h))

module _ (limit : ℕ) (t : Tally) (size : ℕ) (out rec : List ℕ) (r : Tally) (l : length rec ≡ size) (q : r ≡ tallied limit t size (length out)) where
  pub kept_unshown : r.shown ≡ t.shown → state_of r out ≡ note limit (state_of t out) rec
  kept_unshown e = go (case limit t size (length out) r q)
    where
      go : Case limit t size (length out) r → state_of r out ≡ note limit (state_of t out) rec
      go (full h p) = ap (λ (x : Tally). state_of x out) p ∙ sym (note_full limit (state_of t out) rec h)
      go (short n h p) = ap (λ (x : Tally). state_of x out) p ∙ sym (note_short limit (state_of t out) rec n (omega (arith, h, l)))
      go (fits n h p) = absurd (omega (arith, e, ap (λ (x : Tally). x.shown) p))

  module _ (d : r.shown ≢ t.shown) where
    pub kept_room : t.at + size ≤ length out
    kept_room = go (case limit t size (length out) r q)
      where
        go : Case limit t size (length out) r → t.at + size ≤ length out
        go (full h p) = absurd (d (ap (λ (x : Tally). x.shown) p))
        go (short n h p) = absurd (d (ap (λ (x : Tally). x.shown) p))
        go (fits n h p) = h

    pub kept_shown : (last : List ℕ) → last ≡ paste out t.at rec size → state_of r last ≡ note limit (state_of t out) rec
    kept_shown last z = go (case limit t size (length out) r q)
      where
        go : Case limit t size (length out) r → state_of r last ≡ note limit (state_of t out) rec
        go (full h p) = absurd (d (ap (λ (x : Tally). x.shown) p))
        go (short n h p) = absurd (d (ap (λ (x : Tally). x.shown) p))
        go (fits n h p) =
            ap₂ (λ (x : Tally) (y : List ℕ). state_of x y) p z
            ∙ ap (λ (k : ℕ). record { found = t.found + 1; shown = t.shown + 1; at = t.at + k; buf = paste out t.at rec k }) (sym l)
            ∙ sym (note_fits limit (state_of t out) rec n (omega (arith, h, l)))
