-- The flags, number by number: `FlaggedBefore h i flags` holds at every i on the way to start.
--   flag_start            none is flagged
--   flag_on, flag_off     one number further: one that is flagged, and one that isn't
-- Assumes nothing.
use Rattle.std.specs.Prelude.{◌≡◌, ◌≢◌, List, ℕ, ◌+◌, ◌<◌, get_or, set, replicate}
use Rattle.std.proofs.Common.{sym, ◌∙◌, subst, arith, length-set, get_or-set_other}
use Rattle.std.proofs.Math.Decide.{ℕ_discrete}
use Rattle.words.specs.laws.Blank.{zero_at, zero_length}
use Rattle.sieve.specs.dead_numbers.Dead.{FlaggedBefore}
use Rattle.residues.specs.Room.{search_room}

pub flag_start : (h flags : List ℕ) → flags ≡ replicate search_room 0 → FlaggedBefore h 0 flags
flag_start h flags e =
    record {
      whole = zero_length search_room flags e;
      only = λ i n. absurd (n (zero_at search_room flags e i));
    }

module _ (h : List ℕ) (i : ℕ) (flags : List ℕ) (F : FlaggedBefore h i flags) where
  pub flag_off : FlaggedBefore h (i + 1) flags
  flag_off = record { whole = F.whole; only = λ j n. let o = F.only j n in (omega (arith, o.0), o.1) }

  pub flag_on : get_or h i 0 ≢ 0 → FlaggedBefore h (i + 1) (set flags i 1)
  flag_on new = record { whole = length-set flags i 1 ∙ F.whole; only = λ j n. go j n (ℕ_discrete j i) }
    where
      go : (j : ℕ) → get_or (set flags i 1) j 0 ≢ 0 → Dec (j ≡ i) → (j < i + 1) × (get_or h j 0 ≢ 0)
      go j n (yes e) = (omega arith, subst (λ (x : ℕ). get_or h x 0 ≢ 0) (sym e) new)
      go j n (no e) = flag_off.only j (λ z. n (get_or-set_other flags i j 1 0 e ∙ z))
