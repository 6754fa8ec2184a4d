-- The values of numbers, number by number.
--   Valuing                                       == the numbers from start on and below i have their values, those from i on none
--   valuing_start, valuing_skip, valuing_put, valuing_end   none yet; a number without a value; one with a value; all
-- Assumes nothing.
use Rattle.std.specs.Prelude.{◌≡◌, ◌≢◌, ◌⊎◌, List, ℕ, ◌+◌, ◌<◌, ◌≤◌, length, get_or, set, replicate}
use Rattle.std.proofs.Common.{sym, ap, ◌∙◌, subst, ⊎_elim, arith, length-set, get_or-set_same, get_or-set_other}
use Rattle.words.specs.laws.Blank.{zero_at, zero_length}
use Rattle.words.specs.tables.laws.Seek.{either}
use Rattle.relations.specs.pairs.Pairs.{Values}
use Rattle.residues.specs.Room.{search_room}

pub record Valuing (d : List ℕ) (start : ℕ) (w gone : List ℕ) (i : ℕ) (v : List ℕ) : Type 0 where
  pub to : i ≤ length d
  pub whole : length v ≡ search_room
  pub is : (k : ℕ) → start ≤ k → k < i → get_or w k 0 ≡ 1 → get_or gone k 0 ≡ 0 → get_or v k 0 ≡ get_or d k 0
  pub none : (k : ℕ) → i ≤ k → get_or v k 0 ≡ 0

module _ (d : List ℕ) (start : ℕ) (w gone : List ℕ) where
  pub valuing_start : (v : List ℕ) → start ≤ length d → v ≡ replicate search_room 0 → Valuing d start w gone start v
  valuing_start v l e =
      record {
        to = l;
        whole = zero_length search_room v e;
        is = λ k a b. absurd (omega arith);
        none = λ k a. zero_at search_room v e k;
      }

  module _ (i : ℕ) (v : List ℕ) (A : Valuing d start w gone i v) where
    pub valuing_skip : i < length d → (get_or w i 0 ≢ 1) ⊎ (get_or gone i 0 ≢ 0) → Valuing d start w gone (i + 1) v
    valuing_skip l why =
        record {
          to = omega arith;
          whole = A.whole;
          is = λ k a b one on. either i k
              (λ e. absurd (⊎_elim (λ n. n (ap (λ (m : ℕ). get_or w m 0) (sym e) ∙ one)) (λ n. n (ap (λ (m : ℕ). get_or gone m 0) (sym e) ∙ on)) why))
              (λ n. A.is k a (omega arith) one on);
          none = λ k a. A.none k (omega arith);
        }

    pub valuing_put : i < length d → length d ≤ search_room → Valuing d start w gone (i + 1) (set v i (get_or d i 0))
    valuing_put l few =
        record {
          to = omega arith;
          whole = length-set v i (get_or d i 0) ∙ A.whole;
          is = λ k a b one on. either i k
              (λ e. subst (λ (m : ℕ). get_or (set v i (get_or d i 0)) m 0 ≡ get_or d m 0) (sym e)
              (get_or-set_same v i (get_or d i 0) 0 (omega (arith, A.whole))))
              (λ n. get_or-set_other v i k (get_or d i 0) 0 n ∙ A.is k a (omega arith) one on);
          none = λ k a. get_or-set_other v i k (get_or d i 0) 0 (λ e. omega arith) ∙ A.none k (omega arith);
        }

    pub valuing_end : length d ≤ i → Values d start w gone v
    valuing_end l =
        record {
          whole = A.whole;
          is = λ k a b one on. A.is k a (omega arith) one on;
          none = λ k a. A.none k (omega (arith, A.to));
        }
