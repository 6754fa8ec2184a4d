-- The pair of a relation in the table of its block.
--   first_number, second_number   the two numbers of the pair at a place, back from it
--   relation_stored               the first two numbers of a relation are stored in the bucket of the sum of the other two
--   relation_match                and are a match for them
-- Assumes nothing.
use Rattle.std.specs.Prelude.{◌≡◌, ◌≢◌, List, ℕ, ◌+◌, ◌-◌, ◌*◌, ◌/◌, ◌<◌, ◌≤◌, length, get_or}
use Rattle.std.proofs.Common.{sym, ap, ap₂, ◌∙◌, subst, arith}
use Rattle.std.proofs.Math.Arith.{digits_div, digits_mod}
use Rattle.std.specs.Int.Bits.{bit_xor}
use Rattle.linear.specs.Basis.{reduce}
use Rattle.linear.specs.Word.{word}
use Rattle.residues.specs.Room.{search_room}
use Rattle.relations.specs.Relations.{Relation}
use Rattle.relations.specs.pairs.Bucket.{bucket_of}
use Rattle.relations.specs.pairs.Pairs.{block_size, first_of, second_of, place_of, Stored, Match}

module _ (base i j : ℕ) (low : base ≤ i) (l : j < search_room) where
  pub first_number : first_of base (place_of base i j) ≡ i
  first_number = let e : ((i - base) * 4096 + j) / 4096 ≡ i - base = digits_div (i - base) l in omega arith

  pub second_number : second_of (place_of base i j) ≡ j
  second_number = digits_mod (i - base) l

module _ (gens s v : List ℕ) (base i j g h : ℕ) (few : length gens ≤ search_room) (low : base ≤ i) (R : Relation gens s v (length gens) i j g h) where
  abbrev x : ℕ
  x = place_of base i j

  j_room : j < search_room
  j_room = omega (arith, R.jg, R.gh, R.hn)

  first : first_of base x ≡ i
  first = first_number base i j low j_room

  second : second_of x ≡ j
  second = second_number base i j low j_room

  -- the sum of two words, each by its number
  sum_of : (w : List ℕ) → bit_xor (get_or w (first_of base x) 0) (get_or w (second_of x) 0) ≡ bit_xor (get_or w i 0) (get_or w j 0)
  sum_of w = ap₂ (λ (a b : ℕ). bit_xor (get_or w a 0) (get_or w b 0)) first second

  pub relation_stored : i < base + block_size → Stored v (length gens) base (bucket_of (bit_xor (get_or v g 0) (get_or v h 0))) x
  relation_stored high =
      record {
        room = omega (arith, j_room);
        rising = omega (arith, first, second, R.ij);
        below = omega (arith, second, R.jg, R.gh, R.hn);
        first = subst (λ (a : ℕ). get_or v a 0 ≢ 0) (sym first) R.first;
        second = subst (λ (a : ℕ). get_or v a 0 ≢ 0) (sym second) R.second;
        bucket = ap bucket_of (sum_of v ∙ R.sum);
      }

  pub relation_match : Match gens s v base g (bit_xor (get_or v g 0) (get_or v h 0)) (bit_xor (get_or gens g 0) (get_or gens h 0)) x
  relation_match =
      record {
        before = omega (arith, second, R.jg);
        sum = sum_of v ∙ R.sum;
        free = subst (λ (a : ℕ). reduce word s (bit_xor a (bit_xor (get_or gens g 0) (get_or gens h 0))) ≢ 0) (sym (sum_of gens)) R.free;
      }
