-- Numbers that are picked or lack what is needed.
--   half_least, half_most, half_of              the least weight that has half of left: 1, above all, and between
--   Halving                                     == the numbers from start on and below i are so marked; halving_start, halving_more, halving_end
--   third_sum                                   a number that with x and their sum has too little
--   Walked                                      == numbers that are not marked lack what is needed; those below i are done
--   walk_start, walk_judging, walk_more, walk_end   at first; the next one may be looked at; one more, up to the next that is marked; all
-- Assumes nothing.
use Rattle.std.specs.Prelude.{◌≡◌, ◌≢◌, ◌⊎◌, Bool, false, List, ℕ, ◌+◌, ◌/◌, ◌<◌, ◌≤◌, length, get_or, set}
use Rattle.std.proofs.Common.{sym, ap, ◌∙◌, subst, inl, inr, arith, length-set, get_or-set_same, get_or-set_other}
use Rattle.std.proofs.Math.Decide.{dec_lt, ℕ_discrete}
use Rattle.std.proofs.Math.Nat.{mul-div-le}
use Rattle.std.specs.Int.Bits.{bit_xor}
use Rattle.residues.specs.children.Weighed.{Apart}
use Rattle.sieve.specs.marked_numbers.Marks.{NextMarked}
use Rattle.weights.specs.Table.{weight_of}
use Rattle.words.specs.tables.laws.Seek.{either}
use Rattle.sieve.specs.join.Join.{Half, Halved, Third, ThirdAsked, Joining, Join}
use Rattle.residues.specs.Room.{search_room}

-- ---- half of what is left
pub half_least : (left : ℕ) → Half left 1
half_least left = record { less = λ n l. inl (omega arith) }

pub half_most : (left : ℕ) → 509 < left → Half left 255
half_most left b = record { less = λ n l. inr (omega arith) }

pub half_of : (left : ℕ) → Half left ((left + 1) / 2)
half_of left = record { less = λ n l. inr (omega (arith, mul-div-le (left + 1) 2)) }

pub record Halving (start n left : ℕ) (gone w : List ℕ) (i : ℕ) (picks : List ℕ) : Type 0 where
  pub from : start ≤ i
  pub to : i ≤ n
  pub size : length picks ≡ search_room
  pub out : (j : ℕ) → start ≤ j → j < i → get_or picks j 0 ≡ 0 → ((get_or w j 0 ≡ 0) ⊎ (get_or w j 0 + get_or w j 0 < left)) ⊎ (get_or gone j 0 ≢ 0)

module _ (start n left : ℕ) (gone w : List ℕ) where
  pub halving_start : (picks : List ℕ) → start ≤ n → length picks ≡ search_room → Halving start n left gone w start picks
  halving_start picks l z = record { from = omega arith; to = l; size = z; out = λ j a b. absurd (omega arith) }

  pub halving_more : (i : ℕ) (picks : List ℕ) → Halving start n left gone w i picks → i < n → n ≤ search_room → (least : ℕ) → Half left least
      → (p : ℕ) → (p ≡ 0 → (get_or w i 0 < least) ⊎ (get_or gone i 0 ≢ 0)) → Halving start n left gone w (i + 1) (set picks i p)
  halving_more i picks H l few least B p f =
      record {
        from = omega (arith, H.from);
        to = omega arith;
        size = length-set picks i p ∙ H.size;
        out = λ j a b z. either i j
            (λ e. subst (λ (m : ℕ). ((get_or w m 0 ≡ 0) ⊎ (get_or w m 0 + get_or w m 0 < left)) ⊎ (get_or gone m 0 ≢ 0)) (sym e) (mine (f (sym (own j e) ∙ z))))
            (λ k. H.out j a (omega arith) (sym (get_or-set_other picks i j p 0 k) ∙ z));
      }
    where
      own : (j : ℕ) → j ≡ i → get_or (set picks i p) j 0 ≡ p
      own j e = ap (λ (m : ℕ). get_or (set picks i p) m 0) e ∙ get_or-set_same picks i p 0 (omega (arith, H.size))

      mine : (get_or w i 0 < least) ⊎ (get_or gone i 0 ≢ 0) → ((get_or w i 0 ≡ 0) ⊎ (get_or w i 0 + get_or w i 0 < left)) ⊎ (get_or gone i 0 ≢ 0)
      mine (inl q) = inl (B.less (get_or w i 0) q)
      mine (inr q) = inr q

  pub halving_end : (i : ℕ) (picks : List ℕ) → Halving start n left gone w i picks → n ≤ i → Halved start n left gone w picks
  halving_end i picks H l = record { out = λ j a b. H.out j a (omega arith) }

-- ---- the third value
pub third_sum : (d : List ℕ) (i x left : ℕ) (w : List ℕ) (bound : ℕ → ℕ) (b : ℕ) → b ≡ bound (bit_xor (get_or d i 0) x) → get_or w i 0 + b < left
    → Third d i x left w bound
third_sum d i x left w bound b e l = inr (subst (λ (y : ℕ). get_or w i 0 + y < left) e l)

pub record Walked (d : List ℕ) (start x left : ℕ) (gone slots w : List ℕ) (i : ℕ) (picks : List ℕ) (r : Bool) : Type 0 where
  pub asked : Joining d start gone slots w picks
  pub from : start ≤ i
  pub to : i ≤ length d
  pub out : (n : ℕ) → start ≤ n → n < length d → get_or picks n 0 ≡ 0 → Apart d n x left gone w (weight_of slots d w)
  pub none : r ≡ false → (n : ℕ) → start ≤ n → n < i → get_or picks n 0 ≡ 0

module _ (d : List ℕ) (start x left : ℕ) (gone slots w : List ℕ) where
  resized : (picks picks' : List ℕ) → length picks' ≡ length picks → Joining d start gone slots w picks → Joining d start gone slots w picks'
  resized picks picks' e J =
      record { table = J.table; few = J.few; begin = J.begin; gone_all = J.gone_all; all = J.all; picks_all = e ∙ J.picks_all }

  pub walk_start : (picks₀ picks : List ℕ) → length picks ≡ length picks₀ → Joining d start gone slots w picks₀ → Halved start (length d) left gone w picks
      → (i : ℕ) → NextMarked picks start (length d) i → Walked d start x left gone slots w i picks false
  walk_start picks₀ picks e J H i N =
      record { asked = resized picks₀ picks e J; from = N.low; to = N.high; out = λ n a b z. apart n (H.out n a b z); none = λ q n a b. N.none n a b }
    where
      apart : (n : ℕ) → ((get_or w n 0 ≡ 0) ⊎ (get_or w n 0 + get_or w n 0 < left)) ⊎ (get_or gone n 0 ≢ 0) → Apart d n x left gone w (weight_of slots d w)
      apart n (inl (inl q)) = inl q
      apart n (inl (inr q)) = inr (inl q)
      apart n (inr q) = inr (inr (inl q))

  module _ (i : ℕ) (picks : List ℕ) (r : Bool) (W : Walked d start x left gone slots w i picks r) where
    pub walk_judging : i < length d → ThirdAsked d i slots w
    walk_judging l = record { table = W.asked.table; few = W.asked.few; inside = l; all = W.asked.all }

    pub walk_more : i < length d → (p : ℕ) → (p ≡ 0 → Third d i x left w (weight_of slots d w)) → (s : Bool) → (s ≡ false → (p ≡ 0) × (r ≡ false))
        → (j : ℕ) → NextMarked (set picks i p) (i + 1) (length d) j → Walked d start x left gone slots w j (set picks i p) s
    walk_more l p f s g j N =
        record {
          asked = resized picks (set picks i p) (length-set picks i p) W.asked;
          from = omega (arith, W.from, N.low);
          to = N.high;
          out = λ n a b z. either i n
              (λ e. subst (λ (m : ℕ). Apart d m x left gone w (weight_of slots d w)) (sym e) (apart (f (sym (own n e) ∙ z))))
              (λ k. W.out n a b (sym (get_or-set_other picks i n p 0 k) ∙ z));
          none = λ q n a b. none q n a b (dec_lt n i) (ℕ_discrete n i);
        }
      where
        own : (n : ℕ) → n ≡ i → get_or (set picks i p) n 0 ≡ p
        own n e = ap (λ (m : ℕ). get_or (set picks i p) m 0) e ∙ get_or-set_same picks i p 0 (omega (arith, W.asked.picks_all, W.asked.few))

        apart : Third d i x left w (weight_of slots d w) → Apart d i x left gone w (weight_of slots d w)
        apart t = inr (inr (inr t))

        none : s ≡ false → (n : ℕ) → start ≤ n → n < j → Dec (n < i) → Dec (n ≡ i) → get_or (set picks i p) n 0 ≡ 0
        none q n a b (yes k) m = get_or-set_other picks i n p 0 (λ e. omega arith) ∙ W.none (g q).1 n a k
        none q n a b (no k) (yes e) = own n e ∙ (g q).0
        none q n a b (no k) (no e) = N.none n (omega arith) b

    pub walk_end : length d ≤ i → Join d start x left gone slots w picks r
    walk_end l = record { joined = record { out = λ n a b. W.out n a b }; none = λ e n a b. W.none e n a (omega arith) }
