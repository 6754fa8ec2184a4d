-- The table filled from a number on.
--   Filling                                                  == the numbers from start on and below i are in the table
--   filling_start, filling_skip, filling_next, filling_end   none; one that is dead or has no value; one more; all
--   blank_slots, blank_all                                   how many slots and weights there are
--   filling_entering                                         the next one may be entered
-- Assumes nothing.
use Rattle.std.specs.Prelude.{◌≡◌, ◌≢◌, ◌⊎◌, List, ℕ, ◌+◌, ◌^◌, ◌<◌, ◌≤◌, length, get_or}
use Rattle.std.proofs.Common.{sym, ap, ◌∙◌, subst, ⊎_elim, arith}
use Rattle.linear.specs.Basis.{basis_of}
use Rattle.linear.specs.Word.{word}
use Rattle.residues.specs.children.Residues.{with_residue}
use Rattle.words.specs.laws.Blank.{zero_at, zero_length}
use Rattle.weights.specs.Table.{Blank, TableFilled}
use Rattle.weights.specs.Enter.{Sizes, TableSound, From, ValuePlace, Entering, Entered}
use Rattle.words.specs.tables.laws.Seek.{either}
use Rattle.weights.specs.laws.Enter.{sound_slots}
use Rattle.weights.specs.laws.Bound.{full_weighed}
use Rattle.residues.specs.Room.{search_room}
use Rattle.weights.specs.slots.Bucket.{slot_count}

pub record Filling (gens d : List ℕ) (start : ℕ) (dead S : List ℕ) (i : ℕ) (slots rows w : List ℕ) (top : ℕ) : Type 0 where
  pub begin : start ≤ i
  pub to : i ≤ length d
  pub sizes : Sizes gens d slots rows w
  pub sound : TableSound i slots w
  pub from : From start slots
  pub placed : (n : ℕ) → start ≤ n → n < i → get_or d n 0 ≢ 0 → get_or dead n 0 ≡ 0 → ValuePlace gens d S slots rows w n
  pub low : top ≤ 200
  pub most : (n : ℕ) → get_or w n 0 ≤ top
  pub valued : (n : ℕ) → get_or w n 0 ≢ 0 → get_or d n 0 ≢ 0

module _ (gens d : List ℕ) (start : ℕ) (dead S : List ℕ) where
  module _ (slots rows w : List ℕ) (B : Blank gens d start dead S slots rows w) where
    pub blank_slots : length slots ≡ slot_count
    blank_slots = zero_length slot_count slots B.blank

    pub blank_all : length w ≡ search_room
    blank_all = zero_length search_room w B.none

  pub filling_start : (slots rows w : List ℕ) → Blank gens d start dead S slots rows w → Filling gens d start dead S start slots rows w 0
  filling_start slots rows w B =
      record {
        begin = omega arith;
        to = B.begin;
        sizes =
            record {
              alike = B.alike;
              few = B.few;
              slots_all = blank_slots slots rows w B;
              rows_all = B.rows_all;
              all = blank_all slots rows w B;
            };
        sound =
            record {
              first = λ q f e. absurd (omega (arith, free q));
              some = λ q f e. absurd (omega (arith, free q));
              low = λ n. omega (arith, none n);
              gap = λ n l. absurd (omega (arith, none n));
            };
        from = record { on = λ q f e. absurd (omega (arith, free q)) };
        placed = λ n a b. absurd (omega arith);
        low = omega arith;
        most = λ n. omega (arith, none n);
        valued = λ n ne. absurd (ne (none n));
      }
    where
      free : (q : ℕ) → get_or slots q 0 ≡ 0
      free q = zero_at slot_count slots B.blank q

      none : (n : ℕ) → get_or w n 0 ≡ 0
      none n = zero_at search_room w B.none n

  module _ (i : ℕ) (slots rows w : List ℕ) (top : ℕ) (F : Filling gens d start dead S i slots rows w top) where
    pub filling_entering : i < length d → Entering gens d i slots rows w
    filling_entering l = record { sizes = F.sizes; inside = l; sound = F.sound }

    pub filling_skip : i < length d → (get_or dead i 0 ≢ 0) ⊎ (get_or d i 0 ≡ 0) → Filling gens d start dead S (i + 1) slots rows w top
    filling_skip l why =
        record {
          begin = omega (arith, F.begin);
          to = omega arith;
          sizes = F.sizes;
          sound =
              record {
                first = λ q f e. omega (arith, F.sound.first q f e);
                some = F.sound.some;
                low = F.sound.low;
                gap = F.sound.gap;
              };
          from = F.from;
          placed = λ n a b ne z. either i n
              (λ e. absurd (⊎_elim (λ k. k (ap (λ (m : ℕ). get_or dead m 0) (sym e) ∙ z)) (λ k. ne (ap (λ (m : ℕ). get_or d m 0) e ∙ k)) why))
              (λ k. F.placed n a (omega arith) ne z);
          low = F.low;
          most = F.most;
          valued = F.valued;
        }

    pub filling_next : i < length d → get_or d i 0 ≢ 0 → (slots' rows' w' : List ℕ) (r top' : ℕ) → Entered gens d S i slots rows w slots' rows' w' r
        → length slots' ≡ length slots → length rows' ≡ length rows → length w' ≡ length w → top ≤ top' → r ≤ top' → (top' ≡ top) ⊎ (top' ≡ r)
        → Filling gens d start dead S (i + 1) slots' rows' w' top'
    filling_next l ne₀ slots' rows' w' r top' E a b c t u v =
        record {
          begin = omega (arith, F.begin);
          to = omega arith;
          sizes =
              record {
                alike = F.sizes.alike;
                few = F.sizes.few;
                slots_all = a ∙ F.sizes.slots_all;
                rows_all = b ∙ F.sizes.rows_all;
                all = c ∙ F.sizes.all;
              };
          sound = E.sound;
          from = E.from start F.begin F.from;
          placed = λ n s k ne z. either i n
              (λ e. subst (ValuePlace gens d S slots' rows' w') (sym e) E.here)
              (λ m. let j : n < i = omega arith in E.before n j (F.placed n s j ne z));
          low = ⊎_elim (λ e. omega (arith, F.low)) (λ e. omega (arith, E.low)) v;
          most = E.most top' u (λ n. let y : get_or w n 0 ≤ top = F.most n in omega arith);
          valued = E.valued ne₀ F.valued;
        }

    pub filling_end : length d ≤ i → S ≡ basis_of word (with_residue 0 gens d) → ((n : ℕ) → get_or gens n 0 < 2 ^ 64) → TableFilled gens d start dead slots w top
    filling_end l e fits =
        record {
          weighed = full_weighed gens d start dead slots rows w F.sizes.alike F.sizes.slots_all full F.from fits
              (λ n a b ne z. subst (λ (B : List ℕ). ValuePlace gens d B slots rows w n) e (F.placed n a (omega arith) ne z));
          slots = sound_slots d i slots w F.sizes.slots_all F.to F.sound;
          most = F.most;
          low = F.low;
          valued = F.valued;
        }
      where
        full : TableSound (length d) slots w
        full = subst (λ (n : ℕ). TableSound n slots w) (let q : i ≡ length d = omega (arith, F.to) in q) F.sound
