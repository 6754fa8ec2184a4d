-- The join from place to place: what stands at each step of its loops.
--   Going .. p heads links q                == the join came from p to q: what is asked at q, and no relation was passed
--   going_start                             at first
--   values_of                               the values, as the functions of a row ask for them
--   chain_asked                             what `next_match` asks
--   row_bare, row_found, row_next, row_end  the loop of a row: no value, a match, the next bucket, none
--   block_found, block_next, block_end      the loop of a block: a match, the next row, none; block_inside: its number by an equation
--   seek_found, seek_next, seek_end         the loop over blocks: a match, the next block, none
--   table_linked, table_none                the table of a block, and none behind the last
--   first_asked, first_is, next_asked, next_is   the first place and the next
-- Assumes nothing.
use Rattle.std.specs.Prelude.{◌≡◌, ◌≢◌, ◌⊎◌, Bool, false, List, ℕ, ◌+◌, ◌-◌, ◌*◌, ◌<◌, ◌≤◌, length, get_or}
use Rattle.std.proofs.Common.{sym, ◌∙◌, subst, subst₂, inl, inr, arith}
use Rattle.std.specs.Int.Bits.{bit_xor}
use Rattle.relations.specs.Relations.{Relation, Passed, Here, Sized, Tables, Placed, later, FirstPlace, NextPlace}
use Rattle.relations.specs.Onward.{PassedAt, later_at, Onward, Asked, Begins, Found, RowFound, BlockFound, Sought}
use Rattle.relations.specs.pairs.Bucket.{bucket_of}
use Rattle.relations.specs.pairs.Pairs.{block_size, link_room, place_of, Stored, Chained, Headed, MatchFrom}
use Rattle.relations.specs.rows.Rows.{Valued, NextFilled}
use Rattle.relations.specs.laws.Stored.{relation_stored}
use Rattle.relations.specs.laws.Steps.{
  less_or,
  onward_stays,
  onward_then,
  onward_any,
  step_match,
  step_filled,
  step_bare,
  step_past,
  step_behind,
  step_row,
  step_block,
}
use Rattle.relations.specs.declared.Place.{Place}
use Rattle.residues.specs.Room.{search_room}
use Rattle.words.specs.tables.laws.Seek.{either}

pub record Going (gens s v : List ℕ) (lines : Bool) (base₀ g₀ h₀ e₀ : ℕ) (heads links : List ℕ) (base g h e : ℕ) : Type 0 where
  pub asked : Asked gens v base g h e heads links
  pub onward : Onward gens s v lines base₀ g₀ h₀ e₀ base g h e

pub values_of : (gens v heads links : List ℕ) → Sized gens v heads links → Valued v (length gens)
values_of gens v heads links S = record { few = S.few; all = S.values_all; none = S.none }

pub going_start : (gens s v : List ℕ) (lines : Bool) (base g h e : ℕ) (heads links : List ℕ) → Asked gens v base g h e heads links
    → Going gens s v lines base g h e heads links base g h e
going_start gens s v lines base g h e heads links A = record { asked = A; onward = onward_stays gens s v lines base g h e }

-- ---- a row
module _ (gens s v : List ℕ) (base g h e : ℕ) (heads links : List ℕ) where
  -- a row's answer, from its plain numbers
  row_is : (k m : ℕ) → (m ≢ 0 → Found gens v base g k m) → (m ≡ 0 → length gens < k) → Onward gens s v false base g h e base g k m → (r : Place)
      → r.base ≡ base → r.g ≡ g → r.h ≡ k → r.e ≡ m → RowFound gens s v base g h e r
  row_is k m F E O r eb eg eh ee =
      record {
        block = eb;
        third = eg;
        found = λ n. subst₂ (λ (a b : ℕ). Found gens v base g a b) (sym eh) (sym ee) (F (λ q. n (ee ∙ q)));
        end = λ z. let l = E (sym ee ∙ z) in omega arith;
        onward = subst₂ (λ (a b : ℕ). Onward gens s v false base g h e base g a b) (sym eh) (sym ee) O;
      }

  pub row_bare : get_or v g 0 ≡ 0 → (r : Place) → r.base ≡ base → r.g ≡ g → r.h ≡ length gens + 1 → r.e ≡ 0 → RowFound gens s v base g h e r
  row_bare z = row_is (length gens + 1) 0 (λ n. absurd (omega arith)) (λ q. omega arith) (step_bare gens s v false base g h e z)

  module _ (k p : ℕ) (G : Going gens s v false base g h e heads links base g k p) (inside : base < length gens) where
    few : length gens ≤ search_room
    few = G.asked.tables.sizes.few

    pub chain_asked : (w : ℕ) → w ≡ get_or v k 0
        → (length gens ≤ search_room) × (length v ≡ search_room) × (length links ≡ link_room) × Chained v (length gens) base links
        × (p ≢ 0 → Stored v (length gens) base (bucket_of (bit_xor (get_or v g 0) w)) (p - 1))
    chain_asked w q =
        let T = G.asked.tables in (
          few,
          T.sizes.values_all,
          T.sizes.links_all,
          T.chained inside,
          λ n. subst (λ (y : ℕ). Stored v (length gens) base (bucket_of (bit_xor (get_or v g 0) y)) (p - 1)) (sym q) (G.asked.stored inside n),
        )

    module _ (w f m : ℕ) (ew : w ≡ get_or v k 0) (ef : f ≡ get_or gens k 0)
        (M : MatchFrom gens s v base g (bit_xor (get_or v g 0) w) (bit_xor (get_or gens g 0) f) p m) where
      matched : Onward gens s v false base g h e base g k m
      matched = onward_then gens s v false base g h e base g k p base g k m G.onward (step_match gens s v base g few false k p w f m ew ef M)

      pub row_found : k ≤ length gens → m ≢ 0 → (r : Place) → r.base ≡ base → r.g ≡ g → r.h ≡ k → r.e ≡ m → RowFound gens s v base g h e r
      row_found l n =
          row_is k m
          (λ q. record {
            stored = subst (λ (y : ℕ). Stored v (length gens) base (bucket_of (bit_xor (get_or v g 0) y)) (m - 1)) ew (M.kept n);
            before = M.before n;
            later = G.asked.later inside (λ z. n (let c = M.low in omega arith));
            high = l;
          })
          (λ q. absurd (n q)) matched

      pub row_next : k ≤ length gens → g < length gens → m ≡ 0 → (k' p' : ℕ) → NextFilled v (length gens) heads (get_or v g 0) (k + 1) k'
          → p' ≡ get_or heads (bucket_of (bit_xor (get_or v g 0) (get_or v k' 0))) 0 → Going gens s v false base g h e heads links base g k' p'
      row_next l third z k' p' F ep =
          record {
            asked =
                record {
                  tables = G.asked.tables;
                  high = F.high;
                  stored = λ i n. subst (λ (y : ℕ). Stored v (length gens) base (bucket_of (bit_xor (get_or v g 0) (get_or v k' 0))) (y - 1)) (sym ep)
                      ((G.asked.tables.headed inside).head _ (λ q. n (ep ∙ q)));
                  from = λ i. omega (arith, G.asked.from third, F.low);
                  later = λ i n. omega (arith, G.asked.from third, F.low);
                };
            onward =
                onward_then gens s v false base g h e base g k 0 base g k' p'
                (subst (λ (y : ℕ). Onward gens s v false base g h e base g k y) z matched)
                (step_filled gens s v base g few false heads (G.asked.tables.headed inside) k k' p' l room F ep);
          }
        where
          room : p' ≤ link_room
          room =
              either 0 p' (λ q. omega arith)
              (λ n. let d = ((G.asked.tables.headed inside).head _ (λ q. n (ep ∙ q))).room in omega arith)

    pub row_end : length gens < k → (r : Place) → r.base ≡ base → r.g ≡ g → r.h ≡ k → r.e ≡ 0 → RowFound gens s v base g h e r
    row_end l =
        row_is k 0 (λ n. absurd (omega arith)) (λ q. l)
        (onward_then gens s v false base g h e base g k p base g k 0 G.onward (step_past gens s v false base g k p l))

-- ---- a block
pub block_inside : {b base n : ℕ} → b ≡ base → base < n → b < n
block_inside q l = omega arith

module _ (gens s v : List ℕ) (lines : Bool) (base g h e : ℕ) (heads links : List ℕ) (b row k p : ℕ) (same : b ≡ base)
    (G : Going gens s v lines base g h e heads links b row k p) where
  module _ (u : Place) (F : RowFound gens s v b row k p u) where
    went : Onward gens s v lines base g h e b row u.h u.e
    went =
        onward_then gens s v lines base g h e b row k p b row u.h u.e G.onward
        (onward_any gens s v lines b row k p b row u.h u.e F.onward)

    pub block_found : u.e ≢ 0 → BlockFound gens s v lines base g h e u
    block_found n =
        record {
          block = F.block ∙ same;
          found = λ q. subst₂ (λ (x y : ℕ). Found gens v x y u.h u.e) same (sym F.third) (F.found n);
          end = λ z. absurd (n z);
          onward = subst₂ (λ (x y : ℕ). Onward gens s v lines base g h e x y u.h u.e) same (sym F.third) went;
        }

    pub block_next : row < length gens → u.e ≡ 0 → (k' : ℕ) → Begins lines (length gens) (row + 1) k' → (base' : ℕ) → b ≡ base'
        → Going gens s v lines base g h e heads links base' (row + 1) k' 0 × (base' ≡ base)
    block_next third z k' B base' q = (subst (λ (x : ℕ). Going gens s v lines base g h e heads links x (row + 1) k' 0) q next, sym q ∙ same)
      where
        next : Going gens s v lines base g h e heads links b (row + 1) k' 0
        next =
            record {
              asked =
                  record {
                    tables = G.asked.tables;
                    high = omega (arith, B.high);
                    stored = λ i n. absurd (omega arith);
                    from = B.from;
                    later = λ i n. absurd (omega arith);
                  };
              onward =
                  onward_then gens s v lines base g h e b row u.h u.e b (row + 1) k' 0 went
                  (step_row gens s v lines b row u.h u.e k' G.asked.tables.sizes.few third (F.end z) B);
            }

  pub block_end : length gens ≤ row → (r : Place) → r.base ≡ base → r.g ≡ row → r.h ≡ k → r.e ≡ 0 → BlockFound gens s v lines base g h e r
  block_end l r eb eg eh ee =
      record {
        block = eb;
        found = λ n. absurd (n ee);
        end = λ z. omega arith;
        onward =
            subst₂ (λ (x y : ℕ). Onward gens s v lines base g h e x y r.h r.e) same (sym eg)
            (subst₂ (λ (x y : ℕ). Onward gens s v lines base g h e b row x y) (sym eh) (sym ee)
            (onward_then gens s v lines base g h e b row k p b row k 0 G.onward (step_behind gens s v lines b row k p l)));
      }

-- ---- all blocks
module _ (gens s v : List ℕ) (lines : Bool) (u : Place) (heads links : List ℕ) (base g h e : ℕ)
    (G : Going gens s v lines u.base u.g u.h u.e heads links base g h e) where
  module _ (r : Place) (F : BlockFound gens s v lines base g h e r) where
    came : Onward gens s v lines u.base u.g u.h u.e base r.g r.h r.e
    came = onward_then gens s v lines u.base u.g u.h u.e base g h e base r.g r.h r.e G.onward F.onward

    pub seek_found : r.e ≢ 0 → Sought gens s v lines u r heads links
    seek_found n =
        let at = subst (λ (a : ℕ). Found gens v a r.g r.h r.e) (sym F.block) (F.found n) in
        record {
          placed =
              record {
                tables = subst (λ (a : ℕ). Tables gens v a heads links) (sym F.block) G.asked.tables;
                pair = λ i. n;
                stored = λ i. at.stored;
                before = λ i. at.before;
                third = λ i. at.later;
                fourth = λ i. at.high;
              };
          onward = subst (λ (a : ℕ). Onward gens s v lines u.base u.g u.h u.e a r.g r.h r.e) (sym F.block) came;
        }

    pub seek_next : base < length gens → r.e ≡ 0 → (heads' links' : List ℕ) → Tables gens v (base + block_size) heads' links'
        → Going gens s v lines u.base u.g u.h u.e heads' links' (base + block_size) (base + block_size) (length gens) 0
    seek_next inside z heads' links' T =
        record {
          asked =
              record {
                tables = T;
                high = omega arith;
                stored = λ i n. absurd (omega arith);
                from = λ i. omega arith;
                later = λ i n. absurd (omega arith);
              };
          onward =
              onward_then gens s v lines u.base u.g u.h u.e base r.g r.h r.e (base + block_size) (base + block_size) (length gens) 0 came
              (step_block gens s v lines base r.g r.h r.e G.asked.tables.sizes.few inside (F.end z));
        }

pub seek_end : (gens s v : List ℕ) (lines : Bool) (u : Place) (heads links : List ℕ) (p : Place)
    → Going gens s v lines u.base u.g u.h u.e heads links p.base p.g p.h p.e → length gens ≤ p.base
    → Sought gens s v lines u p heads links
seek_end gens s v lines u heads links p G l =
    record {
      placed =
          record {
            tables = G.asked.tables;
            pair = λ i. absurd (omega arith);
            stored = λ i. absurd (omega arith);
            before = λ i. absurd (omega arith);
            third = λ i. absurd (omega arith);
            fourth = λ i. absurd (omega arith);
          };
      onward = G.onward;
    }

-- ---- the table
module _ (gens v : List ℕ) (base : ℕ) (heads links : List ℕ) (S : Sized gens v heads links) where
  pub table_linked : (heads' links' : List ℕ) → length heads' ≡ length heads → length links' ≡ length links
      → Headed v (length gens) base heads' × Chained v (length gens) base links' → Tables gens v base heads' links'
  table_linked heads' links' eh el (H, C) =
      record {
        sizes =
            record {
              few = S.few;
              values_all = S.values_all;
              none = S.none;
              heads_all = eh ∙ S.heads_all;
              links_all = el ∙ S.links_all;
              falls = C.falls;
            };
        chained = λ i. C;
        headed = λ i. H;
      }

  pub table_none : length gens ≤ base → Tables gens v base heads links
  table_none l = record { sizes = S; chained = λ i. absurd (omega arith); headed = λ i. absurd (omega arith) }

-- ---- the first place, and the next
pub first_asked : (gens v : List ℕ) (start : ℕ) (heads links : List ℕ) → start ≤ length gens → Tables gens v start heads links
    → Asked gens v start start (length gens) 0 heads links
first_asked gens v start heads links l T =
    record {
      tables = T;
      high = omega arith;
      stored = λ i n. absurd (omega arith);
      from = λ i. l;
      later = λ i n. absurd (omega arith);
    }

pub first_is : (gens s v : List ℕ) (lines : Bool) (start : ℕ) (u r : Place) (heads links : List ℕ) → u.base ≡ start → u.g ≡ start
    → Sought gens s v lines u r heads links → FirstPlace gens s v lines start r heads links
first_is gens s v lines start u r heads links eb eg S =
    record { placed = S.placed; none = λ i j g h l W R P. early i j g h l R (S.onward.only i j g h W R P) }
  where
    early : (i j g h : ℕ) → start ≤ i → Relation gens s v (length gens) i j g h → ¬ Passed u i j g h
    early i j g h l R (inl k) = omega arith
    early i j g h l R (inr (k, inl c)) = omega (arith, R.ij, R.jg)
    early i j g h l R (inr (k, inr (c, P))) = omega (arith, R.ij, R.jg)

pointer_falls : (z o e r : ℕ) → r ≤ z * 40000 + o → o ≤ e - 1 → e ≢ 0 → r < z * 40000 + e
pointer_falls z o e r l k n = omega arith

module _ (gens s v : List ℕ) (lines : Bool) (u : Place) (heads links : List ℕ) (P : Placed gens v u heads links) (inside : u.base < length gens) where
  abbrev onto : ℕ
  onto = get_or links (u.e - 1) 0

  pub next_asked : Asked gens v u.base u.g u.h onto heads links
  next_asked =
      record {
        tables = P.tables;
        high = omega (arith, P.fourth inside);
        stored = λ i n. (P.tables.chained inside).link _ _ (P.stored inside) n;
        from = λ i. omega (arith, P.third inside);
        later = λ i n. P.third inside;
      }

  pub next_is : (w r : Place) (heads' links' : List ℕ) → w.base ≡ u.base → w.g ≡ u.g → w.h ≡ u.h → w.e ≡ onto
      → Sought gens s v lines w r heads' links' → NextPlace gens s v lines u r heads' links'
  next_is w r heads' links' eb eg eh ee S =
      record {
        placed = S.placed;
        none = λ i j a b W R Q. go i j a b R (at i j a b (S.onward.only i j a b W R Q));
        falls = pointer_falls _ onto u.e (later gens r) from_w (P.tables.sizes.falls (u.e - 1)) (P.pair inside);
      }
    where
      from_w : later gens r ≤ later_at (length gens) u.base u.g u.h onto
      from_w =
          subst₂ (λ (x y : ℕ). later gens r ≤ later_at (length gens) x y u.h onto) eb eg
          (subst₂ (λ (x y : ℕ). later gens r ≤ later_at (length gens) w.base w.g x y) eh ee S.onward.falls)

      at : (i j a b : ℕ) → Passed w i j a b → PassedAt u.base u.g u.h onto i j a b
      at i j a b Q =
          subst₂ (λ (x y : ℕ). PassedAt x y u.h onto i j a b) eb eg (subst₂ (λ (x y : ℕ). PassedAt w.base w.g x y i j a b) eh ee Q)

      here : (i j a b : ℕ) → Relation gens s v (length gens) i j a b → u.base ≤ i → i < u.base + block_size → a ≡ u.g → b ≡ u.h
          → onto ≤ place_of u.base i j → Passed u i j a b ⊎ Here u i j a b
      here i j a b R low l ea eb z =
          let R' = subst₂ (λ (x y : ℕ). Relation gens s v (length gens) i j x y) ea eb R in
          let x = place_of u.base i j in
          less_or x u.e
          (λ c. either (u.e - 1) x
          (λ q. inr (record { from = low; below = l; pair = omega arith; third = sym ea; fourth = sym eb }))
          (λ q. absurd (let d = (P.tables.chained inside).onward _ x (u.e - 1)
          (relation_stored gens s v u.base i j u.g u.h P.tables.sizes.few low R' l) (P.stored inside) (omega arith) in omega arith)))
          (λ c. inl (inr (l, inr (ea, inr (eb, c)))))

      go : (i j a b : ℕ) → Relation gens s v (length gens) i j a b → PassedAt u.base u.g u.h onto i j a b → Passed u i j a b ⊎ Here u i j a b
      go i j a b R (inl k) = inl (inl k)
      go i j a b R (inr (l, inl k)) = inl (inr (l, inl k))
      go i j a b R (inr (l, inr (ea, inl k))) = inl (inr (l, inr (ea, inl k)))
      go i j a b R (inr (l, inr (ea, inr (eb, z)))) =
          less_or i u.base (λ k. inl (inl k)) (λ k. here i j a b R k l ea eb z)
