-- The table of a block's pairs, place by place.
--   row_first, row_second         a place of the row of i, by division
--   link_start                    no pair
--   link_skip, link_one           on over places without a pair; one pair entered
--   row_start, row_skip, row_one, row_end   the same in the row of i: its first place, a number without a value, one with a value, behind its last number
--   row_none                      a whole row of a number without a value
--   link_end                      all rows: the table
-- Assumes nothing.
use Rattle.std.specs.Prelude.{◌≡◌, refl, ◌≢◌, List, ℕ, ◌+◌, ◌-◌, ◌*◌, ◌/◌, ◌%◌, ◌<◌, ◌≤◌, length, get_or, set, replicate}
use Rattle.std.proofs.Common.{sym, ap, ap₂, ◌∙◌, subst, arith, length-set, get_or-set_same, get_or-set_other}
use Rattle.std.specs.Int.Bits.{bit_xor}
use Rattle.words.specs.laws.Blank.{zero_at, zero_length}
use Rattle.words.specs.tables.laws.Seek.{either}
use Rattle.relations.specs.pairs.Bucket.{bucket_of}
use Rattle.relations.specs.pairs.Linking.{Linking, Row, BlockEnd}
use Rattle.relations.specs.pairs.Pairs.{link_room, head_room, first_of, second_of, Stored, Falling, Chained, Headed}
use Rattle.residues.specs.Room.{search_room}

row_first : (k j x : ℕ) → j < 4096 → x ≡ k * 4096 + j → x / 4096 ≡ k
row_first k j x l e = omega arith

row_second : (k j x : ℕ) → j < 4096 → x ≡ k * 4096 + j → x % 4096 ≡ j
row_second k j x l e = omega arith

module _ (v : List ℕ) (n base : ℕ) where
  stored_bucket : (q p x : ℕ) → Stored v n base q x → Stored v n base p x → p ≡ q
  stored_bucket q p x s t = sym t.bucket ∙ s.bucket

  pub link_start : (heads links : List ℕ) (m : ℕ) → heads ≡ replicate m 0 → m ≡ head_room → length links ≡ link_room → Falling links
      → Linking v n base ((base - base) * 4096) heads links
  link_start heads links m e many size falls =
      record {
        heads_all = zero_length m heads e ∙ many;
        links_all = size;
        falls = falls;
        low = λ q. omega (arith, free q);
        held = λ q x s l. absurd (omega arith);
        head = λ q ne. absurd (ne (free q));
        onward = λ q x y s t l m. absurd (omega arith);
        link = λ q y s l. absurd (omega arith);
      }
    where
      free : (q : ℕ) → get_or heads q 0 ≡ 0
      free q = zero_at m heads e q

  module _ (b : ℕ) (heads links : List ℕ) (L : Linking v n base b heads links) where
    pub link_skip : (c : ℕ) → b ≤ c → ((q x : ℕ) → Stored v n base q x → b ≤ x → x < c → ⊥) → Linking v n base c heads links
    link_skip c l none =
        record {
          heads_all = L.heads_all;
          links_all = L.links_all;
          falls = L.falls;
          low = λ q. omega (arith, L.low q);
          held = λ q x s m. L.held q x s (early q x s m);
          head = L.head;
          onward = λ q x y s t k m. L.onward q x y s t k (early q y t m);
          link = λ q y s m. L.link q y s (early q y s m);
        }
      where
        early : (q x : ℕ) → Stored v n base q x → x < c → x < b
        early q x s m = either 0 (b - x) (λ z. absurd (none q x s (omega arith) m)) (λ ne. omega arith)

    pub link_one : (q : ℕ) → q < head_room → Stored v n base q b → Linking v n base (b + 1) (set heads q (b + 1)) (set links b (get_or heads q 0))
    link_one q r s =
        record {
          heads_all = length-set heads q (b + 1) ∙ L.heads_all;
          links_all = length-set links b (get_or heads q 0) ∙ L.links_all;
          falls = λ x. either b x (λ e. omega (arith, onto x e, L.low q)) (λ ne. omega (arith, beside x ne, L.falls x));
          low = λ p. either q p (λ e. omega (arith, into p e)) (λ ne. omega (arith, aside p ne, L.low p));
          held = λ p x t l. either q p (λ e. omega (arith, into p e)) (λ ne. omega (arith, aside p ne, L.held p x t (fresh p x t l ne)));
          head = λ p f. either q p
              (λ e. subst (Stored v n base p) (let k : b ≡ get_or (set heads q (b + 1)) p 0 - 1 = omega (arith, into p e) in k)
              (subst (λ (z : ℕ). Stored v n base z b) (sym e) s))
              (λ ne. subst (λ (z : ℕ). Stored v n base p (z - 1)) (sym (aside p ne)) (L.head p (λ z. f (aside p ne ∙ z))));
          onward = λ p x y t u l m. either b y
              (λ e. omega (arith, onto y e, L.held q x (subst (λ (z : ℕ). Stored v n base z x) (same p y u e) t) (omega arith)))
              (λ ne. omega (arith, beside y ne, L.onward p x y t u l (omega arith)));
          link = λ p y t l f. either b y
              (λ e. subst (λ (z : ℕ). Stored v n base p (z - 1)) (sym (onto y e))
              (subst (λ (z : ℕ). Stored v n base z (get_or heads q 0 - 1)) (sym (same p y t e)) (L.head q (λ z. f (onto y e ∙ z)))))
              (λ ne. subst (λ (z : ℕ). Stored v n base p (z - 1)) (sym (beside y ne)) (L.link p y t (omega arith) (λ z. f (beside y ne ∙ z))));
        }
      where
        onto : (x : ℕ) → x ≡ b → get_or (set links b (get_or heads q 0)) x 0 ≡ get_or heads q 0
        onto x e =
            ap (λ (z : ℕ). get_or (set links b (get_or heads q 0)) z 0) e
            ∙ get_or-set_same links b (get_or heads q 0) 0 (omega (arith, L.links_all, s.room))

        beside : (x : ℕ) → x ≢ b → get_or (set links b (get_or heads q 0)) x 0 ≡ get_or links x 0
        beside x ne = get_or-set_other links b x (get_or heads q 0) 0 ne

        into : (p : ℕ) → p ≡ q → get_or (set heads q (b + 1)) p 0 ≡ b + 1
        into p e = ap (λ (z : ℕ). get_or (set heads q (b + 1)) z 0) e ∙ get_or-set_same heads q (b + 1) 0 (omega (arith, L.heads_all))

        aside : (p : ℕ) → p ≢ q → get_or (set heads q (b + 1)) p 0 ≡ get_or heads p 0
        aside p ne = get_or-set_other heads q p (b + 1) 0 ne

        same : (p y : ℕ) → Stored v n base p y → y ≡ b → p ≡ q
        same p y t e = stored_bucket q p b s (subst (Stored v n base p) e t)

        fresh : (p x : ℕ) → Stored v n base p x → x < b + 1 → p ≢ q → x < b
        fresh p x t l ne = either b x (λ e. absurd (ne (same p x t e))) (λ k. omega arith)

  -- ---- the row of a number
  module _ (heads links : List ℕ) (i : ℕ) where
    abbrev at : ℕ
    at = (i - base) * 4096

    pub row_start : Row v n base i → Linking v n base at heads links → Linking v n base (at + (i + 1)) heads links
    row_start R L = link_skip at heads links L (at + (i + 1)) (omega arith) none
      where
        none : (q x : ℕ) → Stored v n base q x → at ≤ x → x < at + (i + 1) → ⊥
        none q x s l m =
            let f = row_first (i - base) (x - at) x (omega (arith, R.few, R.inside)) (omega arith) in
            let g = row_second (i - base) (x - at) x (omega (arith, R.few, R.inside)) (omega arith) in
            omega (arith, f, g, s.rising, R.from)

    pub row_none : n ≤ search_room → base ≤ i → i < n → get_or v i 0 ≡ 0 → Linking v n base at heads links → Linking v n base ((i + 1 - base) * 4096) heads links
    row_none few from inside z L = link_skip at heads links L ((i + 1 - base) * 4096) (omega arith) none
      where
        none : (q x : ℕ) → Stored v n base q x → at ≤ x → x < (i + 1 - base) * 4096 → ⊥
        none q x s l m =
            let f = row_first (i - base) (x - at) x (omega arith) (omega arith) in
            s.first (ap (λ (k : ℕ). get_or v k 0) (let e : first_of base x ≡ i = omega (arith, f) in e) ∙ z)

    pub row_end : Row v n base i → (j : ℕ) → j ≤ n → n ≤ j → Linking v n base (at + j) heads links → Linking v n base ((i + 1 - base) * 4096) heads links
    row_end R j l m L = link_skip (at + j) heads links L ((i + 1 - base) * 4096) (omega (arith, R.from, R.few)) none
      where
        none : (q x : ℕ) → Stored v n base q x → at + j ≤ x → x < (i + 1 - base) * 4096 → ⊥
        none q x s k t =
            let g = row_second (i - base) (x - at) x (omega (arith, R.from)) (omega arith) in
            omega (arith, g, s.below)

    module _ (R : Row v n base i) (j : ℕ) (later : i < j) (inside : j < n) (L : Linking v n base (at + j) heads links) where
      second_of_law : second_of (at + j) ≡ j
      second_of_law = row_second (i - base) j (at + j) (omega (arith, R.few)) refl

      first_of_law : first_of base (at + j) ≡ i
      first_of_law = let f = row_first (i - base) j (at + j) (omega (arith, R.few)) refl in omega (arith, f, R.from)

      pub row_skip : get_or v j 0 ≡ 0 → Linking v n base (at + (j + 1)) heads links
      row_skip z = link_skip (at + j) heads links L (at + (j + 1)) (omega arith) none
        where
          none : (q x : ℕ) → Stored v n base q x → at + j ≤ x → x < at + (j + 1) → ⊥
          none q x s l m =
              s.second (ap (λ (k : ℕ). get_or v k 0) (ap second_of (let e : x ≡ at + j = omega arith in e) ∙ second_of_law) ∙ z)

      pub row_one : get_or v j 0 ≢ 0 → (q : ℕ) → q ≡ bucket_of (bit_xor (get_or v i 0) (get_or v j 0)) → q < head_room
          → Linking v n base (at + (j + 1)) (set heads q (at + j + 1)) (set links (at + j) (get_or heads q 0))
      row_one ne q e r =
          subst (λ (b : ℕ). Linking v n base b (set heads q (at + j + 1)) (set links (at + j) (get_or heads q 0)))
          (let k : at + j + 1 ≡ at + (j + 1) = omega arith in k)
          (link_one (at + j) heads links L q r stored)
        where
          stored : Stored v n base q (at + j)
          stored =
              record {
                room = omega (arith, R.few, R.from, R.block);
                rising = omega (arith, first_of_law, second_of_law);
                below = omega (arith, second_of_law);
                first = λ z. R.value (ap (λ (k : ℕ). get_or v k 0) (sym first_of_law) ∙ z);
                second = λ z. ne (ap (λ (k : ℕ). get_or v k 0) (sym second_of_law) ∙ z);
                bucket = ap₂ (λ (x y : ℕ). bucket_of (bit_xor (get_or v x 0) (get_or v y 0))) first_of_law second_of_law ∙ sym e;
              }

  -- ---- all rows
  module _ (heads links : List ℕ) (e : ℕ) (E : BlockEnd n base e) (i : ℕ) (last : e ≤ i) (L : Linking v n base ((i - base) * 4096) heads links) where
    in_block : (q x : ℕ) → Stored v n base q x → x < (i - base) * 4096
    in_block q x s =
        let l : base + x / 4096 < e = E.whole (first_of base x) (omega (arith, s.rising, s.below)) (omega (arith, s.room)) in
        omega arith

    pub link_end : Headed v n base heads × Chained v n base links
    link_end = (
      record { held = λ q x s. L.held q x s (in_block q x s); head = L.head },
      record {
        falls = L.falls;
        onward = λ q x y s t l. L.onward q x y s t l (in_block q y t);
        link = λ q y s. L.link q y s (in_block q y s);
      },
    )
