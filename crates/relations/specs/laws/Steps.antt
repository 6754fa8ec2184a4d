-- The steps of the join: on none of them a relation is passed, and each leads to a later place, or to none before.
--   less_or        by cases on an order
--   onward_stays, onward_then, onward_any   no step; two of them; a step for all h is one for those that are wanted
--   step_match     along a chain to its next match
--   step_filled    to the next number whose bucket has a pair
--   step_bare      over the row of a number without a value
--   step_past      behind the last number of a row
--   step_behind    behind the last row
--   step_row       to the next row
--   step_block     to the next block
-- Assumes nothing.
use Rattle.std.specs.Prelude.{◌≡◌, ◌⊎◌, Bool, false, List, ℕ, suc, ◌+◌, ◌-◌, ◌*◌, ◌<◌, ◌≤◌, length, get_or}
use Rattle.std.proofs.Common.{subst, inl, inr, le_trans, arith}
use Rattle.std.proofs.lemmas.Bool.{false≢true}
use Rattle.std.proofs.Math.Decide.{dec_lt}
use Rattle.std.specs.Int.Bits.{bit_xor}
use Rattle.relations.specs.Relations.{Relation, Wanted}
use Rattle.relations.specs.Onward.{PassedAt, later_at, Onward, Begins}
use Rattle.relations.specs.pairs.Bucket.{bucket_of}
use Rattle.relations.specs.pairs.Pairs.{block_size, link_room, place_of, Headed, MatchFrom}
use Rattle.relations.specs.rows.Rows.{NextFilled}
use Rattle.relations.specs.laws.Stored.{relation_stored, relation_match}
use Rattle.residues.specs.Room.{search_room}

-- by cases on an order
pub less_or : {P : Type 0} (a b : ℕ) → (a < b → P) → (b ≤ a → P) → P
less_or {P} a b f g = go (dec_lt a b)
  where
    go : Dec (a < b) → P
    go (yes l) = f l
    go (no n) = g (omega arith)

-- ---- the number of a place falls: within a row, from row to row, from block to block
in_row : (z a b c d : ℕ) → a * 40000 + c ≤ b * 40000 + d → (z + a) * 40000 + c ≤ (z + b) * 40000 + d
in_row z a b c d l = omega arith

next_row : (n z g h e r : ℕ) → n ≤ search_room → g < n
    → ((z * 5000 + (n - (g + 1))) * 5000 + (suc n - r)) * 40000 + 0 ≤ ((z * 5000 + (n - g)) * 5000 + (suc n - h)) * 40000 + e
next_row n z g h e r few l = omega arith

next_block : (n base g h e : ℕ) → n ≤ search_room → base < n
    → later_at n (base + block_size) (base + block_size) n 0 ≤ later_at n base g h e
next_block n base g h e few l = omega arith

module _ (gens s v : List ℕ) where
  pub onward_stays : (lines : Bool) (base g h e : ℕ) → Onward gens s v lines base g h e base g h e
  onward_stays lines base g h e = record { only = λ i j a b W R P. P; falls = omega arith }

  pub onward_then : (lines : Bool) (b0 g0 h0 e0 b1 g1 h1 e1 b2 g2 h2 e2 : ℕ) → Onward gens s v lines b0 g0 h0 e0 b1 g1 h1 e1
      → Onward gens s v lines b1 g1 h1 e1 b2 g2 h2 e2 → Onward gens s v lines b0 g0 h0 e0 b2 g2 h2 e2
  onward_then lines b0 g0 h0 e0 b1 g1 h1 e1 b2 g2 h2 e2 O N =
      record { only = λ i j a b W R P. O.only i j a b W R (N.only i j a b W R P); falls = le_trans N.falls O.falls }

  pub onward_any : (lines : Bool) (b0 g0 h0 e0 b1 g1 h1 e1 : ℕ) → Onward gens s v false b0 g0 h0 e0 b1 g1 h1 e1
      → Onward gens s v lines b0 g0 h0 e0 b1 g1 h1 e1
  onward_any lines b0 g0 h0 e0 b1 g1 h1 e1 O =
      record { only = λ i j a b W R P. O.only i j a b (λ q. absurd (false≢true q)) R P; falls = O.falls }

  -- within a row: what is passed of the row itself decides
  row_step : (lines : Bool) (base g h e h' e' : ℕ)
      → ((i j b : ℕ) → base ≤ i → i < base + block_size → Relation gens s v (length gens) i j g b → (b < h') ⊎ ((b ≡ h') × (e' ≤ place_of base i j))
      → (b < h) ⊎ ((b ≡ h) × (e ≤ place_of base i j)))
      → (suc (length gens) - h') * 40000 + e' ≤ (suc (length gens) - h) * 40000 + e → Onward gens s v lines base g h e base g h' e'
  row_step lines base g h e h' e' f d = record { only = go; falls = in_row (((length gens - base) * 5000 + (length gens - g)) * 5000) _ _ e' e d }
    where
      go : (i j a b : ℕ) → Wanted lines (length gens) b → Relation gens s v (length gens) i j a b → PassedAt base g h' e' i j a b
          → PassedAt base g h e i j a b
      go i j a b W R (inl l) = inl l
      go i j a b W R (inr (l, inl k)) = inr (l, inl k)
      go i j a b W R (inr (l, inr (q, P))) =
          less_or i base (λ k. inl k)
          (λ k. inr (l, inr (q, f i j b k l (subst (λ (m : ℕ). Relation gens s v (length gens) i j m b) q R) P)))

  module _ (base g : ℕ) (few : length gens ≤ search_room) where
    pub step_match : (lines : Bool) (h e w f m : ℕ) → w ≡ get_or v h 0 → f ≡ get_or gens h 0
        → MatchFrom gens s v base g (bit_xor (get_or v g 0) w) (bit_xor (get_or gens g 0) f) e m → Onward gens s v lines base g h e base g h m
    step_match lines h e w f m p q M = row_step lines base g h e h m go (omega (arith, M.low))
      where
        N : MatchFrom gens s v base g (bit_xor (get_or v g 0) (get_or v h 0)) (bit_xor (get_or gens g 0) (get_or gens h 0)) e m
        N =
            subst (λ (y : ℕ). MatchFrom gens s v base g (bit_xor (get_or v g 0) y) (bit_xor (get_or gens g 0) (get_or gens h 0)) e m) p
            (subst (λ (y : ℕ). MatchFrom gens s v base g (bit_xor (get_or v g 0) w) (bit_xor (get_or gens g 0) y) e m) q M)

        go : (i j b : ℕ) → base ≤ i → i < base + block_size → Relation gens s v (length gens) i j g b → (b < h) ⊎ ((b ≡ h) × (m ≤ place_of base i j))
            → (b < h) ⊎ ((b ≡ h) × (e ≤ place_of base i j))
        go i j b low l R (inl k) = inl k
        go i j b low l R (inr (k, z)) =
            let R' = subst (λ (c : ℕ). Relation gens s v (length gens) i j g c) k R in
            less_or (place_of base i j) e
            (λ c. absurd (N.none (place_of base i j) (relation_stored gens s v base i j g h few low R' l) c z
            (relation_match gens s v base i j g h few low R')))
            (λ c. inr (k, c))

    pub step_filled : (lines : Bool) (heads : List ℕ) → Headed v (length gens) base heads → (h h' e' : ℕ)
        → h ≤ length gens → e' ≤ link_room → NextFilled v (length gens) heads (get_or v g 0) (h + 1) h'
        → e' ≡ get_or heads (bucket_of (bit_xor (get_or v g 0) (get_or v h' 0))) 0 → Onward gens s v lines base g h 0 base g h' e'
    step_filled lines heads H h h' e' hn room F p = row_step lines base g h 0 h' e' go (omega (arith, F.low, F.high))
      where
        go : (i j b : ℕ) → base ≤ i → i < base + block_size → Relation gens s v (length gens) i j g b → (b < h') ⊎ ((b ≡ h') × (e' ≤ place_of base i j))
            → (b < h) ⊎ ((b ≡ h) × (0 ≤ place_of base i j))
        go i j b low l R (inl k) =
            let held = H.held _ _ (relation_stored gens s v base i j g b few low R l) in
            less_or b h (λ c. inl c)
            (λ c. less_or h b (λ d. absurd (let z = F.none b (omega arith) k R.fourth in omega arith)) (λ d. inr (omega arith, omega arith)))
        go i j b low l R (inr (k, z)) =
            let R' = subst (λ (c : ℕ). Relation gens s v (length gens) i j g c) k R in
            let held = H.held _ _ (relation_stored gens s v base i j g h' few low R' l) in
            absurd (omega arith)

  pub step_bare : (lines : Bool) (base g h e : ℕ) → get_or v g 0 ≡ 0 → Onward gens s v lines base g h e base g (length gens + 1) 0
  step_bare lines base g h e z = row_step lines base g h e (length gens + 1) 0 (λ i j b low l R P. absurd (R.third z)) (omega arith)

  pub step_past : (lines : Bool) (base g h e : ℕ) → length gens < h → Onward gens s v lines base g h e base g h 0
  step_past lines base g h e k = row_step lines base g h e h 0 (λ i j b low l R P. inl (omega (arith, R.hn))) (omega arith)

  pub step_behind : (lines : Bool) (base g h e : ℕ) → length gens ≤ g → Onward gens s v lines base g h e base g h 0
  step_behind lines base g h e k = row_step lines base g h e h 0 (λ i j b low l R P. absurd (omega (arith, R.gh, R.hn))) (omega arith)

  pub step_row : (lines : Bool) (base g h e r : ℕ) → length gens ≤ search_room → g < length gens → length gens < h → Begins lines (length gens) (g + 1) r
      → Onward gens s v lines base g h e base (g + 1) r 0
  step_row lines base g h e r few third l B =
      record { only = go; falls = next_row (length gens) (length gens - base) g h e r few third }
    where
      go : (i j a b : ℕ) → Wanted lines (length gens) b → Relation gens s v (length gens) i j a b → PassedAt base (g + 1) r 0 i j a b
          → PassedAt base g h e i j a b
      go i j a b W R (inl k) = inl k
      go i j a b W R (inr (k, inl c)) =
          inr (k, less_or a g (λ d. inl d) (λ d. inr (omega arith, inl (omega (arith, R.hn)))))
      go i j a b W R (inr (k, inr (q, P))) = absurd (not_yet P (B.before b W (omega (arith, R.gh))))
        where
          not_yet : (b < r) ⊎ ((b ≡ r) × (0 ≤ place_of base i j)) → ¬ (r < b)
          not_yet (inl c) d = omega arith
          not_yet (inr (c, z)) d = omega arith

  pub step_block : (lines : Bool) (base g h e : ℕ) → length gens ≤ search_room → base < length gens → length gens ≤ g
      → Onward gens s v lines base g h e (base + block_size) (base + block_size) (length gens) 0
  step_block lines base g h e few inside l = record { only = go; falls = next_block (length gens) base g h e few inside }
    where
      go : (i j a b : ℕ) → Wanted lines (length gens) b → Relation gens s v (length gens) i j a b
          → PassedAt (base + block_size) (base + block_size) (length gens) 0 i j a b → PassedAt base g h e i j a b
      go i j a b W R (inl k) = inr (k, inl (omega (arith, R.gh, R.hn)))
      go i j a b W R (inr (k, P)) = less_or i (base + block_size) (λ c. inr (c, inl (omega (arith, R.gh, R.hn)))) (λ c. absurd (early P c))
        where
          early : (a < base + block_size) ⊎ ((a ≡ base + block_size) × ((b < length gens) ⊎ ((b ≡ length gens) × (0 ≤ place_of (base + block_size) i j))))
              → ¬ (base + block_size ≤ i)
          early (inl d) c = omega (arith, R.ij, R.jg)
          early (inr (d, z)) c = omega (arith, R.ij, R.jg)
