-- The weights of a full table are bounds.
--   over_le, over_words   vectors in the span of rows bring in at most as many dimensions as there are rows, and words of 64 bits at most 64
--   full_weighed          the law
-- Assumes nothing.
use Rattle.std.specs.Prelude.{◌≡◌, refl, ◌≢◌, ◌⊎◌, ℕ, zero, suc, ◌+◌, ◌-◌, ◌*◌, ◌^◌, ◌<◌, ◌≤◌, length, get_or, drop}
use Rattle.std.proofs.Common.{sym, ap, ◌∙◌, subst, inl, inr, arith, length-take, length-drop, get_or-drop}
use mathlib.Core.List.Memᴰ
use mathlib.Core.List.{List, [], ◌++◌, Memᴰ}
use Rattle.std.proofs.Math.Decide.{dec_lt}
use Rattle.linear.specs.Basis.{inserts, basis_of, Reduced}
use Rattle.linear.specs.Share.{over}
use Rattle.linear.specs.Span.{Span}
use Rattle.linear.specs.Word.{word, Below}
use Rattle.linear.proofs.laws.Dimension.{sub_length, inserts_le}
use Rattle.linear.proofs.laws.Insert.{inserts_reduced, inserts_span, basis_of_reduced}
use Rattle.linear.specs.laws.Span.{span_bind, span_mem}
use Rattle.linear.proofs.laws.Word.{at_most, inserts_below, basis_of_below}
use Rattle.residues.specs.children.Residues.{with_residue}
use Rattle.residues.specs.children.Weighed.{rank_of, Shared, Owner, Weighed}
use Rattle.residues.proofs.laws.of_children.Handed.{residue_mem}
use Rattle.weights.specs.Table.{slot_of, weight_of}
use Rattle.weights.specs.Enter.{value_rows, TableSound, From, ValuePlace}
use Rattle.words.specs.tables.laws.Seek.{either}
use Rattle.weights.specs.laws.Seek.{slot_below, slot_owner, weight_none, weight_number}
use Rattle.weights.specs.slots.Bucket.{slot_count}

-- ---- rows bound a rank
over_le : (S R part : List ℕ) → Reduced word S → ((x : ℕ) → Memᴰ x part → Span word (R ++ S) x) → over word S part ≤ length R
unfolding over
over_le S R part ρ f =
    let a : length (inserts word S part) ≤ length (inserts word S R) =
    sub_length word (inserts word S R) (inserts word S part) (inserts_reduced word part S ρ) (inserts_reduced word R S ρ)
    (λ v s. (inserts_span word R S v).1 (span_bind word (λ x m. go x (Memᴰ.append_cases part m)) ((inserts_span word part S v).0 s))) in
    let b : length (inserts word S R) ≤ length S + length R = inserts_le word R S in
    omega arith
  where
    go : (x : ℕ) → Memᴰ x part ⊎ Memᴰ x S → Span word (R ++ S) x
    go x (inl m) = f x m
    go x (inr m) = span_mem word (Memᴰ.append_right R m)

over_words : (S part : List ℕ) → Reduced word S → (Below 64) S → (Below 64) part → over word S part ≤ 64
unfolding over
over_words S part ρ s p =
    let a : length (inserts word S part) ≤ 64 = at_most 64 (inserts word S part) (inserts_reduced word part S ρ) (inserts_below 64 part S s p) in
    omega arith

rows_count : (gens : List ℕ) (r f : ℕ) (rows : List ℕ) → length (value_rows gens r f rows) ≤ r
rows_count gens zero f rows = omega arith
rows_count gens (suc m) f rows = omega (arith, length-take m (drop (f * 8) rows))

-- ---- the generators with a residue
-- ---- a full table
module _ (gens d : List ℕ) (start : ℕ) (dead slots rows w : List ℕ) (alike : length gens ≡ length d) (size : length slots ≡ slot_count)
    (T : TableSound (length d) slots w) (F : From start slots) (fits : (n : ℕ) → get_or gens n 0 < 2 ^ 64) where
  abbrev S : List ℕ
  S = basis_of word (with_residue 0 gens d)

  abbrev Placed : Type 0
  Placed = (n : ℕ) → start ≤ n → n < length d → get_or d n 0 ≢ 0 → get_or dead n 0 ≡ 0 → ValuePlace gens d S slots rows w n

  zero_words : (x : ℕ) → Memᴰ x (with_residue 0 gens d) → x < 2 ^ 64
  zero_words x m = let p = residue_mem 0 gens d x m in subst (λ (y : ℕ). y < 2 ^ 64) (sym p.4) (fits p.0)

  -- the weight of a number's value, by its place
  held_weight : (v f : ℕ) → get_or slots (slot_of slots d v) 0 ≡ suc f → weight_of slots d w v ≡ get_or w f 0
  held_weight v f e =
      let q = slot_of slots d v in
      let u : get_or slots q 0 ≢ 0 = λ z. omega arith in
      weight_number slots d w v q refl (slot_below slots size q u) u ∙ ap (λ (k : ℕ). get_or w k 0) (let k : get_or slots q 0 - 1 ≡ f = omega arith in k)

  full_owner : Placed → (n : ℕ) → start ≤ n → n < length d → get_or d n 0 ≢ 0 → get_or dead n 0 ≡ 0 → Owner d start w (weight_of slots d w) n
  full_owner P n a l ne z = go (P n a l ne z)
    where
      go : ValuePlace gens d S slots rows w n → Owner d start w (weight_of slots d w) n
      go (inl p) =
          let e : weight_of slots d w (get_or d n 0) ≡ 200 = weight_none slots d w (get_or d n 0) (slot_of slots d (get_or d n 0)) refl p.0 in
          let g : get_or w n 0 ≡ 200 = p.1 in
          record { at = n; from = a; below = l; same = refl; some = λ y. omega arith; weight = omega arith }
      go (inr H) =
          let q = slot_of slots d (get_or d n 0) in
          let e : weight_of slots d w (get_or d n 0) ≡ get_or w H.at 0 = held_weight (get_or d n 0) H.at H.slot in
          record {
            at = H.at;
            from = F.on q H.at H.slot;
            below = T.first q H.at H.slot;
            same = slot_owner slots d (get_or d n 0) size H.at H.slot;
            some = T.some q H.at H.slot;
            weight = omega arith;
          }

  module _ (P : Placed) (v : ℕ) (ne : v ≢ 0) (alive : ¬ Shared d dead v) where
    abbrev part : List ℕ
    part = with_residue v (drop start gens) (drop start d)

    abbrev slot : ℕ
    slot = slot_of slots d v

    -- a member's number
    from : (x : ℕ) → Memᴰ x part → (n : ℕ) × (start ≤ n) × (n < length d) × (get_or d n 0 ≡ v) × (x ≡ get_or gens n 0)
    from x m =
        let p = residue_mem v (drop start gens) (drop start d) x m in
        let l : p.0 < length (drop start gens) = p.1 in
        (start + p.0, omega arith, omega (arith, length-drop start gens), sym (get_or-drop start d p.0 0) ∙ p.3, p.4 ∙ get_or-drop start gens p.0 0)

    living : (n : ℕ) → get_or d n 0 ≡ v → get_or dead n 0 ≡ 0
    living n e = either 0 (get_or dead n 0) (λ z. z) (λ k. absurd (alive (record { number = n; dies = k; value = e })))

    -- and its place
    placed : (x : ℕ) → Memᴰ x part → (n : ℕ) × (get_or d n 0 ≡ v) × (x ≡ get_or gens n 0) × ValuePlace gens d S slots rows w n
    placed x m = let p = from x m in (p.0, p.3, p.4, P p.0 p.1 p.2 (λ z. ne (sym p.3 ∙ z)) (living p.0 p.3))

    in_words : (x : ℕ) → Memᴰ x part → x < 2 ^ 64
    in_words x m = let p = from x m in subst (λ (y : ℕ). y < 2 ^ 64) (sym p.4) (fits p.0)

    few : over word S part ≤ 64
    few = over_words S part (basis_of_reduced word (with_residue 0 gens d)) (basis_of_below 64 (with_residue 0 gens d) zero_words) in_words

    -- rows that span what has a slot in use, and nothing else
    spanned : (R : List ℕ) → slot ≢ slot_count
        → ((n f : ℕ) → get_or slots slot 0 ≡ suc f → (get_or w f 0 ≤ 9 → Span word (value_rows gens (get_or w f 0) f rows ++ S) (get_or gens n 0))
        → Span word (R ++ S) (get_or gens n 0))
        → over word S part ≤ length R
    spanned R k f = over_le S R part (basis_of_reduced word (with_residue 0 gens d)) each
      where
        each : (x : ℕ) → Memᴰ x part → Span word (R ++ S) x
        each x m = let p = placed x m in subst (Span word (R ++ S)) (sym p.2) (go p.0 p.1 p.3)
          where
            go : (n : ℕ) → get_or d n 0 ≡ v → ValuePlace gens d S slots rows w n → Span word (R ++ S) (get_or gens n 0)
            go n e (inl z) = absurd (k (ap (slot_of slots d) (sym e) ∙ z.0))
            go n e (inr H) = f n H.at (ap (λ (y : ℕ). get_or slots (slot_of slots d y) 0) (sym e) ∙ H.slot) H.spans

    by_number : (f : ℕ) → get_or slots slot 0 ≡ suc f → Dec (9 < get_or w f 0) → over word S part ≤ get_or w f 0
    by_number f e (yes l) = omega (arith, T.gap f l, few)
    by_number f e (no l) =
        let R = value_rows gens (get_or w f 0) f rows in
        let a : over word S part ≤ length R = spanned R (slot_below slots size slot (λ z. omega arith))
        (λ n g h s. let p : g ≡ f = omega arith in
        subst (λ (y : ℕ). Span word (value_rows gens (get_or w y 0) y rows ++ S) (get_or gens n 0)) p
        (s (subst (λ (y : ℕ). get_or w y 0 ≤ 9) (sym p) (omega arith)))) in
        omega (arith, rows_count gens (get_or w f 0) f rows)

    by_slot : slot ≢ slot_count → (y : ℕ) → get_or slots slot 0 ≡ y → over word S part ≤ weight_of slots d w v
    by_slot k zero e =
        let a : over word S part ≤ length {A = ℕ} [] = spanned [] k (λ n f h s. absurd (omega arith)) in
        omega arith
    by_slot k (suc f) e = let p : weight_of slots d w v ≡ get_or w f 0 = held_weight v f e in omega (arith, by_number f e (dec_lt 9 (get_or w f 0)))

    full_above : rank_of gens d start v ≤ weight_of slots d w v
    full_above =
        either slot_count slot (λ e. let p : weight_of slots d w v ≡ 200 = weight_none slots d w v slot refl e in omega (arith, few))
        (λ k. by_slot k (get_or slots slot 0) refl)

  pub full_weighed : Placed → Weighed gens d start dead w (weight_of slots d w)
  full_weighed P = record { above = λ v ne k. full_above P v ne k; owner = full_owner P }
