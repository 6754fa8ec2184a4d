-- Two missing dimensions: beside a value x only the values matter that with x and their sum have what is needed.
--   joined_picked   a space over d and the generator of x has a number that is picked by the join
-- Assumes nothing.
use Rattle.std.specs.Prelude.{◌≡◌, refl, ◌≢◌, ◌⊎◌, ℕ, ◌+◌, ◌-◌, ◌*◌, ◌<◌, ◌≤◌, length, get_or, drop}
use Rattle.std.proofs.Common.{sym, ap, ◌∙◌, subst, inl, inr, arith, length-drop, get_or-drop}
use mathlib.Core.List.{List, [], ◌∷◌, map, Memᴰ}
use Rattle.std.proofs.Math.Decide.{dec_lt, ℕ_discrete}
use Rattle.std.specs.Int.Bits.{bit_xor, xor_zero_r, xor_self}
use Rattle.std.proofs.lemmas.Nat.{xor_comm}
use Rattle.linear.specs.Span.{Span, Within}
use Rattle.linear.specs.Basis.{clear, insert, inserts, basis_of, Reduced, dim}
use Rattle.linear.specs.Entry.{generator}
use Rattle.linear.specs.Word.{word}
use Rattle.linear.specs.laws.Span.{cast, span_add, span_rest, span_head}
use Rattle.linear.proofs.laws.Reduce.{reduce_rest}
use Rattle.linear.proofs.laws.Insert.{insert_reduced, insert_span}
use Rattle.linear.proofs.laws.Greedy.{inserts_within}
use Rattle.linear.proofs.laws.Share.{over_some}
use Rattle.residues.specs.children.Residues.{residues, with_residue}
use Rattle.residues.specs.children.Found.{Leads, Spared}
use Rattle.residues.specs.children.Weighed.{points, rank_of, Shared, Owner, Weighed, Pick, Apart, Joined, PickedBy}
use Rattle.residues.proofs.laws.of_children.Child.{clear_zero, clear_self, zero_clear, clear_at}
use Rattle.residues.proofs.laws.of_children.Leads.{Chosen, leads_heavy}
use Rattle.residues.proofs.laws.of_children.Found.{value_at, child}
use Rattle.residues.proofs.laws.of_children.Weighed.{spared_alive}
use Rattle.residues.proofs.laws.of_children.Handed.{residue_mem, xor_back, rank_split}

points_one : points 1 ≡ 1
unfolding points
points_one = refl

module _ (gens d : List ℕ) (start k : ℕ) (gone w : List ℕ) (bound : ℕ → ℕ) (alike : length gens ≡ length d) (T : Weighed gens d start gone w bound) (n : ℕ)
    (ne : get_or d n 0 ≢ 0) where
  abbrev x : ℕ
  x = get_or d n 0

  abbrev E : List ℕ
  E = map (clear word x) d

  abbrev rank : ℕ → ℕ
  rank v = rank_of gens d start v

  module _ (left : ℕ) (le : left ≡ k - dim word (with_residue 0 gens E)) (p : List ℕ) (J : Joined d start x left gone w bound p)
      (C D W : List ℕ) (ρ : Reduced word C) (σ : Reduced word D) (f : d ≡ residues gens D) (j : ℕ) (L : Leads gens C (insert word D
      (generator word gens n)) W start k 1 j) (F : Spared gens W gone) where
    abbrev B : List ℕ
    B = insert word D (generator word gens n)

    abbrev gen : ℕ → ℕ
    gen i = generator word gens i

    up : Within word D W
    up v t = L.fills.over v (unfold inserts in inserts_within word gens (gen n ∷ []) D v t)

    has_n : Span word W (gen n)
    has_n = L.fills.over (gen n) ((insert_span word D (gen n) (gen n)).1 (span_head word (gen n) D))

    -- W has what is left of its generators at D, and the generators of which such is left
    left_in : (i : ℕ) → Span word W (gen i) → Span word W (get_or d i 0)
    left_in i s = let r = reduce_rest word D (gen i) in cast word (value_at gens d D f i) (span_rest word r.2 (up r.0 r.1) s)

    in_left : (i : ℕ) → Span word W (get_or d i 0) → Span word W (gen i)
    in_left i s = let r = reduce_rest word D (gen i) in cast word (r.2 ∙ ap (bit_xor r.0) (sym (value_at gens d D f i))) (span_add word (up r.0 r.1) s)

    -- no number that is gone has a value which W has
    none : (v : ℕ) → Span word W v → ¬ Shared d gone v
    none v s S = F.none S.number S.dies (in_left S.number (cast word S.value s))

    -- a number of W whose value has half of what is left, and all of it with its sum with x
    pick : (i : ℕ) → start ≤ i → i < length gens → Span word W (gen i) → get_or d i 0 ≢ 0 → get_or d i 0 ≢ x → left ≤ rank (get_or d i 0) + rank (get_or d i 0)
        → left ≤ rank (get_or d i 0) + rank (bit_xor (get_or d i 0) x) → Pick gens B W start 0 p
    pick i a l s nz nx half full =
        record {
          at = o.at;
          from = o.from;
          below = omega (arith, o.below);
          has = held;
          fresh = λ z. other (clear_zero x (get_or d o.at 0) (sym (clear_at x d o.at) ∙ value_at gens E B (child gens d D σ f n ne) o.at ∙ z));
          picked = some (ℕ_discrete (get_or p o.at 0) 0);
        }
      where
        y : ℕ
        y = get_or d i 0

        o : Owner d start w bound i
        o = T.owner i a (omega arith) nz (spared_alive gens W gone F i s)

        held : Span word W (gen o.at)
        held = in_left o.at (cast word o.same (left_in i s))

        other : (get_or d o.at 0 ≡ 0) ⊎ (x ≡ get_or d o.at 0) → ⊥
        other (inl z) = nz (sym o.same ∙ z)
        other (inr z) = nx (sym o.same ∙ sym z)

        own : rank y ≤ get_or w o.at 0
        own = let b : rank y ≤ bound y = T.above y nz (none y (left_in i s)) in omega (arith, b, o.weight)

        sum_in : Span word W (bit_xor y x)
        sum_in = span_add word (left_in i s) (left_in n has_n)

        sum_nz : bit_xor y x ≢ 0
        sum_nz z = nx (sym (xor_back x y) ∙ ap (bit_xor x) (xor_comm x y ∙ z) ∙ xor_zero_r x)

        sum : rank (bit_xor y x) ≤ bound (bit_xor y x)
        sum = T.above (bit_xor y x) sum_nz (none (bit_xor y x) sum_in)

        out : Apart d o.at x left gone w bound → ⊥
        out (inl z) = o.some z
        out (inr (inl b)) = omega (arith, b, half, own)
        out (inr (inr (inl b))) = F.none o.at b held
        out (inr (inr (inr (inl b)))) = nx (sym o.same ∙ b)
        out (inr (inr (inr (inr b)))) =
            let c : get_or w o.at 0 + bound (bit_xor y x) < left = subst (λ (u : ℕ). get_or w o.at 0 + bound (bit_xor u x) < left) o.same b in
            omega (arith, c, full, own, sum)

        some : Dec (get_or p o.at 0 ≡ 0) → 0 < get_or p o.at 0
        some (yes z) = absurd (out (J.out o.at o.from o.below z))
        some (no z) = omega arith

    chosen : Pick gens B W start 0 p
    chosen = go (dec_lt (rank y + rank y) left)
      where
        q : E ≡ residues gens B
        q = child gens d D σ f n ne

        c : Chosen gens C B W start k 1 j ρ (insert_reduced word D (gen n) σ) L
        c = leads_heavy gens C B W start k 1 j ρ (insert_reduced word D (gen n) σ) L (λ z. omega arith)

        y : ℕ
        y = get_or d c.at 0

        fresh : clear word x y ≢ 0
        fresh z = c.fresh (sym (value_at gens E B q c.at) ∙ clear_at x d c.at ∙ z)

        nz : y ≢ 0
        nz z = fresh (ap (clear word x) z ∙ zero_clear x)

        nx : y ≢ x
        nx z = fresh (ap (clear word x) z ∙ clear_self x ne)

        full : left ≤ rank y + rank (bit_xor y x)
        full =
            let a : k - dim word (with_residue 0 gens E) ≤ points 1 * rank_of gens E start (get_or E c.at 0) =
            subst (λ (l : List ℕ). k - dim word (with_residue 0 gens l) ≤ points 1 * rank_of gens l start (get_or l c.at 0)) (sym q) c.heavy in
            let b : k - dim word (with_residue 0 gens E) ≤ 1 * rank_of gens E start (clear word x y) =
            subst (λ (v : ℕ). k - dim word (with_residue 0 gens E) ≤ 1 * rank_of gens E start v) (clear_at x d c.at)
            (subst (λ (u : ℕ). k - dim word (with_residue 0 gens E) ≤ u * rank_of gens E start (get_or E c.at 0)) points_one a) in
            omega (arith, le, b, rank_split gens d start x y)

        go : Dec (rank y + rank y < left) → Pick gens B W start 0 p
        go (no l) = pick c.at c.from c.below c.has nz nx (omega arith) full
        go (yes l) = pick i (omega arith) (omega (arith, i_low, length-drop start gens)) held i_nz i_nx half sum_full
          where
            v : ℕ
            v = bit_xor y x

            found : (g : ℕ) × Memᴰ g (with_residue v (drop start gens) (drop start d))
            found = over_some word (basis_of word (with_residue 0 gens d)) (with_residue v (drop start gens) (drop start d)) (omega (arith, full, l))

            r : (m : ℕ) × (m < length (drop start gens)) × (m < length (drop start d)) × (get_or (drop start d) m 0 ≡ v) × (found.0 ≡ get_or
                (drop start gens) m 0)
            r = residue_mem v (drop start gens) (drop start d) found.0 found.1

            i : ℕ
            i = start + r.0

            i_low : r.0 < length (drop start gens)
            i_low = r.1

            e : get_or d i 0 ≡ v
            e = sym (get_or-drop start d r.0 0) ∙ r.3

            held : Span word W (gen i)
            held = in_left i (cast word e (span_add word (left_in c.at c.has) (left_in n has_n)))

            -- the sum with x is y again
            again : bit_xor v x ≡ y
            again = ap (λ (u : ℕ). bit_xor u x) (xor_comm y x) ∙ xor_comm (bit_xor x y) x ∙ xor_back x y

            i_nz : get_or d i 0 ≢ 0
            i_nz z = nx (sym again ∙ ap (λ (u : ℕ). bit_xor u x) (sym e ∙ z) ∙ xor_comm 0 x ∙ xor_zero_r x)

            i_nx : get_or d i 0 ≢ x
            i_nx z = nz (sym again ∙ ap (λ (u : ℕ). bit_xor u x) (sym e ∙ z) ∙ xor_self x)

            half : left ≤ rank (get_or d i 0) + rank (get_or d i 0)
            half = subst (λ (u : ℕ). left ≤ rank u + rank u) (sym e) (omega (arith, full, l))

            sum_full : left ≤ rank (get_or d i 0) + rank (bit_xor (get_or d i 0) x)
            sum_full = subst (λ (u : ℕ). left ≤ rank u + rank (bit_xor u x)) (sym e) (subst (λ (u : ℕ). left ≤ rank v + rank u) (sym again) (omega
                (arith, full)))

  pub joined_picked : (left : ℕ) → left ≡ k - dim word (with_residue 0 gens E) → (p : List ℕ) → Joined d start x left gone w bound p
      → PickedBy gens d start k 1 gone n p
  joined_picked left le p J = record { some = λ C D W ρ σ f j L F. chosen left le p J C D W ρ σ f j L F }
