-- The spaces over a space, and the heavy value that each has.
--   leads_one, leads_none     the spaces over D are those over D and one generator of theirs; with no dimension missing there is only D
--   leads_unknown             a walk goes on with a number that is not known
--   weight_low                the generators in W of a residue at D are of a number from start on
--   leads_heavy               one of them is new, and its value has its part of what is needed
-- Assumes nothing.
use Rattle.std.specs.Prelude.{◌≡◌, refl, ◌≢◌, true, false, length, drop}
use Rattle.std.proofs.Math.Path.{sym, ap, subst}
use Rattle.std.proofs.Common.{◌∙◌, inl, inr, mul-le-mul_left, get_or-drop}
use mathlib.Core.List.{List, [], ◌∷◌, Memᴰ}
use Prim.Native.Nat.{ℕ, zero, suc, ◌+◌, ◌-◌, ◌*◌, ◌^◌, ◌<◌, ◌≤◌}
use native.Mathlib.Omega.{arith}
use Rattle.std.proofs.Math.Decide.{dec_lt}
use Rattle.std.proofs.Math.ListN.{get_or, length-drop}
use Rattle.linear.specs.Span.{Span, Within}
use Rattle.linear.specs.Basis.{reduce, insert, inserts, basis_of, Reduced, dim}
use Rattle.linear.specs.Entry.{generator, generators_in}
use Rattle.linear.specs.Share.{Two, over, alike, space_weight}
use Rattle.linear.specs.Heavy.{Heavy}
use Rattle.linear.specs.Word.{word}
use Rattle.linear.proofs.laws.Reduce.{member}
use Rattle.linear.proofs.laws.Insert.{basis_of_reduced}
use Rattle.linear.proofs.laws.Order.{mem_get_d}
use Rattle.linear.proofs.laws.Greedy.{inserts_within}
use Rattle.linear.proofs.laws.Residue.{residue_span}
use Rattle.linear.proofs.laws.Share.{over_sub, alike_mem}
use Rattle.linear.proofs.laws.Heavy.{in_w, fills_one, fills_none, heavy}
use Rattle.residues.specs.children.Residues.{residues, known, with_residue}
use Rattle.residues.specs.children.Found.{Leads}
use Rattle.residues.specs.children.Weighed.{points, rank_of}
use Rattle.residues.proofs.laws.of_children.Child.{residue_at, with_zero, mem_with}
use Rattle.residues.proofs.laws.of_children.Known.{known_none}

pub two_word : Two word
two_word true = inr refl
two_word false = inl refl

-- the residues of the generators from a number on
drop_residues : (start : ℕ) (gens C : List ℕ) → drop start (residues gens C) ≡ residues (drop start gens) C
unfolding residues
drop_residues zero gens C = refl
drop_residues (suc start) [] C = refl
drop_residues (suc start) (g ∷ gens) C = drop_residues start gens C

-- ---- a space over D
module _ (gens C D W : List ℕ) (start k m j : ℕ) (ρ : Reduced word C) (σ : Reduced word D) (L : Leads gens C D W start k m j) where
  abbrev gen : ℕ → ℕ
  gen i = generator word gens i

  abbrev G : List ℕ
  G = generators_in word gens W

  abbrev w : ℕ → ℕ
  w y = space_weight word gens D W y

  pub leads_one : (g : ℕ) → reduce word D g ≢ 0 → Span word W g → Leads gens C (insert word D g) W start k (m - 1) j
  leads_one g n s =
      record {
        from = λ v t. inserts_within_one v (L.from v t);
        fills = fills_one word gens D W m σ L.fills g n s;
        rank = L.rank;
        begin = L.begin;
        number = L.number;
        has = L.has;
        new = L.new;
        first = L.first;
      }
    where
      inserts_within_one : Within word D (insert word D g)
      inserts_within_one v t = unfold inserts in inserts_within word gens (g ∷ []) D v t

  pub leads_none : m ≡ 0 → W ≡ D
  leads_none z = fills_none word gens D W m σ L.fills z

  -- a generator below j in W is in D
  low : (i : ℕ) → i < j → Span word W (gen i) → reduce word D (gen i) ≡ 0
  low i l s = (member word D σ (gen i)).0 (L.from (gen i) (L.first i l s))

  pub leads_unknown : false ≡ known (residues gens C) j
  leads_unknown =
      known_none (residues gens C) j (λ z. L.new ((member word C ρ (gen j)).1 (sym (residue_at gens C j) ∙ z))) (λ i l e. L.new (back i l (sym
      (residue_at gens C i) ∙ e ∙ residue_at gens C j)))
    where
      back : (i : ℕ) → i < j → reduce word C (gen i) ≡ reduce word C (gen j) → Span word C (gen j)
      back i l e =
          let up : Within word C W = λ v t. L.fills.over v (L.from v t) in
          let s : Span word C (gen i) = L.first i l (residue_span word C W up (gen j) (gen i) (sym e) L.has) in
          (member word C ρ (gen j)).1 (sym e ∙ (member word C ρ (gen i)).0 s)

  pub weight_low : (v : ℕ) → v ≢ 0 → w v ≤ rank_of gens (residues gens D) start v
  weight_low v n =
      subst (λ (l : List ℕ). w v ≤ over word (basis_of word (with_residue 0 gens (residues gens D))) (with_residue v (drop start gens) l)) (sym
      (drop_residues start gens D))
      (subst (λ (l : List ℕ). w v ≤ over word (basis_of word l) (with_residue v (drop start gens) (residues (drop start gens) D))) (sym (with_zero gens D))
      (over_sub word (basis_of word (generators_in word gens D)) (basis_of_reduced word (generators_in word gens D)) (alike word D v G)
      (with_residue v (drop start gens) (residues (drop start gens) D))
      (λ g i. let r = alike_mem word D G v g i in mem_with (drop start gens) D v g (later g r.0 (λ z. n (sym r.1 ∙ z))) r.1)))
    where
      later : (g : ℕ) → Memᴰ g G → reduce word D g ≢ 0 → Memᴰ g (drop start gens)
      later g i nz = go (in_w word gens D W m σ L.fills g i)
        where
          go : (i : ℕ) × (i < length gens) × (g ≡ gen i) × Span word W g → Memᴰ g (drop start gens)
          go (i, l, e, s) = at (dec_lt i start)
            where
              at : Dec (i < start) → Memᴰ g (drop start gens)
              at (yes b) = absurd (nz (ap (reduce word D) e ∙ low i (omega (arith, L.begin)) (subst (λ (x : ℕ). Span word W x) e s)))
              at (no b) =
                  unfold generator in
                  subst (λ (x : ℕ). Memᴰ x (drop start gens))
                  (get_or-drop start gens (i - start) 0 ∙ ap (λ (n : ℕ). get_or gens n 0) (let z : start + (i - start) ≡ i = omega arith in z) ∙ sym e)
                  (mem_get_d (drop start gens) (i - start) 0 (omega (arith, length-drop start gens, b, l)))

  -- a number with a heavy value
  pub record Chosen : Type 0 where
    pub at : ℕ
    pub from : start ≤ at
    pub below : at < length gens
    pub has : Span word W (gen at)
    pub fresh : reduce word D (gen at) ≢ 0
    pub heavy : k - dim word (with_residue 0 gens (residues gens D)) ≤ points m * rank_of gens (residues gens D) start (get_or (residues gens D) at 0)

  pub leads_heavy : m ≢ 0 → Chosen
  unfolding points
  leads_heavy ne =
      record {
        at = H.number;
        from = above (dec_lt H.number start);
        below = H.below;
        has = H.has;
        fresh = H.new;
        heavy = subst (λ (v : ℕ). k - dim word (with_residue 0 gens h) ≤ (2 ^ m - 1) * rank_of gens h start v) (sym (residue_at gens D H.number)) enough;
      }
    where
      h : List ℕ
      h = residues gens D

      H : Heavy word gens D W m
      H = heavy word two_word gens D W m σ L.fills ne

      y : ℕ
      y = reduce word D (gen H.number)

      enough : k - dim word (with_residue 0 gens h) ≤ (2 ^ m - 1) * rank_of gens h start y
      enough =
          let a : (2 ^ m - 1) * w y ≤ (2 ^ m - 1) * rank_of gens h start y = mul-le-mul_left (2 ^ m - 1) (weight_low y H.new) in
          omega (arith, H.part, a, L.rank, ap (dim word) (with_zero gens D))

      above : Dec (H.number < start) → start ≤ H.number
      above (yes b) = absurd (H.new (low H.number (omega (arith, L.begin)) H.has))
      above (no b) = omega arith
