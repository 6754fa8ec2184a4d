-- The generators of a residue, by their numbers; those of residue 0 at a child, from those at its space; and ranks there.
--   residue_mem, mem_residue   a generator of a residue has a number with it, and back
--   child_basis                the basis of the generators in the child: that of those in the space, with the generators of the child's value put in
--   clear_two                  what the row x clears to the same differs by x at the most
--   rank_split                 the rank of a value at the child is at most that of the two values at the space that become it
-- Assumes nothing.
use Rattle.std.specs.Prelude.{◌≡◌, refl, ◌≢◌, ◌⊎◌, Bool, true, false, cond, ℕ, zero, suc, ◌+◌, ◌<◌, ◌≤◌, length, get_or, drop, eqb}
use Rattle.std.proofs.Common.{sym, ap, ◌∙◌, subst, inl, inr, arith, eq-eqb, eqb-true}
use mathlib.Core.List.Memᴰ
use mathlib.Core.List.{List, [], ◌∷◌, ◌++◌, map, Memᴰ}
use Rattle.std.specs.Int.Bits.{bit_xor, xor_zero_l}
use Rattle.std.proofs.lemmas.Nat.{xor_comm}
use Rattle.std.proofs.lemmas.List.{length-map}
use Rattle.linear.specs.Bit.{bit, top}
use Rattle.linear.specs.Span.{Span, Within}
use Rattle.linear.specs.Basis.{clear, inserts, basis_of, Reduced}
use Rattle.linear.specs.Share.{over}
use Rattle.linear.specs.Word.{word, scale_w}
use Rattle.linear.specs.laws.Span.{span_mem, span_bind, span_mono}
use Rattle.linear.proofs.laws.Insert.{inserts_reduced, inserts_span, basis_of_reduced, basis_of_span}
use Rattle.linear.proofs.laws.Dimension.{basis_of_is}
use Rattle.linear.proofs.laws.Share.{less_new, inserts_grow, over_append, over_sub, add_back}
use Rattle.residues.specs.children.Residues.{with_residue}
use Rattle.residues.specs.children.Weighed.{rank_of}
use Rattle.residues.proofs.laws.of_children.Child.{clear_zero, clear_self, zero_clear, clear_at}
use Rattle.residues.proofs.laws.of_children.Leads.{two_word}

pub residue_mem : (v : ℕ) (gens d : List ℕ) (x : ℕ) → Memᴰ x (with_residue v gens d)
    → (n : ℕ) × (n < length gens) × (n < length d) × (get_or d n 0 ≡ v) × (x ≡ get_or gens n 0)
unfolding with_residue
residue_mem v [] d x m = absurd (Memᴰ.not-nil m)
residue_mem v (g ∷ gens) [] x m = absurd (Memᴰ.not-nil m)
residue_mem v (g ∷ gens) (y ∷ d) x m = go (eqb y v) refl m (residue_mem v gens d x)
  where
    up : (n : ℕ) × (n < length gens) × (n < length d) × (get_or d n 0 ≡ v) × (x ≡ get_or gens n 0)
        → (n : ℕ) × (n < suc (length gens)) × (n < suc (length d)) × (get_or (y ∷ d) n 0 ≡ v) × (x ≡ get_or (g ∷ gens) n 0)
    up (n, l, k, e, q) = (suc n, omega arith, omega arith, e, q)

    go : (t : Bool) → eqb y v ≡ t → Memᴰ x (cond t (g ∷ with_residue v gens d) (with_residue v gens d))
        → (Memᴰ x (with_residue v gens d) → (n : ℕ) × (n < length gens) × (n < length d) × (get_or d n 0 ≡ v) × (x ≡ get_or gens n 0))
        → (n : ℕ) × (n < suc (length gens)) × (n < suc (length d)) × (get_or (y ∷ d) n 0 ≡ v) × (x ≡ get_or (g ∷ gens) n 0)
    go true e (Memᴰ.head q) ih = (0, omega arith, omega arith, eqb-true y v e, q)
    go true e (Memᴰ.tail k) ih = up (ih k)
    go false e k ih = up (ih k)

pub mem_residue : (v : ℕ) (gens d : List ℕ) (n : ℕ) → n < length gens → n < length d → get_or d n 0 ≡ v → Memᴰ (get_or gens n 0) (with_residue v gens d)
unfolding with_residue
mem_residue v [] d n l k e = absurd (omega arith)
mem_residue v (g ∷ gens) [] n l k e = absurd (omega arith)
mem_residue v (g ∷ gens) (y ∷ d) zero l k e = go (eqb y v) (eq-eqb y v e)
  where
    go : (t : Bool) → t ≡ true → Memᴰ g (cond t (g ∷ with_residue v gens d) (with_residue v gens d))
    go true q = Memᴰ.head refl
    go false q = absurd (let z : ◌≡◌ {A = ℕ} 0 1 = cc in omega arith)
mem_residue v (g ∷ gens) (y ∷ d) (suc n) l k e = go (eqb y v) (mem_residue v gens d n (omega arith) (omega arith) e)
  where
    go : (t : Bool) → Memᴰ (get_or gens n 0) (with_residue v gens d) → Memᴰ (get_or gens n 0) (cond t (g ∷ with_residue v gens d) (with_residue v gens d))
    go true m = Memᴰ.tail m
    go false m = m

-- ---- the child by the value x
module _ (x : ℕ) (gens d : List ℕ) where
  abbrev E : List ℕ
  E = map (clear word x) d

  same_length : length E ≡ length d
  same_length = length-map d (clear word x)

  -- a generator of a residue is one of what that is cleared to
  cleared : (v g : ℕ) → Memᴰ g (with_residue v gens d) → Memᴰ g (with_residue (clear word x v) gens E)
  cleared v g m =
      let r = residue_mem v gens d g m in
      subst (λ (y : ℕ). Memᴰ y (with_residue (clear word x v) gens E)) (sym r.4)
      (mem_residue (clear word x v) gens E r.0 r.1 (omega (arith, r.2, same_length)) (clear_at x d r.0 ∙ ap (clear word x) r.3))

  pub child_basis : x ≢ 0 → inserts word (basis_of word (with_residue 0 gens d)) (with_residue x gens d) ≡ basis_of word (with_residue 0 gens E)
  child_basis ne =
      sym (basis_of_is word (inserts word (basis_of word Z) X) (with_residue 0 gens E) (inserts_reduced word X (basis_of word Z) (basis_of_reduced word Z))
      (λ v s. span_bind word (λ g m. into g (Memᴰ.append_cases X m)) ((inserts_span word X (basis_of word Z) v).0 s))
      (λ v s. span_bind word (λ g m. (inserts_span word X (basis_of word Z) g).1 (back g m)) s))
    where
      Z : List ℕ
      Z = with_residue 0 gens d

      X : List ℕ
      X = with_residue x gens d

      at_zero : (v g : ℕ) → clear word x v ≡ 0 → Memᴰ g (with_residue v gens d) → Span word (with_residue 0 gens E) g
      at_zero v g e m = span_mem word (subst (λ (y : ℕ). Memᴰ g (with_residue y gens E)) e (cleared v g m))

      into : (g : ℕ) → Memᴰ g X ⊎ Memᴰ g (basis_of word Z) → Span word (with_residue 0 gens E) g
      into g (inl m) = at_zero x g (clear_self x ne) m
      into g (inr m) = span_bind word (λ y k. at_zero 0 y (zero_clear x) k) ((basis_of_span word Z g).0 (span_mem word m))

      back : (g : ℕ) → Memᴰ g (with_residue 0 gens E) → Span word (X ++ basis_of word Z) g
      back g m = go (clear_zero x (get_or d r.0 0) (sym (clear_at x d r.0) ∙ r.3))
        where
          r : (n : ℕ) × (n < length gens) × (n < length E) × (get_or E n 0 ≡ 0) × (g ≡ get_or gens n 0)
          r = residue_mem 0 gens E g m

          of : (v : ℕ) → get_or d r.0 0 ≡ v → Memᴰ g (with_residue v gens d)
          of v e = subst (λ (y : ℕ). Memᴰ y (with_residue v gens d)) (sym r.4) (mem_residue v gens d r.0 r.1 (omega
              (arith, r.2, same_length)) e)

          go : (get_or d r.0 0 ≡ 0) ⊎ (x ≡ get_or d r.0 0) → Span word (X ++ basis_of word Z) g
          go (inl e) = span_mono word (λ y k. Memᴰ.append_right X k) ((basis_of_span word Z g).1 (span_mem word (of 0 e)))
          go (inr e) = span_mem word (Memᴰ.append_left (basis_of word Z) (of x (sym e)))

-- ---- ranks at the child
pub xor_back : (x u : ℕ) → bit_xor x (bit_xor x u) ≡ u
xor_back x u = add_back word two_word x u

pub clear_two : (x y v : ℕ) → clear word x v ≡ clear word x y → (v ≡ y) ⊎ (v ≡ bit_xor y x)
unfolding clear
clear_two x y v = go (bit v (top x)) (bit y (top x))
  where
    go : (a b : Bool) → bit_xor (scale_w a x) v ≡ bit_xor (scale_w b x) y → (v ≡ y) ⊎ (v ≡ bit_xor y x)
    go true true e = inl (sym (xor_back x v) ∙ ap (bit_xor x) e ∙ xor_back x y)
    go true false e = inr (sym (xor_back x v) ∙ ap (bit_xor x) (e ∙ xor_zero_l y) ∙ xor_comm x y)
    go false true e = inr (sym (xor_zero_l v) ∙ e ∙ xor_comm x y)
    go false false e = inl (sym (xor_zero_l v) ∙ e ∙ xor_zero_l y)

over_less : (part X Y : List ℕ) → Reduced word X → Reduced word Y → Within word X Y → over word Y part ≤ over word X part
unfolding over
over_less part X Y ρ σ h = omega (arith, less_new word part X Y ρ σ h, inserts_grow word X ρ part, inserts_grow word Y σ part)

drop_map : (f : ℕ → ℕ) (n : ℕ) (l : List ℕ) → drop n (map f l) ≡ map f (drop n l)
drop_map f zero l = refl
drop_map f (suc n) [] = refl
drop_map f (suc n) (x ∷ l) = drop_map f n l

pub rank_split : (gens d : List ℕ) (start x y : ℕ)
    → rank_of gens (map (clear word x) d) start (clear word x y) ≤ rank_of gens d start y + rank_of gens d start (bit_xor y x)
rank_split gens d start x y =
    let a : over word S' (with_residue (clear word x y) gs (drop start E₀)) ≤ over word S (with_residue (clear word x y) gs (drop start E₀)) =
    over_less (with_residue (clear word x y) gs (drop start E₀)) S S' (basis_of_reduced word (with_residue 0 gens d)) (basis_of_reduced word
    (with_residue 0 gens E₀)) within in
    let b : over word S (with_residue (clear word x y) gs (drop start E₀)) ≤ over word S (A ++ B) =
    over_sub word S (basis_of_reduced word (with_residue 0 gens d)) (with_residue (clear word x y) gs (drop start E₀)) (A ++ B) part in
    omega (arith, a, b, over_append word S (basis_of_reduced word (with_residue 0 gens d)) A B)
  where
    E₀ : List ℕ
    E₀ = map (clear word x) d

    S : List ℕ
    S = basis_of word (with_residue 0 gens d)

    S' : List ℕ
    S' = basis_of word (with_residue 0 gens E₀)

    gs : List ℕ
    gs = drop start gens

    ds : List ℕ
    ds = drop start d

    A : List ℕ
    A = with_residue y gs ds

    B : List ℕ
    B = with_residue (bit_xor y x) gs ds

    within : Within word S S'
    within v s =
        (basis_of_span word (with_residue 0 gens E₀) v).1
        (span_bind word (λ g m. span_mem word (subst (λ (u : ℕ). Memᴰ g (with_residue u gens E₀)) (zero_clear x) (cleared x gens d 0 g m)))
        ((basis_of_span word (with_residue 0 gens d) v).0 s))

    part : (g : ℕ) → Memᴰ g (with_residue (clear word x y) gs (drop start E₀)) → Memᴰ g (A ++ B)
    part g m = go (clear_two x y (get_or ds r.0 0) (sym (clear_at x ds r.0) ∙ r.3))
      where
        r : (n : ℕ) × (n < length gs) × (n < length (map (clear word x) ds)) × (get_or (map (clear word x) ds) n 0 ≡ clear word x y) × (g ≡ get_or gs n 0)
        r = residue_mem (clear word x y) gs (map (clear word x) ds) g (subst (λ (l : List ℕ). Memᴰ g (with_residue (clear word x y) gs l)) (drop_map
            (clear word x) start d) m)

        of : (v : ℕ) → get_or ds r.0 0 ≡ v → Memᴰ g (with_residue v gs ds)
        of v e = subst (λ (u : ℕ). Memᴰ u (with_residue v gs ds)) (sym r.4) (mem_residue v gs ds r.0 r.1 (omega (
          arith,
          r.2,
          length-map ds
              (clear word x),
        )) e)

        go : (get_or ds r.0 0 ≡ y) ⊎ (get_or ds r.0 0 ≡ bit_xor y x) → Memᴰ g (A ++ B)
        go (inl e) = Memᴰ.append_left B (of y e)
        go (inr e) = Memᴰ.append_right A (of (bit_xor y x) e)
