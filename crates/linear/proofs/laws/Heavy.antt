-- Some residue carries its part of the generators in a larger space.
--   trim          of a list that is put into a basis, those that bring something
--   rest_values   a vector in the space that vectors make leaves nothing, or the sum of some of their residues
--   fills_new     a space with more dimensions has a generator that is new
--   fills_one     with one such generator put in, one dimension less is missing
--   fills_none    with no dimension missing it is the space itself
--   heavy         the law: some generator in W but not in D has a residue that carries its part
-- Assumes nothing.
use Rattle.std.specs.Prelude.{◌≡◌, ◌≢◌, ◌⊎◌, Bool, true, false, not}
use Rattle.std.proofs.Math.Path.{refl, ap, subst}
use Rattle.std.proofs.Common.{sym, ap₂, ◌∙◌, inr, mul-zero, mul-le-mul_right}
use Rattle.std.proofs.Math.Logic.{inl}
use mathlib.Core.List.Memᴰ
use mathlib.Core.List.{List, [], ◌∷◌, ◌++◌, map, Memᴰ}
use Prim.Native.Nat.{ℕ, suc, ◌+◌, ◌-◌, ◌*◌, ◌^◌, ◌<◌, ◌≤◌}
use native.Mathlib.Omega.{arith}
use Rattle.std.proofs.Math.Decide.{dec_lt}
use Rattle.std.proofs.Math.ListN.{length}
use Rattle.linear.specs.Space.{Space}
use Rattle.linear.specs.Span.{Span, Within}
use Rattle.linear.specs.Basis.{clear, reduce, insert, inserts, basis_of, Reduced, dim}
use Rattle.linear.specs.Select.{only}
use Rattle.linear.specs.Entry.{inside, generator, generators_in}
use Rattle.linear.specs.Share.{total, gather, Two, over, alike, others, space_weight}
use Rattle.linear.specs.Heavy.{rests, Fills, Heavy}
use Rattle.linear.specs.laws.Space.{add_nul, nul_add, zero_scale, one_scale}
use Rattle.linear.specs.laws.Span.{mem_cons, span_mem, span_bind, span_mono}
use Rattle.linear.proofs.laws.Reduce.{clear_back, member}
use Rattle.linear.proofs.laws.Insert.{dec_nul, insert_old, insert_reduced, insert_span, insert_length_new, inserts_reduced, inserts_span, basis_of_reduced, basis_of_span}
use Rattle.linear.proofs.laws.Dimension.{unique, sub_length, same_size, basis_of_is}
use Rattle.linear.proofs.laws.Order.{mem_map, mem_index}
use Rattle.linear.proofs.laws.Select.{only_mem, mem_only}
use Rattle.linear.proofs.laws.Entry.{inside_yes, yes_inside}
use Rattle.linear.proofs.laws.Residue.{reduce_insert}
use Rattle.linear.proofs.laws.Share.{gather_mem, only_length, pigeon, over_gather, over_some, alike_mem, mem_alike, others_count, norm_two}

module _ (S : Space) where
  open S use {Vec, nul}

  -- ---- a space over another, by vectors
  pub record Trimmed (D ws : List Vec) : Type 0 where
    pub kept : List Vec
    pub same : inserts S D kept ≡ inserts S D ws
    pub count : length (inserts S D ws) ≡ length D + length kept

  pub trim : (ws D : List Vec) → Trimmed D ws
  unfolding inserts
  trim [] D = record { kept = []; same = refl; count = omega arith }
  trim (w ∷ ws) D = go (dec_nul S (reduce S D w)) (trim ws (insert S D w))
    where
      go : Dec (reduce S D w ≡ nul) → Trimmed (insert S D w) ws → Trimmed D (w ∷ ws)
      go (yes e) t =
          let q : insert S D w ≡ D = insert_old S D w e in
          record {
            kept = t.kept;
            same = subst (λ X. inserts S X t.kept ≡ inserts S (insert S D w) ws) q t.same;
            count = omega
                (arith, t.count, ap length q);
          }
      go (no n) t = record { kept = w ∷ t.kept; same = t.same; count = omega (arith, t.count, insert_length_new S D w n) }

  pub rests_length : (xs C : List Vec) → length (rests S C xs) ≡ length xs
  unfolding rests
  rests_length [] C = refl
  rests_length (x ∷ xs) C = ap suc (rests_length xs (insert S C x))

  -- ---- spaces over a space
  module _ (gens D W : List Vec) (m : ℕ) (ρ : Reduced S D) (F : Fills S gens D W m) where
    abbrev G : List Vec
    G = generators_in S gens W

    -- a generator in W, by its number
    pub in_w : (g : Vec) → Memᴰ g G → (i : ℕ) × (i < length gens) × (g ≡ generator S gens i) × Span S W g
    unfolding generators_in generator
    in_w g k =
        let r = only_mem (inside S W) gens g k in
        let i = mem_index nul r.0 in
        (i.0, i.1, i.2, inside_yes S W g r.1)

    pub fills_new : m ≢ 0 → (g : Vec) × Memᴰ g G × (reduce S D g ≢ nul)
    fills_new ne = go (look G)
      where
        look : (l : List Vec) → ((g : Vec) × Memᴰ g l × (reduce S D g ≢ nul)) ⊎ ((g : Vec) → Memᴰ g l → reduce S D g ≡ nul)
        look [] = inr (λ g k. absurd (Memᴰ.not-nil k))
        look (x ∷ l) = at (dec_nul S (reduce S D x)) (look l)
          where
            at : Dec (reduce S D x ≡ nul) → ((g : Vec) × Memᴰ g l × (reduce S D g ≢ nul)) ⊎ ((g : Vec) → Memᴰ g l → reduce S D g ≡ nul)
                → ((g : Vec) × Memᴰ g (x ∷ l) × (reduce S D g ≢ nul)) ⊎ ((g : Vec) → Memᴰ g (x ∷ l) → reduce S D g ≡ nul)
            at (no n) r = inl (x, Memᴰ.head refl, n)
            at (yes e) (inl (g, k, n)) = inl (g, Memᴰ.tail k, n)
            at (yes e) (inr f) = inr (mem_cons {P = λ g. reduce S D g ≡ nul} e f)

        go : ((g : Vec) × Memᴰ g G × (reduce S D g ≢ nul)) ⊎ ((g : Vec) → Memᴰ g G → reduce S D g ≡ nul)
            → (g : Vec) × Memᴰ g G × (reduce S D g ≢ nul)
        go (inl r) = r
        go (inr f) = absurd (ne (omega (
          arith,
          F.size,
          sub_length S D W F.reduced ρ (λ v s. span_bind S (λ g k. at g (Memᴰ.append_cases G k))
              (F.filled v s)),
        )))
          where
            at : (g : Vec) → Memᴰ g G ⊎ Memᴰ g D → Span S D g
            at g (inl k) = (member S D ρ g).1 (f g k)
            at g (inr k) = span_mem S k

    pub fills_one : (g : Vec) → reduce S D g ≢ nul → Span S W g → Fills S gens (insert S D g) W (m - 1)
    fills_one g n s =
        record {
          reduced = F.reduced;
          over = up;
          size = omega (arith, F.size, insert_length_new S D g n, sub_length S W (insert S D g) (insert_reduced S D g ρ) F.reduced up);
          filled = λ v t. span_bind S (λ x k. at x (Memᴰ.append_cases G k)) (F.filled v t);
        }
      where
        E : List Vec
        E = insert S D g

        up : Within S E W
        up v t = span_bind S (mem_cons {P = Span S W} s (λ x k. F.over x (span_mem S k))) ((insert_span S D g v).0 t)

        at : (x : Vec) → Memᴰ x G ⊎ Memᴰ x D → Span S (G ++ E) x
        at x (inl k) = span_mem S (Memᴰ.append_left E k)
        at x (inr k) = span_mono S (λ y i. Memᴰ.append_right G i) ((insert_span S D g x).1 (span_mem S (Memᴰ.tail k)))

    pub fills_none : m ≡ 0 → W ≡ D
    unfolding dim
    fills_none z =
        unique S W D F.reduced ρ (same_size S W D F.reduced F.over (omega (
          arith,
          F.size,
          z,
          ap length (basis_of_is S D D ρ (λ v s. s)
              (λ v s. s)),
        ))) F.over

-- ---- over two elements
module _ (S : Space) (two : Two S) where
  open S use {fld, Vec, nul, add, scale, coord, lead, is_nul, is_nul_yes, is_nul_no}
  open fld use {K, 𝟘, 𝟙}

  pub rest_values : (xs C : List Vec) → Reduced S C → (g : Vec) → Span S (inserts S C xs) g
      → (reduce S C g ≡ nul) ⊎ Memᴰ (reduce S C g) (others S (rests S C xs))
  unfolding inserts rests others
  rest_values [] C ρ g s = inl ((member S C ρ g).0 s)
  rest_values (x ∷ xs) C ρ g s = split (dec_nul S r) (rest_values xs D (insert_reduced S C x ρ) g s)
    where
      r : Vec
      r = reduce S C x

      v : Vec
      v = reduce S C g

      D : List Vec
      D = insert S C x

      us : List Vec
      us = others S (rests S D xs)

      back : r ≢ nul → (a : K) → coord v (lead r) ≡ a → v ≡ add (scale a r) (reduce S D g)
      back ne a q = clear_back S r v ∙ ap₂ (λ c y. add (scale c r) y) q (sym (reduce_insert S C ρ x g ne ∙ ap (λ t. clear S t v) (norm_two S two r ne)))

      off : r ≢ nul → coord v (lead r) ≡ 𝟘 → v ≡ reduce S D g
      off ne q = back ne 𝟘 q ∙ ap (λ y. add y (reduce S D g)) (zero_scale S r) ∙ nul_add S (reduce S D g)

      on : r ≢ nul → coord v (lead r) ≡ 𝟙 → v ≡ add r (reduce S D g)
      on ne q = back ne 𝟙 q ∙ ap (λ y. add y (reduce S D g)) (one_scale S r)

      same : v ≡ reduce S D g → (reduce S D g ≡ nul) ⊎ Memᴰ (reduce S D g) us → (v ≡ nul) ⊎ Memᴰ v (us ++ r ∷ map (add r) us)
      same e (inl z) = inl (e ∙ z)
      same e (inr k) = inr (Memᴰ.append_left (r ∷ map (add r) us) (subst (λ y. Memᴰ y us) (sym e) k))

      moved : v ≡ add r (reduce S D g) → (reduce S D g ≡ nul) ⊎ Memᴰ (reduce S D g) us → (v ≡ nul) ⊎ Memᴰ v (us ++ r ∷ map (add r) us)
      moved e (inl z) = inr (Memᴰ.append_right us (Memᴰ.head (e ∙ ap (add r) z ∙ add_nul S r)))
      moved e (inr k) = inr (Memᴰ.append_right us (Memᴰ.tail (subst (λ y. Memᴰ y (map (add r) us)) (sym e) (mem_map (add r) k))))

      go : r ≢ nul → (coord v (lead r) ≡ 𝟘) ⊎ (coord v (lead r) ≡ 𝟙) → (reduce S D g ≡ nul) ⊎ Memᴰ (reduce S D g) us
          → (v ≡ nul) ⊎ Memᴰ v (us ++ r ∷ map (add r) us)
      go ne (inl q) = same (off ne q)
      go ne (inr q) = moved (on ne q)

      split : Dec (r ≡ nul) → (reduce S D g ≡ nul) ⊎ Memᴰ (reduce S D g) us → (v ≡ nul) ⊎ Memᴰ v (us ++ r ∷ map (add r) us)
      split (yes e) = same (ap (λ X. reduce S X g) (sym (insert_old S C x e)))
      split (no ne) = go ne (two (coord v (lead r)))

  module _ (gens D W : List Vec) (m : ℕ) (ρ : Reduced S D) (F : Fills S gens D W m) where
    abbrev within : List Vec
    within = generators_in S gens W

    abbrev Z : List Vec
    Z = generators_in S gens D

    abbrev w : Vec → ℕ
    w y = space_weight S gens D W y

    -- the values: the sums of the residues of m vectors that lead from D to W
    whole : inserts S D W ≡ W
    whole =
        unique S (inserts S D W) W (inserts_reduced S W D ρ) F.reduced
        (λ v s. span_bind S (λ x k. at x (Memᴰ.append_cases W k)) ((inserts_span S W D v).0 s))
        (λ v s. (inserts_span S W D v).1 (span_mono S (λ y i. Memᴰ.append_left D i) s))
      where
        at : (x : Vec) → Memᴰ x W ⊎ Memᴰ x D → Span S W x
        at x (inl k) = span_mem S k
        at x (inr k) = F.over x (span_mem S k)

    abbrev pub xs : List Vec
    xs = (trim S W D).kept

    pub made : inserts S D xs ≡ W
    made = (trim S W D).same ∙ whole

    pub xs_count : length xs ≡ m
    xs_count = omega (arith, (trim S W D).count, ap length whole, F.size)

    abbrev all : List Vec
    all = others S (rests S D xs)

    abbrev us : List Vec
    us = only (λ u. not (is_nul u)) all

    few : length us ≤ 2 ^ m - 1
    few = omega (arith, only_length (λ u. not (is_nul u)) all, others_count S (rests S D xs), ap (λ (n : ℕ). 2 ^ n) (rests_length S xs D ∙ xs_count))

    abbrev mine : Vec → List Vec
    mine u = alike S D u within

    cover : (g : Vec) → Memᴰ g within → Span S (gather mine us ++ basis_of S Z) g
    unfolding generators_in
    cover g k = go (rest_values xs D ρ g (subst (λ X. Span S X g) (sym made) (inside_yes S W g r.1)))
      where
        r : Memᴰ g gens × (inside S W g ≡ true)
        r = only_mem (inside S W) gens g k

        v : Vec
        v = reduce S D g

        old : v ≡ nul → Span S (gather mine us ++ basis_of S Z) g
        old z =
            span_mono S (λ y i. Memᴰ.append_right (gather mine us) i)
            ((basis_of_span S Z g).1 (span_mem S (mem_only (inside S D) gens g r.0 (yes_inside S D ρ g ((member S D ρ g).1 z)))))

        new : Memᴰ v all → (t : Bool) → is_nul v ≡ t → Span S (gather mine us ++ basis_of S Z) g
        new i true e = old (is_nul_yes v e)
        new i false e = span_mem S (Memᴰ.append_left (basis_of S Z) (gather_mem mine g us v (mem_only (λ u. not (is_nul u)) all v i (ap not e))
            (mem_alike S D within v g k refl)))

        go : (v ≡ nul) ⊎ Memᴰ v all → Span S (gather mine us ++ basis_of S Z) g
        go (inl z) = old z
        go (inr i) = new i (is_nul v) refl

    enough : dim S within - dim S Z ≤ total w us
    unfolding dim over
    enough =
        let σ : Reduced S (basis_of S Z) = basis_of_reduced S Z in
        let a : length (basis_of S within) ≤ length (inserts S (basis_of S Z) (gather mine us)) =
        sub_length S (inserts S (basis_of S Z) (gather mine us)) (basis_of S within) (basis_of_reduced S within) (inserts_reduced S (gather mine us)
        (basis_of S Z) σ)
        (λ v s. (inserts_span S (gather mine us) (basis_of S Z) v).1 (span_bind S cover ((basis_of_span S within v).0 s))) in
        omega (arith, a, over_gather S (basis_of S Z) σ mine us)

    pub heavy : m ≢ 0 → Heavy S gens D W m
    heavy ne = go (pigeon w us)
      where
        need : ℕ
        need = dim S within - dim S Z

        by : (g : Vec) → Memᴰ g within → reduce S D g ≢ nul → need ≤ (2 ^ m - 1) * w (reduce S D g) → Heavy S gens D W m
        by g k n l =
            let i = in_w S gens D W m ρ F g k in
            let e : g ≡ generator S gens i.0 = i.2 in
            record {
              number = i.0;
              below = i.1;
              has = subst (λ x. Span S W x) e i.3;
              new = subst (λ x. reduce S D x ≢ nul) e n;
              part = subst (λ x. need ≤ (2 ^ m - 1) * w (reduce S D x)) e l;
            }

        any : need ≡ 0 → Heavy S gens D W m
        any z = let r = fills_new S gens D W m ρ F ne in by r.0 r.1 r.2 (omega (arith, z))

        go : (total w us ≡ 0) ⊎ ((u : Vec) × Memᴰ u us × (total w us ≤ length us * w u)) → Heavy S gens D W m
        go (inl e) = any (omega (arith, e, enough))
        go (inr (u, k, l)) = at (dec_lt 0 (w u))
          where
            at : Dec (0 < w u) → Heavy S gens D W m
            at (no n) = any (let z : w u ≡ 0 = omega arith in omega (arith, enough, l, ap (λ (x : ℕ). length us * x) z, mul-zero (length us)))
            at (yes p) =
                let g = over_some S (basis_of S Z) (alike S D u within) p in
                let r = alike_mem S D within u g.0 g.1 in
                let a : length us * w u ≤ (2 ^ m - 1) * w u = mul-le-mul_right (w u) few in
                by g.0 r.0 (λ z. is_nul_no u (flip (is_nul u) (only_mem (λ x. not (is_nul x)) all u k).1) (sym r.1 ∙ z))
                (subst (λ y. need ≤ (2 ^ m - 1) * w y) (sym r.1) (omega (arith, enough, l, a)))
              where
                flip : (t : Bool) → not t ≡ true → t ≡ false
                flip true q = absurd (let z : ◌≡◌ {A = ℕ} 0 1 = cc in omega arith)
                flip false q = refl
