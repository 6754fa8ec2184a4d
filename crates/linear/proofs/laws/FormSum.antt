-- Sums of vectors and of generators, and what is left of them.
--   reduce_add         what is left of a sum is the sum of what is left
--   add_self, same_sum over two elements: a vector is its own negative; what leave the same have their sum in the space
--   over_one           two vectors of a list that brings in one dimension, each of them new, have their sum in the space below
--   form_sum rs         == the sum of the generators with the numbers rs
--   fresh_sum          new generators have no sum in the space over which they are new
--   ShortRelation D lo hi es n == some of the numbers es, at most n and rising, whose generators have their sum in the span of D
-- Assumes nothing.
use Rattle.std.specs.Prelude.{◌≡◌, refl, ◌⊎◌, Bool, true, false}
use Rattle.std.proofs.Common.{sym, ap, ap₂, ◌∙◌, inl, inr, arith}
use mathlib.Core.List.Memᴰ
use mathlib.Core.List.{List, [], ◌∷◌, Memᴰ}
use Prim.Native.Nat.{ℕ, suc, ◌-◌, ◌<◌, ◌≤◌}
use Rattle.std.proofs.Math.ListN.{length}
use Rattle.linear.specs.Space.{Space}
use Rattle.linear.specs.Span.{Span}
use Rattle.linear.specs.Basis.{reduce, insert, inserts, Reduced}
use Rattle.linear.specs.Order.{Rising}
use Rattle.linear.specs.Entry.{same_vec, generator, chosen}
use Rattle.linear.specs.Share.{Two, over}
use Rattle.linear.specs.laws.Space.{add_assoc, add_nul, nul_add, add_left_comm, zero_scale, one_scale}
use Rattle.linear.specs.laws.Span.{mem_cons, cast, span_uncons, span_add, span_rest, span_head, span_weak}
use Rattle.linear.proofs.laws.Reduce.{reduce_rest, reduce_zeroed, member}
use Rattle.linear.proofs.laws.Insert.{dec_nul, insert_reduced, insert_span, insert_length_new, span_of_reduce}
use Rattle.linear.proofs.laws.Dimension.{Fresh}
use Rattle.linear.proofs.laws.Order.{rising_mem}
use Rattle.linear.proofs.laws.Entry.{same_vec_yes, same_vec_no}
use Rattle.linear.proofs.laws.Residue.{reduce_same}
use Rattle.linear.proofs.laws.Share.{over_sub, add_back}

-- ---- residues of sums
module _ (S : Space) where
  open S use {fld, Vec, add, lead, coord_add}
  open fld use {𝟘, plus, plus_zero}

  add_cross : (a r b s : Vec) → add (add a r) (add b s) ≡ add (add a b) (add r s)
  add_cross a r b s = add_assoc S a r (add b s) ∙ ap (add a) (add_left_comm S r b s) ∙ sym (add_assoc S a b (add r s))

  pub reduce_add : (D : List Vec) → Reduced S D → (u v : Vec) → reduce S D (add u v) ≡ add (reduce S D u) (reduce S D v)
  reduce_add D ρ u v =
      let p = reduce_rest S D u in
      let q = reduce_rest S D v in
      reduce_same S D ρ (add u v) (add p.0 q.0) (add (reduce S D u) (reduce S D v))
      (λ x k. coord_add (reduce S D u) (reduce S D v) (lead x) ∙ ap₂ plus (reduce_zeroed S D u ρ x k) (reduce_zeroed S D v ρ x k) ∙ plus_zero 𝟘)
      (ap₂ add p.2 q.2 ∙ add_cross p.0 (reduce S D u) q.0 (reduce S D v))
      (span_add S p.1 q.1)

  pub dec_vec : (u v : Vec) → Dec (u ≡ v)
  dec_vec u v = go (same_vec S u v) refl
    where
      go : (t : Bool) → same_vec S u v ≡ t → Dec (u ≡ v)
      go true e = yes (same_vec_yes S u v e)
      go false e = no (same_vec_no S u v e)

module _ (S : Space) (two : Two S) where
  open S use {fld, Vec, nul, add, scale}
  open fld use {K, 𝟘, 𝟙}

  pub add_self : (x : Vec) → add x x ≡ nul
  add_self x = ap (add x) (sym (add_nul S x)) ∙ add_back S two x nul

  pub same_sum : (D : List Vec) → Reduced S D → (u v : Vec) → reduce S D u ≡ reduce S D v → Span S D (add u v)
  same_sum D ρ u v e = span_of_reduce S D (add u v) (reduce_add S D ρ u v ∙ ap (λ x. add x (reduce S D v)) e ∙ add_self (reduce S D v))

  -- two new vectors that bring in one dimension
  pub over_one : (B part : List Vec) → Reduced S B → over S B part ≤ 1 → (a b : Vec) → Memᴰ a part → Memᴰ b part → ¬ Span S B a → ¬ Span S B b
      → Span S B (add a b)
  unfolding over inserts
  over_one B part ρ l a b ma mb na nb = go (dec_nul S (reduce S (insert S B a) b))
    where
      few : length (insert S (insert S B a) b) - length B ≤ 1
      few =
          let k : length (insert S (insert S B a) b) - length B ≤ length (inserts S B part) - length B =
          over_sub S B ρ (a ∷ b ∷ []) part (mem_cons {P = λ x. Memᴰ x part} ma (mem_cons {P = λ x. Memᴰ x part} mb (λ x m. absurd
          (Memᴰ.not-nil m)))) in
          omega (arith, k, l)

      one : length (insert S B a) ≡ suc (length B)
      one = insert_length_new S B a (λ e. na ((member S B ρ a).1 e))

      by : (c : K) (w : Vec) → Span S B w → b ≡ add (scale c a) w → (c ≡ 𝟘) ⊎ (c ≡ 𝟙) → Span S B (add a b)
      by c w s e (inl z) = absurd (nb (cast S (e ∙ ap (λ k. add (scale k a) w) z ∙ ap (λ x. add x w) (zero_scale S a) ∙ nul_add S w) s))
      by c w s e (inr z) = cast S (ap (add a) (e ∙ ap (λ k. add (scale k a) w) z ∙ ap (λ x. add x w) (one_scale S a)) ∙ add_back S two a w) s

      go : Dec (reduce S (insert S B a) b ≡ nul) → Span S B (add a b)
      go (no n) = absurd (omega (arith, few, one, insert_length_new S (insert S B a) b n))
      go (yes e) =
          let r = span_uncons S ((insert_span S B a b).0 ((member S (insert S B a) (insert_reduced S B a ρ) b).1 e)) in
          by r.0 r.1 r.2 r.3 (two r.0)

-- ---- sums of generators
module _ (S : Space) (gens : List S.Vec) where
  open S use {Vec, nul, add}

  abbrev gen : ℕ → Vec
  gen e = generator S gens e

  unfoldable pub form_sum : List ℕ → Vec
  form_sum [] = nul
  form_sum (e ∷ es) = add (generator S gens e) (form_sum es)

  pub record ShortRelation (D : List Vec) (lo hi : ℕ) (es : List ℕ) (n : ℕ) : Type 0 where
    pub numbers : List ℕ
    pub rising : Rising lo hi numbers
    pub own : (e : ℕ) → Memᴰ e numbers → Memᴰ e es
    pub some : 0 < length numbers
    pub few : length numbers ≤ n
    pub sum : Span S D (form_sum numbers)

  -- the members of a rising list that are above its first are those of the rest
  later_in : (e lo hi : ℕ) (es rs : List ℕ) → Rising lo hi rs → e < lo → ((x : ℕ) → Memᴰ x rs → Memᴰ x (e ∷ es))
      → (x : ℕ) → Memᴰ x rs → Memᴰ x es
  later_in e lo hi es rs r l h x m = go (Memᴰ.cases_cons (h x m))
    where
      go : (x ≡ e) ⊎ Memᴰ x es → Memᴰ x es
      go (inl q) = absurd (let b = (rising_mem lo hi rs r x m).0 in omega arith)
      go (inr k) = k

  pub fresh_sum : (es : List ℕ) (B : List Vec) (lo hi : ℕ) → Rising lo hi es → Fresh S B (chosen S gens es) → (rs : List ℕ) (lo' : ℕ) → Rising lo' hi rs
      → ((x : ℕ) → Memᴰ x rs → Memᴰ x es) → 0 < length rs → ¬ Span S B (form_sum rs)
  unfolding chosen form_sum
  fresh_sum [] B lo hi r f = none
    where
      none : (rs : List ℕ) (lo' : ℕ) → Rising lo' hi rs → ((x : ℕ) → Memᴰ x rs → Memᴰ x []) → 0 < length rs → ¬ Span S B (form_sum rs)
      none [] lo' q h l s = absurd (omega arith)
      none (x ∷ rs) lo' q h l s = absurd (Memᴰ.not-nil (h x (Memᴰ.head refl)))
  fresh_sum (e ∷ es) B lo hi r f = each (fresh_sum es (gen e ∷ B) (suc e) hi r.2 f.1)
    where
      None : List ℕ → List Vec → Type 0
      None l X = (ts : List ℕ) (lo'' : ℕ) → Rising lo'' hi ts → ((y : ℕ) → Memᴰ y ts → Memᴰ y l) → 0 < length ts → ¬ Span S X (form_sum ts)

      rest : (x : ℕ) (ts : List ℕ) → Rising (suc x) hi ts → ((y : ℕ) → Memᴰ y ts → Memᴰ y (e ∷ es)) → Span S B (add (gen x) (form_sum ts))
          → x ≡ e → None es (gen e ∷ B) → ⊥
      rest x [] q h t z ih = f.0 (cast S (ap gen (sym z) ∙ sym (add_nul S (gen x))) t)
      rest x (y ∷ ts) q h t z ih =
          ih (y ∷ ts) (suc x) q (later_in e (suc x) hi es (y ∷ ts) q (omega arith) h) (omega arith)
          (span_rest S (ap (λ i. add (gen i) (form_sum (y ∷ ts))) z) (span_head S (gen e) B) (span_weak S t))

      each : None es (gen e ∷ B) → None (e ∷ es) B
      each ih [] lo' q h l s = absurd (omega arith)
      each ih (x ∷ rs) lo' q h l s = go (Memᴰ.cases_cons (h x (Memᴰ.head refl)))
        where
          go : (x ≡ e) ⊎ Memᴰ x es → ⊥
          go (inl z) = rest x rs q.2 (λ y m. h y (Memᴰ.tail m)) s z ih
          go (inr m) =
              let a : suc e ≤ x = (rising_mem (suc e) hi es r.2 x m).0 in
              ih (x ∷ rs) lo' q (mem_cons {P = λ y. Memᴰ y es} m (later_in e (suc x) hi es rs q.2 (omega arith) (λ y k. h y (Memᴰ.tail k))))
              (omega arith) (span_weak S s)
