-- Short relations: of many generators in a space, the sum of few is in a smaller space. Over two elements.
--   Toggled lo hi f b  == a rising list with the number f put in or, if it is there, taken out
--   relation_pairs     so many numbers that the sums of at most two of them can't all be different modulo D have a relation of at most four
--   relation_lines     so many that with the first put in those of at most one can't: a relation of at most three
-- The pigeonhole is in Clash, the sums are in FormSum. Assumes nothing.
use Rattle.std.specs.Prelude.{◌≡◌, ◌⊎◌, length}
use Rattle.std.proofs.Math.Path.{refl, sym, ap}
use Rattle.std.proofs.Common.{◌∙◌, subst, inl, inr, arith}
use mathlib.Core.List.Memᴰ
use mathlib.Core.List.{List, [], ◌∷◌, ◌++◌, map, Memᴰ}
use Prim.Native.Nat.{ℕ, suc, ◌+◌, ◌-◌, ◌*◌, ◌^◌, ◌<◌, ◌≤◌}
use Rattle.std.proofs.Math.Decide.{dec_lt, ℕ_discrete}
use Rattle.std.proofs.lemmas.List.{length-map}
use Rattle.linear.specs.Space.{Space}
use Rattle.linear.specs.Span.{Span}
use Rattle.linear.specs.Basis.{reduce, insert, Reduced}
use Rattle.linear.specs.Order.{Rising}
use Rattle.linear.specs.Entry.{generator}
use Rattle.linear.specs.Share.{Two, over, others}
use Rattle.linear.specs.Heavy.{rests, Fills}
use Rattle.linear.specs.laws.Space.{add_comm, add_assoc, add_nul, nul_add, add_left_comm, zero_scale, one_scale}
use Rattle.linear.specs.laws.Span.{mem_cons, cast, span_uncons, span_add, span_nul}
use Rattle.linear.proofs.laws.Insert.{dec_nul, insert_reduced, insert_span, span_of_reduce}
use Rattle.linear.proofs.laws.Order.{rising_from, rising_mem, mem_map_inv, mem_append}
use Rattle.linear.proofs.laws.Share.{others_count, add_back}
use Rattle.linear.proofs.laws.Heavy.{rests_length, fills_one, rest_values, xs, made, xs_count}
use Rattle.linear.specs.laws.Clash.{Clash, Twins, near, Near}
use Rattle.linear.proofs.laws.Clash.{clash, clash_append, clash_rising, near_count, near_mem}
use Rattle.linear.proofs.laws.FormSum.{dec_vec, same_sum, form_sum, ShortRelation}

-- ---- relations
module _ (S : Space) (two : Two S) (gens : List S.Vec) where
  open S use {fld, Vec, nul, add, scale}
  open fld use {K, 𝟘, 𝟙}

  abbrev g : ℕ → Vec
  g e = generator S gens e

  abbrev sum_of : List ℕ → Vec
  sum_of rs = form_sum S gens rs

  -- a rising list with the number f put in or, if it is there, taken out
  pub record Toggled (lo hi f : ℕ) (b : List ℕ) : Type 0 where
    pub numbers : List ℕ
    pub rising : Rising lo hi numbers
    pub own : (x : ℕ) → Memᴰ x numbers → Memᴰ x (f ∷ b)
    pub few : length numbers ≤ suc (length b)
    pub sum : sum_of numbers ≡ add (g f) (sum_of b)

  toggled : (lo hi f : ℕ) (b : List ℕ) → Rising lo hi b → lo ≤ f → f < hi → Toggled lo hi f b
  unfolding form_sum
  toggled lo hi f [] r l u = record { numbers = f ∷ []; rising = (l, u, tt); own = λ x m. m; few = omega arith; sum = refl }
  toggled lo hi f (a ∷ b) r l u = go (dec_lt f a) (ℕ_discrete f a) (λ k. toggled (suc a) hi f b r.2 k u)
    where
      swap : (x : ℕ) → Memᴰ x (f ∷ b) → Memᴰ x (f ∷ a ∷ b)
      swap = mem_cons {P = λ x. Memᴰ x (f ∷ a ∷ b)} (Memᴰ.head refl) (λ x m. Memᴰ.tail (Memᴰ.tail m))

      go : Dec (f < a) → Dec (f ≡ a) → (suc a ≤ f → Toggled (suc a) hi f b) → Toggled lo hi f (a ∷ b)
      go (yes k) e ih = record { numbers = f ∷ a ∷ b; rising = (l, u, (k, r.1, r.2)); own = λ x m. m; few = omega arith; sum = refl }
      go (no n) (yes e) ih =
          let k : lo ≤ a = r.0 in
          record {
            numbers = b;
            rising = rising_from lo (suc a) hi b (omega arith) r.2;
            own = λ x m. Memᴰ.tail (Memᴰ.tail m);
            few = omega arith;
            sum = sym (ap (λ i. add (g i) (add (g a) (sum_of b))) e ∙ add_back S two (g a) (sum_of b));
          }
      go (no n) (no e) ih =
          let t = ih (omega arith) in
          record {
            numbers = a ∷ t.numbers;
            rising = (r.0, r.1, t.rising);
            own = mem_cons {P = λ x. Memᴰ x (f ∷ a ∷ b)} (Memᴰ.tail (Memᴰ.head refl)) (λ x m. swap x (t.own x m));
            few = (let k = t.few in omega arith);
            sum = ap (add (g a)) t.sum ∙ add_left_comm S (g a) (g f) (sum_of b);
          }

  -- ---- what sums leave
  sum_one : (f : ℕ) → sum_of (f ∷ []) ≡ g f
  unfolding form_sum
  sum_one f = add_nul S (g f)

  sum_two : (e f : ℕ) → sum_of (e ∷ f ∷ []) ≡ add (g e) (g f)
  unfolding form_sum
  sum_two e f = ap (add (g e)) (add_nul S (g f))

  module _ (D : List Vec) (ρ : Reduced S D) where
    abbrev key : List ℕ → Vec
    key b = reduce S D (sum_of b)

    abbrev Relation : ℕ → ℕ → List ℕ → Type 0
    Relation lo hi es = ShortRelation S gens D lo hi es 4

    -- two lists with the same key, by the sum of their sums
    found : (lo hi : ℕ) (es : List ℕ) (n : ℕ) (a b rs : List ℕ) → key a ≡ key b → Rising lo hi rs → ((x : ℕ) → Memᴰ x rs → Memᴰ x es)
        → 0 < length rs → length rs ≤ n → sum_of rs ≡ add (sum_of a) (sum_of b) → ShortRelation S gens D lo hi es n
    found lo hi es n a b rs q r h p l e =
        record { numbers = rs; rising = r; own = h; some = p; few = l; sum = cast S e (same_sum S two D ρ (sum_of a) (sum_of b) q) }

    single : (P : ℕ → Type 0) (f : ℕ) → P f → (x : ℕ) → Memᴰ x (f ∷ []) → P x
    single P f p = mem_cons {P = P} p (λ x m. absurd (Memᴰ.not-nil m))

    -- two numbers with the same key, or the same with e
    twin : (n lo hi : ℕ) (es : List ℕ) → 2 ≤ n → (f : ℕ → List ℕ) (t : Twins key f lo hi es)
        → sum_of (t.one ∷ t.other ∷ []) ≡ add (sum_of (f t.one)) (sum_of (f t.other)) → ShortRelation S gens D lo hi es n
    twin n lo hi es l f t e =
        let k : t.other < hi = t.below in
        let u : t.one < t.other = t.less in
        found lo hi es n (f t.one) (f t.other) (t.one ∷ t.other ∷ []) t.same (t.from, omega arith, (t.less, t.below, tt))
        (mem_cons {P = λ x. Memᴰ x es} t.one_in (single (λ x. Memᴰ x es) t.other t.other_in)) (omega arith) l e

    -- the sums of two lists with e, and of one with it and one without
    both_with : (e : ℕ) (u v : Vec) → add (add (g e) u) (add (g e) v) ≡ add u v
    both_with e u v = ap (λ x. add x (add (g e) v)) (add_comm S (g e) u) ∙ add_assoc S u (g e) (add (g e) v) ∙ ap (add u) (add_back S two (g e) v)

    pairs : (es : List ℕ) (lo hi : ℕ) → Rising lo hi es → Clash key (near es) → Relation lo hi es
    unfolding near
    pairs [] lo hi r (inl (b, m, e)) = absurd (Memᴰ.not-nil m)
    pairs [] lo hi r (inr c) = absurd c
    pairs (e ∷ es) lo hi r c = go c (pairs es (suc e) hi r.2)
      where
        p : ℕ → List ℕ
        p f = e ∷ f ∷ []

        up : (rs : List ℕ) → Rising (suc e) hi rs → Rising lo hi rs
        up rs q = let a : lo ≤ e = r.0 in rising_from lo (suc e) hi rs (omega arith) q

        In : ℕ → Type 0
        In x = Memᴰ x (e ∷ es)

        raise : Relation (suc e) hi es → Relation lo hi (e ∷ es)
        raise R =
            record {
              numbers = R.numbers;
              rising = up R.numbers R.rising;
              own = λ x m. Memᴰ.tail (R.own x m);
              some = R.some;
              few = R.few;
              sum = R.sum;
            }

        -- both with e, one of them alone
        alone : (f : ℕ) → Memᴰ f es → key (e ∷ []) ≡ key (p f) → Relation lo hi (e ∷ es)
        alone f m q =
            let b = rising_mem (suc e) hi es r.2 f m in
            found lo hi (e ∷ es) 4 (e ∷ []) (p f) (f ∷ []) q (up (f ∷ []) (b.0, b.1, tt)) (single In f (Memᴰ.tail m)) (omega arith) (omega arith)
            (unfold form_sum in sym (both_with e nul (sum_of (f ∷ [])) ∙ nul_add S (sum_of (f ∷ []))))

        -- e and a list without it
        joined : (b : List ℕ) → Memᴰ b (near es) → key (e ∷ []) ≡ key b → Relation lo hi (e ∷ es)
        joined b m q =
            let N = near_mem (suc e) hi es r.2 b m in
            let l : length b ≤ 2 = N.few in
            found lo hi (e ∷ es) 4 (e ∷ []) b (e ∷ b) q (r.0, r.1, N.rising) (mem_cons {P = In} (Memᴰ.head refl) (λ x k. Memᴰ.tail (N.own x k)))
            (omega arith) (omega arith) (unfold form_sum in ap (λ x. add x (sum_of b)) (sym (add_nul S (g e))))

        -- e with f, and a list without e
        crossed : (f : ℕ) → Memᴰ f es → (b : List ℕ) → Memᴰ b (near es) → key (p f) ≡ key b → Relation lo hi (e ∷ es)
        crossed f k b m q =
            let N = near_mem (suc e) hi es r.2 b m in
            let l : length b ≤ 2 = N.few in
            let a = rising_mem (suc e) hi es r.2 f k in
            let t = toggled (suc e) hi f b N.rising a.0 a.1 in
            let n : length t.numbers ≤ suc (length b) = t.few in
            found lo hi (e ∷ es) 4 (p f) b (e ∷ t.numbers) q (r.0, r.1, t.rising)
            (mem_cons {P = In} (Memᴰ.head refl) (λ x i. Memᴰ.tail (mem_cons {P = λ y. Memᴰ y es} k N.own x (t.own x i))))
            (omega arith) (omega arith)
            (unfold form_sum in ap (add (g e)) t.sum ∙ sym (add_assoc S (g e) (g f) (sum_of b)) ∙ ap (λ x. add x (sum_of b)) (sym (sum_two e f)))

        both : Twins key p (suc e) hi es → Relation lo hi (e ∷ es)
        both t =
            raise (twin 4 (suc e) hi es (omega arith) p t (unfold form_sum in
            sym (both_with e (sum_of (t.one ∷ [])) (sum_of (t.other ∷ [])) ∙ ap (λ x. add x (sum_of (t.other ∷ []))) (sum_one t.one))))

        go : ((b : List ℕ) × Memᴰ b (map p es ++ near es) × (key (e ∷ []) ≡ key b)) ⊎ Clash key (map p es ++ near es)
            → (Clash key (near es) → Relation (suc e) hi es) → Relation lo hi (e ∷ es)
        go (inl (b, m, q)) ih =
            mem_append (λ b. key (e ∷ []) ≡ key b → Relation lo hi (e ∷ es)) (map p es)
            (mem_map_inv p (λ b. key (e ∷ []) ≡ key b → Relation lo hi (e ∷ es)) es alone) joined b m q
        go (inr k) ih = at (clash_append key (map p es) (near es) k)
          where
            at : Clash key (map p es) ⊎ ((a : List ℕ) × (b : List ℕ) × Memᴰ a (map p es) × Memᴰ b (near es) × (key a ≡ key b))
                ⊎ Clash key (near es) → Relation lo hi (e ∷ es)
            at (inl c) = both (clash_rising key p (suc e) hi es r.2 c)
            at (inr (inl (a, b, i, m, q))) =
                mem_map_inv p (λ a. key a ≡ key b → Relation lo hi (e ∷ es)) es (λ f k z. crossed f k b m z) a i q
            at (inr (inr c)) = raise (ih c)

    -- a number alone, or two, with what the empty list leaves
    singles : (es : List ℕ) (lo hi : ℕ) → Rising lo hi es → Clash key ([] ∷ map (λ f. f ∷ []) es) → ShortRelation S gens D lo hi es 2
    singles es lo hi r (inl (b, m, q)) = mem_map_inv (λ f. f ∷ []) (λ b. key [] ≡ key b → ShortRelation S gens D lo hi es 2) es alone b m q
      where
        alone : (f : ℕ) → Memᴰ f es → key [] ≡ key (f ∷ []) → ShortRelation S gens D lo hi es 2
        alone f k e =
            let b = rising_mem lo hi es r f k in
            found lo hi es 2 [] (f ∷ []) (f ∷ []) e (b.0, b.1, tt) (single (λ x. Memᴰ x es) f k) (omega arith) (omega arith)
            (unfold form_sum in sym (nul_add S (sum_of (f ∷ []))))
    singles es lo hi r (inr c) =
        let t = clash_rising key (λ f. f ∷ []) lo hi es r c in
        twin 2 lo hi es (omega arith) (λ f. f ∷ []) t (unfold form_sum in ap (λ x. add x (sum_of (t.other ∷ []))) (sym (sum_one t.one)))

    -- of numbers whose generators are in a space over D with m more dimensions, lists whose keys are too many
    module _ (W : List Vec) (m : ℕ) (F : Fills S gens D W m) where
      abbrev values : List Vec
      values = nul ∷ others S (rests S D (xs S two gens D W m ρ F))

      values_count : length values ≡ 2 ^ m
      values_count =
          omega (
            arith,
            others_count S (rests S D (xs S two gens D W m ρ F)),
            ap (λ (n : ℕ). 2 ^ n) (rests_length S (xs S two gens D W m ρ F) D ∙ xs_count S two gens D W m ρ F),
          )

      sum_in : (b : List ℕ) → ((x : ℕ) → Memᴰ x b → Span S W (g x)) → Span S W (sum_of b)
      unfolding form_sum
      sum_in [] h = span_nul S W
      sum_in (x ∷ b) h = span_add S (h x (Memᴰ.head refl)) (sum_in b (λ y k. h y (Memᴰ.tail k)))

      key_in : (v : Vec) → Span S W v → Memᴰ (reduce S D v) values
      key_in v s = go (rest_values S two (xs S two gens D W m ρ F) D ρ v (subst (λ X. Span S X v) (sym (made S two gens D W m ρ F)) s))
        where
          go : (reduce S D v ≡ nul) ⊎ Memᴰ (reduce S D v) (others S (rests S D (xs S two gens D W m ρ F))) → Memᴰ (reduce S D v) values
          go (inl z) = Memᴰ.head z
          go (inr k) = Memᴰ.tail k

      keys_clash : (L : List (List ℕ)) → ((b : List ℕ) → Memᴰ b L → Span S W (sum_of b)) → 2 ^ m < length L → Clash key L
      keys_clash L h l = clash key (dec_vec S) L values (λ b k. key_in (sum_of b) (h b k)) (omega (arith, l, values_count))

      pub relation_pairs : (es : List ℕ) (lo hi : ℕ) → Rising lo hi es → ((x : ℕ) → Memᴰ x es → Span S W (g x))
          → 2 * 2 ^ m < 2 + length es * (length es + 1) → ShortRelation S gens D lo hi es 4
      relation_pairs es lo hi r h l =
          pairs es lo hi r (keys_clash (near es) (λ b k. let N = near_mem lo hi es r b k in sum_in b (λ x i. h x (N.own x i))) (omega
          (arith, l, near_count es)))

  pub relation_lines : (D W : List Vec) (m : ℕ) → Reduced S D → Fills S gens D W m → (es : List ℕ) (lo hi : ℕ) → Rising lo hi es
      → ((x : ℕ) → Memᴰ x es → Span S W (g x)) → 2 ^ (m - 1) < length es → ShortRelation S gens D lo hi es 3
  relation_lines D W m ρ F [] lo hi r h l = absurd (omega arith)
  relation_lines D W m ρ F (x ∷ es) lo hi r h l = go (dec_nul S (reduce S D (g x)))
    where
      E : List Vec
      E = insert S D (g x)

      σ : Reduced S E
      σ = insert_reduced S D (g x) ρ

      In : ℕ → Type 0
      In e = Memᴰ e (x ∷ es)

      -- a relation over D and the generator of x, by how much of it there is
      by : (R : ShortRelation S gens E (suc x) hi es 2) (c : K) (w : Vec) → Span S D w → sum_of R.numbers ≡ add (scale c (g x)) w → (c ≡ 𝟘) ⊎ (c ≡ 𝟙)
          → ShortRelation S gens D lo hi (x ∷ es) 3
      by R c w s e (inl z) =
          let a : lo ≤ x = r.0 in
          let k : length R.numbers ≤ 2 = R.few in
          record {
            numbers = R.numbers;
            rising = rising_from lo (suc x) hi R.numbers (omega arith) R.rising;
            own = λ y i. Memᴰ.tail (R.own y i);
            some = R.some;
            few = omega arith;
            sum = cast S (e ∙ ap (λ y. add (scale y (g x)) w) z ∙ ap (λ y. add y w) (zero_scale S (g x)) ∙ nul_add S w) s;
          }
      by R c w s e (inr z) =
          let k : length R.numbers ≤ 2 = R.few in
          record {
            numbers = x ∷ R.numbers;
            rising = (r.0, r.1, R.rising);
            own = mem_cons {P = In} (Memᴰ.head refl) (λ y i. Memᴰ.tail (R.own y i));
            some = omega arith;
            few = omega arith;
            sum = unfold form_sum in cast S (ap (add (g x)) (e ∙ ap (λ y. add (scale y (g x)) w) z ∙ ap (λ y. add y w) (one_scale S (g x)))
                ∙ add_back S two (g x) w) s;
          }

      go : Dec (reduce S D (g x) ≡ nul) → ShortRelation S gens D lo hi (x ∷ es) 3
      go (yes e) =
          record {
            numbers = x ∷ [];
            rising = (r.0, r.1, tt);
            own = mem_cons {P = In} (Memᴰ.head refl) (λ y i. absurd (Memᴰ.not-nil i));
            some = omega arith;
            few = omega arith;
            sum = cast S (sum_one x) (span_of_reduce S D (g x) e);
          }
      go (no n) =
          let G : Fills S gens E W (m - 1) = fills_one S gens D W m ρ F (g x) n (h x (Memᴰ.head refl)) in
          let c = keys_clash E σ W (m - 1) G ([] ∷ map (λ f. f ∷ []) es)
          (mem_cons {P = λ b. Span S W (sum_of b)} (sum_in E σ W (m - 1) G [] (λ y i. absurd (Memᴰ.not-nil i)))
          (mem_map_inv (λ f. f ∷ []) (λ b. Span S W (sum_of b)) es (λ f i. cast S (sum_one f) (h f (Memᴰ.tail i)))))
          (omega (arith, l, length-map es (λ f. f ∷ []))) in
          let R = singles E σ es (suc x) hi r.2 c in
          let u = span_uncons S ((insert_span S D (g x) (sum_of R.numbers)).0 R.sum) in
          by R u.0 u.1 u.2 u.3 (two u.0)
