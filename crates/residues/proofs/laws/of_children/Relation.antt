-- Where values have no rank above 1, a space that needs many generators has a short relation between their values.
--   short_more       with more generators
--   leads_related    a space over d, with so many generators that a relation is short, has one
-- Assumes nothing.
use Rattle.std.specs.Prelude.{◌≡◌, refl, ◌≢◌, ◌⊎◌, Bool, true, false, ◌&&◌, ℕ, ◌+◌, ◌-◌, ◌*◌, ◌<◌, ◌≤◌, leb, eqb, drop}
use Rattle.std.proofs.Math.Path.{sym, ap, ap₂, subst}
use Rattle.std.proofs.Common.{◌∙◌, inl, inr, mul-le-mul, get_or-drop}
use Rattle.std.proofs.Math.Bool.{and-eq-true_iff}
use Rattle.std.proofs.lemmas.Bool.{false≢true}
use mathlib.Core.List.Memᴰ
use mathlib.Core.List.{List, [], ◌∷◌, Memᴰ}
use native.Mathlib.Omega.{arith}
use Rattle.std.proofs.Math.Decide.{dec_lt, ℕ_discrete}
use Rattle.std.specs.Int.Bits.{bit_xor, xor_zero_r, xor_comm}
use Rattle.std.proofs.Math.ListN.{length, get_or, length-drop, get_or-eq_default}
use borrow.Author.Tests.{leb-true, le-leb, eqb-true, eq-eqb}
use Rattle.linear.specs.Span.{Span}
use Rattle.linear.specs.Basis.{reduce, inserts, basis_of, Reduced, dim}
use Rattle.linear.specs.Order.{Rising}
use Rattle.linear.specs.Entry.{inside, generator, chosen, generators_in}
use Rattle.linear.specs.Greedy.{greedy}
use Rattle.linear.specs.Word.{word}
use Rattle.linear.specs.laws.Space.{add_assoc}
use Rattle.linear.specs.laws.Span.{mem_cons, cast, span_add, span_mem, span_bind}
use Rattle.linear.proofs.laws.Reduce.{member}
use Rattle.linear.proofs.laws.Insert.{inserts_reduced, basis_of_reduced, basis_of_span}
use Rattle.linear.proofs.laws.Dimension.{sub_length, inserts_le}
use Rattle.linear.proofs.laws.Order.{rising_mem}
use Rattle.linear.proofs.laws.Entry.{inside_yes, yes_inside, generators_in_within}
use Rattle.linear.proofs.laws.Extension.{chosen_length}
use Rattle.linear.proofs.laws.Greedy.{inserts_within, greedy_rising, greedy_passes, greedy_fresh, greedy_covers}
use Rattle.linear.proofs.laws.Residue.{residue_span}
use Rattle.linear.proofs.laws.Heavy.{in_w}
use Rattle.linear.proofs.laws.FormSum.{form_sum, ShortRelation, reduce_add, over_one, fresh_sum}
use Rattle.linear.proofs.laws.Relation.{relation_pairs, relation_lines}
use Rattle.residues.specs.children.Residues.{residues, with_residue}
use Rattle.residues.specs.children.Found.{Leads, Spared}
use Rattle.residues.specs.children.Weighed.{rank_of, Owner, Weighed}
use Rattle.residues.specs.children.Relation.{Short, Standing, Related, AllRelated}
use Rattle.residues.proofs.laws.of_children.Child.{with_zero}
use Rattle.residues.proofs.laws.of_children.Leads.{two_word}
use Rattle.residues.proofs.laws.of_children.Found.{value_at}
use Rattle.residues.proofs.laws.of_children.Weighed.{spared_alive}
use Rattle.residues.proofs.laws.of_children.Handed.{mem_residue, xor_back}

xor_zero : (u v : ℕ) → bit_xor u v ≡ 0 → u ≡ v
xor_zero u v e = sym (ap (bit_xor u) e ∙ xor_zero_r u) ∙ xor_back u v

pub short_more : (a b m : ℕ) (lines : Bool) → a ≤ b → Short a m lines → Short b m lines
short_more a b m true l s = omega arith
short_more a b m false l s =
    let k : a * (a + 1) ≤ b * (b + 1) = mul-le-mul l (let z : a + 1 ≤ b + 1 = omega arith in z) in
    omega (arith, s, k)

module _ (gens C D W d : List ℕ) (start k m j : ℕ) (gone w : List ℕ) (bound : ℕ → ℕ) (σ : Reduced word D) (f : d ≡ residues gens D)
    (L : Leads gens C D W start k m j) (F : Spared gens W gone) (alike : length gens ≡ length d) (T : Weighed gens d start gone w bound)
    (heavy : (n : ℕ) → start ≤ n → n < length gens → 1 < get_or w n 0 → get_or gone n 0 ≢ 0) (valued : (n : ℕ) → get_or w n 0 ≢ 0 → get_or d n 0 ≢ 0) where
  abbrev gen : ℕ → ℕ
  gen i = generator word gens i

  -- the generators of value 0, and their basis
  abbrev none : List ℕ
  none = with_residue 0 gens d

  abbrev Z : List ℕ
  Z = basis_of word none

  none_is : none ≡ generators_in word gens D
  none_is = ap (λ (x : List ℕ). with_residue 0 gens x) f ∙ with_zero gens D

  value : (i : ℕ) → get_or d i 0 ≡ reduce word D (gen i)
  value i = value_at gens d D f i

  zero_in : (v : ℕ) → Span word Z v → Span word D v
  zero_in v s = generators_in_within word gens D v (subst (λ (l : List ℕ). Span word l v) none_is ((basis_of_span word none v).0 s))

  -- a generator with a value is not in the span of those without
  new : (i : ℕ) → get_or d i 0 ≢ 0 → ¬ Span word Z (gen i)
  new i nz s = nz (value i ∙ (member word D σ (gen i)).0 (zero_in (gen i) s))

  -- ---- numbers that may stand in a relation
  unfoldable ok : ℕ → Bool
  ok x = leb start x && (eqb (get_or w x 0) 1 && (eqb (get_or gone x 0) 0 && inside word W (gen x)))

  ok_yes : (x : ℕ) → start ≤ x → get_or w x 0 ≡ 1 → get_or gone x 0 ≡ 0 → Span word W (gen x) → ok x ≡ true
  unfolding ok
  ok_yes x a e z s =
      (and-eq-true_iff (leb start x) _).1 (
        le-leb start x a,
        (and-eq-true_iff (eqb (get_or w x 0) 1) _).1 (
          eq-eqb (get_or w x 0) 1 e,
          (and-eq-true_iff
              (eqb (get_or gone x 0) 0) _).1 (eq-eqb (get_or gone x 0) 0 z, yes_inside word W L.fills.reduced (gen x) s),
        ),
      )

  standing : (x : ℕ) → x < length gens → ok x ≡ true → Standing gens d W start w gone x
  unfolding ok
  standing x l e =
      let p = (and-eq-true_iff (leb start x) (eqb (get_or w x 0) 1 && (eqb (get_or gone x 0) 0 && inside word W (gen x)))).0 e in
      let q = (and-eq-true_iff (eqb (get_or w x 0) 1) (eqb (get_or gone x 0) 0 && inside word W (gen x))).0 p.1 in
      let r = (and-eq-true_iff (eqb (get_or gone x 0) 0) (inside word W (gen x))).0 q.1 in
      let one : get_or w x 0 ≡ 1 = eqb-true (get_or w x 0) 1 q.0 in
      record {
        from = leb-true start x p.0;
        below = l;
        weight = one;
        alive = eqb-true (get_or gone x 0) 0 r.0;
        has = inside_yes word W (gen x) r.1;
        value = valued x (λ z. omega (arith, one, z));
      }

  -- ---- the values of W have rank 1
  module _ (x : ℕ) (a : start ≤ x) (l : x < length gens) (s : Span word W (gen x)) (nz : get_or d x 0 ≢ 0) where
    o : Owner d start w bound x
    o = T.owner x a (omega (arith, l, alike)) nz (spared_alive gens W gone F x s)

    same_in : (i : ℕ) → get_or d i 0 ≡ get_or d x 0 → Span word W (gen i)
    same_in i e = residue_span word D W L.fills.over (gen x) (gen i) (sym (value x) ∙ sym e ∙ value i) s

    own_low : o.at < length gens
    own_low = omega (arith, o.below, alike)

    own_alive : get_or gone o.at 0 ≡ 0
    own_alive = spared_alive gens W gone F o.at (same_in o.at o.same)

    own_one : get_or w o.at 0 ≡ 1
    own_one = go (dec_lt 1 (get_or w o.at 0)) (ℕ_discrete (get_or w o.at 0) 0)
      where
        go : Dec (1 < get_or w o.at 0) → Dec (get_or w o.at 0 ≡ 0) → get_or w o.at 0 ≡ 1
        go (yes b) z = absurd (heavy o.at o.from own_low b own_alive)
        go (no b) (yes z) = absurd (o.some z)
        go (no b) (no z) = omega arith

    own_ok : ok o.at ≡ true
    own_ok = ok_yes o.at o.from own_one own_alive (same_in o.at o.same)

    rank_one : rank_of gens d start (get_or d x 0) ≤ 1
    rank_one =
        let b : rank_of gens d start (get_or d x 0) ≤ bound (get_or d x 0) =
        T.above (get_or d x 0) nz (λ S. F.none S.number S.dies (same_in S.number S.value)) in
        omega (arith, b, o.weight, own_one)

    part_mem : (i : ℕ) → start ≤ i → i < length gens → get_or d i 0 ≡ get_or d x 0
        → Memᴰ (gen i) (with_residue (get_or d x 0) (drop start gens) (drop start d))
    unfolding generator
    part_mem i b u e =
        let q : start + (i - start) ≡ i = omega arith in
        subst (λ (y : ℕ). Memᴰ y (with_residue (get_or d x 0) (drop start gens) (drop start d)))
        (get_or-drop start gens (i - start) 0 ∙ ap (λ (n : ℕ). get_or gens n 0) q)
        (mem_residue (get_or d x 0) (drop start gens) (drop start d) (i - start) (omega (arith, length-drop start gens, u, b))
        (omega (arith, length-drop start d, u, b, alike)) (get_or-drop start d (i - start) 0 ∙ ap (λ (n : ℕ). get_or d n 0) q ∙ e))

    -- generators of one value differ by those without
    twins : (i : ℕ) → start ≤ i → i < length gens → get_or d i 0 ≡ get_or d x 0 → Span word Z (bit_xor (gen x) (gen i))
    twins i b u e =
        over_one word two_word Z (with_residue (get_or d x 0) (drop start gens) (drop start d)) (basis_of_reduced word none) rank_one (gen x) (gen i)
        (part_mem x a l refl) (part_mem i b u e) (new x nz) (new i (λ z. nz (sym e ∙ z)))

  -- ---- the numbers taken
  abbrev es : List ℕ
  es = greedy word gens ok Z (length gens) 0

  abbrev E : List ℕ
  E = inserts word Z (chosen word gens es)

  rises : Rising 0 (length gens) es
  rises = greedy_rising word gens ok (length gens) 0 (length gens) Z (omega arith)

  stands : (x : ℕ) → Memᴰ x es → Standing gens d W start w gone x
  stands x i = standing x (rising_mem 0 (length gens) es rises x i).1 (greedy_passes word gens ok (length gens) 0 Z x i)

  -- with the generators without a value they span those in W
  covers : (x : ℕ) → x < length gens → Span word W (gen x) → Span word E (gen x)
  covers x l s = go (ℕ_discrete (get_or d x 0) 0) (dec_lt x start)
    where
      go : Dec (get_or d x 0 ≡ 0) → Dec (x < start) → Span word E (gen x)
      go (yes z) b =
          inserts_within word gens (chosen word gens es) Z (gen x) ((basis_of_span word none (gen x)).1 (span_mem word (unfold generator in
          mem_residue 0 gens d x l (omega (arith, l, alike)) z)))
      go (no nz) (yes b) = absurd (nz (value x ∙ (member word D σ (gen x)).0 (L.from (gen x) (L.first x (omega (arith, b, L.begin)) s))))
      go (no nz) (no b) =
          let a : start ≤ x = omega arith in
          let p = o x a l s nz in
          let t = twins x a l s nz p.at p.from (own_low x a l s nz) p.same in
          let c = greedy_covers word gens ok (length gens) 0 Z p.at (omega arith) (omega (arith, own_low x a l s nz)) (own_ok x a l s nz) in
          cast word (sym (ap (λ (y : ℕ). bit_xor y (gen p.at)) (xor_comm (gen x) (gen p.at)) ∙ xor_comm (bit_xor (gen p.at) (gen x)) (gen p.at)
          ∙ xor_back (gen p.at) (gen x)))
          (span_add word (inserts_within word gens (chosen word gens es) Z (bit_xor (gen x) (gen p.at)) t) c)

  many : k - dim word none ≤ length es
  unfolding dim
  many =
      let n : length (basis_of word (generators_in word gens W)) ≤ length E =
      sub_length word E (basis_of word (generators_in word gens W)) (basis_of_reduced word (generators_in word gens W))
      (inserts_reduced word (chosen word gens es) Z (basis_of_reduced word none))
      (λ v s. span_bind word each ((basis_of_span word (generators_in word gens W) v).0 s)) in
      omega (arith, n, L.rank, inserts_le word (chosen word gens es) Z, chosen_length word gens [] es)
    where
      each : (g : ℕ) → Memᴰ g (generators_in word gens W) → Span word E g
      each g i =
          let r = in_w word gens D W m σ L.fills g i in
          cast word r.2 (covers r.0 r.1 (cast word (sym r.2) r.3))

  -- ---- a relation between them
  abbrev sum_of : List ℕ → ℕ
  sum_of rs = form_sum word gens rs

  relation : (lines : Bool) → Short (k - dim word none) m lines
      → (n : ℕ) × (n ≤ 4) × (lines ≡ true → n ≤ 3) × ShortRelation word gens D 0 (length gens) es n
  relation true s = (
    3,
    omega arith,
    λ e. omega arith,
    relation_lines word two_word gens D W m σ L.fills es 0 (length gens) rises (λ x i. (stands x i).has) (short_more (k - dim word none) (length es) m true
        many s),
  )
  relation false s = (
    4,
    omega arith,
    λ e. absurd (false≢true e),
    relation_pairs word two_word gens D σ W m L.fills es 0 (length gens) rises (λ x i. (stands x i).has) (short_more (k - dim word none) (length es) m false
        many s),
  )

  -- their sum is new
  free_sum : (rs : List ℕ) → Rising 0 (length gens) rs → ((x : ℕ) → Memᴰ x rs → Memᴰ x es) → 0 < length rs → ¬ Span word Z (sum_of rs)
  free_sum rs r h l =
      fresh_sum word gens es Z 0 (length gens) rises (greedy_fresh word gens ok (length gens) 0 Z (basis_of_reduced word none)) rs 0 r h l

  -- no two of them have one value
  apart : (x y : ℕ) → Memᴰ x es → Memᴰ y es → x < y → get_or d x 0 ≢ get_or d y 0
  unfolding form_sum
  apart x y i j l e =
      let a = stands x i in
      let b = stands y j in
      free_sum (x ∷ y ∷ []) (omega arith, a.below, (l, b.below, tt))
      (mem_cons {P = λ z. Memᴰ z es} i (mem_cons {P = λ z. Memᴰ z es} j (λ z q. absurd (Memᴰ.not-nil q)))) (omega arith)
      (cast word (ap (bit_xor (gen x)) (xor_zero_r (gen y))) (twins x a.from a.below a.has a.value y b.from b.below (sym e)))

  -- three or four of them
  related : (lines : Bool) (i j g h : ℕ) → i < j → j < g → g < h → h ≤ length gens → Standing gens d W start w gone i → Standing gens d W start w gone j
      → Standing gens d W start w gone g → (h ≡ length gens) ⊎ Standing gens d W start w gone h → (lines ≡ true → h ≡ length gens)
      → get_or d i 0 ≢ get_or d j 0 → get_or d i 0 ≢ get_or d g 0 → get_or d j 0 ≢ get_or d g 0
      → Span word D (bit_xor (gen i) (bit_xor (gen j) (bit_xor (gen g) (gen h)))) → ¬ Span word Z (bit_xor (gen i) (bit_xor (gen j) (bit_xor (gen g) (gen h))))
      → Related gens d W start w gone lines
  related lines i j g h ij jg gh hn first second third fourth wanted aij aig ajg s n =
      record {
        i = i;
        j = j;
        g = g;
        h = h;
        ij = ij;
        jg = jg;
        gh = gh;
        hn = hn;
        first = first;
        second = second;
        third = third;
        fourth = fourth;
        wanted = wanted;
        apart_ij = aij;
        apart_ig = aig;
        apart_jg = ajg;
        sum = xor_zero (bit_xor (get_or d i 0) (get_or d j 0)) (bit_xor (get_or d g 0) (get_or d h 0)) values;
        free = unfold generator in λ z. n (cast word (sym (add_assoc word (gen i) (gen j) (bit_xor (gen g) (gen h))))
            ((member word Z (basis_of_reduced word none) (bit_xor (bit_xor (gen i) (gen j)) (bit_xor (gen g) (gen h)))).1 z));
      }
    where
      pair : (x y : ℕ) → bit_xor (get_or d x 0) (get_or d y 0) ≡ reduce word D (bit_xor (gen x) (gen y))
      pair x y = ap₂ bit_xor (value x) (value y) ∙ sym (reduce_add word D σ (gen x) (gen y))

      values : bit_xor (bit_xor (get_or d i 0) (get_or d j 0)) (bit_xor (get_or d g 0) (get_or d h 0)) ≡ 0
      values =
          ap₂ bit_xor (pair i j) (pair g h) ∙ sym (reduce_add word D σ (bit_xor (gen i) (gen j)) (bit_xor (gen g) (gen h)))
          ∙ (member word D σ (bit_xor (bit_xor (gen i) (gen j)) (bit_xor (gen g) (gen h)))).0
          (cast word (add_assoc word (gen i) (gen j) (bit_xor (gen g) (gen h))) s)

  -- no number beyond the last has a generator
  gen_none : gen (length gens) ≡ 0
  unfolding generator
  gen_none = get_or-eq_default gens 0 {n = length gens} (omega arith)

  finish : (lines : Bool) (rs : List ℕ) → Rising 0 (length gens) rs → ((x : ℕ) → Memᴰ x rs → Memᴰ x es) → 0 < length rs → length rs ≤ 4
      → (lines ≡ true → length rs ≤ 3) → Span word D (sum_of rs) → Related gens d W start w gone lines
  unfolding form_sum
  finish lines [] r h p l t s = absurd (omega arith)
  finish lines (x ∷ []) r h p l t s =
      absurd ((stands x (h x (Memᴰ.head refl))).value (value x ∙ (member word D σ (gen x)).0 (cast word (sym (xor_zero_r (gen x))) s)))
  finish lines (x ∷ y ∷ []) r h p l t s =
      let e : bit_xor (get_or d x 0) (get_or d y 0) ≡ 0 =
      ap₂ bit_xor (value x) (value y) ∙ sym (reduce_add word D σ (gen x) (gen y)) ∙ (member word D σ (bit_xor (gen x) (gen y))).0
      (cast word (ap (bit_xor (gen x)) (sym (xor_zero_r (gen y)))) s) in
      absurd (apart x y (h x (Memᴰ.head refl)) (h y (Memᴰ.tail (Memᴰ.head refl))) r.2.0 (xor_zero (get_or d x 0) (get_or d y 0) e))
  finish lines (i ∷ j ∷ g ∷ []) r h p l t s =
      let e : bit_xor (gen i) (bit_xor (gen j) (bit_xor (gen g) 0)) ≡ bit_xor (gen i) (bit_xor (gen j) (bit_xor (gen g) (gen (length gens)))) =
      ap (λ (y : ℕ). bit_xor (gen i) (bit_xor (gen j) (bit_xor (gen g) y))) (sym gen_none) in
      related lines i j g (length gens) r.2.0 r.2.2.0 r.2.2.1 (omega arith) (stands i (h i (Memᴰ.head refl)))
      (stands j (h j (Memᴰ.tail (Memᴰ.head refl)))) (stands g (h g (Memᴰ.tail (Memᴰ.tail (Memᴰ.head refl))))) (inl refl) (λ q. refl)
      (apart i j (h i (Memᴰ.head refl)) (h j (Memᴰ.tail (Memᴰ.head refl))) r.2.0)
      (apart i g (h i (Memᴰ.head refl)) (h g (Memᴰ.tail (Memᴰ.tail (Memᴰ.head refl)))) (let a = r.2.0 in let b = r.2.2.0 in omega arith))
      (apart j g (h j (Memᴰ.tail (Memᴰ.head refl))) (h g (Memᴰ.tail (Memᴰ.tail (Memᴰ.head refl)))) r.2.2.0)
      (cast word (sym e) s) (λ z. free_sum (i ∷ j ∷ g ∷ []) r h p (cast word e z))
  finish lines (i ∷ j ∷ g ∷ x ∷ []) r h p l t s =
      let e : bit_xor (gen i) (bit_xor (gen j) (bit_xor (gen g) (bit_xor (gen x) 0))) ≡ bit_xor (gen i) (bit_xor (gen j) (bit_xor (gen g) (gen x))) =
      ap (λ (y : ℕ). bit_xor (gen i) (bit_xor (gen j) (bit_xor (gen g) y))) (xor_zero_r (gen x)) in
      let a = stands x (h x (Memᴰ.tail (Memᴰ.tail (Memᴰ.tail (Memᴰ.head refl))))) in
      let b : x < length gens = a.below in
      related lines i j g x r.2.0 r.2.2.0 r.2.2.2.0 (omega arith) (stands i (h i (Memᴰ.head refl)))
      (stands j (h j (Memᴰ.tail (Memᴰ.head refl)))) (stands g (h g (Memᴰ.tail (Memᴰ.tail (Memᴰ.head refl))))) (inr a)
      (λ q. absurd (let u = t q in omega arith))
      (apart i j (h i (Memᴰ.head refl)) (h j (Memᴰ.tail (Memᴰ.head refl))) r.2.0)
      (apart i g (h i (Memᴰ.head refl)) (h g (Memᴰ.tail (Memᴰ.tail (Memᴰ.head refl)))) (let a = r.2.0 in let b = r.2.2.0 in omega arith))
      (apart j g (h j (Memᴰ.tail (Memᴰ.head refl))) (h g (Memᴰ.tail (Memᴰ.tail (Memᴰ.head refl)))) r.2.2.0)
      (cast word (sym e) s) (λ z. free_sum (i ∷ j ∷ g ∷ x ∷ []) r h p (cast word e z))
  finish lines (i ∷ j ∷ g ∷ x ∷ y ∷ rs) r h p l t s = absurd (omega arith)

  all_related : (lines : Bool) → Short (k - dim word none) m lines → Related gens d W start w gone lines
  all_related lines s =
      let r = relation lines s in
      let R = r.3 in
      let b : r.0 ≤ 4 = r.1 in
      let c : length R.numbers ≤ r.0 = R.few in
      finish lines R.numbers R.rising R.own R.some (omega arith) (λ e. let u = r.2 e in omega arith) R.sum

pub leads_related : (gens d : List ℕ) (start k m : ℕ) (gone w : List ℕ) (bound : ℕ → ℕ) (lines : Bool) → length gens ≡ length d
    → Weighed gens d start gone w bound
    → ((n : ℕ) → start ≤ n → n < length gens → 1 < get_or w n 0 → get_or gone n 0 ≢ 0)
    → ((n : ℕ) → get_or w n 0 ≢ 0 → get_or d n 0 ≢ 0)
    → Short (k - dim word (with_residue 0 gens d)) m lines → AllRelated gens d start k m gone w lines
leads_related gens d start k m gone w bound lines alike T heavy valued s =
    record { some = λ C D W ρ σ f j L F. all_related gens C D W d start k m j gone w bound σ f L F alike T heavy valued lines s }
