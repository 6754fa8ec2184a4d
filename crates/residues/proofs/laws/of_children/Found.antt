-- A search meets every space over its node.
--   by_child                            the spaces over d and a generator are those over the child's residues
--   by_none, by_finished, by_shared     none for k; the first new number is marked; a dead number has the value
--   by_grown                            further marks do no harm
--   left_start, left_more, left_met     as many gone as dead; one more gone; all that are picked
--   closed_met                          where the spaces over d, a generator and each picked one are met, those over d and the generator are
--   met_barren                          at the walk's node, where only new numbers before its start are dead: an unmarked number is barren
-- Assumes nothing.
use Rattle.std.specs.Prelude.{◌≡◌, refl, ◌≢◌, ◌⊎◌, false, ℕ, suc, ◌+◌, ◌-◌, ◌<◌, ◌≤◌, length, get_or, set}
use Rattle.std.proofs.Math.Path.{sym}
use Rattle.std.proofs.Common.{ap, ap₂, ◌∙◌, subst, inl, inr, add-one, arith, get_or-set_other}
use mathlib.Core.List.Memᴰ
use mathlib.Core.List.{List, [], ◌∷◌, ◌++◌, map, Memᴰ}
use Rattle.std.proofs.Math.Decide.{ℕ_discrete}
use Rattle.linear.specs.Span.{Span}
use Rattle.linear.specs.Basis.{clear, reduce, insert, inserts, Reduced, dim}
use Rattle.linear.specs.Entry.{inside, generator, chosen, generators_in}
use Rattle.linear.specs.Walk.{Next, Steps}
use Rattle.linear.specs.Word.{word}
use Rattle.linear.specs.laws.Span.{mem_cons, span_mem, span_bind, span_head}
use Rattle.linear.proofs.laws.Reduce.{member}
use Rattle.linear.proofs.laws.Insert.{insert_reduced, insert_span, inserts_reduced, inserts_span, dec_member}
use Rattle.linear.proofs.laws.Order.{mem_get_d}
use Rattle.linear.proofs.laws.Select.{mem_only}
use Rattle.linear.proofs.laws.Entry.{yes_inside}
use Rattle.linear.proofs.laws.Greedy.{inserts_within}
use Rattle.linear.proofs.laws.Residue.{residue_span}
use Rattle.linear.proofs.laws.Canonical.{steps_low, steps_length}
use Rattle.residues.specs.children.Residues.{residues, known, with_residue}
use Rattle.residues.specs.children.Barren.{Barren}
use Rattle.residues.specs.children.Found.{Leads, Spared, Met, MetBy, Grown, Found, FoundBy, Finished, LeftOver}
use Rattle.residues.specs.children.Weighed.{Shared, Pick, Picked, PickedBy}
use Rattle.residues.proofs.laws.of_children.Child.{residue_at, child_residues, with_zero}
use Rattle.residues.proofs.laws.of_children.Leads.{leads_one, leads_none, leads_unknown}

-- the value of a number at D
pub value_at : (gens d D : List ℕ) → d ≡ residues gens D → (n : ℕ) → get_or d n 0 ≡ reduce word D (generator word gens n)
value_at gens d D f n = ap (λ (x : List ℕ). get_or x n 0) f ∙ residue_at gens D n

pub child : (gens d D : List ℕ) → Reduced word D → d ≡ residues gens D → (n : ℕ) → get_or d n 0 ≢ 0
    → map (clear word (get_or d n 0)) d ≡ residues gens (insert word D (generator word gens n))
child gens d D σ f n ne =
    ap₂ (λ (v : ℕ) (x : List ℕ). map (clear word v) x) (value_at gens d D f n) f ∙ child_residues gens D σ (generator word gens n) (λ z. ne
    (value_at gens d D f n ∙ z))

stay : (marks : List ℕ) → Grown marks marks
stay marks = record { stays = λ j n. n }

-- ---- over a generator more
module _ (gens h d : List ℕ) (start k m : ℕ) (dead : List ℕ) (n : ℕ) where
  pub by_grown : (marks marks' : List ℕ) → Grown marks marks' → MetBy gens h d start k m dead n marks → MetBy gens h d start k m dead n marks'
  by_grown marks marks' R M = record { all = λ C D W ρ σ e f j L F. R.stays j (M.all C D W ρ σ e f j L F) }

  pub by_child : (marks marks' : List ℕ) → Found gens h (map (clear word (get_or d n 0)) d) start k m dead marks marks'
      → FoundBy gens h d start k m dead n marks marks'
  by_child marks marks' F =
      record {
        met = λ ne. record {
          all = λ C D W ρ σ e f j L T. F.met.all C (insert word D (generator word gens n)) W ρ (insert_reduced word D (generator word gens n) σ) e
              (child gens d D σ f n ne) j L T;
        };
        grown = F.grown;
        fair = F.fair;
      }

  -- the value of n is that of a dead number, so that each of the spaces has its generator
  pub by_shared : (marks : List ℕ) → Shared d dead (get_or d n 0) → FoundBy gens h d start k m dead n marks marks
  by_shared marks S = record { met = λ ne. record { all = each }; grown = stay marks; fair = λ F. F }
    where
      each : (C D W : List ℕ) → Reduced word C → Reduced word D → h ≡ residues gens C → d ≡ residues gens D
          → (j : ℕ) → Leads gens C (insert word D (generator word gens n)) W start k m j → Spared gens W dead → get_or marks j 0 ≢ 0
      each C D W ρ σ e f j L T =
          absurd
          (T.none S.number S.dies
          (residue_span word D W (λ v t. L.fills.over v (unfold inserts in inserts_within word gens (generator word gens n ∷ []) D v t))
          (generator word gens n) (generator word gens S.number)
          (sym (value_at gens d D f n) ∙ sym S.value ∙ value_at gens d D f S.number) (L.fills.over (generator word gens n) ((insert_span word D
          (generator word gens n) (generator word gens n)).1 (span_head word (generator word gens n) D)))))

-- ---- no dimension missing
module _ (gens h d : List ℕ) (start k : ℕ) (dead : List ℕ) (n : ℕ) where
  abbrev E : List ℕ
  E = map (clear word (get_or d n 0)) d

  pub by_none : (marks : List ℕ) → (get_or d n 0 ≢ 0 → dim word (with_residue 0 gens E) ≢ k) → FoundBy gens h d start k 0 dead n marks marks
  by_none marks other = record { met = λ ne. record { all = each ne }; grown = stay marks; fair = λ F. F }
    where
      each : get_or d n 0 ≢ 0 → (C D W : List ℕ) → Reduced word C → Reduced word D → h ≡ residues gens C → d ≡ residues gens D
          → (j : ℕ) → Leads gens C (insert word D (generator word gens n)) W start k 0 j → Spared gens W dead → get_or marks j 0 ≢ 0
      each ne C D W ρ σ e f j L T =
          absurd
          (other ne
          (ap (dim word)
          (ap (with_residue 0 gens) (child gens d D σ f n ne) ∙ with_zero gens B ∙ ap (generators_in word gens) (sym (leads_none gens C B W start k 0 j ρ
          (insert_reduced word D (generator word gens n) σ) L refl)))
          ∙ L.rank))
        where
          B : List ℕ
          B = insert word D (generator word gens n)

  pub by_finished : length gens ≡ length h → (marks marks' : List ℕ) → Finished h E start marks marks' → FoundBy gens h d start k 0 dead n marks marks'
  by_finished alike marks marks' F = by_child gens h d start k 0 dead n marks marks'
      (record { met = record { all = each }; grown = F.grown; fair = F.fair })
    where
      each : (C D W : List ℕ) → Reduced word C → Reduced word D → h ≡ residues gens C → E ≡ residues gens D → (j : ℕ) → Leads gens C D W start k 0 j
          → Spared gens W dead → get_or marks' j 0 ≢ 0
      each C D W ρ σ e q j L T =
          F.first j L.begin (omega (arith, L.number)) (λ z. L.new (in_c j z)) (at_d j L.has) (subst (λ (x : List ℕ). false ≡ known x j) (sym e)
          (leads_unknown gens C D W start k 0 j ρ σ L)) low
        where
          w : W ≡ D
          w = leads_none gens C D W start k 0 j ρ σ L refl

          in_c : (i : ℕ) → get_or h i 0 ≡ 0 → Span word C (generator word gens i)
          in_c i z = (member word C ρ (generator word gens i)).1 (sym (value_at gens h C e i) ∙ z)

          at_d : (i : ℕ) → Span word W (generator word gens i) → get_or E i 0 ≡ 0
          at_d i s = value_at gens E D q i ∙ (member word D σ (generator word gens i)).0 (subst (λ (X : List ℕ). Span word X (generator word gens i)) w s)

          low : (i : ℕ) → i < j → get_or E i 0 ≡ 0 → get_or h i 0 ≡ 0
          low i l z =
              let s : Span word D (generator word gens i) = (member word D σ (generator word gens i)).1 (sym (value_at gens E D q i) ∙ z) in
              value_at gens h C e i ∙ (member word C ρ (generator word gens i)).0 (L.first i l (subst (λ (X : List ℕ). Span word X (generator word gens i))
              (sym w) s))

-- ---- number by number
module _ (gens h d : List ℕ) (start k m : ℕ) (dead : List ℕ) where
  pub left_start : (marks : List ℕ) → LeftOver gens h d start k m dead dead marks
  left_start marks = record { either = λ C D W ρ σ e f j L F. inr F }

  pub left_more : (n : ℕ) (gone marks marks' : List ℕ) → LeftOver gens h d start k m dead gone marks → get_or d n 0 ≢ 0
      → FoundBy gens h d start k (m - 1) gone n marks marks' → LeftOver gens h d start k m dead (set gone n 1) marks'
  left_more n gone marks marks' T ne M = record { either = λ C D W ρ σ e f j L F. go C D W ρ σ e f j L (T.either C D W ρ σ e f j L F) }
    where
      go : (C D W : List ℕ) → Reduced word C → Reduced word D → h ≡ residues gens C → d ≡ residues gens D → (j : ℕ) → Leads gens C D W start k m j
          → (get_or marks j 0 ≢ 0) ⊎ Spared gens W gone → (get_or marks' j 0 ≢ 0) ⊎ Spared gens W (set gone n 1)
      go C D W ρ σ e f j L (inl a) = inl (M.grown.stays j a)
      go C D W ρ σ e f j L (inr F) = at (dec_member word W L.fills.reduced g)
        where
          g : ℕ
          g = generator word gens n

          at : Dec (Span word W g) → (get_or marks' j 0 ≢ 0) ⊎ Spared gens W (set gone n 1)
          at (yes s) = inl ((M.met ne).all C D W ρ σ e f j (leads_one gens C D W start k m j ρ σ L g (λ z. ne (value_at gens d D f n ∙ z)) s) F)
          at (no s) = inr (record { none = λ i q. spare i q (ℕ_discrete i n) })
            where
              spare : (i : ℕ) → get_or (set gone n 1) i 0 ≢ 0 → Dec (i ≡ n) → ¬ Span word W (generator word gens i)
              spare i q (yes b) t = s (subst (λ (x : ℕ). Span word W (generator word gens x)) b t)
              spare i q (no b) t = F.none i (λ z. q (get_or-set_other gone n i 1 0 b ∙ z)) t

  pub left_met : (low : ℕ) (w gone marks : List ℕ) → Picked gens d start k m dead low w
      → ((n : ℕ) → start ≤ n → n < length gens → low < get_or w n 0 → get_or gone n 0 ≢ 0)
      → LeftOver gens h d start k m dead gone marks → Met gens h d start k m dead marks
  left_met low w gone marks P a T = record { all = λ C D W ρ σ e f j L F. go C D W j (P.some C D W ρ σ f j L F) (T.either C D W ρ σ e f j L F) }
    where
      go : (C D W : List ℕ) (j : ℕ) → Pick gens D W start low w → (get_or marks j 0 ≢ 0) ⊎ Spared gens W gone → get_or marks j 0 ≢ 0
      go C D W j p (inl b) = b
      go C D W j p (inr F) = absurd (F.none p.at (a p.at p.from p.below p.picked) p.has)

-- ---- over two generators more
pub closed_met : (gens h d : List ℕ) (start k m : ℕ) (dead : List ℕ) (n : ℕ) (p marks : List ℕ) → get_or d n 0 ≢ 0 → PickedBy gens d start k m dead n p
    → ((i : ℕ) → start ≤ i → i < length gens → get_or p i 0 ≢ 0 → get_or (map (clear word (get_or d n 0)) d) i 0 ≢ 0 → MetBy gens h (map (clear word
    (get_or d n 0)) d) start k (m - 1) dead i marks)
    → MetBy gens h d start k m dead n marks
closed_met gens h d start k m dead n p marks ne P M = record { all = each }
  where
    each : (C D W : List ℕ) → Reduced word C → Reduced word D → h ≡ residues gens C → d ≡ residues gens D
        → (j : ℕ) → Leads gens C (insert word D (generator word gens n)) W start k m j → Spared gens W dead → get_or marks j 0 ≢ 0
    each C D W ρ σ e f j L F =
        (M c.at c.from c.below (λ z. let l : 0 < get_or p c.at 0 = c.picked in omega arith) (λ z. c.fresh (sym (value_at gens E B q
        c.at) ∙ z))).all C B W ρ τ e q j
        (leads_one gens C B W start k m j ρ τ L (generator word gens c.at) c.fresh c.has) F
      where
        E : List ℕ
        E = map (clear word (get_or d n 0)) d

        B : List ℕ
        B = insert word D (generator word gens n)

        τ : Reduced word B
        τ = insert_reduced word D (generator word gens n) σ

        q : E ≡ residues gens B
        q = child gens d D σ f n ne

        c : Pick gens B W start 0 p
        c = P.some C D W ρ σ f j L F

-- ---- at the walk's node
taken_gens : (gens es C : List ℕ) (lo : ℕ) → Steps word gens C lo (length gens) es → (x : ℕ) → Memᴰ x (chosen word gens es) → Memᴰ x gens
unfolding chosen generator
taken_gens gens [] C lo st = λ x i. absurd (Memᴰ.not-nil i)
taken_gens gens (e ∷ es) C lo st = mem_cons {P = λ x. Memᴰ x gens} (mem_get_d gens e 0 st.1) (taken_gens gens es (insert word C
    (generator word gens e)) (suc e) st.3)

pub met_barren : (gens h : List ℕ) (start j k missing : ℕ) (dead marks : List ℕ) → start ≤ j → j < length gens → missing ≢ 0
    → ((i : ℕ) → get_or dead i 0 ≢ 0 → (i < start) × (get_or h i 0 ≢ 0)) → Met gens h h start k missing dead marks → get_or marks j 0 ≡ 0
    → Barren gens h j k missing
unfolding inserts chosen generators_in
met_barren gens h start j k missing dead marks a l ne before M z = record { none = none }
  where
    none : (C : List ℕ) → Reduced word C → h ≡ residues gens C → Next word gens C j → (es : List ℕ) → length es ≡ missing - 1
        → Steps word gens (insert word C (generator word gens j)) (j + 1) (length gens) es
        → dim word (generators_in word gens (inserts word (insert word C (generator word gens j)) (chosen word gens es))) ≢ k
    none C ρ e nx es c st q = M.all C C W ρ ρ e e j leads spared z
      where
        f : ℕ
        f = generator word gens j

        W : List ℕ
        W = inserts word C (chosen word gens (j ∷ es))

        steps : Steps word gens C j (length gens) (j ∷ es)
        steps = (omega arith, l, nx, subst (λ (n : ℕ). Steps word gens (insert word C f) n (length gens) es) (add-one j) st)

        σ : Reduced word W
        σ = inserts_reduced word (chosen word gens (j ∷ es)) C ρ

        has : (x : ℕ) → Memᴰ x (chosen word gens (j ∷ es)) → Span word W x
        has x i = (inserts_span word (chosen word gens (j ∷ es)) C x).1 (span_mem word (Memᴰ.append_left C i))

        leads : Leads gens C C W start k missing j
        leads =
            record {
              from = λ v t. t;
              fills = record {
                reduced = σ;
                over = inserts_within word gens (chosen word gens (j ∷ es)) C;
                size = omega (
                  arith,
                  steps_length word gens
                      (j ∷ es) C j (length gens) ρ steps,
                  c,
                );
                filled = filled;
              };
              rank = q;
              begin = a;
              number = l;
              has = has f (Memᴰ.head refl);
              new = nx.new;
              first = λ i b s. steps_low word gens (j ∷ es) C j (length gens) i steps b s;
            }
          where
            filled : (v : ℕ) → Span word W v → Span word (generators_in word gens W ++ C) v
            filled v s = span_bind word (λ x i. at x (Memᴰ.append_cases (chosen word gens (j ∷ es)) i)) ((inserts_span word (chosen word gens
                (j ∷ es)) C v).0 s)
              where
                at : (x : ℕ) → Memᴰ x (chosen word gens (j ∷ es)) ⊎ Memᴰ x C → Span word (generators_in word gens W ++ C) x
                at x (inl i) = span_mem word (Memᴰ.append_left C (mem_only (inside word W) gens x (taken_gens gens (j ∷ es) C j steps x i)
                    (yes_inside word W σ x (has x i))))
                at x (inr i) = span_mem word (Memᴰ.append_right (generators_in word gens W) i)

        spared : Spared gens W dead
        spared =
            record {
              none = λ i n s.
                  let b = before i n in
                  b.1 (ap (λ (x : List ℕ). get_or x i 0) e ∙ residue_at gens C i ∙ (member word C ρ (generator word gens i)).0 (leads.first i (omega
                  (arith, b.0)) s));
            }
