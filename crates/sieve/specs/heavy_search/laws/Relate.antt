-- The search along short relations.
--   related_relation               numbers that are related in a space are a relation of the values that the join goes over
--   here_first, here_second        the numbers at a place
--   here_leads                     a space with the relation at a place is over the space beneath it
--   Visited                        == the spaces with the relation at a place are met, and marks stay and stay fair; visit_shared, visit_found
--   PassedMet                      == the spaces with a relation that is passed are met, and marks stay and stay fair; going_start, going_next, going_end
-- Assumes nothing.
use Rattle.std.specs.Prelude.{◌≡◌, refl, ◌≢◌, ◌⊎◌, Bool, true, false, cond, List, [], ◌∷◌, map, ℕ, ◌+◌, ◌-◌, ◌*◌, ◌<◌, ◌≤◌, length, get_or, ltb}
use Rattle.std.proofs.Common.{sym, ap, ap₂, ◌∙◌, subst, inl, inr, arith, lt-ltb, le-ltb}
use Rattle.std.proofs.Math.Decide.{dec_lt}
use Rattle.std.specs.Int.Bits.{bit_xor, xor_self}
use Rattle.std.proofs.lemmas.Nat.{xor_comm}
use Rattle.std.proofs.Math.ListN.{get_or-eq_default}
use Rattle.linear.specs.Basis.{clear, reduce, insert, basis_of, Reduced}
use Rattle.linear.specs.Entry.{generator}
use Rattle.linear.specs.Word.{word}
use Rattle.linear.proofs.laws.Insert.{insert_reduced}
use Rattle.linear.proofs.laws.Reduce.{clear_nul, member}
use Rattle.residues.specs.children.Residues.{residues, with_residue}
use Rattle.residues.specs.children.Found.{Leads, Spared, Fair, Grown, Found}
use Rattle.residues.specs.children.Weighed.{Shared}
use Rattle.residues.specs.children.Relation.{Standing, Related, AllRelated}
use Rattle.residues.proofs.laws.of_children.Child.{clear_zero, clear_at}
use Rattle.residues.proofs.laws.of_children.Handed.{xor_back, clear_two}
use Rattle.residues.proofs.laws.of_children.Found.{value_at, child}
use Rattle.residues.proofs.laws.of_children.Leads.{leads_one}
use Rattle.relations.specs.pairs.Pairs.{Values}
use Rattle.relations.specs.Relations.{Relation, Passed, Here, FirstPlace, NextPlace}
use Rattle.relations.specs.declared.Place.{Place}
use Rattle.sieve.specs.heavy_search.Relate.{put_in, first_at, second_at, beneath}
use Rattle.residues.specs.Room.{search_room}

-- ---- related numbers are a relation of values
module _ (gens d W : List ℕ) (start : ℕ) (w gone : List ℕ) (lines : Bool) (r : Related gens d W start w gone lines) (v : List ℕ)
    (vals : Values d start w gone v) (over : length gens ≡ length d) where
  own : (x : ℕ) → Standing gens d W start w gone x → get_or v x 0 ≡ get_or d x 0
  own x S = vals.is x S.from (omega (arith, S.below)) S.weight S.alive

  last : get_or v r.h 0 ≡ get_or d r.h 0
  last = go r.fourth
    where
      go : (r.h ≡ length gens) ⊎ Standing gens d W start w gone r.h → get_or v r.h 0 ≡ get_or d r.h 0
      go (inl e) = vals.none r.h (omega arith) ∙ sym (get_or-eq_default d 0 {n = r.h} (omega arith))
      go (inr S) = own r.h S

  pub related_relation : (s : List ℕ) → s ≡ basis_of word (with_residue 0 gens d) → Relation gens s v (length gens) r.i r.j r.g r.h
  related_relation s e =
      record {
        ij = r.ij;
        jg = r.jg;
        gh = r.gh;
        hn = r.hn;
        first = λ z. r.first.value (sym (own r.i r.first) ∙ z);
        second = λ z. r.second.value (sym (own r.j r.second) ∙ z);
        third = λ z. r.third.value (sym (own r.g r.third) ∙ z);
        fourth = go r.fourth;
        sum = ap₂ bit_xor (own r.i r.first) (own r.j r.second) ∙ r.sum ∙ sym (ap₂ bit_xor (own r.g r.third) last);
        free = subst (λ (t : List ℕ). reduce word t (bit_xor (bit_xor (get_or gens r.i 0) (get_or gens r.j 0)) (bit_xor (get_or gens r.g 0) (get_or gens
            r.h 0))) ≢ 0) (sym e) r.free;
      }
    where
      go : (r.h ≡ length gens) ⊎ Standing gens d W start w gone r.h → (r.h ≡ length gens) ⊎ (get_or v r.h 0 ≢ 0)
      go (inl q) = inl q
      go (inr S) = inr (λ z. S.value (sym last ∙ z))

-- ---- the numbers at a place
module _ (u : Place) (i j g h : ℕ) (H : Here u i j g h) (l : j < search_room) where
  at : u.e - 1 ≡ (i - u.base) * 4096 + j
  at = omega (arith, H.pair)

  pub here_first : first_at u ≡ i
  here_first = omega (arith, at, H.from)

  pub here_second : second_at u ≡ j
  here_second = omega (arith, at)

-- a row 0 clears nothing
clear_none : (d : List ℕ) → map (clear word 0) d ≡ d
clear_none d = go d
  where
    go : (l : List ℕ) → map (clear word 0) l ≡ l
    go [] = refl
    go (x ∷ l) = ap₂ ◌∷◌ (clear_nul word x) (go l)

-- ---- a space with the relation at a place
module _ (gens d : List ℕ) (start k m : ℕ) (lines : Bool) (gone w : List ℕ) (u : Place) (few : length gens ≤ search_room) (C D W : List ℕ) (ρ : Reduced word C)
    (σ : Reduced word D) (f : d ≡ residues gens D) (j : ℕ) (L : Leads gens C D W start k m j) (r : Related gens d W start w gone lines)
    (H : Here u r.i r.j r.g r.h) where
  abbrev gen : ℕ → ℕ
  gen x = generator word gens x

  abbrev di : ℕ
  di = get_or d r.i 0

  abbrev dj : ℕ
  dj = get_or d r.j 0

  abbrev dg : ℕ
  dg = get_or d r.g 0

  -- the first number put in
  abbrev D₁ : List ℕ
  D₁ = insert word D (gen r.i)

  abbrev d₁ : List ℕ
  d₁ = put_in d r.i

  f₁ : d₁ ≡ residues gens D₁
  f₁ = child gens d D σ f r.i r.first.value

  σ₁ : Reduced word D₁
  σ₁ = insert_reduced word D (gen r.i) σ

  L₁ : Leads gens C D₁ W start k (m - 1) j
  L₁ = leads_one gens C D W start k m j ρ σ L (gen r.i) (λ z. r.first.value (value_at gens d D f r.i ∙ z)) r.first.has

  -- the second
  new₂ : get_or d₁ r.j 0 ≢ 0
  new₂ z = go (clear_zero di dj (sym (clear_at di d r.j) ∙ z))
    where
      go : (dj ≡ 0) ⊎ (di ≡ dj) → ⊥
      go (inl e) = r.second.value e
      go (inr e) = r.apart_ij e

  abbrev D₂ : List ℕ
  D₂ = insert word D₁ (gen r.j)

  abbrev d₂ : List ℕ
  d₂ = put_in d₁ r.j

  f₂ : d₂ ≡ residues gens D₂
  f₂ = child gens d₁ D₁ σ₁ f₁ r.j new₂

  σ₂ : Reduced word D₂
  σ₂ = insert_reduced word D₁ (gen r.j) σ₁

  L₂ : Leads gens C D₂ W start k (m - 1 - 1) j
  L₂ = leads_one gens C D₁ W start k (m - 1) j ρ σ₁ L₁ (gen r.j) (λ z. new₂ (value_at gens d₁ D₁ f₁ r.j ∙ z)) r.second.has

  -- the third, where there is a fourth
  new₃ : r.h < length gens → get_or d₂ r.g 0 ≢ 0
  new₃ l z = go (clear_zero (get_or d₁ r.j 0) (get_or d₁ r.g 0) (sym (clear_at (get_or d₁ r.j 0) d₁ r.g) ∙ z))
    where
      fourth : get_or d r.h 0 ≢ 0
      fourth = at r.fourth
        where
          at : (r.h ≡ length gens) ⊎ Standing gens d W start w gone r.h → get_or d r.h 0 ≢ 0
          at (inl e) = absurd (omega arith)
          at (inr S) = S.value

      summed : dj ≡ bit_xor dg di → ⊥
      summed e =
          let q : bit_xor dg (get_or d r.h 0) ≡ dg = sym r.sum ∙ ap (bit_xor di) (e ∙ xor_comm dg di) ∙ xor_back di dg in
          fourth (sym (xor_back dg (get_or d r.h 0)) ∙ ap (bit_xor dg) q ∙ xor_self dg)

      same : (dj ≡ dg) ⊎ (dj ≡ bit_xor dg di) → ⊥
      same (inl e) = r.apart_jg e
      same (inr e) = summed e

      none : (dg ≡ 0) ⊎ (di ≡ dg) → ⊥
      none (inl e) = r.third.value e
      none (inr e) = r.apart_ig e

      go : (get_or d₁ r.g 0 ≡ 0) ⊎ (get_or d₁ r.j 0 ≡ get_or d₁ r.g 0) → ⊥
      go (inl e) = none (clear_zero di dg (sym (clear_at di d r.g) ∙ e))
      go (inr e) = same (clear_two di dg dj (sym (clear_at di d r.j) ∙ e ∙ clear_at di d r.g))

  -- what the code puts in
  numbers : put_in (put_in d (first_at u)) (second_at u) ≡ d₂
  numbers =
      let l : r.j < search_room = omega (arith, r.second.below) in
      ap₂ (λ (x y : ℕ). put_in (put_in d x) y) (here_first u r.i r.j r.g r.h H l) (here_second u r.i r.j r.g r.h H l)

  under : (b : Bool) → ltb u.h (length gens) ≡ b → beneath d u (length gens) ≡ map (clear word (cond b (get_or d₂ u.g 0) 0)) d₂
  under b e = ap₂ (λ (x : List ℕ) (t : Bool). map (clear word (cond t (get_or x u.g 0) 0)) x) numbers e

  pub record Beneath (c : ℕ) : Type 0 where
    pub space : List ℕ
    pub reduced : Reduced word space
    pub left : beneath d u (length gens) ≡ residues gens space
    pub leads : Leads gens C space W start k (m - c) j

  pub here_leads : (c : ℕ) → (u.h < length gens → c ≡ 3) → (length gens ≤ u.h → c ≡ 2) → Beneath c
  here_leads c three two = go (dec_lt u.h (length gens))
    where
      go : Dec (u.h < length gens) → Beneath c
      go (yes l) =
          record {
            space = insert word D₂ (gen r.g);
            reduced = insert_reduced word D₂ (gen r.g) σ₂;
            left = under true (lt-ltb u.h (length gens) l) ∙ ap (λ (x : ℕ). map (clear word (get_or d₂ x 0)) d₂) H.third ∙ child gens d₂ D₂ σ₂ f₂ r.g n₃;
            leads = subst (λ (x : ℕ). Leads gens C (insert word D₂ (gen r.g)) W start k x j) (let e : m - 1 - 1 - 1 ≡ m - c = omega (arith, three l) in e)
                (leads_one gens C D₂ W start k (m - 1 - 1) j ρ σ₂ L₂ (gen r.g) (λ z. n₃ (value_at gens d₂ D₂ f₂ r.g ∙ z)) r.third.has);
          }
        where
          n₃ : get_or d₂ r.g 0 ≢ 0
          n₃ = new₃ (omega (arith, H.fourth))
      go (no l) =
          record {
            space = D₂;
            reduced = σ₂;
            left = under false (le-ltb u.h (length gens) (omega arith)) ∙ clear_none d₂ ∙ f₂;
            leads = subst (λ (x : ℕ). Leads gens C D₂ W start k x j) (let e : m - 1 - 1 ≡ m - c = omega (arith, two (omega arith)) in e) L₂;
          }

-- ---- the spaces with the relation at a place
pub record Visited (gens h d : List ℕ) (start k m : ℕ) (lines : Bool) (gone w : List ℕ) (u : Place) (marks marks' : List ℕ) : Type 0 where
  pub met : (C D W : List ℕ) → Reduced word C → Reduced word D → h ≡ residues gens C → d ≡ residues gens D → (j : ℕ) → Leads gens C D W start k m j
      → Spared gens W gone → (r : Related gens d W start w gone lines) → Here u r.i r.j r.g r.h → get_or marks' j 0 ≢ 0
  pub grown : Grown marks marks'
  pub fair : Fair h marks → Fair h marks'

module _ (gens h d : List ℕ) (start k m : ℕ) (lines : Bool) (gone w : List ℕ) (u : Place) (few : length gens ≤ search_room) (c : ℕ)
    (three : u.h < length gens → c ≡ 3) (two : length gens ≤ u.h → c ≡ 2) (marks : List ℕ) where
  pub visit_found : (marks' : List ℕ) → Found gens h (beneath d u (length gens)) start k (m - c) gone marks marks'
      → Visited gens h d start k m lines gone w u marks marks'
  visit_found marks' F = record { met = met; grown = F.grown; fair = F.fair }
    where
      met : (C D W : List ℕ) → Reduced word C → Reduced word D → h ≡ residues gens C → d ≡ residues gens D → (j : ℕ) → Leads gens C D W start k m j
          → Spared gens W gone → (r : Related gens d W start w gone lines) → Here u r.i r.j r.g r.h → get_or marks' j 0 ≢ 0
      met C D W ρ σ e f j L S r H =
          let B = here_leads gens d start k m lines gone w u few C D W ρ σ f j L r H c three two in
          F.met.all C B.space W ρ B.reduced e B.left j B.leads S

  pub visit_shared : Shared (beneath d u (length gens)) gone 0 → Visited gens h d start k m lines gone w u marks marks
  visit_shared Q = record { met = met; grown = record { stays = λ j n. n }; fair = λ A. A }
    where
      met : (C D W : List ℕ) → Reduced word C → Reduced word D → h ≡ residues gens C → d ≡ residues gens D → (j : ℕ) → Leads gens C D W start k m j
          → Spared gens W gone → (r : Related gens d W start w gone lines) → Here u r.i r.j r.g r.h → get_or marks j 0 ≢ 0
      met C D W ρ σ e f j L S r H =
          let B = here_leads gens d start k m lines gone w u few C D W ρ σ f j L r H c three two in
          let z : reduce word B.space (generator word gens Q.number) ≡ 0 =
          sym (value_at gens (beneath d u (length gens)) B.space B.left Q.number) ∙ Q.value in
          absurd (S.none Q.number Q.dies (B.leads.fills.over (generator word gens Q.number) ((member word B.space B.reduced
          (generator word gens Q.number)).1 z)))

-- ---- from place to place
pub record PassedMet (gens h d : List ℕ) (start k m : ℕ) (lines : Bool) (gone w marks₀ : List ℕ) (u : Place) (marks : List ℕ) : Type 0 where
  pub met : (C D W : List ℕ) → Reduced word C → Reduced word D → h ≡ residues gens C → d ≡ residues gens D → (j : ℕ) → Leads gens C D W start k m j
      → Spared gens W gone → (r : Related gens d W start w gone lines) → Passed u r.i r.j r.g r.h → get_or marks j 0 ≢ 0
  pub grown : Grown marks₀ marks
  pub fair : Fair h marks₀ → Fair h marks

module _ (gens h d : List ℕ) (start k m : ℕ) (lines : Bool) (gone w marks₀ : List ℕ) (over : length gens ≡ length d) (v s : List ℕ)
    (vals : Values d start w gone v) (e : s ≡ basis_of word (with_residue 0 gens d)) where
  pub going_start : (u : Place) (heads links : List ℕ) → FirstPlace gens s v lines start u heads links → PassedMet gens h d start k m lines gone w marks₀ u marks₀
  going_start u heads links P =
      record {
        met = λ C D W ρ σ a b j L S r p.
            absurd (P.none r.i r.j r.g r.h r.first.from r.wanted (related_relation gens d W start w gone lines r v vals over s e) p);
        grown = record { stays = λ j n. n };
        fair = λ A. A;
      }

  pub going_next : (u u' : Place) (heads links marks marks' : List ℕ) → PassedMet gens h d start k m lines gone w marks₀ u marks
      → Visited gens h d start k m lines gone w u marks marks' → NextPlace gens s v lines u u' heads links
      → PassedMet gens h d start k m lines gone w marks₀ u' marks'
  going_next u u' heads links marks marks' G Q P =
      record {
        met = λ C D W ρ σ a b j L S r p.
            at C D W ρ σ a b j L S r (P.none r.i r.j r.g r.h r.wanted (related_relation gens d W start w gone lines r v vals over s e) p);
        grown = record { stays = λ j n. Q.grown.stays j (G.grown.stays j n) };
        fair = λ A. Q.fair (G.fair A);
      }
    where
      at : (C D W : List ℕ) → Reduced word C → Reduced word D → h ≡ residues gens C → d ≡ residues gens D → (j : ℕ) → Leads gens C D W start k m j
          → Spared gens W gone → (r : Related gens d W start w gone lines) → Passed u r.i r.j r.g r.h ⊎ Here u r.i r.j r.g r.h
          → get_or marks' j 0 ≢ 0
      at C D W ρ σ a b j L S r (inl p) = Q.grown.stays j (G.met C D W ρ σ a b j L S r p)
      at C D W ρ σ a b j L S r (inr p) = Q.met C D W ρ σ a b j L S r p

  pub going_end : (u : Place) (marks : List ℕ) → PassedMet gens h d start k m lines gone w marks₀ u marks → length gens ≤ u.base
      → AllRelated gens d start k m gone w lines → Found gens h d start k m gone marks₀ marks
  going_end u marks G l A =
      record {
        met = record {
          all = λ C D W ρ σ a b j L S.
              let r = A.some C D W ρ σ b j L S in
              G.met C D W ρ σ a b j L S r (inl (omega (arith, r.first.below)));
        };
        grown = G.grown;
        fair = G.fair;
      }
