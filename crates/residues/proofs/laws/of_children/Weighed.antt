-- Weights bound ranks, so heavy numbers are enough.
--   weighed_more     with more dead numbers
--   weighed_picked   a space over d has a number that is not too light
-- Assumes nothing.
use Rattle.std.specs.Prelude.{◌≡◌, ◌≢◌, ◌⊎◌, List, ℕ, ◌-◌, ◌*◌, ◌<◌, ◌≤◌, length, get_or}
use Rattle.std.proofs.Common.{sym, ap, ◌∙◌, subst, inl, inr, mul-le-mul_left, arith}
use Rattle.std.proofs.Math.Decide.{dec_lt, ℕ_discrete}
use Rattle.linear.specs.Span.{Span}
use Rattle.linear.specs.Basis.{reduce, Reduced, dim}
use Rattle.linear.specs.Entry.{generator}
use Rattle.linear.specs.Word.{word}
use Rattle.linear.proofs.laws.Residue.{residue_span}
use Rattle.residues.specs.children.Residues.{residues, with_residue}
use Rattle.residues.specs.children.Found.{Leads, Spared}
use Rattle.residues.specs.children.Weighed.{points, rank_of, Owner, Weighed, Light, Pick, Picked}
use Rattle.residues.proofs.laws.of_children.Child.{residue_at}
use Rattle.residues.proofs.laws.of_children.Leads.{Chosen, leads_heavy}

pub weighed_more : (gens d : List ℕ) (start : ℕ) (dead gone w : List ℕ) (bound : ℕ → ℕ) → ((i : ℕ) → get_or dead i 0 ≢ 0 → get_or gone i 0 ≢ 0)
    → Weighed gens d start dead w bound → Weighed gens d start gone w bound
weighed_more gens d start dead gone w bound sub T =
    record {
      above = λ v ne not_shared. T.above v ne (λ S. not_shared (record { number = S.number; dies = sub S.number S.dies; value = S.value }));
      owner = λ n a l ne z. T.owner n a l ne (alive n z (ℕ_discrete (get_or dead n 0) 0));
    }
  where
    alive : (n : ℕ) → get_or gone n 0 ≡ 0 → Dec (get_or dead n 0 ≡ 0) → get_or dead n 0 ≡ 0
    alive n z (yes e) = e
    alive n z (no e) = absurd (sub n e z)

-- a number that is in a space without dead generators is not dead
pub spared_alive : (gens W dead : List ℕ) → Spared gens W dead → (n : ℕ) → Span word W (generator word gens n) → get_or dead n 0 ≡ 0
spared_alive gens W dead F n s = go (ℕ_discrete (get_or dead n 0) 0)
  where
    go : Dec (get_or dead n 0 ≡ 0) → get_or dead n 0 ≡ 0
    go (yes e) = e
    go (no e) = absurd (F.none n e s)

pub weighed_picked : (gens d : List ℕ) (start k m : ℕ) (dead : List ℕ) (low : ℕ) (w : List ℕ) (bound : ℕ → ℕ) → length gens ≡ length d → m ≢ 0
    → Weighed gens d start dead w bound → Light k m (dim word (with_residue 0 gens d)) low → Picked gens d start k m dead low w
weighed_picked gens d start k m dead low w bound alike ne T B = record { some = each }
  where
    each : (C D W : List ℕ) → Reduced word C → Reduced word D → d ≡ residues gens D → (j : ℕ) → Leads gens C D W start k m j → Spared gens W dead
        → Pick gens D W start low w
    each C D W ρ σ f j L F =
        record {
          at = o.at;
          from = o.from;
          below = omega (arith, o.below);
          has = same o.at o.same;
          fresh = λ z. nz (sym o.same ∙ value o.at ∙ z);
          picked = heavy (dec_lt low (get_or w o.at 0));
        }
      where
        c : Chosen gens C D W start k m j ρ σ L
        c = leads_heavy gens C D W start k m j ρ σ L ne

        v : ℕ
        v = get_or d c.at 0

        value : (i : ℕ) → get_or d i 0 ≡ reduce word D (generator word gens i)
        value i = ap (λ (x : List ℕ). get_or x i 0) f ∙ residue_at gens D i

        nz : v ≢ 0
        nz z = c.fresh (sym (value c.at) ∙ z)

        -- a generator with the value of c is in W
        same : (i : ℕ) → get_or d i 0 ≡ v → Span word W (generator word gens i)
        same i e = residue_span word D W L.fills.over (generator word gens c.at) (generator word gens i) (sym (value c.at) ∙ sym e ∙ value i)
            c.has

        o : Owner d start w bound c.at
        o = T.owner c.at c.from (omega (arith, c.below)) nz (spared_alive gens W dead F c.at c.has)

        enough : k - dim word (with_residue 0 gens d) ≤ points m * rank_of gens d start v
        enough = subst (λ (x : List ℕ). k - dim word (with_residue 0 gens x) ≤ points m * rank_of gens x start (get_or x c.at 0)) (sym f) c.heavy

        bounded : rank_of gens d start v ≤ get_or w o.at 0
        bounded = let a : rank_of gens d start v ≤ bound v = T.above v nz (λ S. F.none S.number S.dies (same S.number S.value)) in omega
            (arith, a, o.weight)

        heavy : Dec (low < get_or w o.at 0) → low < get_or w o.at 0
        heavy (yes l) = l
        heavy (no l) = go (B.less (get_or w o.at 0) (omega arith))
          where
            go : (get_or w o.at 0 ≡ 0) ⊎ (points m * get_or w o.at 0 < k - dim word (with_residue 0 gens d)) → low < get_or w o.at 0
            go (inl z) = absurd (o.some z)
            go (inr b) = let a : points m * rank_of gens d start v ≤ points m * get_or w o.at 0 = mul-le-mul_left (points m) bounded in absurd (omega
                (arith, a, b, enough))
