-- Where every number of a weight above 1 is gone: the search goes over the short relations.
--   sweep_relating      what is asked, at the end of the search along heavy values
--   sweep_related       what is found then, with what was found before
--   relate_all          every space has a short relation
--   relate_descending   what is asked at a place
--   relate_child        what is asked for the search beneath a relation
-- Assumes nothing.
use Rattle.std.specs.Prelude.{◌≡◌, ◌≢◌, ◌⊎◌, Bool, true, false, List, ℕ, ◌-◌, ◌<◌, ◌≤◌, eqb, length, get_or, take}
use Rattle.std.proofs.Common.{sym, ◌∙◌, subst, inl, inr, arith, eqb-true}
use Rattle.std.proofs.Math.Decide.{dec_lt}
use Rattle.std.proofs.lemmas.List.{length-map}
use Rattle.std.proofs.lemmas.Bool.{eqb-false}
use Rattle.linear.specs.Basis.{clear}
use Rattle.linear.specs.Word.{word}
use Rattle.bases.specs.Basis.{based_dim}
use Rattle.bases.specs.declared.Basis.{Basis}
use Rattle.residues.specs.children.Residues.{with_residue}
use Rattle.residues.specs.children.Found.{Found, Spared}
use Rattle.residues.specs.children.Relation.{Short, AllRelated}
use Rattle.residues.proofs.laws.of_children.Weighed.{weighed_more}
use Rattle.residues.proofs.laws.of_children.Relation.{leads_related}
use Rattle.residues.specs.declared.Taken.{Taken}
use Rattle.weights.specs.Table.{weight_of, TableFilled}
use Rattle.relations.specs.Relations.{Placed}
use Rattle.relations.specs.declared.Place.{Place}
use Rattle.sieve.specs.heavy_search.Find.{Finding}
use Rattle.sieve.specs.heavy_search.Relate.{RelationSize, put_in, first_at, second_at, third_row, beneath, Descending, Descended, Relating}
use Rattle.sieve.specs.heavy_search.laws.Sweep.{Sweeping}
use Rattle.residues.specs.Room.{search_room}
use Rattle.weights.specs.rank_rows.Stretch.{row_room}

-- ---- at the end of the search along heavy values
module _ (gens h d : List ℕ) (start k m : ℕ) (s : Basis) (dead rows₀ marks₀ : List ℕ) (A : Finding gens h d start m s dead rows₀ marks₀) (slots w : List ℕ)
    (top : ℕ) (T : TableFilled gens d start dead slots w top) (r j : ℕ) (gone marks : List ℕ)
    (S : Sweeping gens h d start k m dead w marks₀ r j gone marks) where
  pub sweep_relating : (size low : ℕ) → RelationSize k s.len m size → size ≢ 0 → low ≡ 1 → r ≤ low → length w ≡ search_room → (rows : List ℕ)
      → length rows ≡ row_room → length marks ≡ search_room → Relating gens h d start k m (eqb size 3) s gone w rows marks
  sweep_relating size low R ne one l a rows b e =
      record {
        at = record {
          sizes = record {
            alike = A.at.sizes.alike;
            over = A.at.sizes.over;
            few = A.at.sizes.few;
            begin = A.at.sizes.begin;
            gone_all = S.all;
            marks_all = e;
          };
          held = A.at.held;
        };
        bound = weight_of slots d w;
        weighed = weighed_more gens d start dead gone w (weight_of slots d w) S.dead_gone T.weighed;
        valued = T.valued;
        heavy_gone = λ n f q p. S.above n f q (omega arith);
        short = short (eqb size 3) (λ q. R.three (eqb-true size 3 q)) (λ q. R.four ne (eqb-false size 3 q));
        deep = R.deep ne;
        most = A.most;
        weights_all = a;
        rows_all = b;
      }
    where
      short : (t : Bool) → (t ≡ true → Short (k - s.len) m true) → (t ≡ false → Short (k - s.len) m false) → Short (k - s.len) m t
      short true f g = f (let q : true ≡ true = cc in q)
      short false f g = g (let q : false ≡ false = cc in q)

  pub sweep_related : (marks' : List ℕ) → Found gens h d start k m gone marks marks' → Found gens h d start k m dead marks₀ marks'
  sweep_related marks' F =
      record {
        met = record { all = λ C D W ρ σ e f i L P. go C D W i (F.met.all C D W ρ σ e f i L) (S.left.either C D W ρ σ e f i L P) };
        grown = record { stays = λ i n. F.grown.stays i (S.grown.stays i n) };
        fair = λ a. F.fair (S.fair a);
      }
    where
      go : (C D W : List ℕ) (i : ℕ) → (Spared gens W gone → get_or marks' i 0 ≢ 0) → (get_or marks i 0 ≢ 0) ⊎ Spared gens W gone → get_or marks' i 0 ≢ 0
      go C D W i f (inl b) = F.grown.stays i b
      go C D W i f (inr P) = f P

-- ---- going over the relations
module _ (gens h d : List ℕ) (start k m : ℕ) (lines : Bool) (s : Basis) (gone w rows₀ marks₀ : List ℕ)
    (P : Relating gens h d start k m lines s gone w rows₀ marks₀) where
  pub relate_all : AllRelated gens d start k m gone w lines
  relate_all =
      leads_related gens d start k m gone w P.bound lines P.at.sizes.over P.weighed P.heavy_gone P.valued
      (subst (λ (n : ℕ). Short (k - n) m lines) (based_dim (with_residue 0 gens d) s P.at.held) P.short)

  module _ (v : List ℕ) (u : Place) (heads links : List ℕ) (Q : Placed gens v u heads links) (l : u.base < length gens) where
    pub relate_descending : (other mine : List ℕ) → length other ≡ search_room → length mine ≡ search_room → Descending gens d u s gone other mine
    relate_descending other mine a b =
        record {
          over = P.at.sizes.over;
          few = P.at.sizes.few;
          pair = Q.pair l;
          first = let S = Q.stored l in omega (arith, S.rising, S.below);
          second = (Q.stored l).below;
          third = omega (arith, Q.third l, Q.fourth l);
          fits = omega (arith, (Q.stored l).room);
          held = P.at.held;
          gone_all = P.at.sizes.gone_all;
          other_all = a;
          mine_all = b;
        }

  length_beneath : (u : Place) → length gens ≡ length (beneath d u (length gens))
  length_beneath u = P.at.sizes.over ∙ sym (one d (first_at u)) ∙ sym (one d₁ (second_at u)) ∙ sym (length-map d₂ (clear word (third_row d₂ u (length gens))))
    where
      one : (l : List ℕ) (i : ℕ) → length (put_in l i) ≡ length l
      one l i = length-map l (clear word (get_or l i 0))

      d₁ : List ℕ
      d₁ = put_in d (first_at u)

      d₂ : List ℕ
      d₂ = put_in d₁ (second_at u)

  pub relate_child : (u : Place) (mine : List ℕ) (t : Taken) → Descended gens d u gone mine t → t.flagged ≡ false
      → (c : ℕ) → (u.h < length gens → c ≡ 3) → (length gens ≤ u.h → c ≡ 2) → (rows marks : List ℕ) → length rows ≡ row_room → length marks ≡ search_room
      → Finding gens h (take (length gens) mine) start (m - c) t.basis gone rows marks
  relate_child u mine t D f c three two rows marks a b =
      subst (λ (x : List ℕ). Finding gens h x start (m - c) t.basis gone rows marks) (sym D.is)
      (record {
        at = record {
          sizes = record {
            alike = P.at.sizes.alike;
            over = length_beneath u;
            few = P.at.sizes.few;
            begin = P.at.sizes.begin;
            gone_all = P.at.sizes.gone_all;
            marks_all = b;
          };
          held = D.held f;
        };
        some = λ z. let q : c ≤ 3 = few (dec_lt u.h (length gens)) in omega (arith, P.deep);
        most = omega (arith, P.most);
        rows_all = a;
      })
    where
      few : Dec (u.h < length gens) → c ≤ 3
      few (yes q) = omega (arith, three q)
      few (no q) = omega (arith, two (omega arith))
