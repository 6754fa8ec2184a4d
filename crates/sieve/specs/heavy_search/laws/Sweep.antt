-- The search over a space: the numbers that are not too light, heaviest first.
--   Sweeping                                   == the numbers of a weight above r, and those of the weight r below j, are gone
--   sweep_start, sweep_lower, sweep_more       at first; from the weight r to the next; one number more
--   sweep_light, sweep_end                     no weight is above what is too light; all that are above it are gone
--   sweep_picked                               what the weights leave
--   sweep_pairing, sweep_child                 what is asked for a number, and for the search over it
--   sweep_found                                what that search found, at the number
-- Assumes nothing.
use Rattle.std.specs.Prelude.{◌≡◌, ◌≢◌, List, map, ℕ, ◌+◌, ◌-◌, ◌<◌, ◌≤◌, length, get_or, take, set}
use Rattle.std.proofs.Common.{sym, ap, ◌∙◌, subst, arith, length-set, get_or-set_same, get_or-set_other}
use Rattle.std.proofs.Math.Decide.{dec_lt, ℕ_discrete}
use Rattle.std.proofs.lemmas.List.{length-map}
use Rattle.residues.specs.children.Found.{Fair, Grown, Found, FoundBy, LeftOver}
use Rattle.residues.specs.children.Residues.{with_residue}
use Rattle.residues.specs.children.Weighed.{Light, Picked}
use Rattle.residues.proofs.laws.of_children.Weighed.{weighed_more, weighed_picked}
use Rattle.residues.proofs.laws.of_children.Found.{left_start, left_more, left_met, by_child}
use Rattle.linear.specs.Basis.{clear, basis_of}
use Rattle.linear.specs.Word.{word}
use Rattle.bases.specs.Basis.{Holds, based_dim}
use Rattle.bases.specs.declared.Basis.{Basis}
use Rattle.sieve.specs.marked_numbers.Marks.{NextWith}
use Rattle.residues.specs.Mapped.{Mapped}
use Rattle.weights.specs.Table.{weight_of, TableFilled}
use Rattle.sieve.specs.heavy_search.Find.{Pairing, Finding}
use Rattle.sieve.specs.heavy_search.laws.Pairs.{mapped_child}
use Rattle.residues.specs.Room.{search_room}
use Rattle.weights.specs.rank_rows.Stretch.{row_room}

pub record Sweeping (gens h d : List ℕ) (start k m : ℕ) (dead w marks₀ : List ℕ) (r j : ℕ) (gone marks : List ℕ) : Type 0 where
  pub from : start ≤ j
  pub to : j ≤ length gens
  pub here : j < length gens → get_or w j 0 ≡ r
  pub left : LeftOver gens h d start k m dead gone marks
  pub dead_gone : (i : ℕ) → get_or dead i 0 ≢ 0 → get_or gone i 0 ≢ 0
  pub above : (i : ℕ) → start ≤ i → i < length gens → r < get_or w i 0 → get_or gone i 0 ≢ 0
  pub same : (i : ℕ) → start ≤ i → i < j → get_or w i 0 ≡ r → get_or gone i 0 ≢ 0
  pub all : length gone ≡ search_room
  pub grown : Grown marks₀ marks
  pub fair : Fair h marks₀ → Fair h marks

module _ (gens h d : List ℕ) (start k m : ℕ) (dead w marks₀ : List ℕ) where
  pub sweep_start : (top j : ℕ) → length dead ≡ search_room → ((n : ℕ) → get_or w n 0 ≤ top) → NextWith w top start (length gens) j
      → Sweeping gens h d start k m dead w marks₀ top j dead marks₀
  sweep_start top j z most N =
      record {
        from = N.low;
        to = N.high;
        here = N.found;
        left = left_start gens h d start k m dead marks₀;
        dead_gone = λ i n. n;
        above = λ i a l b. absurd (omega (arith, most i, b));
        same = λ i a l e. absurd (N.none i a l e);
        all = z;
        grown = record { stays = λ i n. n };
        fair = λ F. F;
      }

  module _ (r j : ℕ) (gone marks : List ℕ) (S : Sweeping gens h d start k m dead w marks₀ r j gone marks) where
    pub sweep_lower : length gens ≤ j → 0 < r → (i : ℕ) → NextWith w (r - 1) start (length gens) i
        → Sweeping gens h d start k m dead w marks₀ (r - 1) i gone marks
    sweep_lower l p i N =
        record {
          from = N.low;
          to = N.high;
          here = N.found;
          left = S.left;
          dead_gone = S.dead_gone;
          above = above;
          same = λ n a b e. absurd (N.none n a b e);
          all = S.all;
          grown = S.grown;
          fair = S.fair;
        }
      where
        above : (n : ℕ) → start ≤ n → n < length gens → r - 1 < get_or w n 0 → get_or gone n 0 ≢ 0
        above n a b c = go (dec_lt r (get_or w n 0))
          where
            go : Dec (r < get_or w n 0) → get_or gone n 0 ≢ 0
            go (yes q) = S.above n a b q
            go (no q) = S.same n a (omega arith) (omega arith)

    pub sweep_more : j < length gens → length gens ≤ search_room → get_or d j 0 ≢ 0 → (marks' : List ℕ) → FoundBy gens h d start k (m - 1) gone j marks marks'
        → (i : ℕ) → NextWith w r (j + 1) (length gens) i
        → Sweeping gens h d start k m dead w marks₀ r i (set gone j 1) marks'
    sweep_more l few ne marks' F i N =
        record {
          from = omega (arith, S.from, N.low);
          to = N.high;
          here = N.found;
          left = left_more gens h d start k m dead j gone marks marks' S.left ne F;
          dead_gone = λ n q. still n (S.dead_gone n q);
          above = λ n a b q. still n (S.above n a b q);
          same = λ n a b e. same n a b e (dec_lt n j) (ℕ_discrete n j);
          all = length-set gone j 1 ∙ S.all;
          grown = record { stays = λ n q. F.grown.stays n (S.grown.stays n q) };
          fair = λ A. F.fair (S.fair A);
        }
      where
        own : (n : ℕ) → n ≡ j → get_or (set gone j 1) n 0 ≢ 0
        own n e z =
            let q : get_or (set gone j 1) j 0 ≡ 1 = get_or-set_same gone j 1 0 (omega (arith, S.all)) in
            omega (arith, q, ap (λ (x : ℕ). get_or (set gone j 1) x 0) e, z)

        still : (n : ℕ) → get_or gone n 0 ≢ 0 → get_or (set gone j 1) n 0 ≢ 0
        still n q = go (ℕ_discrete n j)
          where
            go : Dec (n ≡ j) → get_or (set gone j 1) n 0 ≢ 0
            go (yes e) = own n e
            go (no e) = λ z. q (sym (get_or-set_other gone j n 1 0 e) ∙ z)

        same : (n : ℕ) → start ≤ n → n < i → get_or w n 0 ≡ r → Dec (n < j) → Dec (n ≡ j) → get_or (set gone j 1) n 0 ≢ 0
        same n a b e (yes q) p = still n (S.same n a q e)
        same n a b e (no q) (yes p) = own n p
        same n a b e (no q) (no p) = absurd (N.none n (omega arith) b e)

    pub sweep_end : (low : ℕ) → r ≤ low → Picked gens d start k m dead low w → Found gens h d start k m dead marks₀ marks
    sweep_end low l P =
        record {
          met = left_met gens h d start k m dead low w gone marks P (λ n a b q. S.above n a b (omega arith)) S.left;
          grown = S.grown;
          fair = S.fair;
        }

  pub sweep_light : (top low : ℕ) → top ≤ low → ((n : ℕ) → get_or w n 0 ≤ top) → Picked gens d start k m dead low w
      → Found gens h d start k m dead marks₀ marks₀
  sweep_light top low l most P =
      record {
        met = left_met gens h d start k m dead low w dead marks₀ P (λ n a b q. absurd (omega (arith, most n, q))) (left_start gens h d start k m dead marks₀);
        grown = record { stays = λ n q. q };
        fair = λ F. F;
      }

-- ---- at a space
module _ (gens h d : List ℕ) (start k m : ℕ) (s : Basis) (dead rows marks₀ : List ℕ) (A : Finding gens h d start m s dead rows marks₀) (slots w : List ℕ)
    (top : ℕ) (T : TableFilled gens d start dead slots w top) where
  pub sweep_picked : (low : ℕ) → Light k m s.len low → Picked gens d start k m dead low w
  sweep_picked low B =
      weighed_picked gens d start k m dead low w (weight_of slots d w) A.at.sizes.over A.some T.weighed (subst (λ (n : ℕ). Light k m n low) (based_dim
      (with_residue 0 gens d) s A.at.held) B)

  module _ (r j : ℕ) (gone marks : List ℕ) (S : Sweeping gens h d start k m dead w marks₀ r j gone marks) (l : j < length gens) (low : ℕ) (p : low < r) where
    pub sweep_value : get_or d j 0 ≢ 0
    sweep_value = T.valued j (λ z. let e : get_or w j 0 ≡ r = S.here l in omega arith)

    pub sweep_pairing : (picks mine : List ℕ) → length w ≡ search_room → length picks ≡ search_room → length mine ≡ search_room → length marks ≡ search_room
        → Pairing gens h d j start gone slots w picks mine marks
    sweep_pairing picks mine a b c e =
        record {
          sizes = record {
            alike = A.at.sizes.alike;
            over = A.at.sizes.over;
            few = A.at.sizes.few;
            begin = A.at.sizes.begin;
            gone_all = S.all;
            marks_all = e;
          };
          number = l;
          value = sweep_value;
          table = T.slots;
          weighed = weighed_more gens d start dead gone w (weight_of slots d w) S.dead_gone T.weighed;
          weights_all = a;
          picks_all = b;
          mine_all = c;
        }

    pub sweep_child : 2 < m → (mine : List ℕ) → Mapped (clear word (get_or d j 0)) d mine → (b : Basis)
        → Holds (basis_of word (with_residue 0 gens (map (clear word (get_or d j 0)) d))) b
        → (rows' marks' : List ℕ) → length rows' ≡ row_room → length marks' ≡ search_room → Finding gens h (take (length gens) mine) start (m - 1) b gone rows' marks'
    sweep_child deep mine M b H rows' marks' c e =
        subst (λ (x : List ℕ). Finding gens h x start (m - 1) b gone rows' marks') (sym (mapped_child gens d mine (get_or d j 0) A.at.sizes.over M))
        (record {
          at = record {
            sizes = record {
              alike = A.at.sizes.alike;
              over = A.at.sizes.over ∙ sym (length-map d (clear word (get_or d j 0)));
              few = A.at.sizes.few;
              begin = A.at.sizes.begin;
              gone_all = S.all;
              marks_all = e;
            };
            held = H;
          };
          some = λ z. omega arith;
          most = omega (arith, A.most);
          rows_all = c;
        })

    pub sweep_found : (mine : List ℕ) → Mapped (clear word (get_or d j 0)) d mine → (marks' : List ℕ)
        → Found gens h (take (length gens) mine) start k (m - 1) gone marks marks'
        → FoundBy gens h d start k (m - 1) gone j marks marks'
    sweep_found mine M marks' F =
        by_child gens h d start k (m - 1) gone j marks marks'
        (subst (λ (x : List ℕ). Found gens h x start k (m - 1) gone marks marks') (mapped_child gens d mine (get_or d j 0) A.at.sizes.over M) F)
