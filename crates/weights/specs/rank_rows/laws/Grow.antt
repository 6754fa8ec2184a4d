-- A stretch of rows grows.
--   part_left    what the code's part of the rows leaves is what the stretch leaves
--   grown_full   the rank is above what a stretch holds
--   grown_old    nothing is left of d: it is in the span
--   grown_over   a ninth row would be needed
--   grown_new    what is left of d is the row after the others
-- Assumes nothing.
use Rattle.std.specs.Prelude.{◌≡◌, refl, ◌≢◌, ◌⊎◌, ℕ, suc, ◌+◌, ◌-◌, ◌*◌, ◌<◌, ◌≤◌, length, take, drop, set}
use Rattle.std.proofs.Common.{sym, ap, ap₂, ◌∙◌, subst, inl, inr, arith, add-one, length-drop, drop-set-lt, take-suc-set}
use mathlib.Core.List.Memᴰ
use mathlib.Core.List.{List, [], ◌∷◌, ◌++◌, Memᴰ}
use Rattle.std.proofs.Math.Decide.{dec_lt}
use Rattle.std.specs.Int.Bits.{bit_xor}
use Rattle.std.proofs.lemmas.List.{take-set-le, drop-set-add}
use Rattle.linear.specs.Basis.{reduce}
use Rattle.linear.specs.Span.{Span}
use Rattle.linear.specs.Word.{word}
use Rattle.linear.specs.laws.Space.{add_assoc, add_nul}
use Rattle.linear.specs.laws.Span.{cast, span_add, span_mem, span_mono}
use Rattle.linear.proofs.laws.Reduce.{reduce_rest}
use Rattle.weights.specs.rank_rows.Stretch.{stretch, StretchGrowing, StretchGrown, row_room}
use Rattle.residues.specs.Room.{search_room}

-- d is in the span of the rows, S and what is left of it
rest_in : (S R : List ℕ) (d : ℕ) → (w : ℕ) × Span word (R ++ S) w × (d ≡ bit_xor w (reduce word R (reduce word S d)))
rest_in S R d = go (reduce_rest word S d) (reduce_rest word R (reduce word S d))
  where
    e : ℕ
    e = reduce word S d

    go : (w : ℕ) × Span word S w × (d ≡ bit_xor w e) → (w : ℕ) × Span word R w × (e ≡ bit_xor w (reduce word R e)) → (w : ℕ) × Span word (R ++ S) w × (d ≡ bit_xor w (reduce word R e))
    go (a, s, p) (b, t, q) = (
      bit_xor a b,
      span_add word (span_mono word (λ x m. Memᴰ.append_right R m) s) (span_mono word (λ x m. Memᴰ.append_left S m) t),
      p ∙ ap (bit_xor a) q ∙ sym (add_assoc word a b (reduce word R e)),
    )

-- a row more
module _ (S R : List ℕ) (w : ℕ) where
  wider : (u : ℕ) → Span word (R ++ S) u → Span word ((R ++ w ∷ []) ++ S) u
  wider u s = span_mono word (λ x m. go x (Memᴰ.append_cases R m)) s
    where
      go : (x : ℕ) → Memᴰ x R ⊎ Memᴰ x S → Memᴰ x ((R ++ w ∷ []) ++ S)
      go x (inl m) = Memᴰ.append_left S (Memᴰ.append_left (w ∷ []) m)
      go x (inr m) = Memᴰ.append_right (R ++ w ∷ []) m

  row_in : Span word ((R ++ w ∷ []) ++ S) w
  row_in = span_mem word (Memᴰ.append_left S (Memᴰ.append_right R (Memᴰ.head refl)))

-- the stretches when row m of that of f is written
module _ (rows : List ℕ) (m f w : ℕ) (size : length rows ≡ row_room) (number : f < search_room) (low : m < 8) where
  stretch_more : stretch (m + 1) f (set rows (f * 8 + m) w) ≡ stretch m f rows ++ w ∷ []
  stretch_more =
      ap (λ (k : ℕ). stretch k f (set rows (f * 8 + m) w)) (add-one m) ∙ ap (take (suc m)) (drop-set-add (f * 8) rows m w)
      ∙ take-suc-set (drop (f * 8) rows) m w (omega (arith, length-drop (f * 8) rows))

  stretch_other : (g n : ℕ) → g ≢ f → n ≤ 8 → stretch n g (set rows (f * 8 + m) w) ≡ stretch n g rows
  stretch_other g n ne l = go (dec_lt g f)
    where
      go : Dec (g < f) → stretch n g (set rows (f * 8 + m) w) ≡ stretch n g rows
      go (yes k) =
          let e : f * 8 + m ≡ g * 8 + ((f * 8 + m) - g * 8) = omega arith in
          ap (λ (a : ℕ). stretch n g (set rows a w)) e ∙ ap (take n) (drop-set-add (g * 8) rows ((f * 8 + m) - g * 8) w)
          ∙ take-set-le n (drop (g * 8) rows) ((f * 8 + m) - g * 8) w (omega arith)
      go (no k) = let k' : f < g = above k ne in ap (take n) (drop-set-lt (g * 8) rows (f * 8 + m) w (omega arith))
        where
          above : (g < f → ⊥) → g ≢ f → f < g
          above a b = omega arith

-- ---- the four ways
pub grown_full : (S rows : List ℕ) (d m f : ℕ) → StretchGrowing m f rows → 8 < m → StretchGrown S d m f rows rows m
grown_full S rows d m f G l =
    record {
      low = G.low;
      gap = G.gap;
      more = omega arith;
      holds = λ k. absurd (omega arith);
      keeps = λ k u s. s;
      others = λ g n ne k. refl;
    }

module _ (S rows : List ℕ) (d m f : ℕ) (G : StretchGrowing m f rows) (w : ℕ) (left : w ≡ reduce word (stretch m f rows) (reduce word S d)) where
  pub grown_old : m ≤ 8 → w ≡ 0 → StretchGrown S d m f rows rows m
  grown_old l e =
      record {
        low = G.low;
        gap = G.gap;
        more = omega arith;
        holds = λ k. let r = rest_in S (stretch m f rows) d in cast word (r.2 ∙ ap (bit_xor r.0) (sym left ∙ e) ∙ add_nul word r.0) r.1;
        keeps = λ k u s. s;
        others = λ g n ne k. refl;
      }

  pub grown_over : m ≡ 8 → StretchGrown S d m f rows rows 199
  grown_over l =
      record {
        low = omega arith;
        gap = λ k. omega arith;
        more = omega arith;
        holds = λ k. absurd (omega arith);
        keeps = λ k. absurd (omega arith);
        others = λ g n ne k. refl;
      }

  pub grown_new : m < 8 → StretchGrown S d m f rows (set rows (f * 8 + m) w) (m + 1)
  grown_new l =
      record {
        low = omega arith;
        gap = λ k. absurd (omega arith);
        more = omega arith;
        holds = λ k.
            let r = rest_in S R d in
            back d (cast word (r.2 ∙ ap (bit_xor r.0) (sym left)) (span_add word (wider S R w r.0 r.1) (row_in S R w)));
        keeps = λ k u s. back u (wider S R w u s);
        others = stretch_other rows m f w G.size G.number l;
      }
    where
      R : List ℕ
      R = stretch m f rows

      back : (u : ℕ) → Span word ((R ++ w ∷ []) ++ S) u → Span word (stretch (m + 1) f (set rows (f * 8 + m) w) ++ S) u
      back u s = subst (λ (l : List ℕ). Span word (l ++ S) u) (sym (stretch_more rows m f w G.size G.number l)) s

pub part_left : (S rows : List ℕ) (d m f v w : ℕ) → v ≡ reduce word S d → w ≡ reduce word (take (f * 8 + m - f * 8) (drop (f * 8) rows)) v
    → w ≡ reduce word (stretch m f rows) (reduce word S d)
part_left S rows d m f v w e q =
    let n : f * 8 + m - f * 8 ≡ m = omega arith in
    q ∙ ap₂ (λ (k x : ℕ). reduce word (stretch k f rows) x) n e
