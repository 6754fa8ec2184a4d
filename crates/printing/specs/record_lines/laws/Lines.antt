-- Lines from their pieces.
--   byte_then, weaker         a byte before a piece; a piece of fewer bytes
--   lists_put .. entry_put    two lists, a number before them, and an entry's line
--   Listing line w ..         == the lines of the first i records stand in the buffer
-- Assumes nothing.
use Rattle.std.specs.Prelude.{ℕ, zero, suc, ◌+◌, ◌-◌, ◌*◌, ◌<◌, ◌≤◌, ◌≡◌, refl, List, [], ◌∷◌, ◌++◌, length, take, drop, set}
use Rattle.std.proofs.Common.{sym, ap, ◌∙◌, subst, append-nil, append_assoc, arith, add-one, mul-le-mul, suc-mul, mul-add, mul-one, le_refl, length-take}
use Rattle.std.proofs.Math.Nat.{mul-zero}
use Rattle.printing.specs.Print.{number_text}
use Rattle.text.specs.Line.{LF, comma}
use Rattle.printing.specs.fields.Piece.{Piece}
use Rattle.printing.specs.fields.laws.Pieces.{Put, piece, piece_then, number_short}
use Rattle.printing.specs.field_lists.Inner.{numbers_text, forms_text}
use Rattle.printing.specs.record_lines.RecordLines.{lead_text, lists_text, entry_text, record_lines, Short, Records}
use Rattle.text.specs.Limits.{program_words}

-- ---- a byte before a piece
pub byte_then : (x at e m : ℕ) (d d₁ d₂ xs : List ℕ) → d₁ ≡ set d at x → Piece d₁ (at + 1) xs m d₂ e → Piece d at (x ∷ xs) (m + 1) d₂ e
byte_then x at e m d d₁ d₂ xs h P = record { after = omega (arith, P.after); holds = P.holds ∙ rw (h, add-one at); most = omega (arith, P.most) }

pub weaker : (d xs d₁ : List ℕ) (at e m n : ℕ) → m ≤ n → Piece d at xs m d₁ e → Piece d at xs n d₁ e
weaker d xs d₁ at e m n h P = record { after = P.after; holds = P.holds; most = (let z = P.most in omega arith) }

pub lists_put : (xs ys : List ℕ) (at a b e : ℕ) (d d₁ d₂ d₃ d₄ : List ℕ) → Piece d at (numbers_text xs) (21 * length xs + 1) d₁ a → d₂ ≡ set d₁ a 44
    → Piece d₂ (a + 1) (forms_text ys) (21 * length ys + 1) d₃ b → Put d₃ b (LF ∷ []) d₄ e → Piece d at (lists_text xs ys) (21 * length xs + 21 * length ys + 4) d₄ e
unfolding lists_text
lists_put xs ys at a b e d d₁ d₂ d₃ d₄ p h q l =
    weaker d (numbers_text xs ++ (comma ∷ forms_text ys) ++ (LF ∷ [])) d₄ at e (21 * length xs + 1 + (21 * length ys + 1 + 1) + 1) (21 * length xs + 21 * length ys + 4) (omega arith)
    (piece_then (piece_then p (byte_then 44 a b (21 * length ys + 1) d₁ d₂ d₃ (forms_text ys) h q)) (piece d₃ b (LF ∷ []) 1 d₄ e l (omega arith)))

pub lead_put : (n at a : ℕ) (d d₁ d₂ : List ℕ) → Put d at (number_text n) d₁ a → d₂ ≡ set d₁ a 44 → Piece d at (lead_text n) 21 d₂ (a + 1)
lead_put n at a d d₁ d₂ p h =
    piece_then (piece d at (number_text n) 20 d₁ a p (number_short n)) (piece d₁ a (comma ∷ []) 1 d₂ (a + 1) (refl, h) (omega arith))

pub lead_then : (n : ℕ) {at a e m : ℕ} {d d₁ d₂ t : List ℕ} → Piece d at (lead_text n) 21 d₁ a → Piece d₁ a t m d₂ e → Piece d at (number_text n ++ (comma ∷ t)) (21 + m) d₂ e
lead_then n {at} {a} {e} {m} {d} {d₁} {d₂} {t} P Q = subst (λ (x : List ℕ). Piece d at x (21 + m) d₂ e) (append_assoc (number_text n) (comma ∷ []) t) (piece_then P Q)

-- a lead before lists that are short
pub lead_short : (n top' : ℕ) {at a top : ℕ} {d d₁ xs ys : List ℕ} → top + 21 ≤ top' → Short xs ys at top → Piece d at (lead_text n) 21 d₁ a → Short xs ys a top'
lead_short n top' h S P = record { first = S.first; second = S.second; place = omega (arith, h, S.place, P.after, P.most) }

pub entry_put : (i : ℕ) (xs ys : List ℕ) (at a e : ℕ) (d d₁ d₂ : List ℕ) → Piece d at (lead_text i) 21 d₁ a
    → Piece d₁ a (lists_text xs ys) (21 * length xs + 21 * length ys + 4) d₂ e → Piece d at (entry_text i xs ys) (21 * length xs + 21 * length ys + 25) d₂ e
unfolding entry_text
entry_put i xs ys at a e d d₁ d₂ P Q = weaker d (number_text i ++ (comma ∷ lists_text xs ys)) d₂ at e _ _ (omega arith) (lead_then i P Q)

-- ---- records one after the other, a line of at most w bytes besides its lists for each
abbrev pub Line : Type 0
Line = ℕ → List ℕ → List ℕ → List ℕ

lines_snoc : (line : Line) (d k : ℕ) (listing : List ℕ) (n i : ℕ)
    → record_lines line d k i (suc n) listing
    ≡ record_lines line d k i n listing ++ line (i + n) (take d (drop ((i + n) * (d + k)) listing)) (take k (drop ((i + n) * (d + k) + d) listing))
unfolding record_lines
lines_snoc line d k listing zero i =
    append-nil (one i) ∙ ap one (let e : i ≡ i + 0 = omega arith in e)
  where
    one : ℕ → List ℕ
    one j = line j (take d (drop (j * (d + k)) listing)) (take k (drop (j * (d + k) + d) listing))
lines_snoc line d k listing (suc n) i =
    ap (λ (r : List ℕ). one i ++ r) (lines_snoc line d k listing n (suc i) ∙ ap (λ (j : ℕ). record_lines line d k (suc i) n listing ++ one j) (let e : suc i + n ≡ i + suc n = omega arith in e))
    ∙ sym (append_assoc (one i) (record_lines line d k (suc i) n listing) (one (i + suc n)))
  where
    one : ℕ → List ℕ
    one j = line j (take d (drop (j * (d + k)) listing)) (take k (drop (j * (d + k) + d) listing))

module _ (line : Line) (w : ℕ) (listing : List ℕ) (d k n : ℕ) (o : List ℕ) (at : ℕ) where
  pub record Listing (out : List ℕ) (e i : ℕ) : Type 0 where
    pub within : i ≤ n
    pub same : length out ≡ length o
    pub is : Piece o at (record_lines line d k 0 i listing) (21 * (i * (d + k)) + w * i) out e

  pub listing_start : Listing o at 0
  listing_start = record { within = omega arith; same = refl; is = (unfold record_lines in record { after = omega arith; holds = refl; most = omega (arith, mul-zero w) }) }

  -- a record inside the listing, which is short
  pub inside_listing : (i : ℕ) → i < n → Records listing d k n at → (i * (d + k) + (d + k) ≤ length listing) × (length listing ≤ 1000000)
  inside_listing i h R =
      let a : suc i * (d + k) ≤ n * (d + k) = mul-le-mul h (le_refl (d + k)) in
      (omega (arith, a, suc-mul i (d + k), R.held), R.small)

  -- its two lists as they are lent, and the place where its line goes
  pub listing_short : (top : ℕ) (out : List ℕ) (e i : ℕ) → w ≤ 46 → 70000000 ≤ top → Listing out e i → i < n → Records listing d k n at
      → Short (take (i * (d + k) + d - i * (d + k)) (drop (i * (d + k)) listing)) (take (i * (d + k) + d + k - (i * (d + k) + d)) (drop (i * (d + k) + d) listing)) e top
  listing_short top out e i v t L h R =
      let m : w * i ≤ 46 * i = mul-le-mul v (le_refl i) in
      let g = inside_listing i h R in
      record {
        first = omega (arith, length-take (i * (d + k) + d - i * (d + k)) (drop (i * (d + k)) listing), R.numbers);
        second = omega (arith, length-take (i * (d + k) + d + k - (i * (d + k) + d)) (drop (i * (d + k) + d) listing), R.rows);
        place = omega (arith, m, t, g.0, g.1, L.is.after, L.is.most, L.within, R.few, R.place);
      }

  pub listing_next : (out out₁ : List ℕ) (e f i : ℕ) → Listing out e i → i < n → Records listing d k n at
      → Piece out e (line i (take (i * (d + k) + d - i * (d + k)) (drop (i * (d + k)) listing)) (take (i * (d + k) + d + k - (i * (d + k) + d)) (drop (i * (d + k) + d) listing)))
      (21 * length (take (i * (d + k) + d - i * (d + k)) (drop (i * (d + k)) listing)) + 21 * length (take (i * (d + k) + d + k - (i * (d + k) + d)) (drop (i * (d + k) + d) listing)) + w) out₁ f
      → length out₁ ≡ length out → Listing out₁ f (i + 1)
  listing_next out out₁ e f i L h R P m =
      record {
        within = omega arith;
        same = m ∙ L.same;
        is = subst (λ (t : List ℕ). Piece o at t (21 * ((i + 1) * (d + k)) + w * (i + 1)) out₁ f) (sym text)
            (weaker o (record_lines line d k 0 i listing ++ here) out₁ at f (21 * (i * (d + k)) + w * i + (21 * d + 21 * k + w))
            (21 * ((i + 1) * (d + k)) + w * (i + 1)) (omega (arith, more, wider)) (piece_then L.is Q));
      }
    where
      xs : List ℕ
      xs = take d (drop (i * (d + k)) listing)

      ys : List ℕ
      ys = take k (drop (i * (d + k) + d) listing)

      here : List ℕ
      here = line i xs ys

      more : (i + 1) * (d + k) ≡ i * (d + k) + (d + k)
      more = ap (λ (j : ℕ). j * (d + k)) (let e : i + 1 ≡ suc i = omega arith in e) ∙ suc-mul i (d + k)

      wider : w * (i + 1) ≡ w * i + w
      wider = mul-add w i 1 ∙ ap (λ (x : ℕ). w * i + x) (mul-one w)

      a : i * (d + k) + d - i * (d + k) ≡ d
      a = omega arith

      b : i * (d + k) + d + k - (i * (d + k) + d) ≡ k
      b = omega arith

      Q : Piece out e here (21 * d + 21 * k + w) out₁ f
      Q =
          weaker out here out₁ e f (21 * length xs + 21 * length ys + w) (21 * d + 21 * k + w)
          (omega (arith, length-take d (drop (i * (d + k)) listing), length-take k (drop (i * (d + k) + d) listing)))
          (subst (λ (x : ℕ). Piece out e (line i xs (take x (drop (i * (d + k) + d) listing))) (21 * length xs + 21 * length (take x (drop (i * (d + k) + d) listing)) + w) out₁ f) b
          (subst (λ (x : ℕ). Piece out e (line i (take x (drop (i * (d + k)) listing)) (take (i * (d + k) + d + k - (i * (d + k) + d)) (drop (i * (d + k) + d) listing)))
          (21 * length (take x (drop (i * (d + k)) listing)) + 21 * length (take (i * (d + k) + d + k - (i * (d + k) + d)) (drop (i * (d + k) + d) listing)) + w) out₁ f) a P))

      text : record_lines line d k 0 (i + 1) listing ≡ record_lines line d k 0 i listing ++ here
      text =
          ap (λ (j : ℕ). record_lines line d k 0 j listing) (let e : i + 1 ≡ suc i = omega arith in e) ∙ lines_snoc line d k listing i 0 ∙ ap
          (λ (j : ℕ). record_lines line d k 0 i listing ++ line j (take d (drop (j * (d + k)) listing)) (take k (drop (j * (d + k) + d) listing)))
          (let e : 0 + i ≡ i = omega arith in e)

  pub listing_end : (out : List ℕ) (e i : ℕ) → Listing out e i → n ≤ i → Piece o at (record_lines line d k 0 n listing) (21 * (n * (d + k)) + w * n) out e
  listing_end out e i L h = subst (λ (j : ℕ). Piece o at (record_lines line d k 0 j listing) (21 * (j * (d + k)) + w * j) out e) (let u = L.within in let z : i ≡ n = omega arith in z) L.is

-- records in a listing of 4,096 words
pub records_held : (listing : List ℕ) (d k n at : ℕ) → length listing ≡ program_words → n * (d + k) ≤ program_words → n ≤ program_words → d ≤ 70 → k ≤ 70 → at ≤ 1000000 → Records listing d k n at
records_held listing d k n at l h f a b p =
    record { held = omega (arith, l, h); small = omega (arith, l); few = omega (arith, f); numbers = omega (arith, a); rows = omega (arith, b); place = p }
