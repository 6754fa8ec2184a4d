-- A text written piece by piece.
--   piece_then         two pieces, one after the other, are one
--   number_short       a number has at most 20
--   field_put .. refused_put   each text, from its pieces
--   whole              what the page holds up to the text's end is the text
--   page_part, page_told   a page's part, and that part handed over
--   deliver_none, deliver_all   the two cases of handing it over
-- Assumes nothing.
use Rattle.std.specs.Prelude.{ℕ, ◌+◌, ◌≤◌, ◌<◌, ◌≡◌, refl, List, [], ◌∷◌, ◌++◌, length, set, take, drop}
use Rattle.std.proofs.Common.{sym, ◌∙◌, arith, add-one, length-append, take_at, length-take-le, lt-ltb, le-ltb}
use Rattle.std.proofs.lemmas.List.Edits.{sets}
use Rattle.kinds.specs.declared.Shape.{Shape}
use Rattle.kinds.specs.Kinds.{name_of, longest_name, name_short}
use Rattle.words.specs.laws.Buffers.{filled_sets}
use Rattle.printing.specs.Print.{number_text}
use Rattle.printing.specs.laws.Print.{sets_append, printed_fits}
use Rattle.text.specs.Line.{LF}
use Rattle.printing.specs.fields.Fields.{field_text, sizes_text}
use Rattle.printing.specs.fields.RefusedText.{refused_name, refused_text}
use Rattle.printing.specs.fields.Piece.{Piece}
use Rattle.printing.specs.fields.Written.{bytes_in, written_in}

-- what `text`'s functions promise
abbrev pub Put : (d : List ℕ) (at : ℕ) (xs d₁ : List ℕ) (e : ℕ) → Type 0
Put d at xs d₁ e = (e ≡ at + length xs) × (d₁ ≡ sets d at xs)

pub piece : (d : List ℕ) (at : ℕ) (xs : List ℕ) (m : ℕ) (d₁ : List ℕ) (e : ℕ) → Put d at xs d₁ e → length xs ≤ m → Piece d at xs m d₁ e
piece d at xs m d₁ e p h = record { after = p.0; holds = p.1; most = h }

pub piece_then : {d d₁ d₂ xs ys : List ℕ} {at e f m n : ℕ} → Piece d at xs m d₁ e → Piece d₁ e ys n d₂ f → Piece d at (xs ++ ys) (m + n) d₂ f
piece_then {d} {d₁} {d₂} {xs} {ys} {at} {e} {f} {m} {n} a b =
    record {
      after = omega (arith, a.after, b.after, length-append xs ys);
      holds = b.holds ∙ rw (a.holds, a.after) (sym (sets_append xs ys d at));
      most = omega (arith, a.most, b.most, length-append xs ys);
    }

pub number_short : (n : ℕ) → length (number_text n) ≤ 20
number_short n = printed_fits 10 20 n

-- ---- the texts, from their pieces
pub field_put : (n at e : ℕ) (d d₁ d₂ : List ℕ) → d₁ ≡ set d at 44 → Put d₁ (at + 1) (number_text n) d₂ e → Piece d at (field_text n) 21 d₂ e
field_put n at e d d₁ d₂ h p =
    record {
      after = omega (arith, p.0);
      holds = p.1 ∙ rw (h, add-one at);
      most = omega (arith, number_short n);
    }

pub sizes_put : (shape : Shape) (k at a b c d e : ℕ) (o o₁ o₂ o₃ o₄ o₅ : List ℕ) → Put o at (name_of shape.kind) o₁ a
    → Piece o₁ a (field_text shape.p) 21 o₂ b → Piece o₂ b (field_text shape.q) 21 o₃ c → Piece o₃ c (field_text shape.r) 21 o₄ d
    → Piece o₄ d (field_text k) 21 o₅ e → Piece o at (sizes_text shape k) 89 o₅ e
unfolding sizes_text
sizes_put shape k at a b c d e o o₁ o₂ o₃ o₄ o₅ h hp hq hr hk =
    let name = piece o at (name_of shape.kind) longest_name o₁ a h (name_short shape.kind) in
    piece_then (piece_then (piece_then (piece_then name hp) hq) hr) hk

pub refused_put : (n a b e : ℕ) (o o₁ o₂ o₃ : List ℕ) → Put o 0 refused_name o₁ a → Put o₁ a (number_text n) o₂ b → Put o₂ b (LF ∷ []) o₃ e → Piece o 0 (refused_text n) 29 o₃ e
unfolding refused_text
refused_put n a b e o o₁ o₂ o₃ h hn hl =
    piece_then (piece_then (piece o 0 refused_name 8 o₁ a h (omega arith)) (piece o₁ a (number_text n) 20 o₂ b hn (number_short n))) (piece o₂ b (LF ∷ []) 1 o₃ e hl (omega arith))

-- ---- handing over
pub whole : (t d d₁ : List ℕ) (m e : ℕ) → Piece d 0 t m d₁ e → m ≤ length d → take e d₁ ≡ t
whole t d d₁ m e P l =
    let h : e ≡ length t = omega (arith, P.after) in
    let k : length t ≤ length d = omega (arith, P.most) in
    rw (P.holds, filled_sets t d (length t) refl k, h) (take_at t (drop (length t) d) (length t) refl)

pub deliver_told : (t x d d₁ : List ℕ) (e : ℕ) → x ≡ t → (e ≡ bytes_in x d) × (d₁ ≡ written_in x d) → (e ≡ bytes_in t d) × (d₁ ≡ written_in t d)
deliver_told t x d d₁ e h p = rw h at p

-- a text on a page that is long enough for it, and that page's part handed over
pub page_part : (t d d₁ : List ℕ) (m e : ℕ) → m ≤ length d → length d₁ ≡ length d → Piece d 0 t m d₁ e → e ≡ length (take e d₁)
page_part t d d₁ m e l k P = sym (length-take-le e d₁ (omega (arith, l, k, P.after, P.most)))

pub page_told : (t d d₁ o o₁ : List ℕ) (m e r : ℕ) → m ≤ length d → Piece d 0 t m d₁ e
    → (r ≡ bytes_in (take e d₁) o) × (o₁ ≡ written_in (take e d₁) o) → (r ≡ bytes_in t o) × (o₁ ≡ written_in t o)
page_told t d d₁ o o₁ m e r l P h = deliver_told t (take e d₁) o o₁ r (whole t d d₁ m e P l) h

pub deliver_none : (t d : List ℕ) → length d < length t → (0 ≡ bytes_in t d) × (d ≡ written_in t d)
unfolding bytes_in written_in
deliver_none t d h = rw (lt-ltb (length d) (length t) h) (refl, refl)

pub deliver_all : (t d d₁ : List ℕ) (e : ℕ) → length t ≤ length d → Put d 0 t d₁ e → (e ≡ bytes_in t d) × (d₁ ≡ written_in t d)
unfolding bytes_in written_in
deliver_all t d d₁ e h p = rw (le-ltb (length d) (length t) h) (omega (arith, p.0), p.1 ∙ filled_sets t d (length t) refl h)
