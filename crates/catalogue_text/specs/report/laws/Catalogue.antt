-- The Catalogue's text from its pieces.
--   counts_put, catalogue_put   the first two lines, the whole
--   records_at                  the records at another place
--   looked_short, looked_next   the record of an entry, looked up, and its line
-- Assumes nothing.
use Rattle.std.specs.Prelude.{ℕ, ◌+◌, ◌-◌, ◌*◌, ◌<◌, ◌≤◌, ◌≡◌, List, [], ◌∷◌, length, take, drop}
use Rattle.std.proofs.Common.{sym, ap, ◌∙◌, subst, arith}
use Rattle.text.specs.Line.{LF}
use Rattle.printing.specs.fields.Piece.{Piece}
use Rattle.printing.specs.fields.laws.Pieces.{Put, piece, piece_then}
use Rattle.kinds.specs.declared.Shape.{Shape}
use Rattle.printing.specs.fields.Fields.{field_text, sizes_text}
use Rattle.printing.specs.record_lines.RecordLines.{entry_text, Short, Records}
use Rattle.printing.specs.record_lines.laws.Lines.{Listing, inside_listing, listing_short, listing_next}
use Rattle.records.specs.lookup.Lookup.{lookup}
use Rattle.records.specs.lookup.laws.Lookup.{record_parts}
use Rattle.catalogue_text.specs.report.CatalogueReports.{entries_text, catalogue_names, entry_names, counts_text, catalogue_text}

pub counts_put : (shape : Shape) (k ell found shown a b c d e f : ℕ) (o o₁ o₂ o₃ o₄ o₅ o₆ : List ℕ) → Put o 0 catalogue_names o₁ a → Piece o₁ a (sizes_text shape k) 89 o₂ b
    → Piece o₂ b (field_text ell) 21 o₃ c → Piece o₃ c (field_text found) 21 o₄ d → Piece o₄ d (field_text shown) 21 o₅ e → Put o₅ e (LF ∷ []) o₆ f
    → Piece o 0 (counts_text shape k ell found shown) 182 o₆ f
unfolding counts_text
counts_put shape k ell found shown a b c d e f o o₁ o₂ o₃ o₄ o₅ o₆ h hs h₁ h₂ h₃ hl =
    piece_then (piece_then (piece_then (piece_then (piece_then (piece o 0 catalogue_names 29 o₁ a h (omega arith)) hs) h₁) h₂) h₃) (piece o₅ e (LF ∷ []) 1 o₆ f hl (omega arith))

pub catalogue_put : (shape : Shape) (k ell found shown a b e : ℕ) (listing o o₁ o₂ o₃ : List ℕ)
    → Piece o 0 (counts_text shape k ell found shown) 182 o₁ a → Put o₁ a entry_names o₂ b
    → Piece o₂ b (entries_text (k - ell) k 0 shown listing) (21 * (shown * ((k - ell) + k)) + 25 * shown) o₃ e
    → Piece o 0 (catalogue_text shape k ell found shown listing) (204 + (21 * (shown * ((k - ell) + k)) + 25 * shown)) o₃ e
unfolding catalogue_text
catalogue_put shape k ell found shown a b e listing o o₁ o₂ o₃ A N B = piece_then (piece_then A (piece o₁ a entry_names 22 o₂ b N (omega arith))) B

pub records_at : (listing : List ℕ) (d k n at at₀ : ℕ) → Records listing d k n at₀ → at ≤ 1000000 → Records listing d k n at
records_at listing d k n at at₀ R h =
    record { held = R.held; small = R.small; few = R.few; numbers = R.numbers; rows = R.rows; place = h }

-- ---- the record of entry i, looked up, as it stands in the listing
module _ (listing : List ℕ) (ell k shown at i : ℕ) (R : Records listing (k - ell) k shown at) (near : 0 < shown → ell ≤ k) (h : i < shown)
    {X Y : List ℕ} (a : X ≡ take (k - ell) (lookup ell k shown i listing)) (b : Y ≡ drop (k - ell) (lookup ell k shown i listing)) where
  abbrev d : ℕ
  d = k - ell

  abbrev XS : List ℕ
  XS = take (i * (d + k) + d - i * (d + k)) (drop (i * (d + k)) listing)

  abbrev YS : List ℕ
  YS = take (i * (d + k) + d + k - (i * (d + k) + d)) (drop (i * (d + k) + d) listing)

  parts : (X ≡ XS) × (Y ≡ YS)
  parts =
      let inside = inside_listing entry_text 25 listing d k shown listing at i h R in
      let p = record_parts ell k shown i listing h (near (omega arith)) inside.0 in (
        a ∙ p.0 ∙ ap (λ (n : ℕ). take n (drop (i * (d + k)) listing)) (let z : d ≡ i * (d + k) + d - i * (d + k) = omega arith in z),
        b ∙ p.1 ∙ ap (λ (n : ℕ). take n (drop (i * (d + k) + d) listing)) (let z : k ≡ i * (d + k) + d + k - (i * (d + k) + d) = omega arith in z),
      )

  pub looked_short : (o out : List ℕ) (e : ℕ) → Listing entry_text 25 listing d k shown o at out e i → Short X Y e 3000000000
  looked_short o out e L =
      let S = listing_short entry_text 25 listing d k shown o at 3000000000 out e i (omega arith) (omega arith) L h R in
      subst (λ (x : List ℕ). Short x Y e 3000000000) (sym parts.0) (subst (λ (y : List ℕ). Short XS y e 3000000000) (sym parts.1) S)

  pub looked_next : (o out out₁ : List ℕ) (e f : ℕ) → Listing entry_text 25 listing d k shown o at out e i
      → Piece out e (entry_text i X Y) (21 * length X + 21 * length Y + 25) out₁ f → length out₁ ≡ length out
      → Listing entry_text 25 listing d k shown o at out₁ f (i + 1)
  looked_next o out out₁ e f L P m =
      listing_next entry_text 25 listing d k shown o at out out₁ e f i L h R
      (subst (λ (y : List ℕ). Piece out e (entry_text i XS y) (21 * length XS + 21 * length y + 25) out₁ f) parts.1
      (subst (λ (x : List ℕ). Piece out e (entry_text i x Y) (21 * length x + 21 * length Y + 25) out₁ f) parts.0 P)) m
