-- The Catalogue's answer fits the page.
--   ListingFitted k c           == of the answer c for k: its records are in 4,096 words
--   fitted               an accepted answer is such
--   text_fits            so its text fits the page
--   Said                 == what the code knows of Catalogue's answer x
--   reply_refused, reply_records, reply_entries   the reply, by its cases
-- Assumes nothing.
use Rattle.std.specs.Prelude.{ℕ, zero, suc, ◌+◌, ◌-◌, ◌*◌, ◌<◌, ◌≤◌, ◌≡◌, List, [], length, take, ltb}
use Rattle.std.proofs.Math.Path.{refl, ap}
use Rattle.std.proofs.Common.{sym, ◌∙◌, subst, arith, mul-le-mul, le_refl, ltb-false}
use Rattle.std.proofs.Math.Decide.{dec_le}
use Rattle.kinds.specs.declared.Shape.{Shape}
use Rattle.kinds.specs.Refusal.{accepted}
use Rattle.kinds.specs.laws.Refusal.{accepted_inj, refuse_inv}
use Rattle.problems.specs.Problem.{Problem}
use Rattle.problems.proofs.Theorems.{Few}
use Rattle.linear.specs.Basis.{dim}
use Rattle.linear.specs.Order.{rising_lists}
use Rattle.linear.specs.Entry.{entries, space, fits, same_basis}
use Rattle.linear.specs.Word.{word}
use Rattle.linear.proofs.laws.Dimension.{dim_length}
use Rattle.linear.proofs.laws.Rank.{entries_below}
use Rattle.linear.proofs.laws.Select.{first_length}
use Rattle.catalogue.specs.listing.Listing.{fitting}
use Rattle.catalogue.proofs.laws.of_listing.Run.{fitting_in, fitting_le}
use Rattle.catalogue.specs.Catalogue.{Catalogued, entry_listing, catalogue_of, seen_catalogue}
use Rattle.catalogue.specs.declared.Catalogued.{Catalogued as Reply}
use Rattle.catalogue.specs.declared.Catalogued.TheVariants as reply
use Rattle.printing.specs.fields.Piece.{Piece}
use Rattle.printing.specs.fields.laws.Pieces.{whole}
use Rattle.printing.specs.fields.RefusedText.{refused_text}
use Rattle.catalogue_text.specs.report.CatalogueReports.{catalogue_text}
use Rattle.printing.specs.record_lines.RecordLines.{Records}
use Rattle.printing.specs.record_lines.laws.Lines.{records_held}
use Rattle.printing.specs.refusals.Pages.{listing_room, reply_page}
use Rattle.catalogue_text.specs.CatalogueAnswers.{catalogue_answer, catalogue_reply}
use Rattle.text.specs.Limits.{program_words}
use Rattle.records.specs.Length.{record_length}

-- ---- how much is listed
-- of no dimension there is one space at most
one_space : (gens targets : List ℕ) → length (entries word gens targets 0) ≤ 1
unfolding entries
one_space gens targets =
    let a = first_length (space word gens targets) (fits word gens 0) (same_basis word) (rising_lists (length gens) 0 (0 - dim word targets)) [] in
    let b : length (rising_lists (length gens) 0 (0 - dim word targets)) ≡ 1 = ap (λ (m : ℕ). length (rising_lists (length gens) 0 m))
    (let z : 0 - dim word targets ≡ 0 = omega arith in z) ∙ (one (length gens)) in
    omega arith
  where
    one : (n : ℕ) → length (rising_lists n 0 0) ≡ 1
    one n = unfold rising_lists in refl

pub record ListingFitted (k : ℕ) (c : Catalogued) : Type 0 where
  pub near : 0 < c.shown → c.ell ≤ k
  pub held : c.shown * ((k - c.ell) + k) ≤ program_words
  pub few : c.shown ≤ program_words
  pub rows : k ≤ 70

listing_fitted : (x : Problem) (k : ℕ) (old : List ℕ) → length old ≡ program_words → k ≤ 70 → ListingFitted k (entry_listing x k old)
unfolding entry_listing
listing_fitted x k old w h =
    record { near = λ p. beyond p (dec_le (dim word x.targets) k); held = (let a = fitting_in size found (length old) in omega arith); few = go size refl; rows = h }
  where
    size : ℕ
    size = record_length (dim word x.targets) k

    found : ℕ
    found = length (entries word x.generators x.targets k)

    -- below ℓ there is no entry, so none is shown
    beyond : 0 < fitting size found (length old) → Dec (dim word x.targets ≤ k) → dim word x.targets ≤ k
    beyond p (yes l) = l
    beyond p (no l) = absurd (
        let a = fitting_le size found (length old) in
        let b : found ≡ 0 = ap length (entries_below word x.generators x.targets k (omega arith)) in
        omega arith)

    go : (n : ℕ) → size ≡ n → fitting size found (length old) ≤ program_words
    go zero e =
        let z : k ≡ 0 = omega (arith, e) in
        let a = fitting_le size found (length old) in
        let b : length (entries word x.generators x.targets k) ≤ 1 = subst
        (λ (j : ℕ). length (entries word x.generators x.targets j) ≤ 1) (sym z) (one_space x.generators x.targets) in
        omega (arith, a, b)
    go (suc n) e =
        let a : fitting size found (length old) * size ≤ length old = fitting_in size found (length old) in
        let b : fitting size found (length old) * 1 ≤ fitting size found (length old) * size = mul-le-mul (le_refl (fitting size found (length old))) (let z : 1 ≤ size = omega (arith, e) in z) in
        omega (arith, a, b, w)

pub fitted : (x : Problem) (k : ℕ) (old : List ℕ) (c : Catalogued) → Few x → length old ≡ program_words → catalogue_of x k old ≡ accepted c → ListingFitted k c
unfolding catalogue_of
fitted x k old c F w e =
    let j = refuse_inv 8 (ltb (dim word x.targets + 6) k) (accepted (entry_listing x k old)) c e in
    let a = ltb-false (dim word x.targets + 6) k j.0 in
    let b = F.targets in
    let d = dim_length word x.targets in
    subst (ListingFitted k) (accepted_inj (entry_listing x k old) c j.1) (listing_fitted x k old w (omega arith))

-- ---- the text
pub records_fit : (k : ℕ) (c : Catalogued) → ListingFitted k c → length c.buffer ≡ program_words → Records c.buffer (k - c.ell) k c.shown 204
records_fit k c F l = records_held c.buffer (k - c.ell) k c.shown 204 l F.held F.few (let a = F.rows in omega arith) F.rows (omega arith)

pub text_fits : (shape : Shape) (k : ℕ) (c : Catalogued) (d d₁ : List ℕ) (e : ℕ) → ListingFitted k c → length d ≡ reply_page
    → Piece d 0 (catalogue_text shape k c.ell c.found c.shown c.buffer) (204 + (21 * (c.shown * ((k - c.ell) + k)) + 25 * c.shown)) d₁ e
    → (take e d₁ ≡ catalogue_answer shape k (accepted c)) × (e ≤ reply_page)
text_fits shape k c d d₁ e F l P =
    let a = F.held in
    let b = F.few in
    let m : 204 + (21 * (c.shown * ((k - c.ell) + k)) + 25 * c.shown) ≤ length d = omega arith in (
      whole (catalogue_text shape k c.ell c.found c.shown c.buffer) d d₁ (204 + (21 * (c.shown * ((k - c.ell) + k)) + 25 * c.shown)) e P m,
      omega (arith, P.after, P.most, a, b),
    )

-- ---- the reply, from the code's answer x
module _ (shape : Shape) (k : ℕ) (P : Problem) (x : Reply) (after : List ℕ) where
  pub record Said : Type 0 where
    pub few : Few P
    pub answer : catalogue_of P k listing_room ≡ seen_catalogue x after
    pub size : length after ≡ program_words

  module _ (S : Said) where
    reply_is : (y : Reply) → x ≡ y → catalogue_reply shape k P ≡ catalogue_answer shape k (seen_catalogue y after)
    unfolding catalogue_reply
    reply_is y h = ap (catalogue_answer shape k) (S.answer ∙ ap (λ (z : Reply). seen_catalogue z after) h)

    pub reply_refused : (e n : ℕ) (d : List ℕ) → x ≡ reply.Refused e → (take n d ≡ refused_text e) × (n ≤ 32) → (take n d ≡ catalogue_reply shape k P) × (n ≤ reply_page)
    reply_refused e n d h P = (P.0 ∙ sym (reply_is (reply.Refused e) h), (let a = P.1 in omega arith))

    module _ (l f s : ℕ) (h : x ≡ reply.Entries l f s) where
      abbrev c : Catalogued
      c = record { ell = l; found = f; shown = s; buffer = after }

      fit : ListingFitted k c
      fit = fitted P k listing_room c S.few refl (S.answer ∙ ap (λ (z : Reply). seen_catalogue z after) h)

      pub reply_records : Records after (k - l) k s 204 × (0 < s → l ≤ k)
      reply_records = (records_fit k c fit S.size, fit.near)

      pub reply_entries : (d d₁ : List ℕ) (e : ℕ) → length d ≡ reply_page → Piece d 0 (catalogue_text shape k l f s after) (204 + (21 * (s * ((k - l) + k)) + 25 * s)) d₁ e
          → (take e d₁ ≡ catalogue_reply shape k P) × (e ≤ reply_page)
      reply_entries d d₁ e w Q =
          let T = text_fits shape k c d d₁ e fit w Q in
          (T.0 ∙ sym (reply_is (reply.Entries l f s) h), T.1)
