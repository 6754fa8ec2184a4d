-- The formulae of an entry fit the page.
--   Said              == what the code knows of the answer x on the formulae
--   said_refused, said_all, said_more           the answer, by its cases
--   said_records, said_lines                    the records stand in the buffer; their lines are the text, and fit the page
-- Assumes nothing.
use Rattle.std.specs.Prelude.{ℕ, ◌+◌, ◌*◌, ◌≤◌, ◌≡◌, Bool, true, false, not, List, length, take, ltb}
use Rattle.std.proofs.Common.{sym, ◌∙◌, subst, arith, mul-le-mul, le_refl, ltb-false}
use Rattle.std.proofs.Math.Path.{ap}
use Rattle.kinds.specs.Refusal.{Answer, refused, accepted, refuse}
use Rattle.kinds.specs.laws.Refusal.{accepted_inj, refuse_inv}
use Rattle.linear.specs.Basis.{dim}
use Rattle.linear.specs.Formulae.{formulae}
use Rattle.linear.specs.Word.{word}
use Rattle.linear.proofs.laws.Dimension.{dim_length}
use Rattle.catalogue.specs.listing.Listing.{fitting}
use Rattle.catalogue.proofs.laws.of_listing.Run.{fitting_in}
use Rattle.problems.specs.Problem.{Problem}
use Rattle.space_formulae.specs.Replies.{Some}
use Rattle.space_formulae.specs.spaces.Spaces.{Formulae, is_entry, record_size, formulae_listing, formulae_for, seen_formulae}
use Rattle.space_formulae.specs.declared.spaces.Listed.{Listed as Reply}
use Rattle.space_formulae.specs.declared.spaces.Listed.TheVariants as reply
use Rattle.printing.specs.fields.Piece.{Piece}
use Rattle.printing.specs.fields.laws.Pieces.{whole}
use Rattle.printing.specs.fields.RefusedText.{refused_text}
use Rattle.printing.specs.record_lines.RecordLines.{Records}
use Rattle.printing.specs.record_lines.laws.Lines.{records_held}
use Rattle.formulae_text.specs.lines.FormulaLines.{formulae_text}
use Rattle.printing.specs.refusals.Pages.{listing_room, part_page}
use Rattle.formulae_text.specs.FormulaAnswers.{formulae_answer, entry_formulae}
use Rattle.text.specs.Limits.{program_words}

-- ---- how many formulae are listed
pub record FormulaeFitted (k t n : ℕ) : Type 0 where
  pub held : n * (k + t) ≤ program_words
  pub few : n ≤ program_words
  pub rows : k ≤ 70
  pub outputs : t ≤ 64

abbrev told : ℕ → Bool → List ℕ → Formulae
told n w after = record { listed = n; whole = w; buffer = after }

fitted : (x : Problem) (rows : List ℕ) (n : ℕ) (w : Bool) (after : List ℕ) → Some x.targets → formulae_for x rows listing_room ≡ accepted (told n w after)
    → FormulaeFitted (length rows) (length x.targets) n
unfolding formulae_for formulae_listing
fitted x rows n w after F e =
    let last : Answer Formulae = refuse 10 (not (is_entry x.generators x.targets rows)) (accepted (formulae_listing x rows listing_room)) in
    let j = refuse_inv 8 (ltb (dim word x.targets + 6) (length rows)) last (told n w after) e in
    let k = refuse_inv 10 (not (is_entry x.generators x.targets rows)) (accepted (formulae_listing x rows listing_room)) (told n w after) j.1 in
    let l : formulae_listing x rows listing_room ≡ told n w after = accepted_inj (formulae_listing x rows listing_room) (told n w after) k.1 in
    let c : ℕ = length (formulae word x.generators rows) in
    let size : ℕ = record_size x.targets rows in
    let m : fitting size c program_words ≡ n = ap (λ (f : Formulae). f.listed) l in
    let h : n * size ≤ program_words = subst (λ (z : ℕ). z * size ≤ program_words) m (fitting_in size c program_words) in
    let s : 1 ≤ size = (let f = F.some_target in omega arith) in
    let b : n * 1 ≤ n * size = mul-le-mul (le_refl n) s in
    let d = dim_length word x.targets in
    let f = ltb-false (dim word x.targets + 6) (length rows) j.0 in
    record { held = h; few = omega arith; rows = (let g = F.few in omega arith); outputs = F.few }

-- ---- the text, from the code's answer x
module _ (e : ℕ) (P : Problem) (rows : List ℕ) (x : Reply) (after : List ℕ) where
  pub record Said : Type 0 where
    pub few : Some P.targets
    pub answer : formulae_for P rows listing_room ≡ seen_formulae x after
    pub size : length after ≡ program_words

  module _ (S : Said) where
    answer_is : (y : Reply) → x ≡ y → formulae_for P rows listing_room ≡ seen_formulae y after
    answer_is y h = S.answer ∙ ap (λ (z : Reply). seen_formulae z after) h

    text_is : (a : Answer Formulae) → formulae_for P rows listing_room ≡ a → entry_formulae e P rows ≡ formulae_answer e (length rows) (length P.targets) a
    unfolding entry_formulae
    text_is a h = ap (formulae_answer e (length rows) (length P.targets)) h

    pub said_refused : (n m : ℕ) (d : List ℕ) → x ≡ reply.Refused n → (take m d ≡ refused_text n) × (m ≤ 32) → (take m d ≡ entry_formulae e P rows) × (m ≤ part_page)
    said_refused n m d h Q = (Q.0 ∙ sym (text_is (refused n) (answer_is (reply.Refused n) h)), (let a = Q.1 in omega arith))

    pub said_all : (n : ℕ) → x ≡ reply.All n → formulae_for P rows listing_room ≡ accepted (told n true after)
    said_all n h = answer_is (reply.All n) h

    pub said_more : (n : ℕ) → x ≡ reply.More n → formulae_for P rows listing_room ≡ accepted (told n false after)
    said_more n h = answer_is (reply.More n) h

    module _ (n : ℕ) (w : Bool) (h : formulae_for P rows listing_room ≡ accepted (told n w after)) where
      fit : FormulaeFitted (length rows) (length P.targets) n
      fit = fitted P rows n w after S.few h

      pub said_records : Records after (length rows) (length P.targets) n 0
      said_records = records_held after (length rows) (length P.targets) n 0 S.size fit.held fit.few fit.rows (let a = fit.outputs in omega arith) (omega arith)

      pub said_lines : (d d₁ : List ℕ) (m : ℕ) → length d ≡ part_page
          → Piece d 0 (formulae_text e (length rows) (length P.targets) n w after) (21 * (n * (length rows + length P.targets)) + 46 * n + 30) d₁ m
          → (take m d₁ ≡ entry_formulae e P rows) × (m ≤ part_page)
      said_lines d d₁ m l Q =
          let a = fit.held in
          let b = fit.few in
          let c : 21 * (n * (length rows + length P.targets)) + 46 * n + 30 ≤ length d = omega arith in (
            whole (formulae_text e (length rows) (length P.targets) n w after) d d₁ (21 * (n * (length rows + length P.targets)) + 46 * n + 30) m Q c
                ∙ sym (text_is (accepted (told n w after)) h),
            omega (arith, Q.after, Q.most, a, b),
          )
