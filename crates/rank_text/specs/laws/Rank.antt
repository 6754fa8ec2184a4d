-- Rank's answer, and that it fits the page.
--   Said            == what the code knows of Rank's answer x, the targets having the dimension ell
--   formula_piece   the text of a formula in a buffer
--   said_room       the buffer holds the numbers and rows of a formula
--   said_refused, said_formula, said-far   the reply, by its cases
-- Assumes nothing.
use Rattle.std.specs.Prelude.{ℕ, ◌+◌, ◌-◌, ◌*◌, ◌≤◌, ◌≡◌, Bool, true, false, not, List, length, take, drop, ltb, eqb}
use Rattle.std.proofs.Common.{sym, ◌∙◌, subst, arith, length-take, length-drop, ltb-false}
use Rattle.std.proofs.Math.Path.{ap}
use Rattle.kinds.specs.declared.Shape.{Shape}
use Rattle.kinds.specs.Refusal.{accepted}
use Rattle.kinds.specs.laws.Refusal.{refuse_inv}
use Rattle.linear.specs.Basis.{dim}
use Rattle.linear.specs.Formulae as formulae
use Rattle.linear.specs.Formulae.{Fewest, fewest}
use Rattle.linear.specs.Word.{word}
use Rattle.problems.specs.Problem.{Problem}
use Rattle.rank.specs.fewest.Fewest.{is, written, ranking, seen_ranked}
use Rattle.rank.specs.declared.fewest.Ranked.{Ranked}
use Rattle.rank.specs.declared.fewest.Ranked.TheVariants as ranked
use Rattle.rank.specs.Rank.{rank_for}
use Rattle.printing.specs.fields.Piece.{Piece}
use Rattle.printing.specs.fields.laws.Pieces.{whole}
use Rattle.printing.specs.fields.RefusedText.{refused_text}
use Rattle.rank_text.specs.report.RankReports.{rank_text, far_rank_text}
use Rattle.printing.specs.record_lines.RecordLines.{Short}
use Rattle.printing.specs.refusals.Pages.{listing_room, reply_page}
use Rattle.rank_text.specs.RankAnswers.{rank_answer, rank_reply}
use Rattle.text.specs.Limits.{program_words}

-- ---- a formula, its numbers and rows at the start of a buffer
module _ (n t : ℕ) (buffer : List ℕ) where
  abbrev pub rows_in : List ℕ
  rows_in = take (n + t - n) (drop n buffer)

  pub formula_short : length buffer ≡ program_words → Short (take n buffer) rows_in 0 0
  formula_short l =
      record {
        first = (let a = length-take n buffer in omega arith);
        second = (let a = length-take (n + t - n) (drop n buffer) in let b = length-drop n buffer in omega arith);
        place = omega arith;
      }

  pub formula_piece : (shape : Shape) (k ell : ℕ) (d d₁ : List ℕ) (e : ℕ) → n + t ≤ program_words
      → Piece d 0 (rank_text shape k ell (take n buffer) rows_in) (21 * length (take n buffer) + 21 * length rows_in + 172) d₁ e
      → Piece d 0 (rank_text shape k ell (take n buffer) (take t (drop n buffer))) 86188 d₁ e
  formula_piece shape k ell d d₁ e h P =
      let a = length-take n buffer in
      let b = length-take (n + t - n) (drop n buffer) in
      let i : n + t - n ≡ t = omega arith in
      let m = P.most in
      subst (λ (c : ℕ). Piece d 0 (rank_text shape k ell (take n buffer) (take c (drop n buffer))) 86188 d₁ e) i (record { after = P.after; holds = P.holds; most = omega arith })

-- ---- room for a formula
formula_room_law : (gens targets old : List ℕ) (n : ℕ) (after : List ℕ) (f : Fewest) → written gens targets old f ≡ accepted (is n after) → n + length targets ≤ length old
formula_room_law gens targets old n after (formulae.formula es) e =
    let j = refuse_inv 9 (ltb (length old) (length es + length targets)) _ (is n after) e in
    let k : length es ≡ n = (let z = j.1 in cc) in
    let l = ltb-false (length old) (length es + length targets) j.0 in
    omega arith
formula_room_law gens targets old n after formulae.above e = absurd (let z : ◌≡◌ {A = ℕ} 0 1 = cc in omega arith)
formula_room_law gens targets old n after formulae.beyond e = absurd (let z : ◌≡◌ {A = ℕ} 0 1 = cc in omega arith)

rank_room : (x : Problem) (prices : List ℕ) (k : ℕ) (old : List ℕ) (n : ℕ) (after : List ℕ) → rank_for x prices k old ≡ accepted (is n after)
    → n + length x.targets ≤ length old
unfolding rank_for ranking
rank_room x prices k old n after e =
    formula_room_law x.generators x.targets old n after (fewest word x.generators x.targets prices)
    (refuse_inv 8 (not (eqb k 0)) (ranking x.generators x.targets prices old) (is n after) e).1

-- ---- the reply, from the code's answer x
module _ (shape : Shape) (k : ℕ) (P : Problem) (prices : List ℕ) (ell : ℕ) (x : Ranked) (after : List ℕ) where
  pub record Said : Type 0 where
    pub dimension : ell ≡ dim word P.targets
    pub answer : rank_for P prices k listing_room ≡ seen_ranked x after
    pub size : length after ≡ program_words

  module _ (S : Said) where
    rank_is : (y : Ranked) → x ≡ y → rank_for P prices k listing_room ≡ seen_ranked y after
    rank_is y h = S.answer ∙ ap (λ (z : Ranked). seen_ranked z after) h

    reply_is : (y : Ranked) → x ≡ y → rank_reply shape k P prices ≡ rank_answer shape k ell (length P.targets) (seen_ranked y after)
    unfolding rank_reply
    reply_is y h =
        ap (rank_answer shape k (dim word P.targets) (length P.targets)) (rank_is y h)
        ∙ ap (λ (l : ℕ). rank_answer shape k l (length P.targets) (seen_ranked y after)) (sym S.dimension)

    pub said_refused : (e n : ℕ) (d : List ℕ) → x ≡ ranked.Refused e → (take n d ≡ refused_text e) × (n ≤ 32)
        → (take n d ≡ rank_reply shape k P prices) × (n ≤ reply_page)
    said_refused e n d h Q = (Q.0 ∙ sym (reply_is (ranked.Refused e) h), (let a = Q.1 in omega arith))

    pub said_room : (n : ℕ) → x ≡ ranked.Is n → n + length P.targets ≤ program_words
    said_room n h = rank_room P prices k listing_room n after (rank_is (ranked.Is n) h)

    pub said_formula : (n : ℕ) → x ≡ ranked.Is n → (d d₁ : List ℕ) (e : ℕ) → length d ≡ reply_page
        → Piece d 0 (rank_text shape k ell (take n after) (take (length P.targets) (drop n after))) 86188 d₁ e → (take e d₁ ≡ rank_reply shape k P prices) ×
        (e ≤ reply_page)
    said_formula n h d d₁ e w Q =
        let f : 86188 ≤ length d = omega arith in (
          whole (rank_text shape k ell (take n after) (take (length P.targets) (drop n after))) d d₁ 86188 e Q f ∙ sym (reply_is (ranked.Is n) h),
          omega (arith, Q.after, Q.most),
        )

    far : (far_off : Bool) → rank_reply shape k P prices ≡ far_rank_text shape k ell far_off → (d d₁ : List ℕ) (e : ℕ) → length d ≡ reply_page
        → Piece d 0 (far_rank_text shape k ell far_off) 140 d₁ e → (take e d₁ ≡ rank_reply shape k P prices) × (e ≤ reply_page)
    far b h d d₁ e w Q = (whole (far_rank_text shape k ell b) d d₁ 140 e Q (omega arith) ∙ sym h, omega (arith, Q.after, Q.most))

    pub said_above : x ≡ ranked.Above → (d d₁ : List ℕ) (e : ℕ) → length d ≡ reply_page
        → Piece d 0 (far_rank_text shape k ell true) 140 d₁ e → (take e d₁ ≡ rank_reply shape k P prices) × (e ≤ reply_page)
    said_above h = far true (reply_is ranked.Above h)

    pub said_beyond : x ≡ ranked.Beyond → (d d₁ : List ℕ) (e : ℕ) → length d ≡ reply_page
        → Piece d 0 (far_rank_text shape k ell false) 140 d₁ e → (take e d₁ ≡ rank_reply shape k P prices) × (e ≤ reply_page)
    said_beyond h = far false (reply_is ranked.Beyond h)
