-- The replies on a selection, from what the steps say.
-- Assumes nothing.
use Rattle.std.specs.Prelude.{◌≡◌, Bool, true, false, ℕ, ◌<◌, ◌≤◌, length, take, drop, eqb, ltb}
use Rattle.std.proofs.Math.Path.{refl, sym, ap, ap₂}
use Rattle.std.proofs.Common.{◌∙◌, subst, arith, length-append, length-take-le, lt-ltb, le-ltb}
use Rattle.std.proofs.Math.Bool.{not}
use mathlib.Core.List.{List}
use Rattle.std.proofs.Math.Seq.{paste}
use Rattle.kinds.specs.Refusal.{Answer, refused, accepted, refuse}
use Rattle.problems.specs.Problem.{problem}
use Rattle.words.specs.Buffers.{filled}
use Rattle.words.specs.laws.Buffers.{pasted, take_filled}
use Rattle.linear.specs.Span.{Independent}
use Rattle.linear.specs.Basis.{reduce, basis_of}
use Rattle.linear.specs.Part.{part}
use Rattle.linear.specs.Select.{any_of}
use Rattle.linear.specs.Entry.{inside, chosen}
use Rattle.linear.specs.Word.{word}
use Rattle.linear.proofs.laws.Part.{part_basis, part_independent}
use Rattle.bases.specs.declared.Basis.{Basis}
use Rattle.bases.specs.Basis.{rows_of, Holds}
use Rattle.bases.specs.declared.rows.Echelon.{Echelon}
use Rattle.bases.specs.declared.rows.Rest.{Rest}
use Rattle.bases.specs.rows.Echelon.{taken, Tracks}
use Rattle.bases.specs.rows.Rows.{row_of}
use Rattle.bases.specs.rows.Terms.{named, terms}
use Rattle.bases.proofs.laws.of_rows.Echelon.{rest_inside, rest_row, rest_test}
use Rattle.bases.proofs.laws.of_spans.Missing.{left_none, left_some}
use Rattle.choices.specs.declared.Choice.{Choice}
use Rattle.choices.specs.Choice.{numbers_of, forms_of, Chose}
use Rattle.choices.specs.laws.Writing.{forms_length}
use Rattle.selections.specs.on_forms.Selected.{misfit, without, summed, missed_by, redundant_answer}
use Rattle.selections.specs.on_forms.Shown.{sum_of, no_sum, shown, sum_answer, shown_over, Shows, RestOver}
use Rattle.selections.proofs.laws.of_on_forms.Marking.{without_none, without_below, misfit_below}

-- ---- what is left by chosen generators
module _ (c : Choice) (S : Shows c) where
  pub forms_fit : c.len ≡ length (forms_of c)
  forms_fit = forms_length c S.whole

  module _ (e : Echelon) (T : Tracks (forms_of c) e) where
    pub rows_here : c.len ≡ length (take c.len e.rows)
    rows_here = sym (length-take-le c.len e.rows (omega (arith, T.whole, S.whole.room)))

    pub masks_here : c.len ≡ length (take c.len e.masks)
    masks_here = sym (length-take-le c.len e.masks (omega (arith, T.masked, S.whole.room)))

    pub rest_over : (form : ℕ) (r : Rest) → r.form ≡ reduce word (take c.len e.rows) form
        → r.mask ≡ taken (take c.len e.rows) (take c.len e.masks) form → RestOver c form r
    rest_over form r p q =
        record {
          none_left = (λ z. sym (rest_test (forms_of c) e T form) ∙ left_none rows form r.form left z);
          some_left = (λ n. sym (rest_test (forms_of c) e T form) ∙ left_some rows form r.form left n);
          row = (λ z. mask ∙ rest_row (forms_of c) e T form S.independent ((rest_inside (forms_of c) e T form).0 (sym left ∙ z)));
        }
      where
        rows : List ℕ
        rows = take (length (forms_of c)) e.rows

        left : r.form ≡ reduce word (take (length (forms_of c)) e.rows) form
        left = p ∙ ap (λ (n : ℕ). reduce word (take n e.rows) form) forms_fit

        mask : r.mask ≡ taken (take (length (forms_of c)) e.rows) (take (length (forms_of c)) e.masks) form
        mask = q ∙ ap (λ (n : ℕ). taken (take n e.rows) (take n e.masks) form) forms_fit

-- ---- the terms over chosen generators
module _ (c : Choice) (form : ℕ) (old : List ℕ) where
  pub shown_none : inside word (basis_of word (forms_of c)) form ≡ false → shown_over c form old ≡ accepted no_sum
  unfolding shown_over
  shown_none e = ap (λ (b : Bool). shown b (named (numbers_of c) (row_of (forms_of c) form) 0) old) e

  -- with the mask and the count as they were found
  module _ (mask m : ℕ) (yes_sum : inside word (basis_of word (forms_of c)) form ≡ true) (row : mask ≡ row_of (forms_of c) form)
      (count : m ≡ length (named (numbers_of c) mask 0)) where
    answer : shown_over c form old
        ≡ refuse 9 (ltb (length old) (length (named (numbers_of c) mask 0)))
        (accepted (sum_of (length (named (numbers_of c) mask 0)) (filled (named (numbers_of c) mask 0) old)))
    unfolding shown_over
    answer = ap₂ (λ (b : Bool) (x : ℕ). shown b (named (numbers_of c) x 0) old) yes_sum (sym row)

    pub shown_short : length old < m → shown_over c form old ≡ refused 9
    shown_short h =
        answer
        ∙ ap (λ (b : Bool). refuse 9 b (accepted (sum_of (length (named (numbers_of c) mask 0)) (filled (named (numbers_of c) mask 0) old))))
        (lt-ltb (length old) (length (named (numbers_of c) mask 0)) (omega (arith, h, count)))

    -- the terms stand in an array first
    pub shown_sum : m ≤ length old → (array blank last : List ℕ) → array ≡ filled (named (numbers_of c) mask 0) blank
        → last ≡ paste old 0 (take m array) (length (take m array)) → shown_over c form old ≡ accepted (sum_of m last)
    shown_sum h array blank last a e =
        answer
        ∙ ap (λ (b : Bool). refuse 9 b (accepted (sum_of (length (named (numbers_of c) mask 0)) (filled (named (numbers_of c) mask 0) old))))
        (le-ltb (length old) (length (named (numbers_of c) mask 0)) (omega (arith, h, count)))
        ∙ ap₂ (λ (n : ℕ) (l : List ℕ). accepted (sum_of n l)) (sym count)
        (sym
        (e ∙ ap (λ (l : List ℕ). paste old 0 l (length l)) (ap (take m) a ∙ take_filled m (named (numbers_of c) mask 0) blank (sym count))
        ∙ pasted (named (numbers_of c) mask 0) old))

-- what was filled is no longer than the array
pub filled_room : (ts blank array : List ℕ) (m : ℕ) → m ≡ length ts → array ≡ filled ts blank → m ≤ length array
filled_room ts blank array m count is = omega (arith, count, ap length is, length-append ts (drop (length ts) blank))

module _ (gens targets sel : List ℕ) where
  -- ---- is a form a sum, and of what
  pub sum_misfit : (form : ℕ) (old : List ℕ) → misfit (length gens) sel ≡ true → sum_answer (problem gens targets) sel form old ≡ refused 11
  unfolding sum_answer
  sum_misfit form old e = ap (λ (b : Bool). refuse 11 b (shown (summed gens sel form) (terms gens sel form) old)) e

  module _ (fit : misfit (length gens) sel ≡ false) (c : Choice) where
    pub sum_shown : (form : ℕ) (old : List ℕ) → Chose gens (part word gens (without (length gens) sel)) c
        → sum_answer (problem gens targets) sel form old ≡ shown_over c form old
    unfolding sum_answer shown_over summed terms
    sum_shown form old C =
        ap (λ (b : Bool). refuse 11 b (shown (summed gens sel form) (terms gens sel form) old)) fit
        ∙ ap₂ (λ (B es : List ℕ). shown (inside word B form) (named es (row_of (chosen word gens es) form) 0) old)
        (sym (part_basis word gens sel (misfit_below (length gens) sel fit)) ∙ ap (λ (es : List ℕ). basis_of word (chosen word gens es)) here
        ∙ ap (basis_of word) forms)
        here
        ∙ ap (λ (fs : List ℕ). shown (inside word (basis_of word (forms_of c)) form) (named (numbers_of c) (row_of fs form) 0) old) forms
      where
        here : part word gens sel ≡ numbers_of c
        here = ap (part word gens) (sym (without_none (length gens) sel fit)) ∙ sym C.numbers

        forms : chosen word gens (numbers_of c) ≡ forms_of c
        forms = ap (chosen word gens) C.numbers ∙ sym C.forms

    -- ---- are the targets missed
    pub missed_is : (skip : ℕ) (b : Basis) (r : Bool) → Chose gens (part word gens (without skip sel)) c → Holds (basis_of word (forms_of c)) b
        → r ≡ any_of (λ t. not (inside word (rows_of b) t)) targets → r ≡ missed_by gens targets (without skip sel)
    unfolding missed_by summed
    missed_is skip b r C H q =
        q
        ∙ ap (λ (B : List ℕ). any_of (λ t. not (inside word B t)) targets)
        (H.is ∙ ap (basis_of word) C.forms ∙ part_basis word gens (without skip sel) (without_below (length gens) skip sel fit))

  -- what `part_without` gives is independent
  pub part_shows : (skip : ℕ) (c : Choice) → Chose gens (part word gens (without skip sel)) c → Shows c
  part_shows skip c C =
      record {
        whole = C.whole;
        independent = subst (Independent word) (sym C.forms) (part_independent word gens (without skip sel));
      }

  -- ---- is a generator redundant
  pub missed_all : (r : Bool) → misfit (length gens) sel ≡ false → r ≡ missed_by gens targets (without (length gens) sel) → missed_by gens targets sel ≡ r
  missed_all r fit q = sym (q ∙ ap (missed_by gens targets) (without_none (length gens) sel fit))

  module _ (j : ℕ) where
    steps : (a b c : Bool) (x : Answer Bool) → Answer Bool
    steps a b c x = refuse 11 a (refuse 11 b (refuse 11 c x))

    steps_are : (a b c d : Bool) → misfit (length gens) sel ≡ a → missed_by gens targets sel ≡ b → not (any_of (eqb j) sel) ≡ c → missed_by gens targets (without j sel) ≡ d
        → redundant_answer (problem gens targets) sel j ≡ steps a b c (accepted (not d))
    unfolding redundant_answer steps
    steps_are a b c d p q r s = cc

    first_refused : (b c : Bool) (x : Answer Bool) → steps true b c x ≡ refused 11
    unfolding steps
    first_refused b c x = refl

    second_refused : (c : Bool) (x : Answer Bool) → steps false true c x ≡ refused 11
    unfolding steps
    second_refused c x = refl

    third_refused : (x : Answer Bool) → steps false false true x ≡ refused 11
    unfolding steps
    third_refused x = refl

    none_refused : (x : Answer Bool) → steps false false false x ≡ x
    unfolding steps
    none_refused x = refl

    pub redundant_misfit : misfit (length gens) sel ≡ true → redundant_answer (problem gens targets) sel j ≡ refused 11
    redundant_misfit p =
        steps_are true (missed_by gens targets sel) (not (any_of (eqb j) sel)) (missed_by gens targets (without j sel)) p refl refl refl
        ∙ first_refused (missed_by gens targets sel) (not (any_of (eqb j) sel)) (accepted (not (missed_by gens targets (without j sel))))

    pub redundant_short : misfit (length gens) sel ≡ false → missed_by gens targets sel ≡ true → redundant_answer (problem gens targets) sel j ≡ refused 11
    redundant_short p q =
        steps_are false true (not (any_of (eqb j) sel)) (missed_by gens targets (without j sel)) p q refl refl ∙ second_refused (not (any_of (eqb j) sel)) (accepted (not (missed_by gens targets (without j sel))))

    pub redundant_lacking : misfit (length gens) sel ≡ false → missed_by gens targets sel ≡ false → not (any_of (eqb j) sel) ≡ true → redundant_answer (problem gens targets) sel j ≡ refused 11
    redundant_lacking p q r = steps_are false false true (missed_by gens targets (without j sel)) p q r refl ∙ third_refused (accepted (not (missed_by gens targets (without j sel))))

    pub redundant_said : (d : Bool) → misfit (length gens) sel ≡ false → missed_by gens targets sel ≡ false → not (any_of (eqb j) sel) ≡ false → missed_by gens targets (without j sel) ≡ d
        → redundant_answer (problem gens targets) sel j ≡ accepted (not d)
    redundant_said d p q r s = steps_are false false false d p q r s ∙ none_refused (accepted (not d))
