-- What the answers on a selection mean, proved: the theorems on the definitions of specs/Theorems. To be read from top to bottom.
--   sum_means         yes exactly if the form is a sum of selected generators; the terms are of the part, ascending, and sum to the form; no other numbers of
--                     the part do; the part is independent, spans the selection, and is the first in dictionary order of all such parts
--   sum_short         refused by 9 exactly if the form is such a sum and its terms don't fit the buffer
--   sum_order         the reply is the same for every order of the selection
--   redundant_means   yes exactly if each target is a sum of the selected generators other than j; and all of them span the targets, and j is one of them
--   redundant_sums    yes exactly if `is_sum` shows each target over the selection without j
--   row_shown         `is_sum` shows a target over the products of a formula, and its terms are those that the formula's row names
--   sum_numbers_told, redundant_numbers_told   two replies of the call, to whatever it is handed, are the same if their numbers are
-- Assumes nothing.
use Rattle.std.specs.Prelude.{◌≡◌, refl, ◌↔◌, Bool, true, false, not, ℕ, ◌<◌, ◌≤◌, length, get_or, eqb, ltb}
use Rattle.std.proofs.Common.{sym, ap₂, ◌∙◌, subst, true≢false, arith, ltb-true, lt-ltb, le-ltb}
use Rattle.std.proofs.Math.Path.{ap}
use mathlib.Core.List.{List, [], ◌∷◌, Memᴰ, Permᴰ}
use Rattle.std.proofs.lemmas.Bool.{not-true, not-false}
use Rattle.kinds.specs.Refusal.{Answer, refused, accepted, refuse, follow}
use Rattle.kinds.specs.laws.Refusal.{accepted_inj, follow_inv, refuse_inv}
use Rattle.kinds.specs.Numbers.{NotByZero}
use Rattle.kinds.specs.laws.Numbers.{refuse_numbered, follow_numbered, seen_numbered}
use Rattle.problems.specs.Problem.{Problem, posed}
use Rattle.problems.proofs.laws.Numbered.{posed_numbered}
use Rattle.problems.proofs.laws.Asked.{posed_target}
use Rattle.words.specs.Buffers.{filled}
use Rattle.linear.specs.Bit.{bit}
use Rattle.linear.specs.Span.{Span, Independent}
use Rattle.linear.specs.Order.{Rising}
use Rattle.linear.specs.Part.{part}
use Rattle.linear.specs.Select.{any_of}
use Rattle.linear.specs.Entry.{chosen}
use Rattle.linear.specs.Rank.{Computes}
use Rattle.linear.specs.Word.{word}
use Rattle.linear.proofs.laws.Part.{part_rising, part_selected, part_independent, part_spans, part_first}
use Rattle.linear.proofs.laws.Select.{any_of_no, no_any_of, stood}
use Rattle.bases.specs.rows.Rows.{row_of}
use Rattle.bases.specs.rows.Terms.{named, terms}
use Rattle.bases.proofs.laws.of_rows.Terms.{terms_rising, terms_part, terms_sum, terms_only, terms_few, row_terms, row_bit_law}
use Rattle.selections.specs.on_forms.Selected.{SelectionFits, misfit, without, summed, missed_by, redundant_answer, seen_said, said_numbers}
use Rattle.selections.specs.on_forms.Shown.{Summing, sum_of, no_sum, shown, sum_answer, seen_summed, summed_numbers}
use Rattle.selections.proofs.laws.of_on_forms.Numbers.{said_differ, summed_differ}
use Rattle.selections.proofs.laws.of_on_forms.Fitting.{selection_fits, fits_misfit, without_fits, without_length, rising_fits, summed_span}
use Rattle.selections.proofs.laws.of_on_forms.Fitting.{misfit_perm, summed_perm, terms_perm}
use Rattle.selections.specs.Selections.{is_sum, is_redundant}
use Rattle.selections.specs.declared.on_forms.Said.{Said}
use Rattle.selections.specs.declared.on_forms.Summed.{Summed}
use Rattle.selections.specs.Theorems.{PartOf, TermsOf, SumTold, SumMeans, its_terms, TooShort, RedundantMeans, CallShows}

module _ (gens sel : List ℕ) (F : SelectionFits (length gens) sel) where
  pub part_is : PartOf gens sel (part word gens sel)
  part_is =
      record {
        rising = part_rising word gens sel;
        selected = part_selected word gens sel;
        independent = part_independent word gens sel;
        spans = part_spans word gens sel F.numbers;
        first = (λ fs r h i s. part_first word gens sel fs F.numbers r h i s);
      }

  pub terms_are : (v : ℕ) → Span word (chosen word gens sel) v → TermsOf gens (part word gens sel) v (terms gens sel v)
  terms_are v s =
      record {
        rising = terms_rising gens sel v;
        of_part = terms_part gens sel v;
        sums = terms_sum gens sel F.numbers v s;
        only = (λ us r h e. terms_only gens sel v us r h e);
      }

  shown_means : (form : ℕ) (old : List ℕ) (a : Summing) → shown (summed gens sel form) (terms gens sel form) old ≡ accepted a → SumTold gens sel form old a
  shown_means form old a = go (summed gens sel form) refl
    where
      its : Summing
      its = sum_of (length (terms gens sel form)) (filled (terms gens sel form) old)

      yes_means : Span word (chosen word gens sel) form → SumTold gens sel form old (sum_of (length (terms gens sel form)) (filled (terms gens sel form) old))
      yes_means s = (s, (part word gens sel, terms gens sel form, part_is, terms_are form s, refl, refl))

      go : (b : Bool) → summed gens sel form ≡ b → shown b (terms gens sel form) old ≡ accepted a → SumTold gens sel form old a
      go true q e =
          let i = refuse_inv 9 (ltb (length old) (length (terms gens sel form))) (accepted its) a e in
          subst (SumTold gens sel form old) (accepted_inj its a i.1) (yes_means ((summed_span gens sel form).0 q))
      go false q e = subst (SumTold gens sel form old) (accepted_inj no_sum a e) (λ s. true≢false (sym ((summed_span gens sel form).1 s) ∙ q))

-- ---- of which selected generators a form is the sum
pub sum_means : (number p q r : ℕ) (gs ts sel : List ℕ) (form : ℕ) (old : List ℕ) (a : Summing) → is_sum number p q r gs ts sel form old ≡ accepted a
    → (x : Problem) × (posed number p q r gs ts (form ∷ []) ≡ accepted x) × SumMeans x sel form old a
unfolding is_sum sum_answer
sum_means number p q r gs ts sel form old a e =
    let i = follow_inv (posed number p q r gs ts (form ∷ [])) (λ x. sum_answer x sel form old) a e in
    let G = i.0.generators in
    let j = refuse_inv 11 (misfit (length G) sel) (shown (summed G sel form) (terms G sel form) old) a i.2 in
    let F = selection_fits (length G) sel j.0 in
    (i.0, i.1, record { fits = F; means = shown_means G sel F form old a j.1 })

-- the number of a refusal; of an answer 0
abbrev number_of : Answer Summing → ℕ
number_of (refused e) = e
number_of (accepted a) = 0

module _ (x : Problem) (sel : List ℕ) (form : ℕ) (old : List ℕ) where
  abbrev pub with_terms : Answer Summing
  with_terms = accepted (sum_of (length (its_terms x sel form old)) (filled (its_terms x sel form old) old))

  -- where the selection fits and the form is a sum
  module _ (F : SelectionFits (length x.generators) sel) (s : Span word (chosen word x.generators sel) form) where
    shown_yes : sum_answer x sel form old ≡ refuse 9 (ltb (length old) (length (its_terms x sel form old))) with_terms
    unfolding sum_answer
    shown_yes =
        ap (λ (b : Bool). refuse 11 b (shown (summed x.generators sel form) (its_terms x sel form old) old)) (fits_misfit (length x.generators) sel F)
        ∙ ap (λ (b : Bool). shown b (its_terms x sel form old) old) ((summed_span x.generators sel form).1 s)

    shown_room : length sel ≤ length old → sum_answer x sel form old ≡ with_terms
    shown_room h =
        shown_yes
        ∙ ap (λ (b : Bool). refuse 9 b with_terms)
        (le-ltb (length old) (length (its_terms x sel form old)) (let t = terms_few x.generators sel F.numbers form in omega arith))

    shown_short : length old < length (its_terms x sel form old) → sum_answer x sel form old ≡ refused 9
    shown_short h = shown_yes ∙ ap (λ (b : Bool). refuse 9 b with_terms) (lt-ltb (length old) (length (its_terms x sel form old)) h)

  -- and back
  module _ (u : misfit (length x.generators) sel ≡ false) where
    short_room : summed x.generators sel form ≡ true → (b : Bool) → ltb (length old) (length (its_terms x sel form old)) ≡ b → refuse 9 b with_terms ≡ refused 9 → TooShort x sel form old
    short_room v true w q =
        record {
          fits = selection_fits (length x.generators) sel u;
          sums = (summed_span x.generators sel form).0 v;
          short = ltb-true (length old) (length (its_terms x sel form old)) w;
        }
    short_room v false w q = absurd (let z : ◌≡◌ {A = ℕ} 0 9 = ap number_of q in omega arith)

    short_some : (b : Bool) → summed x.generators sel form ≡ b → shown b (its_terms x sel form old) old ≡ refused 9 → TooShort x sel form old
    short_some true v q = short_room v (ltb (length old) (length (its_terms x sel form old))) refl q
    short_some false v q = absurd (let z : ◌≡◌ {A = ℕ} 0 9 = ap number_of q in omega arith)

  short_fit : (m : Bool) → misfit (length x.generators) sel ≡ m → refuse 11 m (shown (summed x.generators sel form) (its_terms x sel form old) old) ≡ refused 9 → TooShort x sel form old
  short_fit true u q = absurd (let z : ◌≡◌ {A = ℕ} 11 9 = ap number_of q in omega arith)
  short_fit false u q = short_some u (summed x.generators sel form) refl q

pub sum_short : (number p q r : ℕ) (gs ts sel : List ℕ) (form : ℕ) (old : List ℕ) (x : Problem) → posed number p q r gs ts (form ∷ []) ≡ accepted x
    → (is_sum number p q r gs ts sel form old ≡ refused 9) ↔ TooShort x sel form old
unfolding is_sum sum_answer
sum_short number p q r gs ts sel form old x e =
    let here : is_sum number p q r gs ts sel form old ≡ sum_answer x sel form old = ap (λ (o : Answer Problem). follow o (λ x. sum_answer x sel form old)) e in (
      λ q. short_fit x sel form old (misfit (length x.generators) sel) refl (sym here ∙ q),
      λ S. here ∙ shown_short x sel form old S.fits S.sums S.short,
    )

-- ---- whatever the order
same_follow : {A B : Type 0} (o : Answer A) (f g : A → Answer B) → ((a : A) → f a ≡ g a) → follow o f ≡ follow o g
same_follow (refused e) f g h = refl
same_follow (accepted a) f g h = h a

pub sum_order : (number p q r : ℕ) (gs ts sel sel' : List ℕ) (form : ℕ) (old : List ℕ) → Permᴰ sel sel'
    → is_sum number p q r gs ts sel form old ≡ is_sum number p q r gs ts sel' form old
unfolding is_sum sum_answer
sum_order number p q r gs ts sel sel' form old d =
    same_follow (posed number p q r gs ts (form ∷ [])) (λ x. sum_answer x sel form old) (λ x. sum_answer x sel' form old)
    (λ x. let G = x.generators in
    ap (λ (b : Bool). refuse 11 b (shown (summed G sel form) (terms G sel form) old)) (misfit_perm d (length G))
    ∙ ap₂ (λ (b : Bool) (t : List ℕ). refuse 11 (misfit (length G) sel') (shown b t old)) (summed_perm G d form) (terms_perm d G form))

-- ---- is a generator redundant
pub not_missed : (gens targets sel : List ℕ) → (missed_by gens targets sel ≡ false) ↔ Computes word targets (chosen word gens sel)
unfolding missed_by
not_missed gens targets sel = (
  λ e t m. (summed_span gens sel t).0 (not-false (summed gens sel t) (any_of_no (λ t. not (summed gens sel t)) targets e t m)),
  λ h. no_any_of (λ t. not (summed gens sel t)) targets (λ t m. ap not ((summed_span gens sel t).1 (h t m))),
)

pub redundant_means : (number p q r : ℕ) (gs ts sel : List ℕ) (j : ℕ) (b : Bool) → is_redundant number p q r gs ts sel j ≡ accepted b
    → (x : Problem) × (posed number p q r gs ts [] ≡ accepted x) × RedundantMeans x sel j b
unfolding is_redundant redundant_answer
redundant_means number p q r gs ts sel j b e =
    let i = follow_inv (posed number p q r gs ts []) (λ x. redundant_answer x sel j) b e in
    let G = i.0.generators in
    let T = i.0.targets in
    let last = accepted (not (missed_by G T (without j sel))) in
    let a = refuse_inv 11 (misfit (length G) sel) (refuse 11 (missed_by G T sel) (refuse 11 (not (any_of (eqb j) sel)) last)) b i.2 in
    let c = refuse_inv 11 (missed_by G T sel) (refuse 11 (not (any_of (eqb j) sel)) last) b a.1 in
    let d = refuse_inv 11 (not (any_of (eqb j) sel)) last b c.1 in
    let q : not (missed_by G T (without j sel)) ≡ b = accepted_inj (not (missed_by G T (without j sel))) b d.1 in (
      i.0,
      i.1,
      record {
        fits = selection_fits (length G) sel a.0;
        spans = (not_missed G T sel).0 c.0;
        selected = stood j sel (not-false (any_of (eqb j) sel) d.0);
        exactly = (λ t. (not_missed G T (without j sel)).0 (not-true (missed_by G T (without j sel)) (q ∙ t)), λ h. sym q ∙ ap not ((not_missed G T (without j sel)).1 h));
      },
    )

-- ---- the other questions rest on the terms
-- of a problem that was accepted, with whatever further forms, the targets may be asked for
module _ (number p q r : ℕ) (gs ts others : List ℕ) (x : Problem) (e : posed number p q r gs ts others ≡ accepted x) (t : ℕ)
    (k : Memᴰ t x.targets) where
  asked : (sel old : List ℕ) → is_sum number p q r gs ts sel t old ≡ sum_answer x sel t old
  unfolding is_sum
  asked sel old = ap (λ (o : Answer Problem). follow o (λ x. sum_answer x sel t old)) (posed_target t x k number p q r gs ts others e)

  shown_target : (sel old : List ℕ) → SelectionFits (length x.generators) sel → Span word (chosen word x.generators sel) t → length sel ≤ length old
      → is_sum number p q r gs ts sel t old ≡ accepted (sum_of (length (terms x.generators sel t)) (filled (terms x.generators sel t) old))
  shown_target sel old F s h = asked sel old ∙ shown_room x sel t old F s h

  target_shown : (sel old : List ℕ) → CallShows number p q r gs ts sel t old → Span word (chosen word x.generators sel) t
  unfolding sum_answer
  target_shown sel old (n, buffer, q) =
      let G = x.generators in
      let j = refuse_inv 11 (misfit (length G) sel) (shown (summed G sel t) (terms G sel t) old) (sum_of n buffer) (sym (asked sel old) ∙ q) in
      (shown_means G sel (selection_fits (length G) sel j.0) t old (sum_of n buffer) j.1).0

  -- a formula's row for a target is the mask of the terms that the call shows over its products
  pub row_shown : (es old : List ℕ) → Rising 0 (length x.generators) es → Independent word (chosen word x.generators es)
      → Span word (chosen word x.generators es) t → length es ≤ length old
      → (us : List ℕ) × (is_sum number p q r gs ts es t old ≡ accepted (sum_of (length us) (filled us old)))
      × (us ≡ named es (row_of (chosen word x.generators es) t) 0)
      × ((i : ℕ) → i < length es → (bit (row_of (chosen word x.generators es) t) i ≡ true) ↔ Memᴰ (get_or es i 0) us)
  row_shown es old ρ i s h = (
    terms x.generators es t,
    shown_target es old (rising_fits 0 (length x.generators) es ρ) s h,
    row_terms x.generators es ρ i t,
    λ n l. row_bit_law x.generators es ρ i t n l,
  )

-- a selected product is redundant exactly if the call shows each target over the others
pub redundant_sums : (number p q r : ℕ) (gs ts sel : List ℕ) (j : ℕ) (b : Bool) → is_redundant number p q r gs ts sel j ≡ accepted b
    → (x : Problem) × (posed number p q r gs ts [] ≡ accepted x)
    × ((b ≡ true) ↔ ((t : ℕ) → Memᴰ t x.targets → (old : List ℕ) → length sel ≤ length old → CallShows number p q r gs ts (without j sel) t old))
redundant_sums number p q r gs ts sel j b e =
    let m = redundant_means number p q r gs ts sel j b e in
    let x = m.0 in
    let W = without_fits (length x.generators) j sel m.2.fits in (
      x,
      m.1,
      (
        λ y t k old h. (
          length (terms x.generators (without j sel) t),
          filled (terms x.generators (without j sel) t) old,
          shown_target number p q r gs ts [] x m.1 t k (without j sel) old W (m.2.exactly.0 y t k)
              (let l = without_length (length x.generators) j sel in omega arith),
        ),
        λ s. m.2.exactly.1 (λ t k. target_shown number p q r gs ts [] x m.1 t k (without j sel) sel (s t k sel (omega arith))),
      ),
    )

-- ---- the numbers of a reply
shown_numbered : (b : Bool) (ts old : List ℕ) → NotByZero (shown b ts old)
shown_numbered true ts old = refuse_numbered 9 (ltb (length old) (length ts)) _ (omega arith) tt
shown_numbered false ts old = tt

sum_numbered : (number p q r : ℕ) (gs ts sel : List ℕ) (form : ℕ) (old : List ℕ) → NotByZero (is_sum number p q r gs ts sel form old)
unfolding is_sum sum_answer
sum_numbered number p q r gs ts sel form old =
    follow_numbered (posed number p q r gs ts (form ∷ [])) _ (posed_numbered number p q r gs ts (form ∷ [])) λ x.
    refuse_numbered 11 (misfit (length x.generators) sel) _ (omega arith)
    (shown_numbered (summed x.generators sel form) (terms x.generators sel form) old)

redundant_numbered : (number p q r : ℕ) (gs ts sel : List ℕ) (j : ℕ) → NotByZero (is_redundant number p q r gs ts sel j)
unfolding is_redundant redundant_answer
redundant_numbered number p q r gs ts sel j =
    follow_numbered (posed number p q r gs ts []) _ (posed_numbered number p q r gs ts []) λ x.
    refuse_numbered 11 (misfit (length x.generators) sel) _ (omega arith)
    (refuse_numbered 11 (missed_by x.generators x.targets sel) _ (omega arith)
    (refuse_numbered 11 (not (any_of (eqb j) sel)) _ (omega arith) tt))

pub sum_numbers_told : (number p q r form number' p' q' r' form' : ℕ) (gs ts sel old after gs' ts' sel' old' after' : List ℕ) (x y : Summed)
    → is_sum number p q r gs ts sel form old ≡ seen_summed x after → is_sum number' p' q' r' gs' ts' sel' form' old' ≡ seen_summed y after'
    → summed_numbers x ≡ summed_numbers y → x ≡ y
sum_numbers_told number p q r form number' p' q' r' form' gs ts sel old after gs' ts' sel' old' after' x y e f =
    summed_differ x y after after' (seen_numbered e (sum_numbered number p q r gs ts sel form old))
    (seen_numbered f (sum_numbered number' p' q' r' gs' ts' sel' form' old'))

pub redundant_numbers_told : (number p q r j number' p' q' r' j' : ℕ) (gs ts sel gs' ts' sel' : List ℕ) (x y : Said)
    → is_redundant number p q r gs ts sel j ≡ seen_said x → is_redundant number' p' q' r' gs' ts' sel' j' ≡ seen_said y
    → said_numbers x ≡ said_numbers y → x ≡ y
redundant_numbers_told number p q r j number' p' q' r' j' gs ts sel gs' ts' sel' x y e f =
    said_differ x y (seen_numbered e (redundant_numbered number p q r gs ts sel j)) (seen_numbered f (redundant_numbered number' p' q' r' gs' ts' sel' j'))
