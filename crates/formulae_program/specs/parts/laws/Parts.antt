-- The parts, by what was said.
--   counted_refused, counted_listed   whether there is a part i
--   part_first, part_none, part_entry a part, by its number
--   printed_as, nothing_fits          what is promised of a text on a page
--   parts_refused, parts_listed       all parts
--   parts_few, counted                in a program's listing there are at most 4,097 parts
-- Assumes nothing.
use Prim.Native.Nat.{ℕ, zero, suc, ◌-◌, ◌<◌, ◌≤◌}
use Rattle.std.specs.Prelude.{◌≡◌, Bool, true, eqb, leb, ltb, length}
use Rattle.std.proofs.Math.Path.{refl, ap}
use Rattle.std.proofs.Common.{sym, ap₂, ◌∙◌, subst, arith, eq-eqb, ne_eqb, le-leb, lt-ltb, le-ltb, ltb-true}
use mathlib.Core.List.{List, [], ◌++◌, append-nil}
use Rattle.std.proofs.Math.Decide.{dec_le}
use Rattle.std.proofs.lemmas.Bool.{lt-leb}
use Rattle.printing.specs.fields.RefusedText.{refused_text}
use Rattle.printing.specs.fields.Written.{written_in}
use Rattle.printing.specs.pages.Printed.{page_answer, seen_printed}
use Rattle.printing.specs.declared.pages.Printed.{Printed}
use Rattle.printing.specs.refusals.Pages.{part_page}
use Rattle.formulae_program.specs.declared.plan.Plan.{Plan}
use Rattle.formulae_program.specs.declared.plan.Started.{Started}
use Rattle.formulae_program.specs.declared.plan.Started.TheVariants as started
use Rattle.formulae_program.specs.entry_parts.EntryPages.{plan_text, plan_texts}
use Rattle.formulae_program.specs.first_part.Starts.{Starts, first_text}
use Rattle.formulae_program.specs.first_part.laws.Start.{shown_of, shown_few}
use Rattle.text.specs.Limits.{program_words}
use Rattle.formulae_program.specs.parts.Parts.{part_count, part_text, part_texts, parts_text}

below_one : (i : ℕ) → eqb i 0 ≡ ltb i 1
below_one zero = refl
below_one (suc i) = ne_eqb (suc i) 0 (λ e. omega arith) ∙ sym (le-ltb (suc i) 1 (omega arith))

up_to : (i n : ℕ) → leb i n ≡ ltb i (suc n)
up_to i n = go (dec_le i n)
  where
    go : Dec (i ≤ n) → leb i n ≡ ltb i (suc n)
    go (yes h) = le-leb i n h ∙ sym (lt-ltb i (suc n) (omega arith))
    go (no h) = lt-leb i n (omega arith) ∙ sym (le-ltb i (suc n) (omega arith))

module _ {x : Started} (i : ℕ) where
  pub counted_refused : {e : ℕ} → x ≡ started.Refused e → eqb i 0 ≡ ltb i (part_count x)
  counted_refused h = below_one i ∙ sym (ap (λ (y : Started). ltb i (part_count y)) h)

  pub counted_listed : {y : Plan} → x ≡ started.Listed y → leb i y.shown ≡ ltb i (part_count x)
  counted_listed {y} h = up_to i y.shown ∙ sym (ap (λ (z : Started). ltb i (part_count z)) h)

module _ (x : Started) (g t listing : List ℕ) where
  pub part_first : (i : ℕ) → i ≡ 0 → first_text x ≡ part_text x g t listing i
  part_first i h = sym (ap (part_text x g t listing) h)

  part_later : (i : ℕ) → (i ≡ 0 → ⊥) → (y : Started) → x ≡ y → part_text y g t listing (suc (i - 1)) ≡ part_text x g t listing i
  part_later i d y h = ap₂ (λ (z : Started) (n : ℕ). part_text z g t listing n) (sym h) (let q : suc (i - 1) ≡ i = omega arith in q)

  pub part_none : {e : ℕ} (i : ℕ) → (i ≡ 0 → ⊥) → x ≡ started.Refused e → [] ≡ part_text x g t listing i
  part_none {e} i d h = part_later i d (started.Refused e) h

  pub part_entry : {y : Plan} (i : ℕ) → (i ≡ 0 → ⊥) → x ≡ started.Listed y → plan_text y g t listing (i - 1) ≡ part_text x g t listing i
  part_entry {y} i d h = part_later i d (started.Listed y) h

-- what is promised of a text on a page, of an equal text
pub printed_as : {T U : List ℕ} (d : List ℕ) {d₁ : List ℕ} → T ≡ U → (x : Printed) → (page_answer T d ≡ seen_printed x) × (d₁ ≡ written_in T d) × (length T ≤ part_page)
    → (page_answer U d ≡ seen_printed x) × (d₁ ≡ written_in U d) × (length U ≤ part_page)
printed_as d {d₁} e x P = subst (λ (U : List ℕ). (page_answer U d ≡ seen_printed x) × (d₁ ≡ written_in U d) × (length U ≤ part_page)) e P

pub nothing_fits : length {A = ℕ} [] ≤ part_page
nothing_fits = omega arith

module _ (g t listing : List ℕ) where
  pub parts_refused : (e : ℕ) → parts_text (started.Refused e) g t listing ≡ refused_text e
  unfolding part_texts
  parts_refused e = append-nil (refused_text e)

  later : (x : Plan) (i n : ℕ) → part_texts (started.Listed x) g t listing (suc i) n ≡ plan_texts x g t listing i n
  unfolding part_texts plan_texts
  later x i zero = refl
  later x i (suc n) = ap (plan_text x g t listing i ++◌) (later x (suc i) n)

  pub parts_listed : (x : Plan) → parts_text (started.Listed x) g t listing ≡ first_text (started.Listed x) ++ plan_texts x g t listing 0 x.shown
  unfolding part_texts
  parts_listed x = ap (first_text (started.Listed x) ++◌) (later x 0 x.shown)

-- ---- in a program's listing
count_few : (x : Started) → shown_of x ≤ program_words → part_count x ≤ suc program_words
count_few (started.Refused e) h = omega arith
count_few (started.Listed y) h = omega arith

pub parts_few : (s gs ts old : List ℕ) (x : Started) (g t listing : List ℕ) → length old ≡ program_words → Starts s gs ts old x g t listing
    → part_count x ≤ suc program_words
parts_few s gs ts old x g t listing w S = count_few x (shown_few s gs ts old x g t listing w S)

-- a part that is there
pub counted : (i n : ℕ) (b : Bool) → b ≡ ltb i n → b ≡ true → i < n
counted i n b e h = ltb-true i n (sym e ∙ h)
