-- What the formulae of a space are, in the words of document 01's demand: none missing, none twice. To be read from top to bottom.
--   FormulaeMeans, formulae_means, formulae_for_means   an accepted reply lists, in dictionary order, the first of exactly all sets of k independent generators that span the space
--   RankListed, rank_listed         Rank's formula is in the list for an entry's space
--   entry_exactly                   the test behind refusal 10 holds exactly for the reduced bases of entries
-- The definitions: formulae_of, is_entry (Spaces), posed (problems), Solution (linear, Entry), Formula (linear, Formulae), formula_record (choices, Choice).
-- Assumes nothing.
use Rattle.std.specs.Prelude.{◌≡◌, refl, ◌↔◌, true, false, not, take, drop, ltb}
use Rattle.std.proofs.Common.{sym, ◌∙◌, subst}
use mathlib.Core.List.{List, [], ◌++◌, map, Memᴰ}
use Prim.Native.Nat.{ℕ, ◌+◌, ◌*◌, ◌^◌, ◌<◌}
use Rattle.std.proofs.Math.ListN.{length}
use borrow.Author.Tests.{eqb-true, eq-eqb, not-false}
use Rattle.kinds.specs.Refusal.{accepted, refuse}
use Rattle.kinds.specs.laws.Refusal.{accepted_inj, follow_inv, refuse_inv}
use Rattle.forms.specs.Row.{row_form}
use Rattle.problems.specs.Problem.{Problem, posed}
use Rattle.linear.specs.Basis.{dim}
use Rattle.linear.specs.Order.{Before, Ordered}
use Rattle.linear.specs.Entry.{Solution, chosen, space, entries}
use Rattle.linear.specs.Formulae.{formula, formulae, fewest, Formula}
use Rattle.linear.specs.Word.{word}
use Rattle.linear.proofs.Theorems.{entry_solves, formulae_exactly, rank_formula}
use Rattle.linear.proofs.laws.Extension.{chosen_length}
use Rattle.linear.proofs.laws.Formulae.{formulae_ordered}
use Rattle.bases.specs.rows.Rows.{row_of}
use Rattle.bases.specs.rows.laws.Rows.{row_sum_law, row_only}
use Rattle.catalogue.specs.listing.Listing.{flat, fitting}
use Rattle.choices.specs.Choice.{formula_record}
use Rattle.space_formulae.specs.spaces.Spaces.{Formulae, is_entry, record_size, formulae_listing, formulae_for, formulae_of}
use Rattle.space_formulae.proofs.laws.of_spaces.Entry.{is_entry_law}

pub entry_exactly : (gens targets rows : List ℕ) → (is_entry gens targets rows ≡ true) ↔ Solution word gens targets (length rows) rows
entry_exactly gens targets rows = is_entry_law gens targets rows

pub record FormulaeMeans (gens targets rows old : List ℕ) (f : Formulae) : Type 0 where
  -- the rows are the reduced basis of a solution space of as many dimensions
  pub entry : Solution word gens targets (length rows) rows
  -- the formulae, each by the numbers of its products
  pub all : List (List ℕ)
  -- exactly the sets (rising lists of numbers) of k independent generators that span the space, in dictionary order, so each once
  pub exactly : (es : List ℕ) → Memᴰ es all ↔ Formula word gens rows es
  pub ordered : Ordered Before all
  -- as many as fit are listed; the reply is All exactly if none is left out
  pub listed : f.listed ≡ fitting (record_size targets rows) (length all) (length old)
  pub whole : (f.whole ≡ true) ↔ (f.listed ≡ length all)
  -- their records: the numbers, then a row for every target; then the old content
  pub buffer : f.buffer ≡ flat (take f.listed (map (λ es. es ++ map (row_of (chosen word gens es)) targets) all)) ++ drop (f.listed * record_size targets rows) old
  -- each target is the sum that its row says, and no other row of k bits says it
  pub row : (es : List ℕ) → Memᴰ es all → (t : ℕ) → Memᴰ t targets → row_form (chosen word gens es) (row_of (chosen word gens es) t) 0 ≡ t
  pub only_row : (es : List ℕ) → Memᴰ es all → (t mask : ℕ) → mask < 2 ^ length rows → row_form (chosen word gens es) mask 0 ≡ t → mask ≡ row_of (chosen word gens es) t

module _ (x : Problem) (rows : List ℕ) (E : Solution word x.generators x.targets (length rows) rows) where
  abbrev gens : List ℕ
  gens = x.generators

  formula_of_law : (es : List ℕ) → Memᴰ es (formulae word gens rows) → Formula word gens rows es
  formula_of_law es m = (formulae_exactly word gens x.targets rows E.reduced es).0 m

  listing_means : (old : List ℕ) → FormulaeMeans x.generators x.targets rows old (formulae_listing x rows old)
  unfolding formulae_listing formula_record
  listing_means old =
      record {
        entry = E;
        all = formulae word gens rows;
        exactly = formulae_exactly word gens x.targets rows E.reduced;
        ordered = formulae_ordered word gens rows;
        listed = refl;
        whole = (eqb-true l c, eq-eqb l c);
        buffer = refl;
        row = (λ es m t k. row_sum_law (chosen word gens es) t ((formula_of_law es m).spanning.1 t (E.holds t k)));
        only_row = (λ es m t mask h e. row_only (chosen word gens es) t mask (formula_of_law es m).independent (subst (λ (k : ℕ). mask < 2 ^ k) (sym (chosen_length word gens [] es ∙ (formula_of_law es m).number)) h) e);
      }
    where
      c : ℕ
      c = length (formulae word gens rows)

      l : ℕ
      l = fitting (record_size x.targets rows) c (length old)

-- of a posed problem
pub formulae_for_means : (x : Problem) (rows old : List ℕ) (f : Formulae) → formulae_for x rows old ≡ accepted f
    → (ltb (dim word x.targets + 6) (length rows) ≡ false) × FormulaeMeans x.generators x.targets rows old f
unfolding formulae_for
formulae_for_means x rows old f e =
    let j = refuse_inv 8 (ltb (dim word x.targets + 6) (length rows)) (refuse 10 (not (is_entry x.generators x.targets rows)) (accepted (formulae_listing x rows old))) f e in
    let k = refuse_inv 10 (not (is_entry x.generators x.targets rows)) (accepted (formulae_listing x rows old)) f j.1 in
    let E = (is_entry_law x.generators x.targets rows).0 (not-false (is_entry x.generators x.targets rows) k.0) in
    (j.0, subst (FormulaeMeans x.generators x.targets rows old) (accepted_inj (formulae_listing x rows old) f k.1) (listing_means x rows E old))

pub formulae_means : (number p q r : ℕ) (gs ts rows old : List ℕ) (f : Formulae) → formulae_of number p q r gs ts rows old ≡ accepted f
    → (x : Problem) × (posed number p q r gs ts rows ≡ accepted x) × (ltb (dim word x.targets + 6) (length rows) ≡ false) × FormulaeMeans x.generators x.targets rows old f
unfolding formulae_of
formulae_means number p q r gs ts rows old f e =
    let i = follow_inv (posed number p q r gs ts rows) (λ x. formulae_for x rows old) f e in
    let m = formulae_for_means i.0 rows old f i.2 in
    (i.0, i.1, m.0, m.1)

-- Rank's formula is a formula of an entry's space. The rows of that space are accepted, and the list for them has Rank's formula. (At equal prices it is the
-- first of
-- the list for the first entry: linear's `rank_at_equal_prices`.)
pub record RankListed (gens targets es : List ℕ) : Type 0 where
  pub entry : List ℕ
  pub an_entry : Memᴰ entry (entries word gens targets (length es))
  pub accepted_rows : is_entry gens targets (space word gens targets entry) ≡ true
  pub listed : Memᴰ es (formulae word gens (space word gens targets entry))

pub rank_listed : (gens targets prices es : List ℕ) → fewest word gens targets prices ≡ formula es → RankListed gens targets es
rank_listed gens targets prices es e =
    let R = rank_formula word gens targets prices es e in
    let W : List ℕ = space word gens targets R.entry in
    let E = entry_solves word gens targets (length es) R.entry R.an_entry in
    record {
      entry = R.entry;
      an_entry = R.an_entry;
      accepted_rows = (is_entry_law gens targets W).1 (subst (λ (k : ℕ). Solution word gens targets k W) (sym E.size) E);
      listed = R.formula_of_law;
    }
