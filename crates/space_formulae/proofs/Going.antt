-- The loop over the numbers of a node.
-- Going == the records so far are written, and those to come, written, give the final state.
-- node_leaf, going-leaf: no number is missing; what is asked to keep the formula is met, and its record is the only one. going_skip, going-down: one number
-- more, passed or taken. going_full, going_stop, going_end: the limit is reached; the space can't be completed; all numbers are done. node-down: what the
-- child's node is.
-- Assumes nothing.
use mathlib.Core.Path.{◌≡◌, refl, sym, ap, ap₂, ◌∙◌, subst}
use mathlib.Core.Logic.{◌≢◌}
use mathlib.Core.Bool.{true, false, not, ◌&&◌}
use mathlib.Core.List.{List, [], ◌∷◌, ◌++◌}
use Prim.Native.Nat.{ℕ, ◌+◌, ◌-◌, ◌<◌, ◌≤◌}
use native.Mathlib.Omega.{arith}
use lib.ListN.{length, get_or, length-append}
use Rattle.linear.specs.Basis.{Reduced, insert, inserts, basis_of, dim}
use Rattle.linear.specs.Entry.{inside, generator, chosen}
use Rattle.linear.specs.Span.{Span}
use Rattle.linear.specs.Spread.{completes, Inner}
use Rattle.linear.specs.Word.{word}
use Rattle.linear.proofs.laws.Extension.{chosen_append, inserts_append}
use Rattle.linear.proofs.laws.Independent.{independent_dim}
use Rattle.linear.proofs.laws.Insert.{basis_of_span}
use Rattle.linear.proofs.laws.Spread.{inner_down, full_is, spread_leaf, spread_none, spread_end, spread_skip, spread_down}
use Rattle.bases.specs.Basis.{rows_of, Valid, Holds}
use Rattle.bases.specs.declared.Basis.{Basis}
use Rattle.choices.specs.declared.Choice.{Choice}
use Rattle.choices.specs.Choice.{numbers_of, forms_of, record_of, formula_record, chose_record, Added}
use Rattle.choices.specs.laws.Writing.{numbers_length, forms_length}
use Rattle.records.specs.declared.Tally.{Tally}
use Rattle.records.specs.Records.{State, note, runs, run, Kept}
use Rattle.records.specs.Keep.{state_of}
use Rattle.records.specs.laws.Records.{note_full, run_kept}
use Rattle.records.specs.laws.Ahead.{Ahead, ahead_as, ahead_past, ahead_full, ahead_none}
use Rattle.space_formulae.specs.enumeration.Spread.{formulae_from, Branch}
use Rattle.space_formulae.specs.formula_records.Keep.{FormulaKeeping}

abbrev pub Going : (gens w targets C p : List ℕ) (missing limit : ℕ) (final : State) (size j : ℕ) (t : Tally) (out : List ℕ) → Type 0
Going gens w targets C p missing limit final size j t out = Ahead (note limit) (Kept limit size) final
    (formulae_from gens w targets C p (length gens - j) j missing) (state_of t out)

-- no number is missing: the forms have the basis w, and are as many as its rows
pub node_leaf : (gens w targets : List ℕ) (missing : ℕ) (b : Basis) (c : Choice) (t : Tally) (limit : ℕ) (out : List ℕ)
    → Branch gens w targets missing b c t limit out → missing ≡ 0 → FormulaKeeping c targets t limit out
unfolding dim
node_leaf gens w targets missing b c t limit out N z =
    record {
      whole = N.chose.whole;
      solves =
          record {
            independent = independent_dim word (forms_of c) (omega (arith, ap length full, N.number, z, forms_length c N.chose.whole));
            computes = (λ u m. (basis_of_span word (forms_of c) u).0 (subst (λ (C : List ℕ). Span word C u) (sym full) (N.computes u m)));
          };
      sane = N.sane;
    }
  where
    full : basis_of word (forms_of c) ≡ w
    full = N.basis ∙ full_is word gens w N.space (rows_of b) (subst (Inner word w (rows_of b)) z N.inner)

pub going_leaf : (gens w targets : List ℕ) (start missing : ℕ) (b : Basis) (c : Choice) (t : Tally) (limit : ℕ) (out : List ℕ)
    → Branch gens w targets missing b c t limit out → missing ≡ 0 → (end : State)
    → end ≡ note limit (state_of t out) (record_of c targets) → end ≡ run limit (state_of t out) (formulae_from gens w targets (rows_of b) (numbers_of c) (length gens - start) start missing)
unfolding runs
going_leaf gens w targets start missing b c t limit out N z end e =
    e ∙ ap (note limit (state_of t out)) (chose_record gens (numbers_of c) targets c N.chose)
    ∙ ap (run limit (state_of t out)) (sym (spread_leaf word gens w N.space (formula_record gens targets) (rows_of b) (numbers_of c) (length gens - start) start missing z N.inner))

-- at a node: what it asks, as plain facts
module _ (gens w targets : List ℕ) (missing : ℕ) (b : Basis) (c : Choice) (t₀ : Tally) (limit : ℕ) (out₀ : List ℕ)
    (N : Branch gens w targets missing b c t₀ limit out₀) (ne : missing ≢ 0)
    (final : State) (size j : ℕ) (t : Tally) (out : List ℕ) (I : Going gens w targets (rows_of b) (numbers_of c) missing limit final size j t out) where
  abbrev from : ℕ → List (List ℕ)
  from i = formulae_from gens w targets (rows_of b) (numbers_of c) (length gens - i) i missing

  pub going_full : t.found ≡ limit → state_of t out ≡ final
  going_full e = ahead_full I (λ r. note_full limit (state_of t out) r e)

  pub going_end : length gens ≤ j → state_of t out ≡ final
  going_end g = ahead_none I (spread_end word gens w N.space (formula_record gens targets) (rows_of b) (numbers_of c) j missing ne g)

  pub going_skip : j < length gens → inside word w (get_or gens j 0) && not (inside word (rows_of b) (get_or gens j 0)) ≡ false
      → Going gens w targets (rows_of b) (numbers_of c) missing limit final size (j + 1) t out
  unfolding generator
  going_skip g e = ahead_as I (spread_skip word gens w N.space (formula_record gens targets) (rows_of b) (numbers_of c) j missing ne g e)

  module _ (g : j < length gens) (e : inside word w (get_or gens j 0) && not (inside word (rows_of b) (get_or gens j 0)) ≡ true)
      (b' : Basis) (H : Holds (insert word (rows_of b) (get_or gens j 0)) b') (c' : Choice) (A : Added c j (get_or gens j 0) c') where
    pub node_down : Branch gens w targets (missing - 1) b' c' t limit out
    unfolding chosen generator basis_of inserts
    node_down =
        record {
          space = N.space;
          computes = N.computes;
          valid = H.valid;
          inner = subst (λ (X : List ℕ). Inner word w X (missing - 1)) (sym H.is) (inner_down word gens w N.space (rows_of b) j missing ne N.inner e);
          chose =
              record {
                whole = A.whole;
                numbers = refl;
                forms =
                    A.forms ∙ ap (λ (p : List ℕ). p ++ get_or gens j 0 ∷ []) N.chose.forms ∙ sym (chosen_append word gens [] (numbers_of c) (j ∷ []))
                    ∙ ap (chosen word gens) (sym A.numbers);
              };
          basis =
              ap (basis_of word) A.forms ∙ inserts_append word gens [] (forms_of c) (get_or gens j 0 ∷ []) []
              ∙ ap (λ (C : List ℕ). insert word C (get_or gens j 0)) N.basis ∙ sym H.is;
          number =
              omega (
                arith,
                N.number,
                ne,
                numbers_length c N.chose.whole,
                numbers_length c' A.whole,
                ap length A.numbers,
                length-append (numbers_of c) (j ∷ []),
              );
          room = N.room;
          sane = I.good.sane;
        }

    pub going_down : (r : Tally) (out' : List ℕ)
        → state_of r out' ≡ run limit (state_of t out) (formulae_from gens w targets (rows_of b') (numbers_of c') (length gens - (j + 1)) (j + 1) (missing - 1))
        → Going gens w targets (rows_of b) (numbers_of c) missing limit final size (j + 1) r out'
    unfolding generator
    going_down r out' q =
        let here : List (List ℕ) = formulae_from gens w targets (rows_of b') (numbers_of c') (length gens - (j + 1)) (j + 1) (missing - 1) in
        ahead_past I here (from (j + 1))
        (spread_down word gens w N.space (formula_record gens targets) (rows_of b) (numbers_of c) j missing ne g e
        ∙ ap₂ (λ (x y : List ℕ). formulae_from gens w targets x y (length gens - (j + 1)) (j + 1) (missing - 1) ++ from (j + 1)) (sym H.is) (sym A.numbers)) q
        (run_kept here I.good q)

-- the space can't be completed from the next number on
pub going_stop : (gens w targets : List ℕ) (missing : ℕ) (b : Basis) (c : Choice) (limit : ℕ) → Reduced word w → Valid b → (final : State) (size j : ℕ) (t : Tally) (out : List ℕ)
    → Going gens w targets (rows_of b) (numbers_of c) missing limit final size (j + 1) t out → j < length gens → completes word gens w (rows_of b) (j + 1) ≡ false → state_of t out ≡ final
going_stop gens w targets missing b c limit ρ G final size j t out I g e =
    ahead_none I (spread_none word gens w ρ (formula_record gens targets) (rows_of b) (numbers_of c) (length gens - (j + 1)) (j + 1) missing G.reduced (omega arith) e)
