-- The generators inside a space, inserted one after the other.
--   Completing gens w C d i == C with all the generators inside w from `start` on is d with those from i on
-- Assumes nothing.
use Rattle.std.specs.Prelude.{◌≡◌, ◌≢◌, true, ℕ, ◌+◌, ◌<◌, ◌≤◌, length, get_or}
use Rattle.std.proofs.Math.Path.{sym, ap}
use Rattle.std.proofs.Common.{◌∙◌, arith, drop_of_length-le, le-leb}
use mathlib.Core.List.{List}
use Rattle.std.proofs.Math.Dec.{leb}
use Rattle.linear.specs.Basis.{reduce, insert, inserts}
use Rattle.linear.specs.Entry.{inside, generator}
use Rattle.linear.specs.Select.{only}
use Rattle.linear.specs.Spread.{later, completes}
use Rattle.linear.specs.Word.{word}
use Rattle.linear.proofs.laws.Dimension.{sub_length}
use Rattle.linear.proofs.laws.Insert.{inserts_reduced}
use Rattle.linear.proofs.laws.Greedy.{inserts_within}
use Rattle.linear.proofs.laws.Spread.{later_in, later_out}
use Rattle.bases.specs.declared.Basis.{Basis}
use Rattle.bases.specs.Basis.{rows_of, Valid, Holds, rows_length}
use Rattle.bases.proofs.laws.of_spans.Missing.{left_none, left_some}

module _ (gens w C : List ℕ) (start : ℕ) where
  pub record Completing (d : Basis) (i : ℕ) : Type 0 where
    pub valid : Valid d
    pub is : inserts word C (later word gens w start) ≡ inserts word (rows_of d) (later word gens w i)

  reading : (d : Basis) (i : ℕ) → Completing d i → completes word gens w C start ≡ leb (length w) (length (inserts word (rows_of d) (later word gens w i)))
  unfolding completes
  reading d i I = ap (λ (X : List ℕ). leb (length w) (length X)) I.is

  module _ (d : Basis) (i : ℕ) (I : Completing d i) where
    pub completing_full : length w ≤ d.len → true ≡ completes word gens w C start
    completing_full h =
        let X : List ℕ = later word gens w i in
        let l = sub_length word (inserts word (rows_of d) X) (rows_of d) I.valid.reduced (inserts_reduced word X (rows_of d) I.valid.reduced) (inserts_within word gens X (rows_of d)) in
        sym (reading d i I ∙ le-leb (length w) (length (inserts word (rows_of d) X)) (omega (arith, h, l, rows_length d I.valid)))

    pub completing_in : i < length gens → (r : ℕ) → r ≡ reduce word w (get_or gens i 0) → r ≡ 0 → (d' : Basis)
        → Holds (insert word (rows_of d) (get_or gens i 0)) d' → Completing d' (i + 1)
    unfolding generator
    completing_in l r e z d' H =
        record {
          valid = H.valid;
          is = I.is ∙ later_in word gens w (rows_of d) i l (left_none w (get_or gens i 0) r e z)
              ∙ ap (λ (B : List ℕ). inserts word B (later word gens w (i + 1))) (sym H.is);
        }

    pub completing_out : i < length gens → (r : ℕ) → r ≡ reduce word w (get_or gens i 0) → r ≢ 0 → Completing d (i + 1)
    unfolding generator
    completing_out l r e z = record { valid = I.valid; is = I.is ∙ later_out word gens w (rows_of d) i l (left_some w (get_or gens i 0) r e z) }

    pub completing_end : length gens ≤ i → leb (length w) d.len ≡ completes word gens w C start
    unfolding later only inserts
    completing_end l =
        ap (leb (length w)) (sym (rows_length d I.valid))
        ∙ ap (λ (X : List ℕ). leb (length w) (length (inserts word (rows_of d) (only (inside word w) X)))) (sym (drop_of_length-le gens l)) ∙ sym (reading d i I)
