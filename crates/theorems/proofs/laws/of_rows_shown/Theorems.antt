-- The rows of formulae and the terms of sums: what Rank and the formulae of a space write for a target is what `is_sum` shows of it over their products.
--   RowsShown ..          == over the products es each target is shown as a sum, and bit i of its row is 1 exactly if product i is one of the terms
--   formulae_rows_shown   so for every formula of a space that is accepted
--   rank_rows_shown       and for the formula that Rank replies
-- Document 02: "Spare questions and formula rows rest on the new reply and must agree with it." Any buffer with room for the products will do.
-- Assumes nothing.
use Rattle.std.specs.Prelude.{◌≡◌, refl, ◌↔◌, true, ℕ, ◌<◌, ◌≤◌, length, get_or}
use mathlib.Core.List.{List, [], ◌++◌, map, Memᴰ}
use Rattle.kinds.specs.Refusal.{accepted}
use Rattle.problems.proofs.laws.of_prices.Theorems.{priced_posed}
use Rattle.problems.specs.Problem.{Problem, posed}
use Rattle.words.specs.Buffers.{filled}
use Rattle.linear.specs.Bit.{bit}
use Rattle.linear.specs.Entry.{chosen}
use Rattle.linear.specs.Formulae.{Formula}
use Rattle.linear.specs.Word.{word}
use Rattle.bases.specs.rows.Rows.{row_of}
use Rattle.space_formulae.specs.spaces.Spaces.{Formulae, formulae_of}
use Rattle.space_formulae.proofs.laws.of_spaces.Theorems.{formulae_means}
use Rattle.rank.specs.Rank.{rank}
use Rattle.rank.specs.fewest.Fewest.{is}
use Rattle.selections.specs.Selections.{is_sum}
use Rattle.selections.proofs.Theorems.{row_shown}
use Rattle.selections.specs.on_forms.Shown.{sum_of}
use Rattle.theorems.proofs.laws.of_catalogue_and_rank.Theorems.{rank_means}
use Rattle.theorems.specs.rows_shown.Theorems.{RowsShown}

pub formulae_rows_shown : (number p q r : ℕ) (gs ts rows old : List ℕ) (f : Formulae) → formulae_of number p q r gs ts rows old ≡ accepted f
    → (x : Problem) × (posed number p q r gs ts rows ≡ accepted x)
    × ((es : List ℕ) → Formula word x.generators rows es → RowsShown number p q r gs ts x es)
formulae_rows_shown number p q r gs ts rows old f e =
    let m = formulae_means number p q r gs ts rows old f e in (
      m.0,
      m.1,
      λ es F t k room h. let s = row_shown number p q r gs ts rows m.0 m.1 t k es room F.rising F.independent
          (F.spanning.1 t (m.3.entry.holds t k)) h in (s.0, s.1, s.3),
    )

pub rank_rows_shown : (number p q r k : ℕ) (gs ts costs old : List ℕ) (n : ℕ) (buffer : List ℕ) → rank number p q r k gs ts costs old ≡ accepted (is n buffer)
    → (x : Problem) × (posed number p q r gs ts [] ≡ accepted x)
    × ((es : List ℕ) × (length es ≡ n) × (buffer ≡ filled (es ++ map (row_of (chosen word x.generators es)) x.targets) old)
    × RowsShown number p q r gs ts x es)
rank_rows_shown number p q r k gs ts costs old n buffer e =
    let m = rank_means number p q r k gs ts costs old (is n buffer) e in
    let P = priced_posed p q r gs ts costs m.0 number m.1 in
    let N = m.3.number n buffer refl in (
      m.0.problem,
      P,
      (
        N.0,
        N.1,
        N.3,
        λ t j room h. let s = row_shown number p q r gs ts [] m.0.problem P t j N.0 room N.2.rising N.2.independent (N.2.computes t j) h in
            (s.0, s.1, s.3),
      ),
    )
