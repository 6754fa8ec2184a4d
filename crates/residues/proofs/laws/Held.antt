-- Records of bases that hold the rows of a list.
--   holds_length   how many rows a record has that holds a basis
--   from_empty     a list put into the empty basis makes its basis
-- Assumes nothing.
use Rattle.std.specs.Prelude.{◌≡◌, List, [], ℕ, length}
use Rattle.std.proofs.Common.{sym, ap, ◌∙◌}
use Rattle.linear.specs.Basis.{inserts, basis_of}
use Rattle.linear.specs.Word.{word}
use Rattle.bases.specs.Basis.{rows_of, Holds, rows_length}
use Rattle.bases.specs.declared.Basis.{Basis}

pub holds_length : (B : List ℕ) (b : Basis) → Holds B b → b.len ≡ length B
holds_length B b H = sym (rows_length b H.valid) ∙ ap length H.is

pub from_empty : (xs : List ℕ) (e b : Basis) → Holds [] e → Holds (inserts word (rows_of e) xs) b → Holds (basis_of word xs) b
unfolding basis_of
from_empty xs e b E H = record { valid = H.valid; is = H.is ∙ ap (λ (B : List ℕ). inserts word B xs) E.is }
