-- What `take` gives.
--   Took gens h x s flags t   == a flagged number has the residue x, or the basis is s with the generators of this residue put in
-- Assumes nothing.
use Rattle.std.specs.Prelude.{◌≡◌, true, false, List, ℕ}
use Rattle.linear.specs.Basis.{inserts}
use Rattle.linear.specs.Word.{word}
use Rattle.bases.specs.Basis.{rows_of, Holds}
use Rattle.bases.specs.declared.Basis.{Basis}
use Rattle.residues.specs.children.Residues.{with_residue}
use Rattle.residues.specs.children.Weighed.{Shared}
use Rattle.residues.specs.declared.Taken.{Taken}

pub record Took (gens h : List ℕ) (x : ℕ) (s : Basis) (flags : List ℕ) (t : Taken) : Type 0 where
  pub shared : t.flagged ≡ true → Shared h flags x
  pub held : t.flagged ≡ false → Holds (inserts word (rows_of s) (with_residue x gens h)) t.basis
