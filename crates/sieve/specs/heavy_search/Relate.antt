-- What the search along relations asks and gives.
--   RelationSize k n m r      == r is 3 or 4 only where every space with what is needed of k besides n has a relation of three, or of at most four values
--   Counting ..               == what counting relations asks: as many residues as generators, the number to start from, a valid basis, flags and weights
--   put_in d i                 == the residues with the generator of the number i put in
--   beneath d u n             == the residues at the space with the numbers of the relation at u put in: three of four, or two of three
--   Descending, Descended     == what `descend` asks and gives: these residues, and the basis of the generators in that space, or that a dead one is
--   Relating ..               == what `relate` asks: a space's residues and basis, weights that are bounds, every number of a weight above 1 gone, and so many
--                                generators needed that every space has a short relation
-- Laws: laws/Relate. Assumes nothing.
use Rattle.std.specs.Prelude.{◌≡◌, ◌≢◌, Bool, true, false, cond, List, map, ℕ, ◌-◌, ◌<◌, ◌≤◌, length, get_or, take, ltb}
use Rattle.linear.specs.Basis.{clear, basis_of}
use Rattle.linear.specs.Word.{word}
use Rattle.bases.specs.Basis.{Valid, Holds}
use Rattle.bases.specs.declared.Basis.{Basis}
use Rattle.residues.specs.children.Residues.{with_residue}
use Rattle.residues.specs.children.Relation.{Short}
use Rattle.residues.specs.children.Weighed.{Shared, Weighed}
use Rattle.residues.specs.declared.Taken.{Taken}
use Rattle.relations.specs.pairs.Pairs.{first_of, second_of}
use Rattle.relations.specs.declared.Place.{Place}
use Rattle.sieve.specs.heavy_search.Find.{At}
use Rattle.residues.specs.Room.{search_room}
use Rattle.weights.specs.rank_rows.Stretch.{row_room}

pub record RelationSize (k n m r : ℕ) : Type 0 where
  pub three : r ≡ 3 → Short (k - n) m true
  pub four : r ≢ 0 → r ≢ 3 → Short (k - n) m false
  pub deep : r ≢ 0 → 3 < m

pub record Counting (gens d : List ℕ) (start : ℕ) (s : Basis) (dead w : List ℕ) : Type 0 where
  pub over : length gens ≡ length d
  pub few : length gens ≤ search_room
  pub begin : start ≤ length gens
  pub valid : Valid s
  pub dead_all : length dead ≡ search_room
  pub weights_all : length w ≡ search_room

-- one number's generator put in
abbrev pub put_in : List ℕ → ℕ → List ℕ
put_in d i = map (clear word (get_or d i 0)) d

-- the numbers of the relation at a place: the first, the second, and the third where there is a fourth
abbrev pub first_at : Place → ℕ
first_at u = first_of u.base (u.e - 1)

abbrev pub second_at : Place → ℕ
second_at u = second_of (u.e - 1)

abbrev pub third_row : List ℕ → Place → ℕ → ℕ
third_row d u n = cond (ltb u.h n) (get_or d u.g 0) 0

abbrev pub beneath : List ℕ → Place → ℕ → List ℕ
beneath d u n = map (clear word (third_row (put_in (put_in d (first_at u)) (second_at u)) u n)) (put_in (put_in d (first_at u)) (second_at u))

pub record Descending (gens d : List ℕ) (u : Place) (s : Basis) (gone other mine : List ℕ) : Type 0 where
  pub over : length gens ≡ length d
  pub few : length gens ≤ search_room
  pub pair : u.e ≢ 0
  pub first : first_at u < length gens
  pub second : second_at u < length gens
  pub third : u.g < length gens
  pub fits : u.e ≤ 65536
  pub held : Holds (basis_of word (with_residue 0 gens d)) s
  pub gone_all : length gone ≡ search_room
  pub other_all : length other ≡ search_room
  pub mine_all : length mine ≡ search_room

pub record Descended (gens d : List ℕ) (u : Place) (gone mine : List ℕ) (t : Taken) : Type 0 where
  pub whole : length mine ≡ search_room
  pub is : take (length gens) mine ≡ beneath d u (length gens)
  pub shared : t.flagged ≡ true → Shared (beneath d u (length gens)) gone 0
  pub held : t.flagged ≡ false → Holds (basis_of word (with_residue 0 gens (beneath d u (length gens)))) t.basis

pub record Relating (gens h d : List ℕ) (start k missing : ℕ) (lines : Bool) (s : Basis) (gone w rows marks : List ℕ) : Type 0 where
  pub at : At gens h d start s gone marks
  pub bound : ℕ → ℕ
  pub weighed : Weighed gens d start gone w bound
  pub valued : (n : ℕ) → get_or w n 0 ≢ 0 → get_or d n 0 ≢ 0
  pub heavy_gone : (n : ℕ) → start ≤ n → n < length gens → 1 < get_or w n 0 → get_or gone n 0 ≢ 0
  pub short : Short (k - s.len) missing lines
  pub deep : 3 < missing
  pub most : missing ≤ 8
  pub weights_all : length w ≡ search_room
  pub rows_all : length rows ≡ row_room
