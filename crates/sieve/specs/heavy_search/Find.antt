-- What the functions of the search ask and give.
--   FirstNew h d start r        == r is the first number from start on that is new by the residues h and not by d, or their number
--   Over gens h d start gone .. == a space over a walk's node: as many residues as generators, the number to start from, a flag and a mark for each number
--   At gens h d start s gone .. == the same, and s is the basis of the generators in the space
--   Pairing ..                  == `Over` for a number j that has a value there, the weights of the numbers with their table, and the lent arrays
--   ChildBasis gens d j gone t  == a dead number has the value of j, or t has the basis of the generators in that space and the generator j
--   Neared .. r                 == the spaces over d and the generator j are met, or r, and then the child's residues are there, for a search of more
--                                  than one dimension
--   Finding ..                  == what `find` asks: `At`, the dimensions missing, and the lent rows
--   Closed gens h d .. picks .. == the spaces over d and a picked number that has a value there are met, and marks stay and stay fair
-- Laws: laws/Find, laws/Step. Assumes nothing.
use Rattle.std.specs.Prelude.{◌≡◌, ◌≢◌, Bool, true, false, List, map, ℕ, ◌-◌, ◌<◌, ◌≤◌, length, get_or}
use Rattle.linear.specs.Basis.{clear, basis_of}
use Rattle.linear.specs.Word.{word}
use Rattle.bases.specs.Basis.{Holds}
use Rattle.bases.specs.declared.Basis.{Basis}
use Rattle.residues.specs.children.Residues.{with_residue}
use Rattle.residues.specs.Mapped.{Mapped}
use Rattle.residues.specs.declared.Taken.{Taken}
use Rattle.residues.specs.children.Found.{MetBy, Fair, Grown, FoundBy}
use Rattle.residues.specs.children.Weighed.{Shared, Weighed}
use Rattle.weights.specs.Table.{weight_of, Slots}
use Rattle.residues.specs.Room.{search_room}
use Rattle.weights.specs.rank_rows.Stretch.{row_room}

pub record FirstNew (h d : List ℕ) (start r : ℕ) : Type 0 where
  pub from : start ≤ r
  pub to : r ≤ length h
  pub none : (i : ℕ) → start ≤ i → i < r → get_or d i 0 ≡ 0 → get_or h i 0 ≡ 0
  pub zero_there : r < length h → get_or d r 0 ≡ 0
  pub new_here : r < length h → get_or h r 0 ≢ 0

pub record Over (gens h d : List ℕ) (start : ℕ) (gone marks : List ℕ) : Type 0 where
  pub alike : length gens ≡ length h
  pub over : length gens ≡ length d
  pub few : length gens ≤ search_room
  pub begin : start ≤ length gens
  pub gone_all : length gone ≡ search_room
  pub marks_all : length marks ≡ search_room

pub record At (gens h d : List ℕ) (start : ℕ) (s : Basis) (gone marks : List ℕ) : Type 0 where
  pub sizes : Over gens h d start gone marks
  pub held : Holds (basis_of word (with_residue 0 gens d)) s

pub record Closed (gens h d : List ℕ) (start k : ℕ) (gone picks marks marks' : List ℕ) : Type 0 where
  pub met : (i : ℕ) → start ≤ i → i < length gens → get_or picks i 0 ≢ 0 → get_or d i 0 ≢ 0 → MetBy gens h d start k 0 gone i marks'
  pub grown : Grown marks marks'
  pub fair : Fair h marks → Fair h marks'

pub record Pairing (gens h d : List ℕ) (j start : ℕ) (gone slots w picks mine marks : List ℕ) : Type 0 where
  pub sizes : Over gens h d start gone marks
  pub number : j < length gens
  pub value : get_or d j 0 ≢ 0
  pub table : Slots slots d
  pub weighed : Weighed gens d start gone w (weight_of slots d w)
  pub weights_all : length w ≡ search_room
  pub picks_all : length picks ≡ search_room
  pub mine_all : length mine ≡ search_room

pub record ChildBasis (gens d : List ℕ) (j : ℕ) (gone : List ℕ) (t : Taken) : Type 0 where
  pub shared : t.flagged ≡ true → Shared d gone (get_or d j 0)
  pub held : t.flagged ≡ false → Holds (basis_of word (with_residue 0 gens (map (clear word (get_or d j 0)) d))) t.basis

pub record Neared (gens h d : List ℕ) (j start k m : ℕ) (t : Taken) (gone marks mine' marks' : List ℕ) (r : Bool) : Type 0 where
  pub done : r ≡ false → FoundBy gens h d start k (m - 1) gone j marks marks'
  pub child : r ≡ true → Mapped (clear word (get_or d j 0)) d mine'
  pub same : r ≡ true → marks' ≡ marks
  pub basis : r ≡ true → t.flagged ≡ false
  pub deep : r ≡ true → 2 < m

pub record Finding (gens h d : List ℕ) (start missing : ℕ) (s : Basis) (dead rows marks : List ℕ) : Type 0 where
  pub at : At gens h d start s dead marks
  pub some : missing ≢ 0
  pub most : missing ≤ 8
  pub rows_all : length rows ≡ row_room
