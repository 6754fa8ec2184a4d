-- `catalogue::meeting::meet_all` meets its contract: the walk from the space of b. Assumes nothing.
use mathlib.Core.Path.{◌≡◌, sym}
use Prim.Native.Nat.{ℕ, ◌≤◌}
use native.Mathlib.Omega.{arith}
use lib.ListN.{length, replicate, length-replicate}
use lib.Seq.{length-take-le}
use Rattle.catalogue.proofs.Root.{root_node}
use Rattle.kinds.specs.Limits.{most_generators}
use Rattle.residues.specs.Room.{search_room}
use Rattle.weights.specs.rank_rows.Stretch.{row_room}
use Rattle.catalogue.proofs.meeting.meet_all.Goals as goal

-- the array that is lent down the walk
rows_all : length (replicate {A = ℕ} row_room 0) ≡ row_room
rows_all = length-replicate {A = ℕ} row_room 0

h_all : length (replicate {A = ℕ} search_room 0) ≡ search_room
h_all = length-replicate {A = ℕ} search_room 0

few : {n : ℕ} → n ≤ most_generators → n ≤ search_room
few l = omega arith

within : {n a : ℕ} → n ≤ most_generators → a ≡ search_room → n ≤ a
within l e = omega arith

pub residues-requires : goal.residues-requires
residues-requires c = (c.requires.valid, few c.requires.small, h_all)

pub overflow_sub-missing : goal.overflow_sub-missing
overflow_sub-missing c = c.requires.least

pub slice_bounds-h-end : goal.slice_bounds-h-end
slice_bounds-h-end c = within c.requires.small c.residues.ensures.whole

pub slice_bounds-walk-end : goal.slice_bounds-walk-end
slice_bounds-walk-end c = sym (length-take-le (length c.args.gens.now)
    c.residues.new.out (within
    c.requires.small c.residues.ensures.whole))

pub slice_bounds-walk-end-2 : goal.slice_bounds-walk-end-2
slice_bounds-walk-end-2 c = sym rows_all

pub walk-requires : goal.walk-requires
walk-requires c = let a = c.args in (
  root_node a.gens.now a.k a.aim a.order.now a.prices.now a.out.now a.b c.residues.new.out
      c.requires c.residues.ensures,
  rows_all,
)

pub shape_of-out : goal.shape_of-out
shape_of-out c = c.walk.auto.out

pub returns : goal.returns
returns c = record { state = c.walk.ensures }
