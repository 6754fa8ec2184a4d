-- `call_values::turns::turn_one`: no part of a room is longer than the room. Assumes nothing.
use borrow.Author.Rules.{rules}
use native.Mathlib.Omega.{arith}
use mathlib.Core.Path.{◌≡◌, sym}
use mathlib.Core.List.{List}
use Prim.Native.Nat.{ℕ, ◌≤◌}
use lib.ListN.{length, take}
use lib.Seq.{length-take-le}
use Rattle.call_values.specs.Rooms.{turn_words}
use Rattle.call_values.proofs.turns.turn_one.Goals as goal

part : (n : ℕ) (room : List ℕ) → n ≤ turn_words → turn_words ≡ length room → n ≡ length (take n room)
part n room h e = sym (length-take-le n room (omega arith))

pub slice_bounds-turn_in-end : goal.slice_bounds-turn_in-end
slice_bounds-turn_in-end g c = part _ c.turn_room-new_a.result c.lent-x.ensures c.turn_room-new_a.ensures

pub slice_bounds-turn_in-end-2 : goal.slice_bounds-turn_in-end-2
slice_bounds-turn_in-end-2 g c = part _ c.turn_room-new_b.result c.lent-y.ensures c.turn_room-new_b.ensures

pub slice_bounds-turn_in-end-3 : goal.slice_bounds-turn_in-end-3
slice_bounds-turn_in-end-3 g c = part _ c.turn_room-new_rows.result c.lent-z.ensures c.turn_room-new_rows.ensures
