-- `text::numeral_of` meets its contract. The invariant: what is left to read, after the value so far, reads as the whole does. Assumes nothing.
use Rattle.std.specs.Prelude.{◌≡◌, ◌≤◌, ◌<◌, ◌^◌, length, drop}
use Rattle.text.specs.Numeral.{digits, numeral}
use Rattle.text.proofs.numeral_of.Given as goal

abbrev pub invariant-loop-b : goal.invariant-loop-b
invariant-loop-b l =
    (length l.s ≤ l.most) × (l.v < l.base ^ l.b-index) × (numeral l.base l.most l.s ≡ digits l.base l.v (drop l.b-index l.s))
