-- Refusals. Document 01: "Refused, in this order"; "Calls on numbers apply those that concern them, in the same order."
--   Answer A        == refused by a number of the list, or accepted with a value
--   need e o f      == refused by e where there is no value, else what f says of it
--   refuse e b o    == refused by e where the test holds, else o
--   follow o f      == refused as o is, else what f says of its value
--   also e b o      == what is also refused by e where b holds: refusals come in the order of their numbers, so of two the lesser is the reply
--   refused_by e a   == refused by e, or by none where e is 0: what a number stands for that the code gives
--   RefusedOnly P o == where o is refused, P holds of the number
-- The list, by number:
--   1 the first two lines are not as they should be      7 a generator is zero or repeats one, or a factor is zero
--   2 the kind is unknown, or is list in a formula       8 k exceeds what is allowed
--   3 a size misfits                                     9 a lent buffer is too short
--   4 more than 4,095 generators                        10 not the reduced basis of an entry
--   5 lines or lists of the wrong number or shape       11 a selection's numbers
--   6 a bit outside the width                           12 a product is used by no row; in the turning, before 9
-- Assumes nothing.
use Rattle.std.specs.Prelude.{Bool, true, false, ℕ, zero, suc, min, Option, None, Some}

pub data Answer (A : Type 0) : Type 0 where
  refused : ℕ → Answer A
  accepted : A → Answer A

abbrev pub need : {A B : Type 0} → ℕ → Option A → (A → Answer B) → Answer B
need e None f = refused e
need e (Some a) f = f a

abbrev pub refuse : {A : Type 0} → ℕ → Bool → Answer A → Answer A
refuse e true o = refused e
refuse e false o = o

abbrev pub follow : {A B : Type 0} → Answer A → (A → Answer B) → Answer B
follow (refused e) f = refused e
follow (accepted a) f = f a

abbrev pub also : {A : Type 0} → ℕ → Bool → Answer A → Answer A
also e false o = o
also e true (refused f) = refused (min e f)
also e true (accepted a) = refused e

abbrev pub refused_by : {A : Type 0} → ℕ → A → Answer A
refused_by zero a = accepted a
refused_by (suc e) a = refused (suc e)

abbrev pub RefusedOnly : {A : Type 0} → (ℕ → Type 0) → Answer A → Type 0
RefusedOnly P (refused e) = P e
RefusedOnly P (accepted a) = Unit {0}
