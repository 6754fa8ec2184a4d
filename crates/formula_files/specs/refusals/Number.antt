-- The first of the refusals 6 to 9 that applies, by its number, or 0.
--   number w z many short == of the four tests: a mask too wide, a factor zero, more than 64 products, a buffer too short
-- Document 01: 6. "A form, factor or row has a bit outside its width (rows have k bits)"; 7. "a factor is zero"; 8. "k [..] exceeds 64 where a
-- formula is sent"; 9. "A lent buffer that must take the whole of an answer is too short". Assumes nothing.
use Rattle.std.specs.Prelude.{ℕ, Bool, cond}

abbrev pub number : (w z many short : Bool) → ℕ
number w z many short = cond w 6 (cond z 7 (cond many 8 (cond short 9 0)))
