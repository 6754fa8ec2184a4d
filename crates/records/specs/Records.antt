-- Records written one after the other into a buffer, as many as fit, and counted up to a limit.
--   State          == how many were found, how many of them shown (written), the first free place, and the buffer
--   note limit s r == the state after the record r: nothing happens where the limit is reached; else it is counted, and written where it fits
--   runs step s xs == the state after a step for each of xs, in order
--   run limit s rs == the state after all of the records rs
--   Sane limit s   == found is at most the limit, shown at most found, and the free place is in the buffer or at its end; `Kept`: and the buffer has a size
-- Laws: laws/Records. Assumes nothing.
use Rattle.std.specs.Prelude.{cond, List, [], ◌∷◌, ℕ, ◌+◌, ◌≤◌, length, eqb, leb, ◌≡◌}
use Rattle.std.proofs.Math.Seq.{paste}

pub record State : Type 0 where
  pub found : ℕ
  pub shown : ℕ
  pub at : ℕ
  pub buf : List ℕ

unfoldable pub note : ℕ → State → List ℕ → State
note limit st r =
    cond (eqb st.found limit) st
    (cond (leb (st.at + length r) (length st.buf))
    (record { found = st.found + 1; shown = st.shown + 1; at = st.at + length r; buf = paste st.buf st.at r (length r) })
    (record { found = st.found + 1; shown = st.shown; at = st.at; buf = st.buf }))

unfoldable pub runs : {A : Type 0} → (State → A → State) → State → List A → State
runs step st [] = st
runs step st (x ∷ xs) = runs step (step st x) xs

abbrev pub run : ℕ → State → List (List ℕ) → State
run limit st rs = runs (note limit) st rs

pub record Sane (limit : ℕ) (st : State) : Type 0 where
  pub limited : st.found ≤ limit
  pub fewer : st.shown ≤ st.found
  pub inside : st.at ≤ length st.buf

-- the same of a buffer of that size
pub record Kept (limit size : ℕ) (st : State) : Type 0 where
  pub sane : Sane limit st
  pub same : length st.buf ≡ size
