-- The rows that bound the rank of a value: a stretch of eight for each number.
--   row_room          == the rows of all stretches
--   stretch m f rows == the first m of the eight rows that stand for the number f
--   StretchGrowing, StretchGrown   == what `grow` asks, and gives: d is in the span of S and the stretch, what was in it still is, and no other stretch has changed; or the rank is
--                       above all that a stretch holds
-- Laws: laws/Grow. Assumes nothing.
use Rattle.std.specs.Prelude.{◌≡◌, ◌≢◌, List, ◌++◌, ℕ, ◌*◌, ◌<◌, ◌≤◌, length, take, drop}
use Rattle.linear.specs.Span.{Span}
use Rattle.linear.specs.Word.{word}
use Rattle.residues.specs.Room.{search_room}

-- eight rows for each number
abbrev pub row_room : ℕ
row_room = 32768

abbrev pub stretch : ℕ → ℕ → List ℕ → List ℕ
stretch m f rows = take m (drop (f * 8) rows)

pub record StretchGrowing (m f : ℕ) (rows : List ℕ) : Type 0 where
  pub size : length rows ≡ row_room
  pub number : f < search_room
  pub low : m ≤ 199
  pub gap : 8 < m → 63 ≤ m

pub record StretchGrown (S : List ℕ) (d m f : ℕ) (old rows : List ℕ) (q : ℕ) : Type 0 where
  pub low : q ≤ 199
  pub gap : 8 < q → 63 ≤ q
  pub more : m ≤ q
  pub holds : q ≤ 8 → Span word (stretch q f rows ++ S) d
  pub keeps : q ≤ 8 → (u : ℕ) → Span word (stretch m f old ++ S) u → Span word (stretch q f rows ++ S) u
  pub others : (g n : ℕ) → g ≢ f → n ≤ 8 → stretch n g rows ≡ stretch n g old
