-- The first two lines of every file.
--   head_names   == `kind,p,q,r,k`
--   Head        == the kind, none where no kind has that name, and the four counts
--   head_line s  == what the second line says, and the text after it
--   head_lines s == both lines, and the text after them; none is refusal 1: "The first two lines are not as above"
-- Document 01: "The first line is `kind,p,q,r,k`, byte by byte"; "The kind, all that stands before the second line's first comma".
-- Assumes nothing.
use Rattle.std.specs.Prelude.{ℕ, List, [], ◌∷◌, Option, Some}
use Rattle.kinds.specs.declared.Kind.{Kind}
use Rattle.kinds.specs.Kinds.{kind_named}
use Rattle.text.specs.Reading.{◌>>=◌}
use Rattle.text.specs.Numeral.{count}
use Rattle.text.specs.Line.{LF, comma, cut, name_line, count_field}

abbrev pub head_names : List ℕ
head_names = 107 ∷ 105 ∷ 110 ∷ 100 ∷ 44 ∷ 112 ∷ 44 ∷ 113 ∷ 44 ∷ 114 ∷ 44 ∷ 107 ∷ []

pub record Head : Type 0 where
  pub kind : Option Kind
  pub p : ℕ
  pub q : ℕ
  pub r : ℕ
  pub k : ℕ

-- three counts that a comma ends and a last one
unfoldable pub count_fields : List ℕ → Option (ℕ × ℕ × ℕ × ℕ)
count_fields s = do
  p ← count_field s
  q ← count_field p.1
  r ← count_field q.1
  k ← count r.1
  Some (p.0, q.0, r.0, k)

unfoldable pub head_line : List ℕ → Option (Head × List ℕ)
head_line s = do
  l ← cut LF s
  f ← cut comma l.0
  n ← count_fields f.1
  Some (record { kind = kind_named f.0; p = n.0; q = n.1; r = n.2; k = n.3 }, l.1)

unfoldable pub head_lines : List ℕ → Option (Head × List ℕ)
head_lines s = do
  t ← name_line head_names s
  head_line t
