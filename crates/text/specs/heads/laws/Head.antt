-- The first two lines, case by case.
--   fields_1 .. fields_is   the four counts
--   head_cut .. head_is     the second line
--   heads_name .. heads_is  the first two lines
-- Assumes nothing.
use Rattle.std.specs.Prelude.{ℕ, ◌≡◌, List, Option, None, Some}
use Rattle.kinds.specs.Kinds.{kind_named}
use Rattle.text.specs.Reading.{◌>>=◌}
use Rattle.text.specs.Numeral.{count}
use Rattle.text.specs.Line.{cut, LF, comma, name_line, count_field}
use Rattle.text.specs.heads.Head.{head_names, count_fields, head_line, head_lines}

pub fields_1 : (s : List ℕ) → count_field s ≡ None → count_fields s ≡ None
unfolding count_fields
fields_1 s e = rw e

pub fields_2 : (s t : List ℕ) (p : ℕ) → count_field s ≡ Some (p, t) → count_field t ≡ None → count_fields s ≡ None
unfolding count_fields
fields_2 s t p e f = rw (e, f)

pub fields_3 : (s t u : List ℕ) (p q : ℕ) → count_field s ≡ Some (p, t) → count_field t ≡ Some (q, u) → count_field u ≡ None → count_fields s ≡ None
unfolding count_fields
fields_3 s t u p q e f g = rw (e, f, g)

-- the last count, or none
pub fields_is : (s t u v : List ℕ) (p q r : ℕ) (o : Option ℕ) → count_field s ≡ Some (p, t) → count_field t ≡ Some (q, u) → count_field u ≡ Some (r, v)
    → count v ≡ o → count_fields s ≡ ◌>>=◌ {A = ℕ} {B = ℕ × ℕ × ℕ × ℕ} o (λ k. Some (p, q, r, k))
unfolding count_fields
fields_is s t u v p q r o e f g h = rw (e, f, g, h)

pub head_cut : (s : List ℕ) → cut LF s ≡ None → head_line s ≡ None
unfolding head_line
head_cut s e = rw e

pub head_comma : (s x t : List ℕ) → cut LF s ≡ Some (x, t) → cut comma x ≡ None → head_line s ≡ None
unfolding head_line
head_comma s x t e h = rw (e, h)

pub head_counts : (s x t y z : List ℕ) → cut LF s ≡ Some (x, t) → cut comma x ≡ Some (y, z) → count_fields z ≡ None → head_line s ≡ None
unfolding head_line
head_counts s x t y z e h i = rw (e, h, i)

pub head_is : (s x t y z : List ℕ) (p q r k : ℕ) → cut LF s ≡ Some (x, t) → cut comma x ≡ Some (y, z) → count_fields z ≡ Some (p, q, r, k)
    → head_line s ≡ Some (record { kind = kind_named y; p = p; q = q; r = r; k = k }, t)
unfolding head_line
head_is s x t y z p q r k e h i = rw (e, h, i)

pub heads_name : (s : List ℕ) → name_line head_names s ≡ None → head_lines s ≡ None
unfolding head_lines
heads_name s e = rw e

pub heads_is : (s t : List ℕ) → name_line head_names s ≡ Some t → head_lines s ≡ head_line t
unfolding head_lines
heads_is s t e = rw e
