-- Lists of forms handed in with a problem.
--   repeats xs                         == some form of xs stands in it again
--   unlike c u gs ts                   == gs has not c forms, or ts has not u
--   list_refusal p q r gs ts others     == the number of a list's refusal, 4 to 7, or 0
--   map_refusal w gs ts others          == the number of the refusal of a map's lists, 5 or 6, or 0; the map's forms have w bits
-- Assumes nothing.
use Rattle.std.specs.Prelude.{Bool, false, not, ◌||◌, cond, List, [], ◌∷◌, ℕ, length, eqb, ltb}
use Rattle.linear.specs.Select.{any_of}
use Rattle.words.specs.Masks.{wide, zero_in}
use Rattle.kinds.specs.Limits.{most_generators}

-- refusal 7: "A menu form is zero or repeats an earlier one"
unfoldable pub repeats : List ℕ → Bool
repeats [] = false
repeats (x ∷ xs) = any_of (eqb x) xs || repeats xs

-- refusal 5: "in calls on numbers, a list handed in has the wrong length"
abbrev pub unlike : (c u : ℕ) (gs ts : List ℕ) → Bool
unlike c u gs ts = not (eqb (length gs) c) || not (eqb (length ts) u)

unfoldable pub list_refusal : (p q r : ℕ) (gs ts others : List ℕ) → ℕ
list_refusal p q r gs ts others = cond (ltb most_generators q) 4 (cond (unlike q r gs ts) 5 (cond (wide p gs || (wide p ts || wide p others)) 6 (cond (zero_in gs || repeats gs) 7 0)))

unfoldable pub map_refusal : (w : ℕ) (gs ts others : List ℕ) → ℕ
map_refusal w gs ts others = cond (unlike 0 0 gs ts) 5 (cond (wide w others) 6 0)
