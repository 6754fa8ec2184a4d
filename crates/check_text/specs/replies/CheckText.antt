-- The text of a Check's reply: a line of names and one line under it.
--   check_text shape k verdict adders
--     kind,p,q,r,k,verdict,output,adders
--     poly,2,2,0,3,right,-,4
-- Document 01: "The Check program prints `kind,p,q,r,k,verdict,output,adders` and one line under it, as `poly,2,2,0,3,right,-,4` or
-- `poly,2,2,0,3,wrong,1,3`". Assumes nothing.
use Rattle.std.specs.Prelude.{ℕ, List, [], ◌∷◌, ◌++◌}
use Rattle.kinds.specs.declared.Shape.{Shape}
use Rattle.text.specs.Line.{LF}
use Rattle.printing.specs.fields.Fields.{field_text, sizes_text}
use Rattle.formula_check.specs.declared.verdicts.Verdict.{Verdict}
use Rattle.formula_check.specs.declared.verdicts.Verdict.TheVariants as verdict

-- the line of names, with its LF
abbrev pub check_names : List ℕ
check_names =
    107 ∷ 105 ∷ 110 ∷ 100 ∷ 44 ∷ 112 ∷ 44 ∷ 113 ∷ 44 ∷ 114 ∷ 44 ∷ 107 ∷ 44
    ∷ 118 ∷ 101 ∷ 114 ∷ 100 ∷ 105 ∷ 99 ∷ 116 ∷ 44
    ∷ 111 ∷ 117 ∷ 116 ∷ 112 ∷ 117 ∷ 116 ∷ 44
    ∷ 97 ∷ 100 ∷ 100 ∷ 101 ∷ 114 ∷ 115 ∷ LF ∷ []

-- `,wrong`
abbrev pub wrong : List ℕ
wrong = 44 ∷ 119 ∷ 114 ∷ 111 ∷ 110 ∷ 103 ∷ []

-- `,right,-`; `,wrong,` and the output
abbrev pub verdict_text : Verdict → List ℕ
verdict_text verdict.Right = 44 ∷ 114 ∷ 105 ∷ 103 ∷ 104 ∷ 116 ∷ 44 ∷ 45 ∷ []
verdict_text (verdict.Wrong t) = wrong ++ field_text t

unfoldable pub check_text : Shape → ℕ → Verdict → ℕ → List ℕ
check_text shape k v adders = check_names ++ sizes_text shape k ++ verdict_text v ++ field_text adders ++ (LF ∷ [])
