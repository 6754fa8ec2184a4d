-- The file format: the text of a problem.
--   cost_text y          == a cost
--   roles_text c xs ys t == a line of the role c for each form of xs and its cost in ys, in front of the text t
--   list_text gs ts cs   == `role,form,cost`, a line for each generator with its cost in cs, a line for each target with cost 0
--   problem_text P       == the first two lines, and for list those
--     kind,p,q,r,k
--     list,2,3,1,2
--     role,form,cost
--     g,1,9
--     g,2,0
--     g,3,65535
--     t,3,0
-- Document 01: "For list follow `role,form`, then q lines `g,..` and r lines `t,..`." Document 02: "a list file's second names line becomes
-- `role,form,cost`; targets have cost 0". Assumes nothing.
use Rattle.std.specs.Prelude.{ℕ, List, [], ◌∷◌, ◌++◌, cond}
use Rattle.kinds.specs.declared.Kind.{Kind}
use Rattle.text.specs.Line.{LF, comma}
use Rattle.words.specs.Buffers.{zeros}
use Rattle.printing.specs.Print.{numeral_text, mask_text}
use Rattle.kinds.specs.Kinds.{is_list}
use Rattle.problem_files.specs.list_lines.Roles.{role_names, generator_role, target_role}
use Rattle.problem_files.specs.posing.Posing.{ProblemFile}
use Rattle.formula_text.specs.HeadText.{file_head}

abbrev pub cost_text : ℕ → List ℕ
cost_text y = numeral_text 10 5 y

unfoldable pub roles_text : ℕ → (xs ys t : List ℕ) → List ℕ
roles_text c [] [] t = t
roles_text c [] (y ∷ ys) t = t
roles_text c (x ∷ xs) [] t = t
roles_text c (x ∷ xs) (y ∷ ys) t = c ∷ comma ∷ (mask_text x ++ (comma ∷ (cost_text y ++ (LF ∷ roles_text c xs ys t))))

unfoldable pub list_text : (gs ts cs : List ℕ) → List ℕ
list_text gs ts cs = role_names ++ (LF ∷ roles_text generator_role gs cs (roles_text target_role ts (zeros ts) []))

-- a map's file has no further lines
abbrev pub lines_text : Kind → (gs ts cs : List ℕ) → List ℕ
lines_text kd gs ts cs = cond (is_list kd) (list_text gs ts cs) []

unfoldable pub problem_text : ProblemFile → List ℕ
problem_text P = file_head P.shape P.k (lines_text P.shape.kind P.generators P.targets P.costs)
