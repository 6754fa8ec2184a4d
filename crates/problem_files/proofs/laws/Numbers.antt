-- The numbers of the reply to a reading.
--   problem_told                      the reply that the definition says has its numbers
--   problem_differ                    distinct replies have distinct numbers
--   problem_numbered, input_numbered  a problem's file is never refused by 0
-- Assumes nothing.
use Rattle.std.specs.Prelude.{◌≡◌, refl, Bool, true, false, not, cond, List, [], ◌∷◌, ℕ, zero, suc, length, ltb, Option, None, Some}
use Rattle.std.proofs.Common.{sym, ap, ◌∙◌, arith}
use Rattle.kinds.specs.Kinds.{is_list, kind_numbered, kind_numbered_law}
use Rattle.kinds.specs.Sizes.{shape_of, sizes}
use Rattle.kinds.specs.Limits.{most_generators}
use Rattle.kinds.specs.declared.Kind.{Kind}
use Rattle.kinds.specs.declared.Shape.{Shape}
use Rattle.kinds.specs.Refusal.{Answer, refused, accepted}
use Rattle.kinds.specs.Numbers.{reply_numbers, NotByZero}
use Rattle.kinds.specs.laws.Numbers.{numbers_differ, need_numbered, refuse_numbered, follow_numbered}
use Rattle.maps.specs.Generators.{count_of}
use Rattle.problems.specs.Problem.{shaped}
use Rattle.problems.proofs.laws.Numbered.{shaped_numbered}
use Rattle.text.specs.Limits.{most_bytes}
use Rattle.text.specs.heads.Head.{head_lines}
use Rattle.formula_files.specs.lines.Formula.{ended}
use Rattle.problem_files.specs.list_lines.Roles.{list_body}
use Rattle.problem_files.specs.handed_forms.ProblemLines.{list_lines, map_lines, body_of}
use Rattle.problem_files.specs.judging.Judged.{beyond, short, settled}
use Rattle.problem_files.specs.posing.Posing.{ProblemFile, posed_lines, posed_file}
use Rattle.problem_files.specs.ProblemFile.{problem_file}
use Rattle.problem_files.specs.inputs.Inputs.{posed_input, input_file}
use Rattle.problem_files.specs.Lent.{problem_reply, problem_read_numbers, problem_read_values}
use Rattle.problem_files.specs.declared.judging.Purpose.{Purpose}
use Rattle.problem_files.specs.declared.judging.ProblemRead.{ProblemRead}
use Rattle.problem_files.specs.declared.judging.ProblemRead.TheVariants as read

problem_numbers : (o : Answer ProblemFile) → problem_read_numbers (problem_reply o) ≡ reply_numbers 5 problem_read_values o
problem_numbers (refused e) = refl
problem_numbers (accepted f) = refl

-- A, B and C are what is promised of the lent buffers
pub problem_told : {A B C : Type 0} (o : Answer ProblemFile) (x : ProblemRead) → (x ≡ problem_reply o) × A × B × C
    → (x ≡ problem_reply o) × A × B × C × (problem_read_numbers x ≡ reply_numbers 5 problem_read_values o)
problem_told o x P = (P.0, P.1, P.2, P.3, ap problem_read_numbers P.0 ∙ problem_numbers o)

-- the reply with those numbers
named : Option Kind → (p q r k : ℕ) → ProblemRead
named None p q r k = read.Refused 0
named (Some kd) p q r k = read.Problem (shape_of kd p q r) k

from : List ℕ → ProblemRead
from (suc e ∷ v) = read.Refused (suc e)
from (zero ∷ n ∷ p ∷ q ∷ r ∷ k ∷ v) = named (kind_numbered n) p q r k
from (zero ∷ n ∷ p ∷ q ∷ r ∷ []) = read.Refused 0
from (zero ∷ n ∷ p ∷ q ∷ []) = read.Refused 0
from (zero ∷ n ∷ p ∷ []) = read.Refused 0
from (zero ∷ n ∷ []) = read.Refused 0
from (zero ∷ []) = read.Refused 0
from [] = read.Refused 0

back : (o : Answer ProblemFile) → NotByZero o → from (problem_read_numbers (problem_reply o)) ≡ problem_reply o
unfolding from named
back (refused zero) h = absurd (omega arith)
back (refused (suc e)) h = refl
back (accepted f) h = ap (λ (kd : Option Kind). named kd f.shape.p f.shape.q f.shape.r f.k) (kind_numbered_law f.shape.kind)

pub problem_differ : (o u : Answer ProblemFile) (x y : ProblemRead) → x ≡ problem_reply o → y ≡ problem_reply u → NotByZero o → NotByZero u
    → problem_read_numbers x ≡ problem_read_numbers y → x ≡ y
problem_differ o u x y e f n m h =
    e ∙ numbers_differ from (back o n) (back u m) (sym (ap problem_read_numbers e) ∙ h ∙ ap problem_read_numbers f) ∙ sym f

body_numbered : (b : Bool) (q r n m : ℕ) (s : List ℕ) → NotByZero (cond b (list_lines q r s) (map_lines n m s))
unfolding list_lines map_lines
body_numbered true q r n m s =
    refuse_numbered 4 (ltb most_generators q) _ (omega arith) (need_numbered 5 (list_body q r s) accepted (omega arith) (λ f. tt))
body_numbered false q r n m s =
    need_numbered 4 (count_of n m) _ (omega arith) (λ c. refuse_numbered 5 (not (ended s)) _ (omega arith) tt)

posed_lines_numbered : (shape : Shape) (k n m : ℕ) (s : List ℕ) → NotByZero (posed_lines shape k n m s)
unfolding posed_lines
posed_lines_numbered shape k n m s =
    follow_numbered (body_of shape n m s) _ (body_numbered (is_list shape.kind) shape.q shape.r n m s) λ f.
    follow_numbered (shaped shape f.0 f.1 []) _ (shaped_numbered shape f.0 f.1 []) λ P. tt

posed_numbered : (s : List ℕ) → NotByZero (posed_file s)
unfolding posed_file
posed_numbered s =
    need_numbered 1 (head_lines s) _ (omega arith) λ h.
    need_numbered 2 h.0.kind _ (omega arith) λ kd.
    need_numbered 3 (sizes (shape_of kd h.0.p h.0.q h.0.r)) _ (omega arith) λ z.
    posed_lines_numbered (shape_of kd h.0.p h.0.q h.0.r) h.0.k z.0 z.1 h.1

settled_numbered : (a : Purpose) (u v w : ℕ) (F : ProblemFile) → NotByZero (settled a u v w F)
unfolding settled
settled_numbered a u v w F =
    refuse_numbered 8 (beyond a F.k F.problem.targets) _ (omega arith) (refuse_numbered 9 (short F.shape u v w) _ (omega arith) tt)

pub problem_numbered : (a : Purpose) (s : List ℕ) (u v w : ℕ) → NotByZero (problem_file a s u v w)
unfolding problem_file
problem_numbered a s u v w = follow_numbered (posed_file s) _ (posed_numbered s) (settled_numbered a u v w)

pub input_numbered : (a : Purpose) (s : List ℕ) (u v w : ℕ) → NotByZero (input_file a s u v w)
unfolding input_file posed_input
input_numbered a s u v w =
    follow_numbered (posed_input s) _ (refuse_numbered 1 (ltb most_bytes (length s)) _ (omega arith) (posed_numbered s)) (settled_numbered a u v w)
