-- `problem_files::list_lines::read_roles` meets its contract. The invariant: the forms and costs written, then those of the lines that are left, are the
-- whole. Assumes nothing.
use Rattle.std.specs.Prelude.{◌≡◌, ◌≤◌, ◌-◌, length, take, drop}
use Rattle.problem_files.specs.list_lines.Roles.{role_lines}
use Rattle.problem_files.proofs.laws.of_list_lines.Loop.{behind}
use Rattle.problem_files.proofs.list_lines.read_roles.Given as goal

abbrev pub invariant-loop-i : goal.invariant-loop-i
invariant-loop-i l =
    (l.at ≤ length l.s)
    × (role_lines l.role l.most l.n l.s ≡ behind (take l.i l.d) (take l.i l.c) (role_lines l.role l.most (l.n - l.i) (drop l.at l.s)))
