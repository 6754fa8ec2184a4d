-- `problem_files::handed_forms::list_lines` meets its contract. Assumes nothing.
use Prim.Native.Nat.{◌≤◌}
use native.Mathlib.Omega.{arith}
use Rattle.problem_files.proofs.laws.of_handed_forms.Lines.{list_many, list_taken, list_not}
use Rattle.kinds.specs.Limits.{most_generators}
use Rattle.problem_files.proofs.handed_forms.list_lines.Goals as goal

pub returns-then-q : goal.returns-then-q
returns-then-q c = list_many _ _ c.args.s.now c.if-q.true

pub shape_of-g-then-read_list : goal.shape_of-g-then-read_list
shape_of-g-then-read_list c = c.read_list.auto.g

pub shape_of-t-then-read_list : goal.shape_of-t-then-read_list
shape_of-t-then-read_list c = c.read_list.auto.t

pub shape_of-c-then-read_list : goal.shape_of-c-then-read_list
shape_of-c-then-read_list c = c.read_list.auto.c

pub returns-then-read_list : goal.returns-then-read_list
returns-then-read_list c =
    let read-list = c.read_list in
    let args = c.args in
    let few : args.q ≤ most_generators = omega arith in
    list_taken _ _ args.s.now _ _ _ _ few read-list.ensures c.if-read_list.true

pub shape_of-g : goal.shape_of-g
shape_of-g c = c.read_list.auto.g

pub shape_of-t : goal.shape_of-t
shape_of-t c = c.read_list.auto.t

pub shape_of-c : goal.shape_of-c
shape_of-c c = c.read_list.auto.c

pub returns : goal.returns
returns c =
    let read-list = c.read_list in
    let args = c.args in
    let few : args.q ≤ most_generators = omega arith in
    list_not _ _ args.s.now _ _ _ _ few read-list.ensures c.if-read_list.false
