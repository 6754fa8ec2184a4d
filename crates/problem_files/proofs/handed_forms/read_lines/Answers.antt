-- `problem_files::handed_forms::read_lines` meets its contract. Assumes nothing.
use mathlib.Core.Path.{sym, ◌∙◌}
use Rattle.problem_files.proofs.laws.of_handed_forms.Lines.{ready_list, body_list, body_map}
use Rattle.problem_files.proofs.handed_forms.read_lines.Goals as goal

pub list_lines-requires : goal.list_lines-requires
list_lines-requires c =
    let is-list = c.is_list in
    let args = c.args in
    let pre = c.requires in
    ready_list args.shape args.g.now args.t.now args.c.now pre (sym is-list.ensures ∙ c.if-is_list.true)

pub shape_of-g-then-is_list : goal.shape_of-g-then-is_list
shape_of-g-then-is_list c = c.list_lines.auto.g

pub shape_of-t-then-is_list : goal.shape_of-t-then-is_list
shape_of-t-then-is_list c = c.list_lines.auto.t

pub shape_of-c-then-is_list : goal.shape_of-c-then-is_list
shape_of-c-then-is_list c = c.list_lines.auto.c

pub returns-then-is_list : goal.returns-then-is_list
returns-then-is_list c =
    let args = c.args in
    let is-list = c.is_list in
    let if1 = c.if-is_list in
    let list-lines = c.list_lines in
    let last = list-lines.new in
    body_list args.shape args.n args.m args.s.now last.g last.t last.c list-lines.result
    (sym is-list.ensures ∙ if1.true) list-lines.ensures

pub returns : goal.returns
returns c =
    let args = c.args in
    body_map args.shape args.n args.m args.s.now args.g.now args.t.now args.c.now c.map_lines.result
    (sym c.is_list.ensures ∙ c.if-is_list.false) c.map_lines.ensures
