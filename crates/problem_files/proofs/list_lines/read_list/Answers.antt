-- `problem_files::list_lines::read_list` meets its contract. Assumes nothing.
use Rattle.kinds.specs.Limits.{most_cost}
use Rattle.std.proofs.Common.{◌+◌}
use Rattle.text.specs.laws.Line.{read_at, field_at, fits_at}
use Rattle.problem_files.specs.list_lines.Roles.{generator_role, target_role, target_cost, role_lines}
use Rattle.problem_files.proofs.laws.of_list_lines.Body.{list_1, list_2, list_3, list_is, ended_is}
use Rattle.problem_files.proofs.list_lines.read_list.Goals as goal

pub returns-in_default : goal.returns-in_default
returns-in_default c = list_1 _ _ _ c.in_default.ensures.0

pub returns-in_default-read_roles : goal.returns-in_default-read_roles
returns-in_default-read_roles c =
    list_2 _ _ _ _ c.in-Some.ensures.0
    (read_at (role_lines generator_role most_cost c.args.q) c.args.s.now c.in-Some.used _ c.in_default-read_roles.ensures.0)

pub returns-in_default-read_roles-2 : goal.returns-in_default-read_roles-2
returns-in_default-read_roles-2 c =
    let s = c.args.s.now in
    let generators = field_at (role_lines generator_role most_cost c.args.q) s c.in-Some.used _ c.in-Some-read_roles.v c.in-Some-read_roles.ensures.0 in
    list_3 _ _ _ _ _ _ _ c.in-Some.ensures.0 generators
    (read_at (role_lines target_role target_cost c.args.r) s (c.in-Some.used + c.in-Some-read_roles.v) _ c.in_default-read_roles-2.ensures.0)

pub returns : goal.returns
returns c =
    let s = c.args.s.now in
    let e = c.in-Some.used + c.in-Some-read_roles.v in
    let w = c.in-Some-read_roles-2.w in
    let generators = field_at (role_lines generator_role most_cost c.args.q) s c.in-Some.used _ c.in-Some-read_roles.v c.in-Some-read_roles.ensures.0 in
    let targets = field_at (role_lines target_role target_cost c.args.r) s e _ w c.in-Some-read_roles-2.ensures.0 in
    list_is _ _ _ _ _ _ _ _ _ _ _ c.in-Some.ensures.0 generators targets
    (ended_is s _ (fits_at s e w (fits_at s _ _ c.in-Some.ensures.1 c.in-Some-read_roles.ensures.1) c.in-Some-read_roles-2.ensures.1))
