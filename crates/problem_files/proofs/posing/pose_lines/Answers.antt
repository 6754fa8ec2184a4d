-- `problem_files::posing::pose_lines` meets its contract. Assumes nothing.
use Rattle.problem_files.proofs.laws.of_posing.Steps.{lines_refused, lines_posed}
use Rattle.problem_files.proofs.posing.pose_lines.Goals as goal

pub shape_of-gs-then-e-ne0 : goal.shape_of-gs-then-e-ne0
shape_of-gs-then-e-ne0 c = c.read_lines-e.auto.g

pub shape_of-ts-then-e-ne0 : goal.shape_of-ts-then-e-ne0
shape_of-ts-then-e-ne0 c = c.read_lines-e.auto.t

pub shape_of-cs-then-e-ne0 : goal.shape_of-cs-then-e-ne0
shape_of-cs-then-e-ne0 c = c.read_lines-e.auto.c

pub returns-then-e-ne0 : goal.returns-then-e-ne0
returns-then-e-ne0 c =
    let args = c.args in
    let read-lines = c.read_lines-e in
    lines_refused args.shape args.k args.n args.m args.s.now _ _ _ _ _ _ read-lines.ensures c.if-e-ne0.true

pub returns : goal.returns
returns c =
    let args = c.args in
    let pre = c.requires in
    let read-lines = c.read_lines-e in
    let if1 = c.if-e-ne0 in
    let handed = c.handed-c in
    let handed2 = c.handed-d in
    let first-words = c.first_words in
    let first-words2 = c.first_words-2 in
    let pose-handed = c.pose_handed in
    lines_posed args.shape args.k args.n args.m args.s.now _ _ _ _ _ _ read-lines.ensures if1.false handed.ensures
    handed2.ensures first-words.ensures first-words2.ensures pre.0.few pose-handed.result pose-handed.ensures
