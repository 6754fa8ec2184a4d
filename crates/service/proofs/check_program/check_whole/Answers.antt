-- `service::check_program::check_whole` meets its contract. Assumes nothing.
use mathlib.Core.Path.{◌∙◌}
use native.Mathlib.Omega.{arith}
use Rattle.printing.specs.fields.RefusedText.{refused_text}
use Rattle.service.specs.check_program.laws.Program.{bytes_most, reply_most, refused_length, print_text, print_refusal, program_long, program_short}
use Rattle.service.proofs.check_program.check_whole.Goals as goal

pub returns-then-file-gt-FILE_BYTES : goal.returns-then-file-gt-FILE_BYTES
returns-then-file-gt-FILE_BYTES c =
    let args = c.args in
    let pre = c.requires in
    let refused-text = c.refused_text in (
      program_long args.file.now args.out.now _ _ pre (omega arith) refused-text.ensures.0 refused-text.ensures.1,
      (let e = refused-text.ensures.0 in let m = bytes_most (refused_text 1) args.out.now pre in omega arith),
    )

pub returns-then-n-gt35 : goal.returns-then-n-gt35
returns-then-n-gt35 c =
    let args = c.args in
    let pre = c.requires in
    let gijpsando-check = c.gijpsando_check-n in (
      print_text args.file.now args.out.now _ _ pre gijpsando-check.ensures.0 gijpsando-check.ensures.1 (omega arith) ∙ program_short
          args.file.now (omega arith),
      (let e = gijpsando-check.ensures.0 in let m = reply_most args.file.now args.out.now in omega arith),
    )

pub returns-else-n-gt35 : goal.returns-else-n-gt35
returns-else-n-gt35 c =
    let args = c.args in
    let pre = c.requires in
    let gijpsando-check = c.gijpsando_check-n in
    let refused-text2 = c.refused_text-else-n-gt35 in (
      print_refusal args.file.now args.out.now _ _ gijpsando-check.result _ pre gijpsando-check.ensures.0 gijpsando-check.ensures.1
          (omega arith) refused-text2.ensures.0 refused-text2.ensures.1
          ∙ program_short args.file.now (omega arith),
      (let e = refused-text2.ensures.0 in
          let l = refused_length args.file.now args.out.now gijpsando-check.new.out pre gijpsando-check.ensures.1
          (let h = gijpsando-check.ensures.0 in omega arith) in
          let m = bytes_most (refused_text gijpsando-check.result) gijpsando-check.new.out l in omega arith),
    )
