-- The length of a Check's text.
--   check_text_long   it is above 35, and so above every refusal's number
-- Document 01: "the reply is the count of bytes written (always above 35) or a refusal's number". Assumes nothing.
use Rattle.std.specs.Prelude.{ℕ, ◌<◌, [], ◌∷◌, ◌++◌, length}
use Rattle.std.proofs.Common.{arith, length-append}
use Rattle.kinds.specs.declared.Shape.{Shape}
use Rattle.text.specs.Line.{LF}
use Rattle.formula_check.specs.declared.verdicts.Verdict.{Verdict}
use Rattle.check_text.specs.replies.CheckText.{check_names, verdict_text, check_text}
use Rattle.printing.specs.fields.Fields.{sizes_text, field_text}

pub check_text_long : (shape : Shape) (k : ℕ) (v : Verdict) (adders : ℕ) → 35 < length (check_text shape k v adders)
unfolding check_text
check_text_long shape k v adders =
    let a = check_names ++ sizes_text shape k in
    let b = a ++ verdict_text v in
    let c = b ++ field_text adders in
    omega (
      arith,
      length-append c (LF ∷ []),
      length-append b (field_text adders),
      length-append a (verdict_text v),
      length-append check_names (sizes_text shape k),
    )
