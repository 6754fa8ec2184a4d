-- `formula_check::admit` meets its contract. Assumes nothing.
use Rattle.std.proofs.Common.{ap, ◌∙◌, arith}
use Rattle.kinds.specs.Kinds.{known_map}
use Rattle.formula_check.proofs.laws.Admission.{unlike_a, unlike_b, unlike_rows, passed_not, passed_is}
use Rattle.formula_check.proofs.laws.Admission.{admit_2, admit_3, admit_5, admit_alike}
use Rattle.formula_check.proofs.admit.Goals as goal
use Rattle.formula_check.proofs.admit.Goals.{then-a-k-via-then-a-k, then-a-k-via-else-a-k+then-b-k, then-a-k-via-else-a-k+else-b-k+then-rows-u}

pub returns-in_default : goal.returns-in_default
returns-in_default c = admit_2 _ _ _ _ _ _ _ _ (ap known_map c.kind_numbered.ensures ∙ c.known_map.ensures ∙ c.in_default.is)

pub returns-in_default-sizes_of : goal.returns-in_default-sizes_of
returns-in_default-sizes_of c =
    admit_3 _ _ _ _ _ _ _ _ c.in-Some.kind (ap known_map c.kind_numbered.ensures ∙ c.known_map.ensures ∙ c.in-Some.is)
    (c.sizes_of.ensures ∙ c.in_default-sizes_of.is)

pub returns-then-a-k : goal.returns-then-a-k
returns-then-a-k c =
    admit_5 _ _ _ _ _ _ _ _ c.in-Some.kind (ap known_map c.kind_numbered.ensures ∙ c.known_map.ensures ∙ c.in-Some.is)
    _ _ _ (c.sizes_of.ensures ∙ c.in-Some-sizes_of.is)
    (elim c.then-a-k.branch [
      | then-a-k-via-then-a-k w ↦ unlike_a _ _ _ _ _ w.if-a-k.true
      | then-a-k-via-else-a-k+then-b-k w ↦ unlike_b _ _ _ _ _ w.if-b-k.true
      | then-a-k-via-else-a-k+else-b-k+then-rows-u w ↦ unlike_rows _ _ _ _ _ w.if-rows-u.true
    ])

pub returns-then-e-ne0 : goal.returns-then-e-ne0
returns-then-e-ne0 c =
    admit_alike _ _ _ _ _ _ _ _ c.in-Some.kind (ap known_map c.kind_numbered.ensures ∙ c.known_map.ensures ∙ c.in-Some.is)
    _ _ _ (c.sizes_of.ensures ∙ c.in-Some-sizes_of.is) (omega arith) (omega arith) (omega arith)
    ∙ passed_not _ _ _ _ _ _ _ _ _ c.refusal-e.result c.too_wide.ensures c.zero_factor.ensures c.refusal-e.ensures c.if-e-ne0.true

pub returns : goal.returns
returns c =
    admit_alike _ _ _ _ _ _ _ _ c.in-Some.kind (ap known_map c.kind_numbered.ensures ∙ c.known_map.ensures ∙ c.in-Some.is)
    _ _ _ (c.sizes_of.ensures ∙ c.in-Some-sizes_of.is) (omega arith) (omega arith) (omega arith)
    ∙ (passed_is _ _ _ _ _ _ _ _ _ c.refusal-e.result c.too_wide.ensures c.zero_factor.ensures c.refusal-e.ensures c.if-e-ne0.false).0
