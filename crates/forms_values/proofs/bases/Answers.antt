-- `forms_values::bases`: each expected value follows from the contract of the function called. Assumes nothing.
use Rattle.std.proofs.Common.{ap, not, sym, ◌∙◌, ℕ, List, length}
use Rattle.std.proofs.lemmas.Bool.{eq-eqb}
use Rattle.linear.specs.Basis.{reduce}
use Rattle.linear.specs.Entry.{inside}
use Rattle.linear.specs.Word.{word}
use Rattle.bases.specs.Basis.{rows_length}
use Rattle.forms_values.proofs.Values.{reduce_7, basis_635, inside_6, none_6}
use Rattle.forms_values.proofs.bases.Goals as goal

pub expect-requires : goal.expect-requires
expect-requires c = eq-eqb _ 1 (c.reduce_rows.ensures ∙ reduce_7)

pub expect-requires-2 : goal.expect-requires-2
expect-requires-2 c =
    let b = c.basis_of-b in
    eq-eqb _ 2 (sym (rows_length b.result b.ensures.valid) ∙ ap length (b.ensures.is ∙ basis_635))

pub expect-requires-3 : goal.expect-requires-3
expect-requires-3 c =
    eq-eqb _ 1 (c.reduce.ensures ∙ ap (λ (B : List ℕ). reduce word B 7) (c.basis_of-b.ensures.is ∙ basis_635) ∙ reduce_7)

pub expect-requires-4 : goal.expect-requires-4
expect-requires-4 c = c.contains.ensures ∙ ap (λ (B : List ℕ). inside word B 6) (c.basis_of-b.ensures.is ∙ basis_635) ∙ inside_6

pub expect-requires-5 : goal.expect-requires-5
expect-requires-5 c = ap not (c.contains-2.ensures ∙ ap (λ (B : List ℕ). inside word B 6) c.empty.ensures.is ∙ none_6)
