-- `space_formulae::formulae_for` meets its contract. Assumes nothing.
use native.Mathlib.Omega.{arith}
use Rattle.bases.specs.Basis.{based_dim}
use Rattle.space_formulae.proofs.laws.Replies.{given_far, given_no, is_accepted, given_yes}
use Rattle.space_formulae.proofs.formulae_for.Goals as goal

pub returns-then-rows-ell : goal.returns-then-rows-ell
returns-then-rows-ell c =
    let args = c.args in
    given_far args.gens.now args.targets.now args.rows.now args.out.now
    (let d = based_dim args.targets.now c.basis_of-ell.result c.basis_of-ell.ensures in let h = c.if-rows-ell.true in omega arith)

pub returns-then-not-is_entry : goal.returns-then-not-is_entry
returns-then-not-is_entry c =
    let args = c.args in
    let basis-of = c.basis_of-ell in
    given_no args.gens.now args.targets.now args.rows.now args.out.now
    (let d = based_dim args.targets.now basis-of.result basis-of.ensures in let h = c.if-rows-ell.false in omega arith)
    c.is_entry.result c.is_entry.ensures c.if-not-is_entry.true-raw

pub list_space-requires : goal.list_space-requires
list_space-requires c =
    let args = c.args in
    let pre = c.requires in
    let basis-of = c.basis_of-ell in
    let if1 = c.if-rows-ell in
    let is_entry_law = c.is_entry in
    is_accepted args.gens.now args.targets.now args.rows.now args.out.now
    (let d = based_dim args.targets.now basis-of.result basis-of.ensures in let h = if1.false in omega arith) is_entry_law.result
    is_entry_law.ensures c.if-not-is_entry.false-raw pre

pub returns : goal.returns
returns c =
    let args = c.args in
    let basis-of = c.basis_of-ell in
    let if1 = c.if-rows-ell in
    let is_entry_law = c.is_entry in
    let if2 = c.if-not-is_entry in
    let list-space = c.list_space in
    given_yes args.gens.now args.targets.now args.rows.now args.out.now
    (let d = based_dim args.targets.now basis-of.result basis-of.ensures in let h = if1.false in omega arith) is_entry_law.result
    is_entry_law.ensures if2.false-raw list-space.result _ list-space.ensures
