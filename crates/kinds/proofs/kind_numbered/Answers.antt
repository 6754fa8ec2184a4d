-- `kinds::kind_numbered` meets its contract. Assumes nothing.
use borrow.Author.Tests.{ne_eqb}
use mathlib.Core.Path.{◌≡◌, sym, ap, ◌∙◌}
use Rattle.std.specs.Prelude.{Some}
use Prim.Native.Nat.{ℕ}
use Rattle.kinds.specs.Kinds.{number_of, kind_numbered, kind_numbered_law}
use Rattle.kinds.specs.declared.Kind.{Kind}
use Rattle.kinds.specs.declared.Kind.TheVariants as kind
use Rattle.kinds.proofs.kind_numbered.Goals as goal

numbered : {x : ℕ} (kd : Kind) → x ≡ number_of kd → kind_numbered x ≡ Some kd
numbered kd e = ap kind_numbered e ∙ kind_numbered_law kd

pub returns-in-0 : goal.returns-in-0
returns-in-0 c = numbered kind.Poly c.in-0.is

pub returns-in-1 : goal.returns-in-1
returns-in-1 c = numbered kind.Short c.in-1.is

pub returns-in-2 : goal.returns-in-2
returns-in-2 c = numbered kind.Circ c.in-2.is

pub returns-in-3 : goal.returns-in-3
returns-in-3 c = numbered kind.Mat c.in-3.is

pub returns-in-4 : goal.returns-in-4
returns-in-4 c = numbered kind.List c.in-4.is

pub returns-in-5 : goal.returns-in-5
returns-in-5 c = numbered kind.Mid c.in-5.is

pub returns-in_default : goal.returns-in_default
unfolding kind_numbered
returns-in_default c =
    let x = c.args.number in
    let rest = c.in_default.in_default-own.rest in
    rw (
      ne_eqb 0 x (λ e. rest.0.0.0.0.0.1 (sym e)),
      ne_eqb 1 x (λ e. rest.0.0.0.0.1 (sym e)),
      ne_eqb 2 x (λ e. rest.0.0.0.1 (sym e)),
      ne_eqb 3 x (λ e. rest.0.0.1 (sym e)),
      ne_eqb 4 x (λ e. rest.0.1 (sym e)),
      ne_eqb 5 x (λ e. rest.1 (sym e)),
    )
