-- `maps::sum_of_pairs` meets its contract: after s turns the form has its coordinates below s. Assumes nothing.
use mathlib.Core.Path.{◌≡◌, refl, sym, ap, ◌∙◌}
use Prim.Native.Nat.{ℕ, ◌*◌, ◌<◌}
use native.Mathlib.Omega.{arith}
use Rattle.std.proofs.lemmas.Nat.{xor_comm}
use Rattle.forms.specs.products.Product.{form_of}
use Rattle.maps.specs.Target.{target_form}
use Rattle.maps.specs.Accepted.{accepted_fits, accepted_terms}
use Rattle.forms.specs.products.laws.Product.{form_set, form_unset}
use Rattle.maps.proofs.Pairing.{tests}
use Rattle.maps.proofs.sum_of_pairs.Goals as goal
use Rattle.maps.proofs.sum_of_pairs.Goals.{else-is_pair, then-is_pair}

pub overflow_mul-s-end : goal.overflow_mul-s-end
overflow_mul-s-end c =
    let a = c.args in
    record { fits = omega (arith, (accepted_fits a.shape a.n a.m a.t c.requires).product) }

pub loop-s-init : goal.loop-s-init
unfolding form_of
loop-s-init c = record { least = omega arith; made = refl }

pub nonzero_div-s : goal.nonzero_div-s
nonzero_div-s c = let a = c.args in (accepted_fits a.shape a.n a.m a.t c.requires).second

pub nonzero_rem-s : goal.nonzero_rem-s
nonzero_rem-s c = let a = c.args in (accepted_fits a.shape a.n a.m a.t c.requires).second

pub is_pair-requires : goal.is_pair-requires
is_pair-requires c =
    let a = c.args in
    accepted_terms a.shape a.n a.m a.t c.requires c.loop-s.s c.loop-s-test.true

pub overflow_shl-form : goal.overflow_shl-form
overflow_shl-form c =
    let a = c.args in
    omega (arith, (accepted_fits a.shape a.n a.m a.t c.requires).product)

pub loop-s-preserved : goal.loop-s-preserved
loop-s-preserved c =
    let a = c.args in
    let l = c.loop-s in
    let b = (accepted_fits a.shape a.n a.m a.t c.requires).product in
    let h : l.s < a.n * a.m = c.loop-s-test.true in
    let q = c.is_pair.ensures in
    record {
      least = omega arith;
      made =
          elim c.if-is_pair.branch [
            | then-is_pair w ↦ w.form-is ∙ xor_comm l.form _ ∙ form_set (tests a.shape a.m a.t) l.s l.form l.invariant.made (sym q ∙
                w.if-is_pair.true) (omega arith)
            | else-is_pair w ↦ w.form-is ∙ form_unset (tests a.shape a.m a.t) l.s l.form l.invariant.made (sym q ∙
                w.if-is_pair.false)
          ];
    }

pub returns : goal.returns
unfolding target_form
returns c =
    let a = c.args in
    let l = c.loop-s in
    let i = l.invariant.least in
    let e : l.s ≡ a.n * a.m = omega arith in
    l.invariant.made ∙ ap (λ (w : ℕ). form_of w (tests a.shape a.m a.t)) e
