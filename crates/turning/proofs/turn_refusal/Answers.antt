-- `turning::turn_refusal` meets its contract. Assumes nothing.
use Rattle.std.specs.Prelude.{refl, not, Option, None, Some}
use Rattle.std.specs.Option.{option_eq}
use Rattle.std.proofs.Common.{◌≡◌, sym, ap, ◌∙◌, eq-eqb, ne_eqb}
use Rattle.kinds.specs.declared.Kind.{Kind}
use Rattle.kinds.specs.declared.Kind.TheVariants as kind
use Rattle.kinds.specs.contracts.KindPartialEq.TheImpl as equality
use Rattle.kinds.specs.Sizes.{sizes}
use Rattle.kinds.specs.laws.Sizes.{poly_some}
use Rattle.turning.specs.Turning.{is_poly}
use Rattle.turning.proofs.laws.Refusals.{turnable_as}
use Rattle.turning.proofs.turn_refusal.Goals as goal

-- a kind that is not known to be poly is unlike it, and the other way round
unlike_poly : (known : Option Kind) → not (option_eq (equality.eq-value.it) known (Some kind.Poly)) ≡ not (is_poly known)
unlike_poly None = refl
unlike_poly (Some kind.Poly) = refl
unlike_poly (Some kind.Short) = refl
unlike_poly (Some kind.Circ) = refl
unlike_poly (Some kind.Mat) = refl
unlike_poly (Some kind.List) = refl
unlike_poly (Some kind.Mid) = refl

pub returns-then-ne : goal.returns-then-ne
returns-then-ne c = turnable_as _ _ _ _ (sym (unlike_poly c.args.known) ∙ sym c.ne.ensures ∙ c.if-ne.true) refl refl refl

pub returns-in_default : goal.returns-in_default
returns-in_default c =
    turnable_as _ _ _ _ (sym (unlike_poly c.args.known) ∙ sym c.ne.ensures ∙ c.if-ne.false) (c.sizes_of.ensures ∙ c.in_default.is) refl refl

pub returns-then-p-q : goal.returns-then-p-q
returns-then-p-q c =
    turnable_as _ _ _ _ (sym (unlike_poly c.args.known) ∙ sym c.ne.ensures ∙ c.if-ne.false) (c.sizes_of.ensures ∙ c.in-Some.is)
    (ne_eqb _ _ c.if-p-q.true) refl

pub middle-requires : goal.middle-requires
middle-requires c = let W = (poly_some _ _ _ _ (c.sizes_of.ensures ∙ c.in-Some.is)).1 in (W.first, W.first_most)

pub returns-in_default-sizes_of : goal.returns-in_default-sizes_of
returns-in_default-sizes_of c =
    turnable_as _ _ _ _ (sym (unlike_poly c.args.known) ∙ sym c.ne.ensures ∙ c.if-ne.false) (c.sizes_of.ensures ∙ c.in-Some.is)
    (eq-eqb _ _ c.if-p-q.false) (ap sizes (sym c.middle.ensures) ∙ c.sizes_of-2.ensures ∙ c.in_default-sizes_of.is)

pub returns : goal.returns
returns c =
    turnable_as _ _ _ _ (sym (unlike_poly c.args.known) ∙ sym c.ne.ensures ∙ c.if-ne.false) (c.sizes_of.ensures ∙ c.in-Some.is)
    (eq-eqb _ _ c.if-p-q.false) (ap sizes (sym c.middle.ensures) ∙ c.sizes_of-2.ensures ∙ c.in-Some-sizes_of.is)
