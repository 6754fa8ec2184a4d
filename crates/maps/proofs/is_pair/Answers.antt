-- `maps::is_pair` meets its contract, kind by kind. Assumes nothing.
use Rattle.std.proofs.Common.{◌≡◌, ℕ, Bool, refl, sym, ap, ◌∙◌, inl, inr, eq-eqb, eqb-true}
use Rattle.kinds.specs.declared.Kind.{Kind}
use Rattle.kinds.specs.declared.Shape.{Shape}
use Rattle.maps.specs.Target.{pair_for, pair}
use Rattle.maps.proofs.Pairing.{mat_as}
use Rattle.maps.proofs.is_pair.Goals as goal
use Rattle.maps.proofs.is_pair.Goals.{then-i-shape, else-i-shape}

-- the test is that of the kind
of_kind : (shape : Shape) (t i j : ℕ) {k : Kind} → shape.kind ≡ k → {b : Bool} → b ≡ pair_for k shape.p shape.q shape.r t i j → b ≡ pair shape t i j
of_kind shape t i j e h = h ∙ sym (ap (λ (k : Kind). pair_for k shape.p shape.q shape.r t i j) e)

pub returns-in-Poly : goal.returns-in-Poly
unfolding pair_for
returns-in-Poly c =
    let a = c.args in
    elim c.in-Poly.is [ inl e ↦ of_kind a.shape a.t a.i a.j e refl | inr e ↦ of_kind a.shape a.t a.i a.j e refl ]

pub returns-in-Circ : goal.returns-in-Circ
unfolding pair_for
returns-in-Circ c = let a = c.args in of_kind a.shape a.t a.i a.j c.in-Circ.is refl

pub returns-then-i-shape-2 : goal.returns-then-i-shape-2
returns-then-i-shape-2 c =
    let a = c.args in
    elim c.if-i-shape.branch [
      | then-i-shape w ↦
          of_kind a.shape a.t a.i a.j c.in-Mat.is
          (sym (mat_as a.shape.p a.shape.q a.shape.r a.t a.i a.j (eq-eqb _ _ w.if-i-shape.true) (sym w.value-is ∙ c.if-i-shape-2.true)))
      | else-i-shape w ↦ absurd (w.if-i-shape.false (eqb-true _ _ (sym w.value-is ∙ c.if-i-shape-2.true)))
    ]

pub returns-else-i-shape-2 : goal.returns-else-i-shape-2
returns-else-i-shape-2 c =
    let a = c.args in
    let none = c.if-i-shape-2.false in
    elim c.if-i-shape.branch [
      | then-i-shape w ↦
          of_kind a.shape a.t a.i a.j c.in-Mat.is
          (none ∙ sym (mat_as a.shape.p a.shape.q a.shape.r a.t a.i a.j (eq-eqb _ _ w.if-i-shape.true) (sym w.value-is ∙ none)))
      | else-i-shape w ↦
          of_kind a.shape a.t a.i a.j c.in-Mat.is
          (none ∙ sym (mat_as a.shape.p a.shape.q a.shape.r a.t a.i a.j (sym w.value-is ∙ none) refl))
    ]

pub returns-in-List : goal.returns-in-List
unfolding pair_for
returns-in-List c = let a = c.args in of_kind a.shape a.t a.i a.j c.in-List.is refl

pub returns-in-Mid : goal.returns-in-Mid
unfolding pair_for
returns-in-Mid c = let a = c.args in of_kind a.shape a.t a.i a.j c.in-Mid.is refl
