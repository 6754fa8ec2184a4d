-- A loop that takes steps: those ahead, taken, give the final state.
--   Ahead step Good final xs s == so it is at the state s, which is good, with the steps for xs ahead
--   ahead_as                      what is ahead is otherwise written
--   ahead_past                    the first steps are taken
--   ahead_full, ahead_none        no step changes anything, or none is ahead: the state is the final one
-- Assumes nothing.
use Rattle.std.specs.Prelude.{◌≡◌, List, [], ◌++◌}
use Rattle.std.proofs.Common.{sym, ◌∙◌}
use Rattle.std.proofs.Math.Path.{ap}
use Rattle.records.specs.Records.{State, runs}
use Rattle.records.specs.laws.Records.{runs_append, runs_still}

pub record Ahead {A : Type 0} (step : State → A → State) (Good : State → Type 0) (final : State) (xs : List A) (s : State) : Type 0 where
  pub rest : runs step s xs ≡ final
  pub good : Good s

module _ {A : Type 0} {step : State → A → State} {Good : State → Type 0} {final : State} {xs : List A} {s : State} (H : Ahead step Good final xs s) where
  pub ahead_as : {ys : List A} → xs ≡ ys → Ahead step Good final ys s
  ahead_as e = record { rest = ap (runs step s) (sym e) ∙ H.rest; good = H.good }

  pub ahead_past : (ps qs : List A) → xs ≡ ps ++ qs → {s' : State} → s' ≡ runs step s ps → Good s' → Ahead step Good final qs s'
  ahead_past ps qs e q g =
      record { rest = ap (λ (x : State). runs step x qs) q ∙ sym (runs_append step s ps qs) ∙ ap (runs step s) (sym e) ∙ H.rest; good = g }

  pub ahead_full : ((x : A) → step s x ≡ s) → s ≡ final
  ahead_full h = sym (runs_still step s xs h) ∙ H.rest

  pub ahead_none : xs ≡ [] → s ≡ final
  unfolding runs
  ahead_none e = ap (runs step s) (sym e) ∙ H.rest
