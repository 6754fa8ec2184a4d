-- `catalogue::meeting::cheapest_formula` meets its contract. Assumes nothing.
use mathlib.Core.Path.{◌≡◌, ap}
use Prim.Native.Nat.{ℕ}
use mathlib.Core.Bool.{not}
use borrow.Author.Tests.{eq-eqb, ne_eqb}
use native.Mathlib.Omega.{arith}
use lib.Dec.{eqb}
use Rattle.records.specs.Keep.{state_of}
use Rattle.catalogue.proofs.laws.of_meeting.Meeting.{met_entries}
use Rattle.catalogue.proofs.laws.of_meeting.Cheapest.{cheapest_met, formula_length}
use Rattle.catalogue.specs.declared.noting.Aim.TheVariants as aim
use Rattle.catalogue.proofs.meeting.cheapest_formula.Goals as goal

not_none : {n : ℕ} → n ≡ 1 → n ≡ 0 → ⊥
not_none o z = omega (arith, o, z)

pub meet_all-t-requires : goal.meet_all-t-requires
meet_all-t-requires c =
    let A = c.requires in
    record { small = A.small; valid = A.valid; least = A.least; near = A.near; menu = A.priced; steady = A.room }

pub shape_of-held : goal.shape_of-held
shape_of-held c = c.meet_all-t.auto.out

pub returns : goal.returns
returns c targets B =
    let a = c.args in
    let A = c.requires in
    let M = c.meet_all-t in
    let gens = a.gens.now in
    let last = M.new.out in
    cheapest_met gens a.order.now a.prices.now a.k targets (state_of M.result last) a.held.now (not (eqb M.result.found 0))
    (formula_length gens a.order.now a.prices.now targets a.k A.by_price_law A.priced.each A.small)
    (met_entries gens a.b a.k aim.Cheapest a.order.now a.prices.now a.held.now last M.result A.least M.ensures targets B)
    (λ z. ap not (eq-eqb M.result.found 0 z)) (λ o. ap not (ne_eqb M.result.found 0 (not_none o)))
