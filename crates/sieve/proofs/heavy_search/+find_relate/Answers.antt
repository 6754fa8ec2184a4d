-- `sieve::heavy_search::find` and `relate` meet their contracts, by recursion on the number of missing dimensions: heavier numbers are gone, and what is left
-- has short relations. Assumes nothing.
use mathlib.Core.Path.{◌≡◌, sym, ap, ◌∙◌, subst}
use mathlib.Core.Logic.{◌≢◌}
use mathlib.Core.Bool.{Bool, cond}
use mathlib.Core.List.{List}
use Prim.Native.Nat.{ℕ, ◌+◌, ◌-◌, ◌*◌, ◌<◌, ◌≤◌}
use native.Mathlib.Decide.{dec_lt}
use native.Mathlib.Omega.{arith}
use native.Mathlib.Nat.{le_refl}
use lib.Dec.{ltb}
use lib.ListN.{length, take, replicate, length-replicate}
use borrow.Author.Tests.{lt-ltb, le-ltb, not-true, not-false}
use Rattle.residues.specs.Room.{search_room}
use Rattle.residues.specs.children.Found.{Found, FoundBy}
use Rattle.residues.proofs.laws.of_children.Numbers.{ends, inside, within_numbers, next_le, one_fits, eight_fits}
use Rattle.weights.specs.rank_rows.Stretch.{row_room}
use Rattle.sieve.specs.heavy_search.laws.Near.{ready_of}
use Rattle.sieve.specs.heavy_search.laws.Sweep.{sweep_start, sweep_lower, sweep_light, sweep_picked, sweep_end}
use Rattle.sieve.specs.heavy_search.laws.Sweep.{sweep_more, sweep_value, sweep_pairing, sweep_child, sweep_found}
use Rattle.sieve.specs.heavy_search.laws.Relate.{Visited, visit_found, visit_shared, going_start, going_next, going_end}
use Rattle.sieve.specs.heavy_search.laws.Relating.{relate_all, relate_descending, relate_child, sweep_relating, sweep_related}
use Rattle.sieve.specs.heavy_search.laws.Size.{join_sized}
use Rattle.sieve.proofs.heavy_search.+find_relate.Goals as goal
use Rattle.sieve.proofs.heavy_search.+find_relate.Goals.{find-then-near, find-else-near, relate-then-not-t, relate-else-not-t}

-- facts on numbers
before_end : {a b : ℕ} → a ≤ b → a ≢ b → a < b
before_end l n = omega arith

positive : {a r : ℕ} → a < r → 1 ≤ r
positive l = omega arith

lighter : (j i : ℕ) {a r n : ℕ} → a < r → n ≤ search_room → (r - 1) * 4097 + (n - i) < r * 4097 + (n - j)
lighter j i p l = omega arith

fewer : (r : ℕ) {j i n : ℕ} → j < n → j + 1 ≤ i → i ≤ n → r * 4097 + (n - i) < r * 4097 + (n - j)
fewer r a b c = omega arith

less : {a b c : ℕ} → a ≤ b → b ≤ c → a - 1 ≤ c
less p q = omega arith

as_lt : {j n : ℕ} → j < n → n ≤ search_room → j < search_room
as_lt l k = omega arith

as_low : {r a b : ℕ} → r ≤ a → a ≡ b → r ≤ b
as_low l e = omega arith

all_zero : length (replicate {A = ℕ} search_room 0) ≡ search_room
all_zero = length-replicate {A = ℕ} search_room 0

-- the measures: one dimension less, the same with relations, and what a relation puts in
falls_odd : {m t : ℕ} → 2 * m + 1 ≡ t → m ≢ 0 → 2 * (m - 1) + 1 < t
falls_odd e n = omega arith

falls_odd_even : (m : ℕ) {t : ℕ} → 2 * m + 1 ≡ t → 2 * m < t
falls_odd_even m e = omega arith

depth_between : (h n : ℕ) {c : ℕ} → (h < n → c ≡ 3) → (n ≤ h → c ≡ 2) → (1 < c) × (c ≤ 3)
depth_between h n {c} three two = go (dec_lt h n)
  where
    go : Dec (h < n) → (1 < c) × (c ≤ 3)
    go (yes l) = (omega (arith, three l), omega (arith, three l))
    go (no l) = (omega (arith, two (omega arith)), omega (arith, two (omega arith)))

depth_least : (h n : ℕ) {c m : ℕ} → (h < n → c ≡ 3) → (n ≤ h → c ≡ 2) → 3 < m → c ≤ m
depth_least h n three two l = omega (arith, (depth_between h n three two).1)

falls_even : (h n : ℕ) {c m t : ℕ} → (h < n → c ≡ 3) → (n ≤ h → c ≡ 2) → 2 * m ≡ t → 3 < m → 2 * (m - c) + 1 < t
falls_even h n three two e l = omega (arith, (depth_between h n three two).0)

-- how many dimensions a relation puts in
abbrev deep : ℕ → ℕ → ℕ
deep h n = cond (ltb h n) 3 2

deep_three : (h n : ℕ) → h < n → deep h n ≡ 3
deep_three h n l = ap (λ (t : Bool). cond {A = ℕ} t 3 2) (lt-ltb h n l)

deep_two : (h n : ℕ) → n ≤ h → deep h n ≡ 2
deep_two h n l = ap (λ (t : Bool). cond {A = ℕ} t 3 2) (le-ltb h n l)

pub find-returns-then-top-least : goal.find-returns-then-top-least
find-returns-then-top-least t c =
    let a = c.args in
    sweep_light a.gens.now a.h.now a.d.now a.start a.k a.missing a.dead
    c.fill-top.new.w a.marks.now
    c.fill-top.result c.light-least.result c.if-top-least.true
    c.fill-top.ensures.most (sweep_picked a.gens.now a.h.now a.d.now a.start a.k
    a.missing a.s a.dead a.rows.now a.marks.now c.requires
    c.fill-top.new.slots
    c.fill-top.new.w
    c.fill-top.result c.fill-top.ensures
    c.light-least.result c.light-least.ensures)

pub find-loop-r-init : goal.find-loop-r-init
find-loop-r-init t c =
    let a = c.args in (
      sweep_start a.gens.now a.h.now a.d.now a.start a.k a.missing a.dead
          c.fill-top.new.w a.marks.now
          c.fill-top.result c.next_with-j.result c.requires.at.sizes.gone_all
          c.fill-top.ensures.most
          c.next_with-j.ensures,
      c.fill-top.auto.rows ∙
          c.requires.rows_all,
      c.requires.at.sizes.marks_all,
      all_zero,
      all_zero,
      c.fill-top.ensures.low,
    )

pub find-loop-r-preserved-then-j-n : goal.find-loop-r-preserved-then-j-n
find-loop-r-preserved-then-j-n t c =
    let a = c.args in
    let l = c.loop-r in (
      sweep_lower a.gens.now a.h.now a.d.now a.start a.k a.missing a.dead
          c.fill-top.new.w a.marks.now l.r l.j l.gone l.marks
          l.invariant.0 (ends
          c.if-j-n.true) (positive c.loop-r-test.true) c.next_with-j-then-j-n.result
          c.next_with-j-then-j-n.ensures,
      l.invariant.1,
      l.invariant.2,
      l.invariant.3,
      l.invariant.4,
      less {a = l.r} {b = l.r} (le_refl _) l.invariant.5,
    )

pub find-offset_bounds-d-j : goal.find-offset_bounds-d-j
find-offset_bounds-d-j t c =
    let l = c.loop-r in
    eight_fits (before_end l.invariant.0.to c.if-j-n.false) c.requires.at.sizes.few

pub find-bounds-d-j : goal.find-bounds-d-j
find-bounds-d-j t c =
    let l = c.loop-r in
    inside (sym c.requires.at.sizes.over) (before_end l.invariant.0.to
    c.if-j-n.false)

pub find-near-requires : goal.find-near-requires
find-near-requires t c =
    let a = c.args in
    let l = c.loop-r in
    let q = (before_end l.invariant.0.to c.if-j-n.false) in (
      sweep_pairing a.gens.now a.h.now a.d.now a.start a.k a.missing a.s a.dead a.rows.now a.marks.now
          c.requires c.fill-top.new.slots
          c.fill-top.new.w
          c.fill-top.result c.fill-top.ensures l.r l.j l.gone
          l.marks l.invariant.0 q
          c.floor-low.result c.loop-r-test.true l.picks l.mine
          c.fill-top.auto.w l.invariant.3 l.invariant.4 l.invariant.2,
      ready_of a.gens.now a.d.now l.j a.s l.gone c.take-t.result
          (sweep_value a.gens.now a.h.now a.d.now a.start a.k a.missing a.s a.dead a.rows.now a.marks.now
          c.requires c.fill-top.new.slots
          c.fill-top.new.w
          c.fill-top.result c.fill-top.ensures l.r l.j l.gone
          l.marks l.invariant.0 q
          c.floor-low.result c.loop-r-test.true)
          c.requires.at.held
          c.take-t.ensures,
      c.requires.some,
    )

pub find-find-requires : goal.find-find-requires
find-find-requires t c =
    let a = c.args in
    let l = c.loop-r in
    let q = (before_end l.invariant.0.to c.if-j-n.false) in
    let N = c.near.ensures in
    let e = c.if-near.true in (
      falls_odd c.decreases c.requires.some,
      sweep_child a.gens.now a.h.now a.d.now a.start a.k a.missing a.s a.dead a.rows.now a.marks.now
          c.requires c.fill-top.new.slots
          c.fill-top.new.w c.fill-top.result
          c.fill-top.ensures l.r l.j l.gone l.marks l.invariant.0 q
          c.floor-low.result
          c.loop-r-test.true (N.deep e)
          c.near.new.mine (N.child e)
          c.take-t.result.basis ((ready_of a.gens.now a.d.now l.j a.s l.gone
          c.take-t.result (sweep_value a.gens.now a.h.now a.d.now a.start a.k
          a.missing a.s a.dead a.rows.now a.marks.now c.requires
          c.fill-top.new.slots
          c.fill-top.new.w c.fill-top.result
          c.fill-top.ensures l.r l.j l.gone l.marks l.invariant.0 q
          c.floor-low.result c.loop-r-test.true) c.requires.at.held
          c.take-t.ensures).held (N.basis e)) l.rows
          c.near.new.marks l.invariant.1
          (c.near.auto.marks ∙ l.invariant.2),
    )

pub find-bounds-gone-j : goal.find-bounds-gone-j
find-bounds-gone-j t c =
    let l = c.loop-r in
    as_lt (before_end l.invariant.0.to c.if-j-n.false)
    c.requires.at.sizes.few

pub find-overflow_add-j : goal.find-overflow_add-j
find-overflow_add-j t c =
    let l = c.loop-r in
    one_fits (before_end l.invariant.0.to c.if-j-n.false)
    c.requires.at.sizes.few

pub find-next_with-j-requires-else-j-n : goal.find-next_with-j-requires-else-j-n
find-next_with-j-requires-else-j-n t c =
    let l = c.loop-r in (
      next_le (before_end l.invariant.0.to c.if-j-n.false),
      within_numbers c.requires.at.sizes.few
          c.fill-top.auto.w,
    )

pub find-loop-r-smaller : goal.find-loop-r-smaller
find-loop-r-smaller t c =
    let l = c.loop-r in
    fewer l.r (before_end l.invariant.0.to c.if-j-n.false)
    c.next_with-j-else-j-n.ensures.low c.next_with-j-else-j-n.ensures.high

pub find-loop-r-preserved : goal.find-loop-r-preserved
find-loop-r-preserved t c =
    let a = c.args in
    let l = c.loop-r in
    let q = (before_end l.invariant.0.to c.if-j-n.false) in
    let N = c.near.ensures in
    let n = c.next_with-j-else-j-n in
    let v : FoundBy a.gens.now a.h.now a.d.now a.start a.k (a.missing - 1) l.gone l.j l.marks
    c.if-near.marks × (length c.if-near.rows ≡ row_room) × (length c.if-near.marks ≡ search_room) =
    elim c.if-near.branch [
      | find-then-near u ↦ (
        subst (λ (m : List ℕ). FoundBy a.gens.now a.h.now a.d.now a.start a.k (a.missing - 1) l.gone l.j l.marks m) (sym
            u.marks-is)
            (sweep_found a.gens.now a.h.now a.d.now a.start a.k a.missing a.s a.dead a.rows.now a.marks.now
            c.requires c.fill-top.new.slots
            c.fill-top.new.w
            c.fill-top.result
            c.fill-top.ensures l.r l.j l.gone l.marks
            l.invariant.0 q c.floor-low.result
            c.loop-r-test.true
            c.near.new.mine (N.child u.if-near.true)
            u.find.new.marks
            (subst (λ (m : List ℕ). Found a.gens.now a.h.now (take (length a.gens.now)
            c.near.new.mine) a.start a.k
            (a.missing - 1) l.gone m u.find.new.marks) (N.same u.if-near.true) u.find.ensures)),
        ap length u.rows-is ∙ u.find.auto.rows ∙ l.invariant.1,
        ap length u.marks-is ∙ u.find.auto.marks ∙
            c.near.auto.marks ∙ l.invariant.2,
      )
      | find-else-near u ↦ (
        subst (λ (m : List ℕ). FoundBy a.gens.now a.h.now a.d.now a.start a.k (a.missing - 1) l.gone l.j l.marks m) (sym
            u.marks-is) (N.done u.if-near.false),
        ap length u.rows-is ∙ l.invariant.1,
        ap length u.marks-is ∙ c.near.auto.marks ∙ l.invariant.2,
      )
    ] in (
      sweep_more a.gens.now a.h.now a.d.now a.start a.k a.missing a.dead
          c.fill-top.new.w a.marks.now l.r l.j
          l.gone l.marks l.invariant.0 q c.requires.at.sizes.few (sweep_value a.gens.now a.h.now
          a.d.now a.start a.k a.missing
          a.s a.dead a.rows.now a.marks.now c.requires
          c.fill-top.new.slots
          c.fill-top.new.w
          c.fill-top.result
          c.fill-top.ensures l.r l.j l.gone l.marks l.invariant.0 q
          c.floor-low.result
          c.loop-r-test.true) c.if-near.marks v.0
          n.result n.ensures,
      v.1,
      v.2,
      c.near.auto.picks ∙
          l.invariant.3,
      c.near.auto.mine ∙ l.invariant.4,
      l.invariant.5,
    )

pub find-returns-then-size-eq0 : goal.find-returns-then-size-eq0
find-returns-then-size-eq0 t c =
    let a = c.args in
    let l = c.loop-r in
    sweep_end a.gens.now a.h.now a.d.now a.start a.k a.missing a.dead
    c.fill-top.new.w a.marks.now
    l.r l.j l.gone l.marks l.invariant.0 c.light-least.result (as_low c.loop-r-test.false
    (c.floor-low.ensures.0 c.if-size-eq0.true)) (sweep_picked
    a.gens.now a.h.now a.d.now a.start a.k a.missing a.s a.dead a.rows.now a.marks.now
    c.requires
    c.fill-top.new.slots
    c.fill-top.new.w c.fill-top.result
    c.fill-top.ensures c.light-least.result c.light-least.ensures)

pub find-relate-requires : goal.find-relate-requires
find-relate-requires t c =
    let a = c.args in
    let l = c.loop-r in (
      falls_odd_even a.missing c.decreases,
      sweep_relating a.gens.now a.h.now a.d.now a.start a.k a.missing a.s a.dead a.rows.now a.marks.now c.requires
          c.fill-top.new.slots
          c.fill-top.new.w
          c.fill-top.result
          c.fill-top.ensures l.r l.j l.gone l.marks
          l.invariant.0 c.chosen_size-size.result
          c.floor-low.result
          c.chosen_size-size.ensures c.if-size-eq0.false
          (c.floor-low.ensures.1 c.if-size-eq0.false)
          c.loop-r-test.false
          c.fill-top.auto.w l.rows l.invariant.1 l.invariant.2,
    )

pub find-returns : goal.find-returns
find-returns t c =
    let a = c.args in
    let l = c.loop-r in
    sweep_related a.gens.now a.h.now a.d.now a.start a.k a.missing a.s a.dead a.rows.now a.marks.now
    c.requires
    c.fill-top.new.slots c.fill-top.new.w
    c.fill-top.result c.fill-top.ensures l.r l.j l.gone l.marks
    l.invariant.0 c.relate.new.marks c.relate.ensures

pub relate-first_place-u-requires : goal.relate-first_place-u-requires
relate-first_place-u-requires t c =
    let P = c.requires in
    let a = c.args in (
      join_sized a.gens.now a.d.now a.start a.w.now a.gone
          c.values.new.v P.at.sizes.over P.at.sizes.few
          c.values.ensures,
      P.at.sizes.begin,
    )

pub relate-loop-u-init : goal.relate-loop-u-init
relate-loop-u-init t c =
    let P = c.requires in
    let a = c.args in (
      going_start a.gens.now a.h.now a.d.now a.start a.k a.missing a.lines a.gone a.w.now a.marks.now P.at.sizes.over
          c.values.new.v _ c.values.ensures (c.first_words.ensures ∙
          P.at.held.is) c.first_place-u.result
          c.first_place-u.new.heads c.first_place-u.new.links
          c.first_place-u.ensures,
      c.first_place-u.ensures.placed,
      P.rows_all,
      P.at.sizes.marks_all,
      all_zero,
      all_zero,
    )

pub relate-descend-t-requires : goal.relate-descend-t-requires
relate-descend-t-requires t c =
    let a = c.args in
    let l = c.loop-u in
    relate_descending a.gens.now a.h.now a.d.now a.start a.k a.missing a.lines a.s a.gone a.w.now a.rows.now a.marks.now
    c.requires c.values.new.v l.u l.heads
    l.links l.invariant.1 c.loop-u-test.true l.other l.mine l.invariant.4 l.invariant.5

pub relate-find-requires : goal.relate-find-requires
relate-find-requires t c =
    let a = c.args in
    let l = c.loop-u in (
      falls_even l.u.h (length a.gens.now) c.depth.ensures.0 c.depth.ensures.1
          c.decreases c.requires.deep,
      relate_child a.gens.now a.h.now a.d.now a.start a.k a.missing a.lines a.s a.gone a.w.now a.rows.now a.marks.now
          c.requires l.u
          c.descend-t.new.mine
          c.descend-t.result
          c.descend-t.ensures (not-true _ c.if-not-t.true) c.depth.result
          c.depth.ensures.0 c.depth.ensures.1 l.rows l.marks l.invariant.2 l.invariant.3,
    )

pub relate-next_place-u-requires : goal.relate-next_place-u-requires
relate-next_place-u-requires t c =
    (c.loop-u.invariant.1, c.loop-u-test.true)

pub relate-loop-u-smaller : goal.relate-loop-u-smaller
relate-loop-u-smaller t c = c.next_place-u.ensures.falls

pub relate-loop-u-preserved : goal.relate-loop-u-preserved
relate-loop-u-preserved t c =
    let P = c.requires in
    let a = c.args in
    let l = c.loop-u in
    let D = c.descend-t in
    let J = c.if-not-t in
    let n = length a.gens.now in
    let v : Visited a.gens.now a.h.now a.d.now a.start a.k a.missing a.lines a.gone a.w.now l.u l.marks J.marks
    × (length J.rows ≡ row_room) × (length J.marks ≡ search_room) =
    elim J.branch [
      | relate-then-not-t y ↦ (
        subst (λ (m : List ℕ). Visited a.gens.now a.h.now a.d.now a.start a.k a.missing a.lines a.gone a.w.now l.u l.marks m)
            (sym y.marks-is)
            (visit_found a.gens.now a.h.now a.d.now a.start a.k a.missing a.lines a.gone a.w.now l.u P.at.sizes.few
            y.depth.result y.depth.ensures.0 y.depth.ensures.1 l.marks y.find.new.marks
            (subst (λ (e : List ℕ). Found a.gens.now a.h.now e a.start a.k (a.missing - y.depth.result) a.gone l.marks
            y.find.new.marks) D.ensures.is y.find.ensures)),
        ap length y.rows-is ∙ y.find.auto.rows ∙ l.invariant.2,
        ap length y.marks-is ∙ y.find.auto.marks ∙ l.invariant.3,
      )
      | relate-else-not-t y ↦ (
        subst (λ (m : List ℕ). Visited a.gens.now a.h.now a.d.now a.start a.k a.missing a.lines a.gone a.w.now l.u l.marks m)
            (sym y.marks-is)
            (visit_shared a.gens.now a.h.now a.d.now a.start a.k a.missing a.lines a.gone a.w.now l.u P.at.sizes.few
            (deep l.u.h n) (deep_three l.u.h n) (deep_two l.u.h n) l.marks (D.ensures.shared (not-false _ y.if-not-t.false))),
        ap length y.rows-is ∙ l.invariant.2,
        ap length y.marks-is ∙ l.invariant.3,
      )
    ] in (
      going_next a.gens.now a.h.now a.d.now a.start a.k a.missing a.lines a.gone a.w.now a.marks.now P.at.sizes.over
          c.values.new.v _ c.values.ensures (c.first_words-in-loop-u.ensures ∙
          P.at.held.is) l.u c.next_place-u.result
          c.next_place-u.new.heads c.next_place-u.new.links l.marks J.marks l.invariant.0
          v.0 c.next_place-u.ensures,
      c.next_place-u.ensures.placed,
      v.1,
      v.2,
      D.auto.other ∙ l.invariant.4,
      D.ensures.whole,
    )

pub relate-returns : goal.relate-returns
relate-returns t c =
    let P = c.requires in
    let a = c.args in
    let l = c.loop-u in
    going_end a.gens.now a.h.now a.d.now a.start a.k a.missing a.lines a.gone a.w.now a.marks.now P.at.sizes.over
    c.values.new.v _ c.values.ensures
    (c.first_words.ensures ∙ P.at.held.is) l.u l.marks l.invariant.0
    c.loop-u-test.false
    (relate_all a.gens.now a.h.now a.d.now a.start a.k a.missing a.lines a.s a.gone a.w.now a.rows.now a.marks.now P)
