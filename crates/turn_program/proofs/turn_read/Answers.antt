-- `turn_program::turn_read` meets its contract. Assumes nothing.
use mathlib.Core.Path.{◌≡◌, ap, ◌∙◌}
use Rattle.std.specs.Prelude.{None}
use Prim.Native.Nat.{ℕ}
use native.Mathlib.Omega.{arith}
use Rattle.kinds.specs.Sizes.{sizes}
use Rattle.turn_program.specs.laws.Full.{full_words, full_some, full_refused, full_turned}
use Rattle.turn_program.proofs.turn_read.Goals as goal

pub returns-in_default : goal.returns-in_default
returns-in_default c =
    let e = c.requires.ready.sized in
    let f : sizes c.args.shape ≡ None = c.sizes_of.ensures ∙ c.in_default.is in
    absurd (let z : ◌≡◌ {A = ℕ} 0 1 = cc in omega arith)

pub turn_admitted-e-requires : goal.turn_admitted-e-requires
turn_admitted-e-requires c =
    full_words _ _ _ _ _ c.requires _ _ _ ((c.sizes_of.ensures ∙ c.in-Some.is)) _ _ _ c.first_words-firsts.ensures c.first_words-seconds.ensures
    c.first_words.ensures

pub returns-then-e-ne0 : goal.returns-then-e-ne0
returns-then-e-ne0 c =
    full_refused _ _ _ _ _ c.requires _ _ _ ((c.sizes_of.ensures ∙ c.in-Some.is)) _ _ _ c.first_words-firsts.ensures c.first_words-seconds.ensures
    c.first_words.ensures _ _ _ _ _ _ _ c.turn_admitted-e.ensures c.if-e-ne0.true

pub middle-requires : goal.middle-requires
middle-requires c =
    full_some _ _ _ _ _ c.requires _ _ _ ((c.sizes_of.ensures ∙ c.in-Some.is)) _ _ _ c.first_words-firsts.ensures c.first_words-seconds.ensures
    c.first_words.ensures

pub returns : goal.returns
returns c =
    full_turned _ _ _ _ _ c.requires _ _ _ ((c.sizes_of.ensures ∙ c.in-Some.is)) _ _ _ c.first_words-firsts.ensures c.first_words-seconds.ensures
    c.first_words.ensures _ _ _ _ _ _ _ c.turn_admitted-e.ensures c.middle.result c.middle.ensures c.if-e-ne0.false
