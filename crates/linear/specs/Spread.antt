-- The formulae of a space, found as a program goes: one generator after the other, each inside the space and not yet spanned.
--   later W i               == the generators inside W with numbers from i on
--   completes W C i         == C and those span as many dimensions as W
--   passed W C i            == generator i is outside W, or in the span of C: no formula of W goes on from C with it
--   spread W emit C p n i m == what is emitted from the basis C of the generators numbered p, for m more numbers out of i, .., i + n - 1, none of them passed, that
--                              lead to W
--   Inner W C m             == C is a reduced basis inside W, of m dimensions less
-- From the empty basis these are the formulae of W: `spread_is`. Where C is not completed nothing follows, `spread_none`; where it is, a formula does,
-- `spread_some` (proofs/laws/Spread). Assumes nothing.
use Rattle.std.specs.Prelude.{◌≡◌, Bool, not, ◌&&◌, List, ℕ, ◌+◌, length, drop, leb}
use Rattle.linear.specs.Space.{Space}
use Rattle.linear.specs.Span.{Within}
use Rattle.linear.specs.Basis.{inserts, Reduced}
use Rattle.linear.specs.Select.{only}
use Rattle.linear.specs.Entry.{same_basis, inside, generator}
use Rattle.linear.specs.Walk.{walk}

module _ (S : Space) (gens W : List S.Vec) where
  open S use {Vec}

  unfoldable pub later : ℕ → List Vec
  later i = only (inside S W) (drop i gens)

  unfoldable pub completes : List Vec → ℕ → Bool
  completes C i = leb (length W) (length (inserts S C (later i)))

  abbrev pub passed : List Vec → ℕ → Bool
  passed C i = not (inside S W (generator S gens i) && not (inside S C (generator S gens i)))

  abbrev pub spread : {A : Type 0} → (List ℕ → A) → List Vec → List ℕ → ℕ → ℕ → ℕ → List A
  spread {A} emit = walk S gens passed (λ C. same_basis S C W) {A = A} (λ p C. emit p)

module _ (S : Space) (W : List S.Vec) where
  open S use {Vec}

  pub record Inner (C : List Vec) (m : ℕ) : Type 0 where
    pub reduced : Reduced S C
    pub within : Within S C W
    pub size : length C + m ≡ length W
