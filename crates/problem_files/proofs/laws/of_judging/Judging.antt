-- How a file's problem is judged, case by case.
--   beyond_catalogue, beyond_rank     refusal 8 as the code tests it
--   short_first, short_second, short_third, short_not   refusal 9 as the code tests it
--   settled_inv   an accepted problem is the one that was posed, and neither refusal applies
--   settled_is    a problem to which neither applies is accepted
-- Assumes nothing.
use Rattle.std.specs.Prelude.{ℕ, ◌+◌, ◌<◌, ◌≤◌, ◌≡◌, List, Bool, true, false, not, ◌||◌, ltb, eqb}
use Rattle.std.proofs.Common.{sym, ap, ◌∙◌, lt-ltb, le-ltb}
use Rattle.std.proofs.Math.Path.{ap₂}
use Rattle.linear.specs.Basis.{dim}
use Rattle.linear.specs.Word.{word}
use Rattle.kinds.specs.declared.Shape.{Shape}
use Rattle.kinds.specs.Refusal.{accepted, refuse}
use Rattle.kinds.specs.laws.Refusal.{accepted_inj, refuse_inv}
use Rattle.kinds.specs.Kinds.{handed}
use Rattle.problem_files.specs.posing.Posing.{ProblemFile}
use Rattle.problem_files.specs.judging.Judged.{beyond, short, settled}
use Rattle.problem_files.specs.declared.judging.Purpose.{Purpose}
use Rattle.problem_files.specs.declared.judging.Purpose.TheVariants as purpose

pub beyond_catalogue : (a : Purpose) (k n : ℕ) (ts : List ℕ) → a ≡ purpose.Catalogue → n ≡ dim word ts → ltb (n + 6) k ≡ beyond a k ts
beyond_catalogue a k n ts e h = rw (e, h)

pub beyond_rank : (a : Purpose) (k : ℕ) (ts : List ℕ) → a ≡ purpose.Rank → not (eqb k 0) ≡ beyond a k ts
beyond_rank a k ts e = rw e

module _ (shape : Shape) (u v w : ℕ) where
  abbrev q : ℕ
  q = handed shape.kind shape.q

  abbrev r : ℕ
  r = handed shape.kind shape.r

  pub short_first : u < handed shape.kind shape.q → true ≡ short shape u v w
  short_first l = sym (ap (λ (b : Bool). b || (ltb v r || ltb w q)) (lt-ltb u q l))

  pub short_second : handed shape.kind shape.q ≤ u → v < handed shape.kind shape.r → true ≡ short shape u v w
  short_second l m = sym (ap₂ (λ (b d : Bool). b || (d || ltb w q)) (le-ltb u q l) (lt-ltb v r m))

  pub short_third : {b : Bool} → handed shape.kind shape.q ≤ u → handed shape.kind shape.r ≤ v → ltb w (handed shape.kind shape.q) ≡ b
      → b ≡ short shape u v w
  short_third l m e = sym (ap₂ (λ (b d : Bool). b || (d || ltb w q)) (le-ltb u q l) (le-ltb v r m) ∙ e)

  pub short_not : handed shape.kind shape.q ≤ u → handed shape.kind shape.r ≤ v → handed shape.kind shape.q ≤ w → short shape u v w ≡ false
  short_not l m n = sym (short_third l m (le-ltb w q n))

module _ (a : Purpose) (u v w : ℕ) (F : ProblemFile) where
  pub settled_inv : (P : ProblemFile) → settled a u v w F ≡ accepted P
      → (beyond a F.k F.problem.targets ≡ false) × (short F.shape u v w ≡ false) × (F ≡ P)
  unfolding settled
  settled_inv P e =
      let c = refuse_inv 8 (beyond a F.k F.problem.targets) (refuse 9 (short F.shape u v w) (accepted F)) P e in
      let d = refuse_inv 9 (short F.shape u v w) (accepted F) P c.1 in
      (c.0, d.0, accepted_inj F P d.1)

  pub settled_is : beyond a F.k F.problem.targets ≡ false → short F.shape u v w ≡ false → settled a u v w F ≡ accepted F
  unfolding settled
  settled_is h l = ap₂ (λ (x y : Bool). refuse 8 x (refuse 9 y (accepted F))) h l
