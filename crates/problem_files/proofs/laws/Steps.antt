-- The reply to a file whose problem is posed, refusal by refusal.
--   said_refused, said_8, said_9, said_is   what `settle` says
-- Assumes nothing.
use Rattle.std.specs.Prelude.{ℕ, ◌≡◌, refl, List, Bool, true, false, take}
use Rattle.std.proofs.Math.Path.{sym, ap, ap₂}
use Rattle.std.proofs.Common.{◌∙◌}
use Rattle.kinds.specs.declared.Shape.{Shape}
use Rattle.kinds.specs.Refusal.{accepted, refuse, follow}
use Rattle.problems.specs.Problem.{problem}
use Rattle.problem_files.specs.handed_forms.ProblemLines.{handed_in}
use Rattle.problem_files.specs.posing.Posing.{ProblemFile, problem_of}
use Rattle.problem_files.specs.posing.Views.{seen_posing}
use Rattle.problem_files.specs.judging.Judged.{beyond, short, settled}
use Rattle.problem_files.specs.Lent.{problem_reply, Settled}
use Rattle.problem_files.specs.declared.judging.Purpose.{Purpose}
use Rattle.problem_files.specs.declared.judging.ProblemRead.{ProblemRead}
use Rattle.problem_files.specs.declared.judging.ProblemRead.TheVariants as read
use Rattle.problem_files.specs.declared.posing.PosedRead.{PosedRead}
use Rattle.problem_files.specs.declared.posing.PosedRead.TheVariants as posed

module _ (a : Purpose) (u v w : ℕ) {x : PosedRead} (t : List ℕ) where
  pub said_refused : {e : ℕ} → x ≡ posed.Refused e → Settled a u v w x t (read.Refused e)
  said_refused q = record { by = λ gs ts cs g. sym (ap (λ (y : PosedRead). problem_reply (follow (seen_posing gs ts cs g t y) (settled a u v w))) q) }

  module _ {shape : Shape} {k c n : ℕ} {T : List ℕ} (q : x ≡ posed.Problem shape k c n) (l : T ≡ take n t) where
    abbrev file_with : (gs ts cs g : List ℕ) → ProblemFile
    file_with gs ts cs g = let h = handed_in shape gs ts cs in problem_of shape k h.0 h.1 h.2 (problem (take c g) (take n t))

    abbrev replied : Bool → Bool → ProblemFile → ProblemRead
    replied b d F = problem_reply (refuse 8 b (refuse 9 d (accepted F)))

    said_as : (b d : Bool) → beyond a k T ≡ b → short shape u v w ≡ d → (gs ts cs g : List ℕ)
        → replied b d (file_with gs ts cs g)
        ≡ problem_reply (follow (seen_posing gs ts cs g t x) (settled a u v w))
    unfolding settled
    said_as b d h i gs ts cs g =
        ap₂ (λ (b d : Bool). replied b d (file_with gs ts cs g))
        (sym h ∙ ap (beyond a k) l) (sym i)
        ∙ sym (ap (λ (y : PosedRead). problem_reply (follow (seen_posing gs ts cs g t y) (settled a u v w))) q)

    pub said_8 : beyond a k T ≡ true → Settled a u v w x t (read.Refused 8)
    said_8 h = record { by = λ gs ts cs g. said_as true (short shape u v w) h refl gs ts cs g }

    pub said_9 : beyond a k T ≡ false → short shape u v w ≡ true → Settled a u v w x t (read.Refused 9)
    said_9 h i = record { by = λ gs ts cs g. said_as false true h i gs ts cs g }

    pub said_is : beyond a k T ≡ false → short shape u v w ≡ false → Settled a u v w x t (read.Problem shape k)
    said_is h i = record { by = λ gs ts cs g. said_as false false h i gs ts cs g }
