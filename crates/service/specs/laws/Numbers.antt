-- The reply on numbers: three words from the start of the lent words, or too few of these.
--   three                        three words are written
--   numbers_short, numbers_whole the reply and the words, without room and with it
-- Assumes nothing.
use Rattle.std.specs.Prelude.{◌≡◌, refl, Bool, cond, List, [], ◌∷◌, ℕ, ◌<◌, ◌≤◌, length, set, Option}
use Rattle.std.proofs.Common.{sym, ap, arith, lt-ltb, le-ltb}
use Rattle.kinds.specs.Refusal.{accepted}
use Rattle.words.specs.Buffers.{filled}
use Rattle.formula_check.specs.Replies.{check_values}
use Rattle.service.specs.Service.{numbers_reply, numbers_lent}

pub three : (d : List ℕ) (x y z : ℕ) → 3 ≤ length d → set (set (set d 0 x) 1 y) 2 z ≡ filled (x ∷ y ∷ z ∷ []) d
three [] x y z h = absurd (omega arith)
three (a ∷ []) x y z h = absurd (omega arith)
three (a ∷ b ∷ []) x y z h = absurd (omega arith)
three (a ∷ b ∷ c ∷ d) x y z h = refl

module _ (v : Option ℕ) (w : ℕ) (d : List ℕ) where
  pub numbers_short : length d < 3 → (9 ≡ numbers_reply (accepted (v, w)) d) × (d ≡ numbers_lent (accepted (v, w)) d)
  numbers_short h = (
    sym (ap (λ (b : Bool). cond b 9 0) (lt-ltb (length d) 3 h)),
    sym (ap (λ (b : Bool). cond b d (filled (check_values (v, w)) d)) (lt-ltb (length d) 3 h)),
  )

  pub numbers_whole : 3 ≤ length d → (0 ≡ numbers_reply (accepted (v, w)) d) × (filled (check_values (v, w)) d ≡ numbers_lent (accepted (v, w)) d)
  numbers_whole h = (
    sym (ap (λ (b : Bool). cond b 9 0) (le-ltb (length d) 3 h)),
    sym (ap (λ (b : Bool). cond b d (filled (check_values (v, w)) d)) (le-ltb (length d) 3 h)),
  )
