-- A program reads no more than `input_room` bytes of its input.
--   read_enough   what is `long` of every input of more than `most_bytes` bytes, and else f of it, is the same of what is read
-- Assumes nothing.
use Rattle.std.specs.Prelude.{◌≡◌, Bool, cond, List, ℕ, ◌≤◌, ◌<◌, length, take, ltb}
use Rattle.std.proofs.Common.{sym, ap, ◌∙◌, arith, length-take-le, take_all, lt-ltb}
use Rattle.std.proofs.Math.Decide.{dec_le}
use Rattle.text.specs.Limits.{most_bytes, input_room}

module _ {A : Type 0} (long : A) (f : List ℕ → A) where
  abbrev limited : List ℕ → A
  limited s = cond (ltb most_bytes (length s)) long (f s)

  too_long : (s : List ℕ) → most_bytes < length s → limited s ≡ long
  too_long s h = ap (λ (b : Bool). cond b long (f s)) (lt-ltb most_bytes (length s) h)

  pub read_enough : (s : List ℕ) → limited (take input_room s) ≡ limited s
  read_enough s = go (dec_le input_room (length s))
    where
      go : Dec (input_room ≤ length s) → limited (take input_room s) ≡ limited s
      go (yes h) = too_long (take input_room s) (omega (arith, length-take-le input_room s h)) ∙ sym (too_long s (omega arith))
      go (no h) = ap limited (take_all input_room s (omega arith))
