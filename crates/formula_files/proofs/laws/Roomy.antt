-- Buffers that take every formula: refusal 9 never applies.
--   room_held     buffers with room are not refused
--   admitted_file  == refusals 1 to 8 of a file
--   file_roomy    with as many words as there may be products and targets those are all
--   file_only     by which numbers a file is refused then
-- Assumes nothing.
use Rattle.std.specs.Prelude.{◌≡◌, refl, List, ℕ, length, Option, None, Some}
use Rattle.std.proofs.Common.{sym, ap, ◌∙◌, subst, le_refl, le-ltb}
use Rattle.kinds.specs.Limits.{most_products, most_targets}
use Rattle.kinds.specs.Refusal.{Answer, refused, accepted, need, follow, RefusedOnly}
use Rattle.kinds.specs.laws.Refusal.{need_only}
use Rattle.text.specs.heads.Head.{Head, head_lines}
use Rattle.formula_check.specs.Formula.{Admitted, admit, held_in}
use Rattle.formula_check.proofs.laws.Numbers.{admit_only}
use Rattle.formula_files.specs.lines.Formula.{body}
use Rattle.formula_files.specs.FormulaFile.{rest, formula_file}
use Rattle.formula_files.specs.Sound.{BufferRoom}
use Rattle.formula_files.specs.AcceptedSound.{formula_accepted_sound}
use Rattle.formula_files.proofs.laws.Handed.{sound_room}

pub room_held : (f : Admitted) (la lb lr : ℕ) → BufferRoom f la lb lr → held_in la lb lr f ≡ accepted f
room_held f la lb lr R =
    rw (le-ltb la (length f.firsts) R.for_firsts, le-ltb lb (length f.seconds) R.for_seconds, le-ltb lr (length f.rows) R.for_rows)

abbrev head_admitted : Head × List ℕ → Answer Admitted
head_admitted h = admit h.0.kind h.0.p h.0.q h.0.r h.0.k (λ t. body h.0.k t h.1)

abbrev pub admitted_file : List ℕ → Answer Admitted
admitted_file s = need 1 (head_lines s) λ h. admit h.0.kind h.0.p h.0.q h.0.r h.0.k (λ t. body h.0.k t h.1)

file_as : (s : List ℕ) (la lb lr : ℕ) → formula_file s la lb lr ≡ follow (admitted_file s) (held_in la lb lr)
unfolding formula_file rest
file_as s la lb lr = go (head_lines s)
  where
    go : (o : Option (Head × List ℕ)) → (need 1 o λ h. follow (head_admitted h) (held_in la lb lr)) ≡ follow (need 1 o head_admitted) (held_in la lb lr)
    go None = refl
    go (Some h) = refl

pub file_roomy : (s : List ℕ) → formula_file s most_products most_products most_targets ≡ admitted_file s
file_roomy s = file_as s most_products most_products most_targets ∙ go (admitted_file s) refl
  where
    go : (o : Answer Admitted) → admitted_file s ≡ o → follow o (held_in most_products most_products most_targets) ≡ o
    go (refused e) q = refl
    go (accepted f) q =
        let x = length f.firsts in
        let y = length f.seconds in
        let z = length f.rows in
        let own : BufferRoom f x y z = record { for_firsts = le_refl x; for_seconds = le_refl y; for_rows = le_refl z } in
        let e = file_as s x y z ∙ ap (λ (o : Answer Admitted). follow o (held_in x y z)) q ∙ room_held f x y z own in
        room_held f most_products most_products most_targets (sound_room f (formula_accepted_sound s x y z f e).0)

pub file_only : (P : ℕ → Type 0) (s : List ℕ) → P 1 → P 2 → P 3 → P 5 → P 6 → P 7 → P 8
    → RefusedOnly P (formula_file s most_products most_products most_targets)
file_only P s one two three five six seven eight =
    subst (RefusedOnly P) (sym (file_roomy s))
    (need_only P 1 (head_lines s) head_admitted one λ h.
    admit_only P h.0.kind h.0.p h.0.q h.0.r h.0.k (λ t. body h.0.k t h.1) two three five six seven eight)
