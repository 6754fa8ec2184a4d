-- What the numbers of the reply to a formula's file tell, and which formulae are not refused.
--   sound_admitted         a formula is not refused exactly if it is admitted on numbers
--   formula_numbers_told   two replies of the call, to whatever it is handed, are the same if their numbers are
-- Assumes nothing.
use Rattle.std.specs.Prelude.{◌≡◌, ◌↔◌, List, ℕ, length}
use Rattle.kinds.specs.Kinds.{number_of, kind_numbered}
use Rattle.kinds.specs.Refusal.{accepted}
use Rattle.formula_check.specs.Formula.{Admitted, admit, lists_handed}
use Rattle.formula_check.proofs.laws.Admitted.{handed_inv, handed_is}
use Rattle.formula_files.specs.FormulaFile.{formula_file}
use Rattle.formula_files.specs.Lent.{formula_reply, formula_read_numbers}
use Rattle.formula_files.specs.Sound.{Sound}
use Rattle.formula_files.proofs.laws.Handed.{sound_handed, handed_sound}
use Rattle.formula_files.proofs.laws.Numbers.{formula_differ, formula_numbered}
use Rattle.formula_files.specs.declared.Read.{Read}

pub sound_admitted : (f : Admitted)
    → Sound f ↔ (admit (kind_numbered (number_of f.shape.kind)) f.shape.p f.shape.q f.shape.r (length f.firsts)
    (lists_handed (length f.firsts) f.firsts f.seconds f.rows) ≡ accepted f)
sound_admitted f =
    let number = number_of f.shape.kind in
    let p = f.shape.p in
    let q = f.shape.q in
    let r = f.shape.r in
    let k = length f.firsts in (
      (λ S. handed_is number p q r k f.firsts f.seconds f.rows f (sound_handed f S)),
      λ e. handed_sound number p q r k f.firsts f.seconds f.rows f (handed_inv number p q r k f.firsts f.seconds f.rows f e),
    )

pub formula_numbers_told : (s s' : List ℕ) (la lb lr la' lb' lr' : ℕ) (x y : Read)
    → x ≡ formula_reply (formula_file s la lb lr) → y ≡ formula_reply (formula_file s' la' lb' lr') → formula_read_numbers x ≡ formula_read_numbers y → x ≡ y
formula_numbers_told s s' la lb lr la' lb' lr' x y e f =
    formula_differ (formula_file s la lb lr) (formula_file s' la' lb' lr') x y e f (formula_numbered s la lb lr) (formula_numbered s' la' lb' lr')
