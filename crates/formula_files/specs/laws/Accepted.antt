-- What an accepted file has been through.
--   file_inv   its first two lines, the tests of 2 to 8, and room in the buffers
-- Assumes nothing.
use Rattle.std.specs.Prelude.{ℕ, ◌≡◌, List, false, Some}
use Rattle.std.proofs.Common.{subst}
use Rattle.kinds.specs.Refusal.{accepted}
use Rattle.kinds.specs.laws.Refusal.{accepted_inj, need_inv, refuse_inv, follow_inv}
use Rattle.text.specs.heads.Head.{Head, head_lines}
use Rattle.formula_check.specs.Formula.{Admitted, admit, too_short, held_in}
use Rattle.formula_check.proofs.laws.Admitted.{AdmittedSo, admit_inv}
use Rattle.formula_files.specs.lines.Formula.{body}
use Rattle.formula_files.specs.FormulaFile.{rest, formula_file}

pub record FileAdmitted (s : List ℕ) (la lb lr : ℕ) (f : Admitted) : Type 0 where
  pub head : Head
  pub text : List ℕ
  pub lines : head_lines s ≡ Some (head, text)
  pub so : AdmittedSo head.kind head.p head.q head.r head.k (λ t. body head.k t text) f
  pub room : too_short la lb lr f ≡ false

pub file_inv : (s : List ℕ) (la lb lr : ℕ) (f : Admitted) → formula_file s la lb lr ≡ accepted f → FileAdmitted s la lb lr f
unfolding formula_file rest
file_inv s la lb lr f e =
    let a = need_inv 1 (head_lines s) (λ h. rest h.0 h.1 la lb lr) f e in
    let h = a.0.0 in
    let b = follow_inv (admit h.kind h.p h.q h.r h.k (λ t. body h.k t a.0.1)) (held_in la lb lr) f a.2 in
    let c = refuse_inv 9 (too_short la lb lr b.0) (accepted b.0) f b.2 in
    let q : b.0 ≡ f = accepted_inj b.0 f c.1 in
    record {
      head = h;
      text = a.0.1;
      lines = a.1;
      so = admit_inv h.kind h.p h.q h.r h.k (λ t. body h.k t a.0.1) f (subst (λ (g : Admitted). admit h.kind h.p h.q h.r h.k (λ t. body h.k t a.0.1) ≡ accepted g) q b.1);
      room = subst (λ (g : Admitted). too_short la lb lr g ≡ false) q c.0;
    }
