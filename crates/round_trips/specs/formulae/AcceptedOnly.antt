-- Nothing else is accepted.
--   formula_accepted_only    a byte string that is read as a formula is the text of that formula
--   formula_accepted_short   and fits a formula's page
-- That the formula is one that is not refused: formula_accepted_sound (formula_files, AcceptedSound). Assumes nothing.
use Rattle.std.specs.Prelude.{ℕ, ◌≤◌, ◌≡◌, List, length}
use Rattle.std.proofs.Common.{sym, ap, ap₂, ◌∙◌, subst}
use Rattle.kinds.specs.Sizes.{shape_of}
use Rattle.kinds.specs.Refusal.{accepted}
use Rattle.formula_check.specs.Formula.{Admitted}
use Rattle.formula_files.specs.FormulaFile.{formula_file}
use Rattle.formula_files.specs.lines.laws.Told.{body_lengths}
use Rattle.formula_files.specs.laws.Accepted.{file_inv}
use Rattle.formula_files.specs.AcceptedSound.{formula_accepted_sound}
use Rattle.printing.specs.refusals.Pages.{formula_page}
use Rattle.formula_text.specs.HeadText.{file_head}
use Rattle.formula_text.specs.BodyText.{body_text}
use Rattle.formula_text.specs.FileText.{file_text}
use Rattle.formula_text.specs.Theorems.{formula_fits}
use Rattle.round_trips.specs.formulae.laws.HeadOnly.{head_only}
use Rattle.round_trips.specs.formulae.laws.BodyOnly.{body_only}

pub formula_accepted_only : (s : List ℕ) (la lb lr : ℕ) (f : Admitted) → formula_file s la lb lr ≡ accepted f → s ≡ file_text f
unfolding file_text
formula_accepted_only s la lb lr f e =
    let G = file_inv s la lb lr f e in
    let h = G.head in
    let A = G.so in
    let l = A.l in
    head_only s (h, G.text) A.kd G.lines A.is_named
    ∙ ap₂ (file_head (shape_of A.kd h.p h.q h.r))
    (sym (body_lengths h.k A.u G.text l.0 l.1 l.2 A.listed).0) (body_only h.k A.u G.text l.0 l.1 l.2 A.listed)
    ∙ ap (λ (g : Admitted). file_head g.shape (length g.firsts) (body_text g.firsts g.seconds g.rows)) A.is

pub formula_accepted_short : (s : List ℕ) (la lb lr : ℕ) (f : Admitted) → formula_file s la lb lr ≡ accepted f → length s ≤ formula_page
formula_accepted_short s la lb lr f e =
    subst (λ (t : List ℕ). length t ≤ formula_page) (sym (formula_accepted_only s la lb lr f e))
    (formula_fits f (formula_accepted_sound s la lb lr f e).0)
