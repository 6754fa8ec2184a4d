-- What the Formulae program prints of an entry.
--   formulae_answer e k t a  == the text of the answer a on the formulae of entry e, which has k rows, for t targets
--   entry_formulae e x rows  == the text of entry e of the problem x, the entry with these rows
-- Each entry has a buffer of 4,096 words for its formulae. Assumes nothing.
use Rattle.std.specs.Prelude.{ℕ, List, length}
use Rattle.kinds.specs.Refusal.{Answer, refused, accepted}
use Rattle.problems.specs.Problem.{Problem}
use Rattle.printing.specs.fields.RefusedText.{refused_text}
use Rattle.formulae_text.specs.lines.FormulaLines.{formulae_text}
use Rattle.space_formulae.specs.spaces.Spaces.{Formulae, formulae_for}
use Rattle.printing.specs.refusals.Pages.{listing_room}

abbrev pub formulae_answer : (e k t : ℕ) → Answer Formulae → List ℕ
formulae_answer e k t (refused n) = refused_text n
formulae_answer e k t (accepted f) = formulae_text e k t f.listed f.whole f.buffer

unfoldable pub entry_formulae : ℕ → Problem → List ℕ → List ℕ
entry_formulae e x rows = formulae_answer e (length rows) (length x.targets) (formulae_for x rows listing_room)
