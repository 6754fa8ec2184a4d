-- What is printed of a problem's Catalogue.
--   catalogue_answer .. a     == the text of Catalogue's answer a
--   catalogue_reply shape k x == the text of the Catalogue of the problem x, whose kind and sizes these are
-- The text is in `report`. Assumes nothing.
use Rattle.std.specs.Prelude.{ℕ, List}
use Rattle.kinds.specs.declared.Shape.{Shape}
use Rattle.kinds.specs.Refusal.{Answer, refused, accepted}
use Rattle.printing.specs.fields.RefusedText.{refused_text}
use Rattle.catalogue_text.specs.report.CatalogueReports.{catalogue_text}
use Rattle.problems.specs.Problem.{Problem}
use Rattle.catalogue.specs.Catalogue.{Catalogued, catalogue_of}
use Rattle.printing.specs.refusals.Pages.{listing_room}

abbrev pub catalogue_answer : Shape → (k : ℕ) → Answer Catalogued → List ℕ
catalogue_answer shape k (refused e) = refused_text e
catalogue_answer shape k (accepted c) = catalogue_text shape k c.ell c.found c.shown c.buffer

unfoldable pub catalogue_reply : Shape → ℕ → Problem → List ℕ
catalogue_reply shape k x = catalogue_answer shape k (catalogue_of x k listing_room)
