-- A problem with its Catalogue, and what the Formulae program prints of it first.
--   PlanListed             == a problem and its Catalogue
--   listed_entries old P    == the problem P of a file with its Catalogue, in a listing that holds old, or its refusal
--   listed_in s old         == those of the input s
--   listed_input s          == those in a program's listing
--   listed_file s u v old   == those of the input s, where buffers of u and v words are lent for the problem's generators and targets, or its refusal
--   formulae_head ..        == Catalogue's first two lines, and the names of a formula's line
--   first_part L            == those of a problem with its Catalogue
-- What Formulae prints is decided (docs/DECISIONS.md). Assumes nothing.
use Rattle.std.specs.Prelude.{ℕ, List, [], ◌∷◌, ◌++◌, ◌||◌, ltb}
use Rattle.kinds.specs.declared.Shape.{Shape}
use Rattle.kinds.specs.Limits.{most_generators, most_targets}
use Rattle.kinds.specs.Refusal.{Answer, accepted, refuse, follow}
use Rattle.problem_files.specs.posing.Posing.{ProblemFile}
use Rattle.catalogue.specs.Catalogue.{Catalogued, catalogue_of}
use Rattle.catalogue_text.specs.report.CatalogueReports.{counts_text}
use Rattle.printing.specs.refusals.Pages.{listing_room}
use Rattle.problem_files.specs.inputs.Inputs.{posed_input}
use Rattle.text.specs.Line.{LF}

pub record PlanListed : Type 0 where
  pub problem : ProblemFile
  pub said : Catalogued

abbrev pub listed_entries : List ℕ → ProblemFile → Answer PlanListed
listed_entries old P =
    follow (catalogue_of P.problem P.k old) λ c.
    accepted (record { problem = P; said = c })

unfoldable pub listed_in : List ℕ → List ℕ → Answer PlanListed
listed_in s old = follow (posed_input s) (listed_entries old)

abbrev pub listed_input : List ℕ → Answer PlanListed
listed_input s = listed_in s listing_room

-- refusal 9: a problem has up to 4,095 generators and 64 targets
unfoldable pub listed_file : List ℕ → (u v : ℕ) → List ℕ → Answer PlanListed
listed_file s u v old = refuse 9 (ltb u most_generators || ltb v most_targets) (listed_in s old)

-- `entry,formula,products,rows`
abbrev pub formulae_names : List ℕ
formulae_names =
    101 ∷ 110 ∷ 116 ∷ 114 ∷ 121 ∷ 44 ∷ 102 ∷ 111 ∷ 114 ∷ 109 ∷ 117 ∷ 108 ∷ 97 ∷ 44 ∷ 112 ∷ 114 ∷ 111 ∷ 100 ∷ 117 ∷ 99 ∷ 116 ∷ 115 ∷ 44 ∷ 114 ∷ 111 ∷ 119 ∷ 115 ∷ LF ∷ []

unfoldable pub formulae_head : Shape → (k ell found shown : ℕ) → List ℕ
formulae_head shape k ell found shown = counts_text shape k ell found shown ++ formulae_names

abbrev pub first_part : PlanListed → List ℕ
first_part L =
    let P = L.problem in
    formulae_head P.shape P.k L.said.ell L.said.found L.said.shown
