-- The lines of an entry's formulae are its formulae.
--   formula_lines_law   in a listing of formulae
-- Assumes nothing.
use Rattle.std.specs.Prelude.{◌≡◌, ℕ, ◌+◌, ◌*◌, ◌<◌, ◌≤◌, length, take, drop, get_or}
use Rattle.std.proofs.Common.{sym, ap, ◌∙◌, subst, arith, length-append, length-take-le, get_or-take}
use mathlib.Core.List.{List, [], ◌++◌, map, Memᴰ}
use Rattle.std.proofs.lemmas.List.{length-map}
use Rattle.std.proofs.Math.ListN.{get_or-map}
use Rattle.linear.specs.Entry.{chosen}
use Rattle.linear.specs.Word.{word}
use Rattle.linear.proofs.laws.Order.{mem_get_d, mem_map_inv}
use Rattle.bases.specs.rows.Rows.{row_of}
use Rattle.catalogue.proofs.laws.of_listing.Run.{fitting_le}
use Rattle.catalogue.proofs.laws.of_listing.Placed.{placed}
use Rattle.printing.specs.record_lines.RecordLines.{record_lines}
use Rattle.space_formulae.specs.spaces.Spaces.{Formulae, record_size}
use Rattle.space_formulae.proofs.laws.of_spaces.Theorems.{FormulaeMeans}
use Rattle.formulae_text.specs.lines.FormulaLines.{formula_text, formula_lines}
use Rattle.programs.specs.meaning.Lines.{lines_of}
use Rattle.programs.specs.meaning.laws.Lines.{Stands, lines_are}

module _ (gens targets rows old : List ℕ) (f : Formulae) (M : FormulaeMeans gens targets rows old f) where
  -- the rows of a formula
  abbrev rows_for : List ℕ → List ℕ
  rows_for es = map (row_of (chosen word gens es)) targets

  abbrev line : List ℕ → List ℕ
  line es = es ++ rows_for es

  few : f.listed ≤ length M.all
  few = subst (λ (n : ℕ). n ≤ length M.all) (sym M.listed) (fitting_le (record_size targets rows) (length M.all) (length old))

  count : length (take f.listed M.all) ≡ f.listed
  count = length-take-le f.listed M.all few

  sized : (r : List ℕ) → Memᴰ r (map line M.all) → length r ≡ record_size targets rows
  sized = mem_map_inv line (λ r. length r ≡ record_size targets rows) M.all
      (λ es m. let a = ((M.exactly es).0 m).number in omega (arith, a, length-append es (rows_for es), length-map targets (row_of (chosen word gens es))))

  stands : Stands (length rows) (length targets) f.buffer rows_for (take f.listed M.all) 0
  stands j h =
      let l : j < f.listed = omega (arith, h, count) in
      let es : List ℕ = get_or M.all j [] in
      let g : get_or (take f.listed M.all) j [] ≡ es = get_or-take f.listed M.all j [] l in
      let m : Memᴰ es M.all = mem_get_d M.all j [] (omega (arith, l, few)) in (
        ap length g ∙ ((M.exactly es).0 m).number,
        ap (λ (x : List ℕ). length (rows_for x)) g ∙ length-map targets (row_of (chosen word gens es)),
        ap (λ (n : ℕ). take (record_size targets rows) (drop (n * record_size targets rows) f.buffer)) (let z : 0 + j ≡ j = omega arith in z)
            ∙ ap (λ (b : List ℕ). take (record_size targets rows) (drop (j * record_size targets rows) b)) M.buffer
            ∙ placed (record_size targets rows) (drop (f.listed * record_size targets rows) old) (line []) (map line M.all) f.listed j sized l
            (omega (arith, few, length-map M.all line))
            ∙ get_or-map line M.all j [] ∙ ap line (sym g),
      )

  pub formula_lines_law : (e : ℕ) → formula_lines e (length rows) (length targets) f.listed f.buffer ≡ lines_of (formula_text e) rows_for 0 (take f.listed M.all)
  formula_lines_law e =
      ap (λ (n : ℕ). record_lines (formula_text e) (length rows) (length targets) 0 n f.buffer) (sym count)
      ∙ lines_are (length rows) (length targets) f.buffer (formula_text e) rows_for (take f.listed M.all) 0 stands
