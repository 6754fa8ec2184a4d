-- Every entry that is shown has its formulae: the call on its rows is not refused.
--   entry_solution, entry_rows   the rows of an entry, looked up, are those of its space, a solution
--   entry_shown                  so their formulae are listed
-- Assumes nothing.
use Rattle.std.specs.Prelude.{ℕ, ◌+◌, ◌-◌, ◌<◌, ◌≤◌, ◌≡◌, Bool, true, false, not, length, get_or, drop, ltb}
use Rattle.std.proofs.Common.{sym, ap, ap₂, ◌∙◌, subst, arith, drop_at, le-ltb}
use mathlib.Core.List.{List, [], Memᴰ}
use Rattle.kinds.specs.Refusal.{accepted, refuse}
use Rattle.linear.specs.Basis.{dim}
use Rattle.linear.specs.Entry.{Solution, space}
use Rattle.linear.specs.Word.{word}
use Rattle.linear.proofs.laws.Order.{mem_get_d, mem_map}
use Rattle.catalogue.proofs.laws.of_listing.Run.{fitting_le}
use Rattle.problems.specs.Problem.{Problem}
use Rattle.catalogue.specs.Catalogue.{Catalogued, catalogue_of}
use Rattle.theorems.specs.catalogue_and_rank.Theorems.{CatalogueMeans}
use Rattle.theorems.proofs.laws.of_catalogue_and_rank.Theorems.{catalogue_of_means, look_up_means}
use Rattle.space_formulae.specs.spaces.Spaces.{Formulae, is_entry, formulae_for}
use Rattle.space_formulae.specs.spaces.Spaces as spaces
use Rattle.space_formulae.proofs.laws.of_spaces.Theorems.{FormulaeMeans, formulae_for_means}
use Rattle.space_formulae.proofs.laws.of_spaces.Entry.{is_entry_law}
use Rattle.records.specs.Length.{record_length}
use Rattle.records.specs.lookup.Lookup.{lookup}

-- ---- the rows of an entry
module _ (gens targets : List ℕ) (k : ℕ) (old : List ℕ) (c : Catalogued) (M : CatalogueMeans gens targets k old c) (i : ℕ) (h : i < c.shown) where
  there : Memᴰ (get_or M.extensions i []) M.extensions
  there =
      let few : c.shown ≤ c.found = subst (λ (s : ℕ). s ≤ c.found) (sym M.shown) (fitting_le (record_length (dim word targets) k) c.found (length old)) in
      mem_get_d M.extensions i [] (let f = M.found in omega arith)

  entry_solution : Solution word gens targets k (space word gens targets (get_or M.extensions i []))
  entry_solution = (M.all (space word gens targets (get_or M.extensions i []))).0 (mem_map (space word gens targets) there)

  entry_rows : drop (k - c.ell) (lookup c.ell k c.shown i c.buffer) ≡ space word gens targets (get_or M.extensions i [])
  entry_rows =
      let es : List ℕ = get_or M.extensions i [] in
      let a : length es ≡ k - c.ell = (M.shape es there).0 ∙ ap (λ (n : ℕ). k - n) (sym M.ell) in
      ap (drop (k - c.ell)) ((look_up_means gens targets k old c M i).0 h) ∙ drop_at es (space word gens targets es) (k - c.ell) a

-- the formulae of a solution space are listed
formulae_with : (x : Problem) (k : ℕ) (W old : List ℕ) → Solution word x.generators x.targets k W → k ≤ dim word x.targets + 6
    → formulae_for x W old ≡ accepted (spaces.formulae_listing x W old)
unfolding formulae_for
formulae_with x k W old E h =
    let size : length W ≡ k = E.size in
    let far : ltb (dim word x.targets + 6) (length W) ≡ false = le-ltb (dim word x.targets + 6) (length W) (omega arith) in
    let good : is_entry x.generators x.targets W ≡ true =
    (is_entry_law x.generators x.targets W).1 (subst (λ (n : ℕ). Solution word x.generators x.targets n W) (sym size) E) in
    ap₂ (λ (a b : Bool). refuse 8 a (refuse 10 (not b) (accepted (spaces.formulae_listing x W old)))) far good

-- what is said of entry i of a Catalogue, whose rows are looked up
pub record EntryShown (x : Problem) (k : ℕ) (old room : List ℕ) (c : Catalogued) (i : ℕ) (rows : List ℕ) : Type 0 where
  pub catalogued : CatalogueMeans x.generators x.targets k old c
  pub basis : rows ≡ space word x.generators x.targets (get_or catalogued.extensions i [])
  pub said : Formulae
  pub accepted_as : formulae_for x rows room ≡ accepted said
  pub means : FormulaeMeans x.generators x.targets rows room said

pub entry_shown : (x : Problem) (k : ℕ) (old room : List ℕ) (c : Catalogued) → catalogue_of x k old ≡ accepted c → (i : ℕ) → i < c.shown
    → EntryShown x k old room c i (drop (k - c.ell) (lookup c.ell k c.shown i c.buffer))
entry_shown x k old room c e i h =
    let m = catalogue_of_means x k old c e in
    let M = m.1 in
    let rows : List ℕ = drop (k - c.ell) (lookup c.ell k c.shown i c.buffer) in
    let W : List ℕ = space word x.generators x.targets (get_or M.extensions i []) in
    let E = entry_solution x.generators x.targets k old c M i h in
    let b : rows ≡ W = entry_rows x.generators x.targets k old c M i h in
    let f : formulae_for x rows room ≡ accepted (spaces.formulae_listing x W room) =
    ap (λ (rows : List ℕ). formulae_for x rows room) b ∙ formulae_with x k W room E m.0 in
    record {
      catalogued = M;
      basis = b;
      said = spaces.formulae_listing x W room;
      accepted_as = f;
      means = (formulae_for_means x rows room (spaces.formulae_listing x W room) f).1;
    }
