-- The part of a selection: the dictionary_first of its parts that are independent and span all of it.
--   part_rising, part_selected   it rises, and its numbers are selected ones
--   part_independent             its generators are independent
--   part_spans, part_basis       they span what the selected ones span, where all selected numbers are those of generators: so both have one basis
--   part_first                   no other such list stands before it
--   part_members                 only which numbers are selected counts, not their order
--   part_own                     a rising list of independent generators is its own part
--   part_length, part_size       as many numbers as its generators, and the selected ones, span dimensions
-- Assumes nothing.
use Rattle.std.specs.Prelude.{◌≡◌, ◌⊎◌, ◌↔◌, Bool, ℕ, ◌+◌, ◌<◌, eqb}
use Rattle.std.proofs.Math.Path.{sym, ap}
use Rattle.std.proofs.Common.{◌∙◌}
use mathlib.Core.List.{List, [], Memᴰ}
use native.Mathlib.Omega.{arith}
use Rattle.std.proofs.Math.ListN.{length}
use Rattle.linear.specs.Space.{Space}
use Rattle.linear.specs.Span.{Span, SameSpan, Independent}
use Rattle.linear.specs.Basis.{basis_of, dim}
use Rattle.linear.specs.Order.{Before, Rising}
use Rattle.linear.specs.Select.{any_of}
use Rattle.linear.specs.Entry.{generator, chosen}
use Rattle.linear.specs.Part.{part}
use Rattle.linear.specs.laws.Span.{span_mem, span_bind}
use Rattle.linear.proofs.laws.Insert.{basis_of_reduced, basis_of_span}
use Rattle.linear.proofs.laws.Dimension.{basis_of_is}
use Rattle.linear.proofs.laws.Independent.{independent_fresh, dim_independent, dimension}
use Rattle.linear.proofs.laws.Select.{stands, stood, stands_same}
use Rattle.linear.proofs.laws.Entry.{chosen_each, mem_chosen}
use Rattle.linear.proofs.laws.Greedy.{greedy_rising, greedy_passes, greedy_fresh, greedy_covers, greedy_first, greedy_own, greedy_same}
use Rattle.linear.proofs.laws.Extension.{chosen_length}

module _ (S : Space) (gens : List S.Vec) where
  -- the test of a selection
  abbrev is_selected : List ℕ → ℕ → Bool
  is_selected sel j = any_of (eqb j) sel

  pub part_rising : (sel : List ℕ) → Rising 0 (length gens) (part S gens sel)
  unfolding part
  part_rising sel = greedy_rising S gens (is_selected sel) (length gens) 0 (length gens) [] (omega arith)

  pub part_selected : (sel : List ℕ) (e : ℕ) → Memᴰ e (part S gens sel) → Memᴰ e sel
  unfolding part
  part_selected sel e m = stood e sel (greedy_passes S gens (is_selected sel) (length gens) 0 [] e m)

  pub part_independent : (sel : List ℕ) → Independent S (chosen S gens (part S gens sel))
  unfolding part
  part_independent sel = (independent_fresh S (chosen S gens (part S gens sel))).1 (greedy_fresh S gens (is_selected sel) (length gens) 0 [] tt)

  -- a selected number is in the span of the part
  covered : (sel : List ℕ) (e : ℕ) → Memᴰ e sel → e < length gens → Span S (chosen S gens (part S gens sel)) (generator S gens e)
  unfolding part basis_of
  covered sel e m l =
      let b : e < 0 + length gens = omega arith in
      (basis_of_span S (chosen S gens (part S gens sel)) (generator S gens e)).0
      (greedy_covers S gens (is_selected sel) (length gens) 0 [] e (omega arith) b (stands e sel m))

  pub part_spans : (sel : List ℕ) → ((e : ℕ) → Memᴰ e sel → e < length gens) → SameSpan S (chosen S gens (part S gens sel)) (chosen S gens sel)
  part_spans sel h = (
    λ v s. span_bind S
        (chosen_each S gens (Span S (chosen S gens sel)) (part S gens sel) (λ e m. span_mem S (mem_chosen S gens sel e (part_selected sel e m)))) s,
    λ v s. span_bind S (chosen_each S gens (Span S (chosen S gens (part S gens sel))) sel (λ e m. covered sel e m (h e m))) s,
  )

  pub part_basis : (sel : List ℕ) → ((e : ℕ) → Memᴰ e sel → e < length gens)
      → basis_of S (chosen S gens (part S gens sel)) ≡ basis_of S (chosen S gens sel)
  part_basis sel h =
      let s = part_spans sel h in
      basis_of_is S (basis_of S (chosen S gens sel)) (chosen S gens (part S gens sel)) (basis_of_reduced S (chosen S gens sel))
      (λ v t. s.1 v ((basis_of_span S (chosen S gens sel) v).0 t)) (λ v t. (basis_of_span S (chosen S gens sel) v).1 (s.0 v t))

  -- as many numbers as dimensions
  pub part_length : (sel : List ℕ) → length (part S gens sel) ≡ dim S (chosen S gens (part S gens sel))
  part_length sel =
      sym (dim_independent S (chosen S gens (part S gens sel)) (part_independent sel) ∙ chosen_length S gens [] (part S gens sel))

  pub part_size : (sel : List ℕ) → ((e : ℕ) → Memᴰ e sel → e < length gens) → length (part S gens sel) ≡ dim S (chosen S gens sel)
  unfolding dim
  part_size sel h = part_length sel ∙ ap length (part_basis sel h)

  -- no rising list of selected numbers with independent generators that span what the selected ones span stands before it
  pub part_first : (sel fs : List ℕ) → ((e : ℕ) → Memᴰ e sel → e < length gens) → Rising 0 (length gens) fs
      → ((e : ℕ) → Memᴰ e fs → Memᴰ e sel) → Independent S (chosen S gens fs) → SameSpan S (chosen S gens fs) (chosen S gens sel)
      → (part S gens sel ≡ fs) ⊎ Before (part S gens sel) fs
  unfolding part
  part_first sel fs h r k i s =
      let l : length (part S gens sel) ≡ length fs =
      part_size sel h ∙ sym (dimension S (chosen S gens fs) (chosen S gens sel) i s) ∙ chosen_length S gens [] fs in
      greedy_first S gens (is_selected sel) (length gens) 0 (length gens) [] (omega arith) tt fs r ((independent_fresh S (chosen S gens fs)).0 i)
      (λ e m. stands e sel (k e m)) l

  pub part_members : (sel sel' : List ℕ) → ((e : ℕ) → Memᴰ e sel ↔ Memᴰ e sel') → part S gens sel ≡ part S gens sel'
  unfolding part
  part_members sel sel' h = greedy_same S gens (is_selected sel) (is_selected sel') [] (length gens) 0 (stands_same sel sel' h)

  pub part_own : (es : List ℕ) → Rising 0 (length gens) es → Independent S (chosen S gens es) → part S gens es ≡ es
  unfolding part
  part_own es r i =
      greedy_own S gens (is_selected es) (length gens) 0 (length gens) [] (omega arith) tt es r ((independent_fresh S (chosen S gens es)).0 i)
      (λ j l. (stood j es, stands j es))
