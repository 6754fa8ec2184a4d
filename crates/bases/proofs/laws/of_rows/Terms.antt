-- What the terms of a sum say, that they are the only ones, and that a formula's row is their mask.
-- Assumes nothing.
use Rattle.std.specs.Prelude.{◌≡◌, refl, ◌↔◌, true, ℕ, ◌+◌, ◌^◌, ◌<◌, ◌≤◌, length, get_or}
use Rattle.std.proofs.Math.Path.{sym, ap}
use Rattle.std.proofs.Common.{◌∙◌, subst, add-zero}
use mathlib.Core.List.Memᴰ
use mathlib.Core.List.{List, [], Memᴰ}
use native.Mathlib.Omega.{arith}
use Rattle.linear.specs.Bit.{bit}
use Rattle.linear.specs.Span.{Span, Independent}
use Rattle.linear.specs.Order.{Rising}
use Rattle.linear.specs.Part.{part}
use Rattle.linear.specs.Entry.{chosen}
use Rattle.linear.specs.Word.{word}
use Rattle.linear.proofs.laws.Dimension.{dim_length}
use Rattle.linear.proofs.laws.Extension.{chosen_length}
use Rattle.linear.proofs.laws.Part.{part_rising, part_independent, part_spans, part_members, part_own, part_size}
use Rattle.bases.specs.rows.Rows.{row_of}
use Rattle.bases.specs.rows.Terms.{named, sum_of_forms, terms}
use Rattle.bases.specs.rows.laws.Rows.{row_sum_law, row_only}
use Rattle.bases.proofs.laws.of_rows.Named.{named_passed, named_rising, named_sum, named_bit, named_of, named_length}

module _ (gens : List ℕ) where
  pub terms_rising : (sel : List ℕ) (v : ℕ) → Rising 0 (length gens) (terms gens sel v)
  unfolding terms
  terms_rising sel v = named_rising 0 (length gens) (part word gens sel) (row_of (chosen word gens (part word gens sel)) v) 0 (part_rising word gens sel)

  pub terms_part : (sel : List ℕ) (v e : ℕ) → Memᴰ e (terms gens sel v) → Memᴰ e (part word gens sel)
  unfolding terms
  terms_part sel v e m = named_passed (part word gens sel) (row_of (chosen word gens (part word gens sel)) v) 0 e m

  pub terms_sum : (sel : List ℕ) → ((e : ℕ) → Memᴰ e sel → e < length gens) → (v : ℕ) → Span word (chosen word gens sel) v
      → sum_of_forms (chosen word gens (terms gens sel v)) ≡ v
  unfolding terms
  terms_sum sel below v s =
      named_sum gens (part word gens sel) (row_of (chosen word gens (part word gens sel)) v) 0
      ∙ row_sum_law (chosen word gens (part word gens sel)) v ((part_spans word gens sel below).1 v s)

  pub terms_only : (sel : List ℕ) (v : ℕ) (us : List ℕ) → Rising 0 (length gens) us → ((e : ℕ) → Memᴰ e us → Memᴰ e (part word gens sel))
      → sum_of_forms (chosen word gens us) ≡ v → us ≡ terms gens sel v
  unfolding terms
  terms_only sel v us r h q =
      let B = part word gens sel in
      let m = named_of 0 (length gens) B us (part_rising word gens sel) r h in
      m.2
      ∙ ap (λ (row : ℕ). named B row 0)
      (row_only (chosen word gens B) v m.0 (part_independent word gens sel) (subst (λ (k : ℕ). m.0 < 2 ^ k) (sym (chosen_length word gens [] B)) m.1)
      (sym (named_sum gens B m.0 0) ∙ ap (λ (l : List ℕ). sum_of_forms (chosen word gens l)) (sym m.2) ∙ q))

  -- zero is the sum of none
  pub terms_zero : (sel : List ℕ) → terms gens sel 0 ≡ []
  unfolding sum_of_forms chosen
  terms_zero sel = sym (terms_only sel 0 [] tt (λ e m. absurd (Memᴰ.not-nil m)) refl)

  pub terms_members : (sel sel' : List ℕ) → ((e : ℕ) → Memᴰ e sel ↔ Memᴰ e sel') → (v : ℕ) → terms gens sel v ≡ terms gens sel' v
  unfolding terms
  terms_members sel sel' h v = ap (λ (B : List ℕ). named B (row_of (chosen word gens B) v) 0) (part_members word gens sel sel' h)

  -- no more of them than selected numbers
  pub terms_few : (sel : List ℕ) → ((e : ℕ) → Memᴰ e sel → e < length gens) → (v : ℕ) → length (terms gens sel v) ≤ length sel
  unfolding terms
  terms_few sel below v =
      omega (
        arith,
        named_length (part word gens sel) (row_of (chosen word gens (part word gens sel)) v) 0,
        part_size word gens sel below,
        dim_length word (chosen word gens sel),
        chosen_length word gens [] sel,
      )

  -- ---- a formula's row is the mask of the terms over its products
  module _ (es : List ℕ) (r : Rising 0 (length gens) es) (i : Independent word (chosen word gens es)) (v : ℕ) where
    pub row_terms : terms gens es v ≡ named es (row_of (chosen word gens es) v) 0
    unfolding terms
    row_terms = ap (λ (B : List ℕ). named B (row_of (chosen word gens B) v) 0) (part_own word gens es r i)

    pub row_bit_law : (k : ℕ) → k < length es → (bit (row_of (chosen word gens es) v) k ≡ true) ↔ Memᴰ (get_or es k 0) (terms gens es v)
    row_bit_law k h =
        let b = named_bit 0 (length gens) es (row_of (chosen word gens es) v) 0 k r h in
        let z : bit (row_of (chosen word gens es) v) (k + 0) ≡ bit (row_of (chosen word gens es) v) k = ap (bit (row_of (chosen word gens es) v)) (add-zero k) in (
          λ e. subst (Memᴰ (get_or es k 0)) (sym row_terms) (b.0 (z ∙ e)),
          λ m. sym z ∙ b.1 (subst (Memᴰ (get_or es k 0)) row_terms m),
        )
