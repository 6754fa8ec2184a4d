-- The terms as they are shown, in any layout.
--   terms_named    they are what the row of the part names
--   terms_order    selections with the same numbers have the same terms
--   terms_room     they have no more words than as many terms as numbers are selected
--   terms_own      over the products of a formula they are what its row names
-- Assumes nothing.
use Rattle.std.specs.Prelude.{◌≡◌, refl, ◌↔◌, ℕ, suc, ◌*◌, ◌<◌, ◌≤◌, length}
use Rattle.std.proofs.Common.{sym, ap, ◌∙◌, arith}
use mathlib.Core.List.{List, [], ◌∷◌, Memᴰ}
use Rattle.linear.specs.Span.{Independent}
use Rattle.linear.specs.Order.{Rising}
use Rattle.linear.specs.Part.{part}
use Rattle.linear.specs.Entry.{chosen}
use Rattle.linear.specs.Planes.{Three, n0, n1, n2, Planes, coord3}
use Rattle.linear.specs.Trit.{trits}
use Rattle.linear.proofs.laws.Dimension.{dim_length}
use Rattle.linear.proofs.laws.Extension.{chosen_length}
use Rattle.linear.proofs.laws.Part.{part_members, part_own, part_size}
use Rattle.layouts.specs.declared.Layout.{Layout}
use Rattle.layouts.specs.declared.Layout.TheVariants as layout
use Rattle.layouts.specs.Layout.{form_space}
use Rattle.bases.specs.rows.Terms.{terms}
use Rattle.bases.specs.rows.Layouts.{row_in}
use Rattle.bases.specs.rows.Shown.{with_digit, named_digits, named_in, terms_in, term_words}
use Rattle.bases.proofs.laws.of_rows.Terms.{terms_few}

pub terms_named : (l : Layout) (gens : List (form_space l).Vec) (sel : List ℕ) (v : (form_space l).Vec)
    → terms_in l gens sel v ≡ named_in l (part (form_space l) gens sel) (row_in l (chosen (form_space l) gens (part (form_space l) gens sel)) v)
unfolding terms
terms_named layout.Narrow gens sel v = refl
terms_named layout.Wide gens sel v = refl
terms_named layout.Ternary gens sel v = refl

pub terms_order : (l : Layout) (gens : List (form_space l).Vec) (sel sel' : List ℕ) → ((e : ℕ) → Memᴰ e sel ↔ Memᴰ e sel') → (v : (form_space l).Vec)
    → terms_in l gens sel v ≡ terms_in l gens sel' v
terms_order l gens sel sel' h v =
    terms_named l gens sel v
    ∙ ap (λ (B : List ℕ). named_in l B (row_in l (chosen (form_space l) gens B) v)) (part_members (form_space l) gens sel sel' h)
    ∙ sym (terms_named l gens sel' v)

pub terms_own : (l : Layout) (gens : List (form_space l).Vec) (es : List ℕ) → Rising 0 (length gens) es → Independent (form_space l) (chosen (form_space l) gens es)
    → (v : (form_space l).Vec) → terms_in l gens es v ≡ named_in l es (row_in l (chosen (form_space l) gens es) v)
terms_own l gens es r i v =
    terms_named l gens es v ∙ ap (λ (B : List ℕ). named_in l B (row_in l (chosen (form_space l) gens B) v)) (part_own (form_space l) gens es r i)

digits_few : (es : List ℕ) (row : Planes) (k : ℕ) → length (named_digits es row k) ≤ 2 * length es
unfolding named_digits
digits_few [] row k = omega arith
digits_few (e ∷ es) row k = go (coord3 row k) (digits_few es row (suc k))
  where
    go : (d : Three) → length (named_digits es row (suc k)) ≤ 2 * length es → length (with_digit e d (named_digits es row (suc k))) ≤ 2 * length (e ∷ es)
    go n0 h = omega arith
    go n1 h = omega arith
    go n2 h = omega arith

pub terms_room : (l : Layout) (gens : List (form_space l).Vec) (sel : List ℕ) → ((e : ℕ) → Memᴰ e sel → e < length gens) → (v : (form_space l).Vec)
    → length (terms_in l gens sel v) ≤ term_words l (length sel)
terms_room layout.Narrow gens sel below v = terms_few gens sel below v
terms_room layout.Wide gens sel below v = terms_few gens sel below v
terms_room layout.Ternary gens sel below v =
    omega (
      arith,
      digits_few (part trits gens sel) (row_in layout.Ternary (chosen trits gens (part trits gens sel)) v) 0,
      part_size trits gens sel below,
      dim_length trits (chosen trits gens sel),
      chosen_length trits gens [] sel,
    )
