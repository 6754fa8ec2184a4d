-- The formulae of a space.
--   formulae_are       the formulae of a space are the rising lists of independent generators that span it
--   formulae_ordered   they stand in dictionary order
--   first_formula_law      the first formula of a solution space is the greedy choice of generators inside it
-- Assumes nothing.
use Rattle.std.specs.Prelude.{◌≡◌, ◌⊎◌, ◌↔◌, true, false, cond, Option, None, Some}
use Rattle.std.proofs.Math.Path.{refl, ap}
use Rattle.std.proofs.Common.{sym, ◌∙◌, subst, inl, inr, arith}
use Rattle.std.proofs.Math.Bool.{Bool}
use mathlib.Core.List.Memᴰ
use mathlib.Core.List.{List, [], ◌∷◌, Memᴰ}
use Prim.Native.Nat.{ℕ, ◌-◌}
use Rattle.std.proofs.Math.ListN.{length}
use Rattle.linear.specs.Space.{Space}
use Rattle.linear.specs.Span.{Span, SameSpan, Independent}
use Rattle.linear.specs.Basis.{basis_of, inserts, Reduced, dim}
use Rattle.linear.specs.Order.{Before, Rising, rising_lists, Ordered}
use Rattle.linear.specs.Select.{only}
use Rattle.linear.specs.Entry.{same_basis, chosen, Solution, space, entries}
use Rattle.linear.specs.Formulae.{first, formulae, Formula}
use Rattle.linear.proofs.laws.Insert.{basis_of_span}
use Rattle.linear.proofs.laws.Dimension.{basis_of_is}
use Rattle.linear.proofs.laws.Independent.{independent_dim}
use Rattle.linear.proofs.laws.Order.{before_asym, rising_sound, rising_complete, rising_ordered}
use Rattle.linear.proofs.laws.Select.{only_mem, mem_only}
use Rattle.linear.proofs.laws.Entry.{same_basis_yes, same_yes}
use Rattle.linear.specs.Extension.{extension}
use Rattle.linear.proofs.laws.Extension.{chosen_length, extension_space, extension_rising, extension_length, entries_first, greedy_listed}

-- ---- the first of a list
pub first_none : {A : Type 0} (l : List A) → first l ≡ None → l ≡ []
first_none [] e = refl
first_none (x ∷ l) e = absurd (let z : ◌≡◌ {A = ℕ} 0 1 = cc in omega arith)

pub first_some : {A : Type 0} (l : List A) (x : A) → first l ≡ Some x → (r : List A) × (l ≡ x ∷ r)
first_some [] x e = absurd (let z : ◌≡◌ {A = ℕ} 0 1 = cc in omega arith)
first_some (y ∷ l) x e = (l, cc)

-- in a list in order, a member before which none stands is the first
first_least : (l : List (List ℕ)) → Ordered Before l → (x : List ℕ) → Memᴰ x l → ((y : List ℕ) → Memᴰ y l → (x ≡ y) ⊎ Before x y) → first l ≡ Some x
first_least [] o x m h = absurd (Memᴰ.not-nil m)
first_least (y ∷ l) o x m h = go (Memᴰ.cases_cons m) (h y (Memᴰ.head refl))
  where
    go : (x ≡ y) ⊎ Memᴰ x l → (x ≡ y) ⊎ Before x y → ◌≡◌ {A = Option (List ℕ)} (Some y) (Some x)
    go (inl e) b = ap Some (sym e)
    go (inr k) (inl e) = ap Some (sym e)
    go (inr k) (inr b) = absurd (before_asym x y b (o.0 x k))

only_ordered : (p : List ℕ → Bool) (l : List (List ℕ)) → Ordered Before l → Ordered Before (only p l)
unfolding only
only_ordered p [] o = tt
only_ordered p (x ∷ l) o = go (p x) (only_ordered p l o.1)
  where
    go : (t : Bool) → Ordered Before (only p l) → Ordered Before (cond t (x ∷ only p l) (only p l))
    go true ih = (λ y k. o.0 y (only_mem p l y k).0, ih)
    go false ih = ih

module _ (S : Space) (gens : List S.Vec) where
  open S use {Vec}

  -- as many generators as the space that they span has dimensions are independent
  enough : (W : List Vec) (es : List ℕ) → basis_of S (chosen S gens es) ≡ W → length es ≡ length W → Independent S (chosen S gens es)
  unfolding dim
  enough W es e l = independent_dim S (chosen S gens es) (omega (arith, ap length e, l, chosen_length S gens [] es))

  -- ---- the formulae of a space
  pub formulae_are : (W : List Vec) → Reduced S W → (es : List ℕ) → Memᴰ es (formulae S gens W) ↔ Formula S gens W es
  unfolding formulae
  formulae_are W ρ es = (sound, complete)
    where
      test : List ℕ → Bool
      test fs = same_basis S (basis_of S (chosen S gens fs)) W

      sound : Memᴰ es (only test (rising_lists (length gens) 0 (length W))) → Formula S gens W es
      sound m =
          let a = only_mem test (rising_lists (length gens) 0 (length W)) es m in
          let r = rising_sound (length gens) 0 (length W) (length gens) (omega arith) es a.0 in
          let e : basis_of S (chosen S gens es) ≡ W = same_basis_yes S (basis_of S (chosen S gens es)) W a.1 in
          record {
            number = r.0;
            rising = r.1;
            independent = enough W es e r.0;
            spanning = (
              λ v s. subst (λ X. Span S X v) e ((basis_of_span S (chosen S gens es) v).1 s),
              λ v s. (basis_of_span S (chosen S gens es) v).0 (subst (λ X. Span S X v) (sym e) s),
            );
          }

      complete : Formula S gens W es → Memᴰ es (only test (rising_lists (length gens) 0 (length W)))
      complete F =
          mem_only test (rising_lists (length gens) 0 (length W)) es
          (rising_complete (length gens) 0 (length W) (length gens) (omega arith) es F.number F.rising)
          (same_yes S (basis_of S (chosen S gens es)) W (basis_of_is S W (chosen S gens es) ρ F.spanning.1 F.spanning.0))

  pub formulae_ordered : (W : List Vec) → Ordered Before (formulae S gens W)
  unfolding formulae
  formulae_ordered W =
      only_ordered (λ fs. same_basis S (basis_of S (chosen S gens fs)) W) (rising_lists (length gens) 0 (length W)) (rising_ordered (length gens) 0 (length W))

  module _ (targets : List Vec) where
    -- a solution space is one for no targets too
    pub free : (k : ℕ) (W : List Vec) → Solution S gens targets k W → Solution S gens [] k W
    free k W E = record { reduced = E.reduced; size = E.size; holds = (λ t m. absurd (Memᴰ.not-nil m)); spanned = E.spanned }

    pub first_formula_law : (k : ℕ) (W : List Vec) → Solution S gens targets k W → first (formulae S gens W) ≡ Some (extension S gens [] W)
    unfolding formulae
    first_formula_law k W E =
        first_least (formulae S gens W) (formulae_ordered W) x ((formulae_are W E.reduced x).1 here) least
      where
        F : Solution S gens [] k W
        F = free k W E

        x : List ℕ
        x = extension S gens [] W

        none_dim : dim S [] ≡ 0
        none_dim = unfold dim basis_of inserts in refl

        spaces : (fs : List ℕ) → space S gens [] fs ≡ basis_of S (chosen S gens fs)
        spaces fs = unfold space basis_of inserts in refl

        e : basis_of S (chosen S gens x) ≡ W
        e = sym (spaces x) ∙ extension_space S gens [] k W F

        here : Formula S gens W x
        here =
            let r = rising_sound (length gens) 0 (k - dim S []) (length gens) (omega arith) x (extension_rising S gens [] k W F) in
            let l : length x ≡ length W = omega (arith, extension_length S gens [] k W F, none_dim, E.size) in
            record {
              number = l;
              rising = r.1;
              independent = enough W x e l;
              spanning = (
                λ v s. subst (λ X. Span S X v) e ((basis_of_span S (chosen S gens x) v).1 s),
                λ v s. (basis_of_span S (chosen S gens x) v).0 (subst (λ X. Span S X v) (sym e) s),
              );
            }

        listed : Memᴰ x (entries S gens [] k)
        listed =
            greedy_listed S gens [] k x (subst (Solution S gens [] k) (sym (extension_space S gens [] k W F)) F)
            (ap (extension S gens []) (extension_space S gens [] k W F))

        least : (y : List ℕ) → Memᴰ y (formulae S gens W) → (x ≡ y) ⊎ Before x y
        least y m =
            let G = (formulae_are W E.reduced y).0 m in
            entries_first S gens [] k x y listed (omega (arith, G.number, none_dim, E.size)) G.rising
            (spaces y ∙ basis_of_is S W (chosen S gens y) E.reduced G.spanning.1 G.spanning.0 ∙ sym (extension_space S gens [] k W F))
