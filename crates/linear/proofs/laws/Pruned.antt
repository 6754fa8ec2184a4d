-- The rising lists of numbers that a test takes, found by going over their beginnings and leaving out those that begin none; and the test for entries.
--   pruned stop q p n i m == the ways to go on from p by m numbers out of i, .., i + n - 1 that q takes, where no beginning is stopped
--   same_numbers           == equality of lists of numbers, as a test
--   canonical k es        == the space of es fits, and es is its greedy extension
--   ordered_ext           lists in order with the same members are equal
--   pruned_is             leaving out loses nothing, where what is stopped begins nothing that q takes
--   entries_canonical     the entries are the canonical ones of all rising lists
--   fresh_append          each of a list of new vectors is outside the span of those before it
--   listed_new            in an entry each generator is new
-- Assumes nothing.
use Rattle.std.specs.Prelude.{◌≡◌, ◌⊎◌, Bool, length, eqb}
use Rattle.std.proofs.Math.Path.{refl, ap, ap₂, fun_ext}
use Rattle.std.proofs.Common.{sym, ◌∙◌, subst, inl, inr, eqb-true, eq-eqb}
use Rattle.std.proofs.Math.Bool.{true, false, cond, ◌&&◌, and-eq-true_iff}
use Rattle.std.proofs.lemmas.Bool.{false≢true}
use mathlib.Core.List.Memᴰ
use mathlib.Core.List.{List, [], ◌∷◌, ◌++◌, map, Memᴰ, append-nil, append_assoc}
use Prim.Native.Nat.{ℕ, zero, suc, ◌-◌}
use Rattle.linear.specs.Space.{Space}
use Rattle.linear.specs.Span.{Span}
use Rattle.linear.specs.Basis.{insert, inserts, basis_of, Reduced, dim}
use Rattle.linear.specs.Order.{Before, rising_lists, Ordered}
use Rattle.linear.specs.Select.{only}
use Rattle.linear.specs.Entry.{same_basis, inside, generator, chosen, space, fits, entries}
use Rattle.linear.proofs.laws.Insert.{insert_span, insert_reduced, basis_of_reduced}
use Rattle.linear.proofs.laws.Dimension.{Fresh, fresh_sub}
use Rattle.linear.proofs.laws.Order.{before_asym, rising_ordered}
use Rattle.linear.proofs.laws.Select.{only_mem, mem_only, only_append, only_map, only_none, first_mem}
use Rattle.linear.proofs.laws.Entry.{same_basis_yes, same_basis_no, fits_yes, yes_fits, space_reduced, space_holds, entries_sound, entries_ordered}
use Rattle.linear.proofs.laws.Greedy.{greedy_fresh}
use Rattle.linear.specs.Extension.{extension}
use Rattle.linear.proofs.laws.Extension.{entries_greedy, greedy_listed, chosen_append}

-- ---- lists in order with the same members are equal
module _ {A : Type 0} (◌≺◌ : A → A → Type 0) (asym : (x y : A) → ◌≺◌ x y → ◌≺◌ y x → ⊥) where
  pub ordered_ext : (l m : List A) → Ordered ◌≺◌ l → Ordered ◌≺◌ m → ((x : A) → Memᴰ x l → Memᴰ x m)
      → ((x : A) → Memᴰ x m → Memᴰ x l) → l ≡ m
  ordered_ext [] [] o p f g = refl
  ordered_ext [] (y ∷ m) o p f g = absurd (Memᴰ.not-nil (g y (Memᴰ.head refl)))
  ordered_ext (x ∷ l) [] o p f g = absurd (Memᴰ.not-nil (f x (Memᴰ.head refl)))
  ordered_ext (x ∷ l) (y ∷ m) o p f g =
      let e : x ≡ y = heads (Memᴰ.cases_cons (f x (Memᴰ.head refl))) (Memᴰ.cases_cons (g y (Memᴰ.head refl))) in
      ap₂ ◌∷◌ e
      (ordered_ext l m o.1 p.1
      (λ z k. tails z (λ q. asym x z (o.0 z k) (subst (λ w. ◌≺◌ w x) (sym (q ∙ sym e)) (subst (λ w. ◌≺◌ x w) (q ∙ sym e) (o.0 z k))))
      (Memᴰ.cases_cons (f z (Memᴰ.tail k))))
      (λ z k. tails z (λ q. asym y z (p.0 z k) (subst (λ w. ◌≺◌ w y) (sym (q ∙ e)) (subst (λ w. ◌≺◌ y w) (q ∙ e) (p.0 z k)))) (Memᴰ.cases_cons (g z
      (Memᴰ.tail k)))))
    where
      heads : (x ≡ y) ⊎ Memᴰ x m → (y ≡ x) ⊎ Memᴰ y l → x ≡ y
      heads (inl e) b = e
      heads (inr a) (inl e) = sym e
      heads (inr a) (inr b) = absurd (asym x y (o.0 y b) (p.0 x a))

      tails : {w : A} {r : List A} (z : A) → (z ≡ w → ⊥) → (z ≡ w) ⊎ Memᴰ z r → Memᴰ z r
      tails z n (inl e) = absurd (n e)
      tails z n (inr k) = k

  pub only_ordered : (p : A → Bool) (l : List A) → Ordered ◌≺◌ l → Ordered ◌≺◌ (only p l)
  unfolding only
  only_ordered p [] o = tt
  only_ordered p (x ∷ l) o = go (p x) (only_ordered p l o.1)
    where
      go : (t : Bool) → Ordered ◌≺◌ (only p l) → Ordered ◌≺◌ (cond t (x ∷ only p l) (only p l))
      go true ih = (λ y k. o.0 y (only_mem p l y k).0, ih)
      go false ih = ih

-- ---- lists of numbers
unfoldable pub same_numbers : List ℕ → List ℕ → Bool
same_numbers [] [] = true
same_numbers [] (f ∷ fs) = false
same_numbers (e ∷ es) [] = false
same_numbers (e ∷ es) (f ∷ fs) = eqb e f && same_numbers es fs

pub same_numbers_yes : (es fs : List ℕ) → same_numbers es fs ≡ true → es ≡ fs
unfolding same_numbers
same_numbers_yes [] [] e = refl
same_numbers_yes [] (f ∷ fs) e = absurd (false≢true e)
same_numbers_yes (e ∷ es) [] q = absurd (false≢true q)
same_numbers_yes (e ∷ es) (f ∷ fs) q = let r = (and-eq-true_iff (eqb e f) (same_numbers es fs)).0 q in ap₂ ◌∷◌ (eqb-true e f r.0) (same_numbers_yes es fs
    r.1)

pub same_numbers_refl : (es : List ℕ) → same_numbers es es ≡ true
unfolding same_numbers
same_numbers_refl [] = refl
same_numbers_refl (e ∷ es) = ap₂ ◌&&◌ (eq-eqb e e refl) (same_numbers_refl es)

-- ---- the pruned rising lists
module _ (stop : List ℕ → ℕ → Bool) (q : List ℕ → Bool) where
  -- the ways to go on from the prefix p by m numbers out of i, .., i + n - 1 that q takes, where no prefix on the way is stopped
  unfoldable pub pruned : List ℕ → ℕ → ℕ → ℕ → List (List ℕ)
  pruned p n i zero = cond (q p) ([] ∷ []) []
  pruned p zero i (suc m) = []
  pruned p (suc n) i (suc m) =
      elim (stop p i) [ true ↦ pruned p n (suc i) (suc m) | false ↦ map (λ es. i ∷ es) (pruned (p ++ i ∷ []) n (suc i) m) ++ pruned p n (suc i) (suc m) ]

module _ (stop : List ℕ → ℕ → Bool) (q : List ℕ → Bool) (sound : (p : List ℕ) (i : ℕ) (es : List ℕ) → stop p i ≡ true → q (p ++ i ∷ es) ≡ false) where
  pub pruned_is : (p : List ℕ) (n i m : ℕ) → pruned stop q p n i m ≡ only (λ es. q (p ++ es)) (rising_lists n i m)
  unfolding pruned rising_lists only
  pruned_is p n i zero = ap (λ x. cond (q x) ([] ∷ []) []) (sym (append-nil p))
  pruned_is p zero i (suc m) = refl
  pruned_is p (suc n) i (suc m) = go (stop p i) refl (pruned_is (p ++ i ∷ []) n (suc i) m) (pruned_is p n (suc i) (suc m))
    where
      here : List (List ℕ)
      here = rising_lists n (suc i) m

      there : List (List ℕ)
      there = rising_lists n (suc i) (suc m)

      Q : List ℕ → Bool
      Q es = q (p ++ es)

      split : only Q (map (λ es. i ∷ es) here ++ there) ≡ map (λ es. i ∷ es) (only (λ es. q (p ++ i ∷ es)) here) ++ only Q there
      split = only_append Q (map (λ es. i ∷ es) here) there ∙ ap (λ r. r ++ only Q there) (only_map Q (λ es. i ∷ es) here)

      go : (t : Bool) → stop p i ≡ t → pruned stop q (p ++ i ∷ []) n (suc i) m ≡ only (λ es. q ((p ++ i ∷ []) ++ es)) here
          → pruned stop q p n (suc i) (suc m) ≡ only Q there
          → elim t [
            | true ↦ pruned stop q p n (suc i) (suc m)
            | false ↦ map (λ es. i ∷ es) (pruned stop q (p ++ i ∷ []) n (suc i) m) ++ pruned stop q p n
                (suc i) (suc m)
          ]
          ≡ only Q (map (λ es. i ∷ es) here ++ there)
      go true s a b = b ∙ sym (split ∙ ap (λ r. map (λ es. i ∷ es) r ++ only Q there) (only_none (λ es. q (p ++ i ∷ es)) here (λ x m. sound p i x s)))
      go false s a b =
          ap₂ (λ u v. map (λ es. i ∷ es) u ++ v) (a ∙ ap (λ f. only f here) (fun_ext (λ es. ap q (append_assoc p (i ∷ []) es)))) b ∙ sym split

-- ---- the entries
module _ (S : Space) (gens targets : List S.Vec) where
  open S use {Vec}

  abbrev sp : List ℕ → List Vec
  sp es = space S gens targets es

  -- the space fits, and the numbers are its greedy extension
  unfoldable pub canonical : ℕ → List ℕ → Bool
  canonical k es = fits S gens k (sp es) && same_numbers (extension S gens targets (sp es)) es

  pub canonical_listed : (k : ℕ) (es : List ℕ) → canonical k es ≡ true → Memᴰ es (entries S gens targets k)
  unfolding canonical
  canonical_listed k es e =
      let r = (and-eq-true_iff (fits S gens k (sp es)) (same_numbers (extension S gens targets (sp es)) es)).0 e in
      let f = fits_yes S gens k (sp es) (space_reduced S gens targets es) r.0 in
      greedy_listed S gens targets k es
      (record { reduced = space_reduced S gens targets es; size = f.0; holds = space_holds S gens targets es; spanned = f.1 })
      (same_numbers_yes (extension S gens targets (sp es)) es r.1)

  pub listed_canonical : (k : ℕ) (es : List ℕ) → Memᴰ es (entries S gens targets k) → canonical k es ≡ true
  unfolding canonical
  listed_canonical k es m =
      let E = entries_sound S gens targets k es m in
      ap₂ ◌&&◌ (yes_fits S gens k (sp es) E.reduced E.size E.spanned)
      (ap (λ x. same_numbers x es) (entries_greedy S gens targets k es m) ∙ same_numbers_refl es)

  pub entries_canonical : (k : ℕ) → entries S gens targets k ≡ only (canonical k) (rising_lists (length gens) 0 (k - dim S targets))
  entries_canonical k =
      ordered_ext Before before_asym (entries S gens targets k) (only (canonical k) (rising_lists (length gens) 0 (k - dim S targets)))
      (entries_ordered S gens targets k)
      (only_ordered Before before_asym (canonical k) (rising_lists (length gens) 0 (k - dim S targets)) (rising_ordered (length gens) 0 (k - dim S targets)))
      (λ es m. mem_only (canonical k) (rising_lists (length gens) 0 (k - dim S targets)) es
      (unfold entries in (first_mem (space S gens targets) (fits S gens k) (same_basis S) (same_basis_yes S) (same_basis_no S) (rising_lists (length gens) 0
      (k - dim S targets)) [] es m).0)
      (listed_canonical k es m))
      (λ es m. canonical_listed k es (only_mem (canonical k) (rising_lists (length gens) 0 (k - dim S targets)) es m).1)

  pub fresh_append : (xs ys B : List Vec) (y : Vec) → Reduced S B → Fresh S B (xs ++ y ∷ ys) → ¬ Span S (inserts S B xs) y
  unfolding inserts
  fresh_append [] ys B y ρ f = f.0
  fresh_append (x ∷ xs) ys B y ρ f =
      fresh_append xs ys (insert S B x) y (insert_reduced S B x ρ) (fresh_sub S (xs ++ y ∷ ys) (insert S B x) (x ∷ B) (λ v s. (insert_span S B x v).0 s)
      f.1)

  -- in an entry each generator is new
  pub listed_new : (k : ℕ) (p : List ℕ) (i : ℕ) (es : List ℕ) → Memᴰ (p ++ i ∷ es) (entries S gens targets k) → ¬ Span S (sp p) (generator S gens i)
  unfolding space chosen extension
  listed_new k p i es m =
      fresh_append (chosen S gens p) (chosen S gens es) (basis_of S targets) (generator S gens i) (basis_of_reduced S targets)
      (subst (Fresh S (basis_of S targets)) (chosen_append S gens targets p (i ∷ es))
      (subst (λ x. Fresh S (basis_of S targets) (chosen S gens x)) (entries_greedy S gens targets k (p ++ i ∷ es) m)
      (greedy_fresh S gens (λ j. inside S (sp (p ++ i ∷ es)) (generator S gens j)) (length gens) 0 (basis_of S targets) (basis_of_reduced S targets))))
