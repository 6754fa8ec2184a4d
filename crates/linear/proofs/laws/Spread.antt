-- The formulae of a space, one generator after the other.
--   spread_is                    from the empty basis what is emitted is what is emitted for the formulae
--   spread_none                  where C and the later generators inside the space don't span it, nothing is emitted
--   spread_leaf                  no number is missing: the formula
--   spread_end, spread_skip, spread_down   no number is left; one is passed; one is taken
--   inner_down                   a generator that is not passed makes one dimension more
--   full_is                      where no dimension is missing the basis is the space
--   later_in, later_out          the generators from one number on
--   completes_down               taking a generator that is not passed loses nothing
--   completes_on                 nor does passing one
--   spread_some                  where C is completed there is a formula: so a search that goes on only there finds one at every step
-- Assumes nothing.
use Rattle.std.specs.Prelude.{◌≡◌, ◌≢◌, ◌⊎◌, Bool, not, ◌&&◌, drop, eqb}
use Rattle.std.proofs.Math.Path.{refl, ap, ap₂, subst}
use Rattle.std.proofs.Common.{sym, ◌∙◌, inl, inr, true≢false, add-one, length-append, drop_of_length-le, drop-cons, get_or-drop}
use Rattle.std.proofs.Math.Bool.{true, false, cond, and-eq-true_iff}
use Rattle.std.proofs.lemmas.Bool.{false≢true}
use mathlib.Core.List.{List, [], ◌∷◌, ◌++◌, map, Memᴰ}
use Prim.Native.Nat.{ℕ, zero, suc, ◌+◌, ◌-◌, ◌<◌, ◌≤◌}
use native.Mathlib.Omega.{arith}
use Rattle.std.proofs.Math.ListN.{length, get_or, length-drop}
use Rattle.std.proofs.Math.Dec.{leb}
use borrow.Author.Tests.{eq-eqb, eqb-true, le-leb, leb-true, not-false}
use Rattle.linear.specs.Space.{Space}
use Rattle.linear.specs.Span.{Span, Within}
use Rattle.linear.specs.Basis.{reduce, insert, inserts, basis_of, Reduced, dim}
use Rattle.linear.specs.Order.{Rising, rising_lists}
use Rattle.linear.specs.Select.{only}
use Rattle.linear.specs.Entry.{same_basis, inside, generator, chosen, space}
use Rattle.linear.specs.Formulae.{formulae}
use Rattle.linear.specs.Walk.{walk}
use Rattle.linear.specs.Spread.{later, completes, passed, spread, Inner}
use Rattle.linear.specs.laws.Span.{mem_cons, span_mem, span_bind}
use Rattle.linear.proofs.laws.Reduce.{member}
use Rattle.linear.proofs.laws.Insert.{insert_old, insert_reduced, insert_span, insert_length_new, inserts_reduced, inserts_span}
use Rattle.linear.proofs.laws.Dimension.{Fresh, unique, sub_length, same_size, basis_of_is, fresh_of_length}
use Rattle.linear.proofs.laws.Order.{rising_sound, mem_get_d}
use Rattle.linear.proofs.laws.Select.{mem_only}
use Rattle.linear.proofs.laws.Entry.{same_basis_yes, same_yes, inside_yes, yes_inside, no_inside}
use Rattle.linear.proofs.laws.Extension.{chosen_length, chosen_append}
use Rattle.linear.proofs.laws.Pruned.{pruned_is, fresh_append}
use Rattle.linear.proofs.laws.Walk.{pruned_same, pruned_pruned, walk_none, Further}

-- tests that agree on the members of a list choose the same
only_same : {A : Type 0} (p q : A → Bool) (l : List A) → ((x : A) → Memᴰ x l → p x ≡ q x) → only p l ≡ only q l
unfolding only
only_same p q [] h = refl
only_same {A} p q (x ∷ l) h = ap₂ (λ (t : Bool) (r : List A). cond t (x ∷ r) r) (h x (mathlib.Core.List.Memᴰ.head refl)) (only_same p q l (λ y m. h y (mathlib.Core.List.Memᴰ.tail m)))

module _ (S : Space) (gens W : List S.Vec) (ρ : Reduced S W) where
  open S use {Vec}

  abbrev gen : ℕ → Vec
  gen j = generator S gens j

  abbrev sp : List ℕ → List Vec
  sp es = space S gens [] es

  abbrev stop : List ℕ → ℕ → Bool
  stop p i = passed S gens W (sp p) i

  -- what a formula is, as a test: enough numbers, and they lead to W
  abbrev good : List ℕ → Bool
  good p = eqb (length p) (length W) && same_basis S (sp p) W

  sp_basis : (es : List ℕ) → sp es ≡ basis_of S (chosen S gens es)
  sp_basis es = unfold space basis_of inserts in refl

  sp_span : (es : List ℕ) (v : Vec) → Memᴰ v (chosen S gens es) → Span S (sp es) v
  unfolding space basis_of inserts
  sp_span es v m = (inserts_span S (chosen S gens es) [] v).1 (span_mem S (mathlib.Core.List.Memᴰ.append_left [] m))

  -- a number that is passed begins no formula
  passed_sound : (p : List ℕ) (i : ℕ) (es : List ℕ) → stop p i ≡ true → good (p ++ i ∷ es) ≡ false
  passed_sound p i es b = go (good (p ++ i ∷ es)) refl
    where
      xs : List Vec
      xs = chosen S gens p

      ys : List Vec
      ys = chosen S gens es

      split : chosen S gens (p ++ i ∷ es) ≡ xs ++ gen i ∷ ys
      split = unfold chosen in chosen_append S gens [] p (i ∷ es)

      new : length (p ++ i ∷ es) ≡ length W → sp (p ++ i ∷ es) ≡ W → ¬ Span S (sp p) (gen i)
      new l e =
          unfold space basis_of inserts in
          fresh_append S gens [] xs ys [] (gen i) tt
          (subst (Fresh S []) split
          (fresh_of_length S (chosen S gens (p ++ i ∷ es)) [] tt (omega (arith, ap length e, l, chosen_length S gens [] (p ++ i ∷ es)))))

      inner : sp (p ++ i ∷ es) ≡ W → Span S W (gen i)
      inner e =
          subst (λ X. Span S X (gen i)) e
          (sp_span (p ++ i ∷ es) (gen i) (subst (Memᴰ (gen i)) (sym split) (mathlib.Core.List.Memᴰ.append_right xs (mathlib.Core.List.Memᴰ.head refl))))

      go : (t : Bool) → good (p ++ i ∷ es) ≡ t → good (p ++ i ∷ es) ≡ false
      go false e = e
      go true e =
          let r = (and-eq-true_iff (eqb (length (p ++ i ∷ es)) (length W)) (same_basis S (sp (p ++ i ∷ es)) W)).0 e in
          let l : length (p ++ i ∷ es) ≡ length W = eqb-true (length (p ++ i ∷ es)) (length W) r.0 in
          let q : sp (p ++ i ∷ es) ≡ W = same_basis_yes S (sp (p ++ i ∷ es)) W r.1 in
          absurd (false≢true (sym (ap₂ (λ (s t : Bool). not (s && not t)) (yes_inside S W ρ (gen i) (inner q)) (no_inside S (sp p) (gen i) (new l q))) ∙ b))

  pub spread_is : {A : Type 0} (emit : List ℕ → A) → spread S gens W emit [] [] (length gens) 0 (length W) ≡ map emit (formulae S gens W)
  unfolding formulae
  spread_is {A} emit =
      ap (λ X. spread S gens W emit X [] (length gens) 0 (length W)) start
      ∙ pruned_pruned S gens (passed S gens W) (λ C. same_basis S C W) (λ p C. emit p) [] [] (length gens) 0 (length W)
      ∙ ap (map emit)
      (sym (pruned_same stop good (λ p. same_basis S (sp p) W) (λ p n i m. length p + m ≡ length W) (λ p n i m e. e) longer last [] (length gens) 0
      (length W) (omega arith))
      ∙ pruned_is stop good passed_sound [] (length gens) 0 (length W)
      ∙ only_same good (λ es. same_basis S (basis_of S (chosen S gens es)) W) (rising_lists (length gens) 0 (length W)) plain)
    where
      start : [] ≡ sp []
      start = unfold space basis_of inserts chosen in refl

      longer : (p : List ℕ) (n i m : ℕ) → length p + suc m ≡ length W → stop p i ≡ false → length (p ++ i ∷ []) + m ≡ length W
      longer p n i m e s = omega (arith, e, length-append p (i ∷ []))

      last : (p : List ℕ) (n i : ℕ) → length p + 0 ≡ length W → good p ≡ same_basis S (sp p) W
      last p n i e = ap (λ (t : Bool). t && same_basis S (sp p) W) (eq-eqb (length p) (length W) (omega (arith, e)))

      plain : (es : List ℕ) → Memᴰ es (rising_lists (length gens) 0 (length W)) → good es ≡ same_basis S (basis_of S (chosen S gens es)) W
      plain es m =
          let r = rising_sound (length gens) 0 (length W) (length gens) (omega arith) es m in
          ap₂ (λ (t : Bool) (X : List Vec). t && same_basis S X W) (eq-eqb (length es) (length W) r.0) (sp_basis es)

  -- ---- leaving at once
  mem_later : (i : ℕ) (es : List ℕ) (lo : ℕ) → i ≤ lo → Rising lo (length gens) es → (x : Vec) → Memᴰ x (chosen S gens es) → Span S W x
      → Memᴰ x (later S gens W i)
  unfolding chosen later generator
  mem_later i [] lo h r = λ x m s. absurd (mathlib.Core.List.Memᴰ.not-nil m)
  mem_later i (e ∷ es) lo h r =
      mem_cons {P = λ x. Span S W x → Memᴰ x (later S gens W i)} here (mem_later i es (suc e) (let a = r.0 in omega arith) r.2)
    where
      at : Memᴰ (gen e) (drop i gens)
      at =
          let a : lo ≤ e = r.0 in
          let b : e < length gens = r.1 in
          let j : e - i < length (drop i gens) = omega (arith, length-drop i gens) in
          subst (λ (x : Vec). Memᴰ x (drop i gens)) (get_or-drop i gens (e - i) S.nul ∙ ap (λ (k : ℕ). get_or gens k S.nul) (let z : i +
          (e - i) ≡ e = omega arith in z))
          (mem_get_d (drop i gens) (e - i) S.nul j)

      here : Span S W (gen e) → Memᴰ (gen e) (later S gens W i)
      here s = mem_only (inside S W) (drop i gens) (gen e) at (yes_inside S W ρ (gen e) s)

  pub spread_none : {A : Type 0} (emit : List ℕ → A) (C : List Vec) (p : List ℕ) (n i m : ℕ) → Reduced S C → i + n ≡ length gens
      → completes S gens W C i ≡ false
      → spread S gens W emit C p n i m ≡ []
  spread_none {A} emit C p n i m σ q b = walk_none S gens (passed S gens W) (λ D. same_basis S D W) (λ x D. emit x) C p n i m (length gens) q none
    where
      none : Further S gens (passed S gens W) (λ D. same_basis S D W) {A = A} (λ x D. emit x) C i (length gens) m → ⊥
      none f = true≢false (sym full ∙ b)
        where
          es : List ℕ
          es = f.numbers

          is : inserts S C (chosen S gens es) ≡ W
          is = same_basis_yes S (inserts S C (chosen S gens es)) W f.good

          low : (x : Vec) → Memᴰ x (chosen S gens es) ⊎ Memᴰ x C → Span S (later S gens W i ++ C) x
          low x (inl k) =
              let s : Span S W x = subst (λ (X : List Vec). Span S X x) is ((inserts_span S (chosen S gens es) C x).1 (span_mem S (mathlib.Core.List.Memᴰ.append_left C k))) in
              span_mem S (mathlib.Core.List.Memᴰ.append_left C (mem_later i es i (omega arith) f.rising.1 x k s))
          low x (inr k) = span_mem S (mathlib.Core.List.Memᴰ.append_right (later S gens W i) k)

          within : Within S W (inserts S C (later S gens W i))
          within v s =
              (inserts_span S (later S gens W i) C v).1
              (span_bind S (λ x k. low x (mathlib.Core.List.Memᴰ.append_cases (chosen S gens es) k)) ((inserts_span S (chosen S gens es) C v).0 (subst (λ
              (X : List Vec). Span S X v) (sym is) s)))

          full : completes S gens W C i ≡ true
          full =
              unfold completes in
              le-leb (length W) (length (inserts S C (later S gens W i)))
              (sub_length S (inserts S C (later S gens W i)) W ρ (inserts_reduced S (later S gens W i) C σ) within)

  -- ---- a basis inside W
  passed_no : (C : List Vec) (i : ℕ) → Reduced S C → (inside S W (gen i) && not (inside S C (gen i))) ≡ true → Span S W (gen i) × ¬ Span S C (gen i)
  passed_no C i σ e = go (inside S C (gen i)) refl ((and-eq-true_iff (inside S W (gen i)) (not (inside S C (gen i)))).0 e)
    where
      go : (t : Bool) → inside S C (gen i) ≡ t → (inside S W (gen i) ≡ true) × (not (inside S C (gen i)) ≡ true) → Span S W (gen i) × ¬ Span S C (gen i)
      go true q p = absurd (false≢true (ap not (sym q) ∙ p.1))
      go false q p = (inside_yes S W (gen i) p.0, λ s. true≢false (sym (yes_inside S C σ (gen i) s) ∙ q))

  pub inner_down : (C : List Vec) (i m : ℕ) → m ≢ 0 → Inner S W C m → (inside S W (gen i) && not (inside S C (gen i))) ≡ true
      → Inner S W (insert S C (gen i)) (m - 1)
  inner_down C i m ne I e =
      let a = passed_no C i I.reduced e in
      record {
        reduced = insert_reduced S C (gen i) I.reduced;
        within = (λ v s. span_bind S (mem_cons {P = Span S W} a.0 (λ x k. I.within x (span_mem S k))) ((insert_span S C (gen i) v).0 s));
        size = omega (arith, ne, I.size, insert_length_new S C (gen i) (λ z. a.1 ((member S C I.reduced (gen i)).1 z)));
      }

  pub full_is : (C : List Vec) → Inner S W C 0 → C ≡ W
  full_is C I = unique S C W I.reduced ρ I.within (same_size S W C ρ I.within (let d : dim S C ≡ length C = own in omega (arith, d, I.size)))
    where
      own : dim S C ≡ length C
      own = unfold dim in ap length (basis_of_is S C C I.reduced (λ v s. s) (λ v s. s))

  -- ---- one number after the other
  module _ {A : Type 0} (emit : List ℕ → A) (C : List Vec) (p : List ℕ) where
    pub spread_leaf : (n i m : ℕ) → m ≡ 0 → Inner S W C m → spread S gens W emit C p n i m ≡ emit p ∷ []
    unfolding walk
    spread_leaf n i zero z I = ap (λ (t : Bool). cond t (emit p ∷ []) []) (same_yes S C W (full_is C I))
    spread_leaf n i (suc m) z I = absurd (omega arith)

    none_left : (n j m : ℕ) → m ≢ 0 → n ≡ 0 → spread S gens W emit C p n j m ≡ []
    unfolding walk
    none_left zero j zero a b = absurd (a refl)
    none_left zero j (suc m) a b = refl
    none_left (suc n) j m a b = absurd (omega arith)

    turn : (n j m : ℕ) (t : Bool) → passed S gens W C j ≡ t
        → spread S gens W emit C p (suc n) j (suc m)
        ≡ elim t [
          | true ↦ spread S gens W emit C p n (suc j) (suc m)
          | false ↦ spread S gens W emit (insert S C (gen j)) (p ++ j ∷ []) n
              (suc j) m ++ spread S gens W emit C p n (suc j) (suc m)
        ]
    unfolding walk
    turn n j m t e =
        ap (λ (u : Bool). elim u [
          | true ↦ spread S gens W emit C p n (suc j) (suc m)
          | false ↦ spread S gens W emit (insert S C (gen j)) (p ++ j ∷ []) n
              (suc j) m ++ spread S gens W emit C p n (suc j) (suc m)
        ]) e

    module _ (j m : ℕ) (ne : m ≢ 0) where
      pub spread_end : length gens ≤ j → spread S gens W emit C p (length gens - j) j m ≡ []
      spread_end g = none_left (length gens - j) j m ne (omega arith)

      counts : j < length gens → spread S gens W emit C p (length gens - j) j m ≡ spread S gens W emit C p (suc (length gens - (j + 1))) j (suc (m - 1))
      counts g = ap₂ (λ (a b : ℕ). spread S gens W emit C p a j b) (omega arith) (omega arith)

      back : spread S gens W emit C p (length gens - (j + 1)) (suc j) (suc (m - 1)) ≡ spread S gens W emit C p (length gens - (j + 1)) (j + 1) m
      back = ap₂ (λ (a b : ℕ). spread S gens W emit C p (length gens - (j + 1)) a b) (sym (add-one j)) (omega arith)

      pub spread_skip : j < length gens → (inside S W (gen j) && not (inside S C (gen j))) ≡ false
          → spread S gens W emit C p (length gens - j) j m ≡ spread S gens W emit C p (length gens - (j + 1)) (j + 1) m
      spread_skip g e = counts g ∙ turn (length gens - (j + 1)) j (m - 1) true (ap not e) ∙ back

      pub spread_down : j < length gens → (inside S W (gen j) && not (inside S C (gen j))) ≡ true
          → spread S gens W emit C p (length gens - j) j m
          ≡ spread S gens W emit (insert S C (gen j)) (p ++ j ∷ []) (length gens - (j + 1)) (j + 1) (m - 1) ++ spread S gens W emit C p (length gens -
          (j + 1)) (j + 1) m
      spread_down g e =
          counts g ∙ turn (length gens - (j + 1)) j (m - 1) false (ap not e)
          ∙ ap₂ ◌++◌ (ap (λ (a : ℕ). spread S gens W emit (insert S C (gen j)) (p ++ j ∷ []) (length gens - (j + 1)) a (m - 1)) (sym (add-one j))) back

-- ---- the generators inside, from one number on
module _ (S : Space) (gens W : List S.Vec) where
  open S use {Vec}

  later_step : (i : ℕ) (t : Bool) → i < length gens → inside S W (generator S gens i) ≡ t
      → later S gens W i ≡ cond t (generator S gens i ∷ later S gens W (i + 1)) (later S gens W (i + 1))
  unfolding later only generator
  later_step i t l e =
      ap (only (inside S W)) (drop-cons gens i S.nul l)
      ∙ ap₂ (λ (u : Bool) (k : ℕ). cond u (get_or gens i S.nul ∷ only (inside S W) (drop k gens)) (only (inside S W) (drop k gens))) e (sym (add-one i))

  pub later_in : (C : List Vec) (i : ℕ) → i < length gens → inside S W (generator S gens i) ≡ true
      → inserts S C (later S gens W i) ≡ inserts S (insert S C (generator S gens i)) (later S gens W (i + 1))
  unfolding inserts
  later_in C i l e = ap (inserts S C) (later_step i true l e)

  pub later_out : (C : List Vec) (i : ℕ) → i < length gens → inside S W (generator S gens i) ≡ false
      → inserts S C (later S gens W i) ≡ inserts S C (later S gens W (i + 1))
  later_out C i l e = ap (inserts S C) (later_step i false l e)

  pub completes_down : (C : List Vec) (i : ℕ) → i < length gens → (inside S W (generator S gens i) && not (inside S C (generator S gens i))) ≡ true
      → completes S gens W C i ≡ completes S gens W (insert S C (generator S gens i)) (i + 1)
  unfolding completes
  completes_down C i l e =
      ap (λ (X : List Vec). leb (length W) (length X))
      (later_in C i l ((and-eq-true_iff (inside S W (generator S gens i)) (not (inside S C (generator S gens i)))).0 e).0)

  pub completes_on : (C : List Vec) (i : ℕ) → i < length gens → (inside S W (generator S gens i) && not (inside S C (generator S gens i))) ≡ false
      → completes S gens W C i ≡ completes S gens W C (i + 1)
  unfolding completes
  completes_on C i l e = ap (λ (X : List Vec). leb (length W) (length X)) (go (inside S W (generator S gens i)) refl e)
    where
      g : Vec
      g = generator S gens i

      spanned : not (inside S C g) ≡ false → reduce S C g ≡ S.nul
      spanned q = unfold inside in S.is_nul_yes (reduce S C g) (not-false (inside S C g) q)

      go : (t : Bool) → inside S W (generator S gens i) ≡ t → (t && not (inside S C (generator S gens i))) ≡ false
          → inserts S C (later S gens W i) ≡ inserts S C (later S gens W (i + 1))
      go true a b = later_in C i l a ∙ ap (λ (D : List Vec). inserts S D (later S gens W (i + 1))) (insert_old S C g (spanned b))
      go false a b = later_out C i l a

  completes_end : (C : List Vec) (i : ℕ) → length gens ≤ i → completes S gens W C i ≡ true → length W ≤ length C
  unfolding completes later only inserts
  completes_end C i h b =
      leb-true (length W) (length C) (ap (λ (X : List Vec). leb (length W) (length (inserts S C (only (inside S W) X)))) (sym (drop_of_length-le gens h)) ∙ b)

module _ (S : Space) (gens W : List S.Vec) (ρ : Reduced S W) {A : Type 0} (emit : List ℕ → A) where
  open S use {Vec}

  pub spread_some : (C : List Vec) (p : List ℕ) (n i m : ℕ) → Inner S W C m → i + n ≡ length gens → completes S gens W C i ≡ true
      → 0 < length (spread S gens W emit C p n i m)
  spread_some C p n i zero I q b = omega (arith, ap length (spread_leaf S gens W ρ emit C p n i zero refl I))
  spread_some C p zero i (suc m) I q b = absurd (let l = completes_end S gens W C i (omega arith) b in let z = I.size in omega arith)
  spread_some C p (suc n) i (suc m) I q b =
      go (inside S W g && not (inside S C g)) refl
      (λ J c. spread_some (insert S C g) (p ++ i ∷ []) n (suc i) m J (omega arith) c)
      (λ c. spread_some C p n (suc i) (suc m) I (omega arith) c)
    where
      g : Vec
      g = generator S gens i

      here : List A
      here = spread S gens W emit (insert S C g) (p ++ i ∷ []) n (suc i) m

      there : List A
      there = spread S gens W emit C p n (suc i) (suc m)

      next : i + 1 ≡ suc i
      next = add-one i

      go : (t : Bool) → (inside S W g && not (inside S C g)) ≡ t
          → (Inner S W (insert S C g) m → completes S gens W (insert S C g) (suc i) ≡ true → 0 < length here)
          → (completes S gens W C (suc i) ≡ true → 0 < length there) → 0 < length (spread S gens W emit C p (suc n) i (suc m))
      go true e f h =
          let a : 0 < length here =
          f (subst (Inner S W (insert S C g)) (let z : suc m - 1 ≡ m = omega arith in z) (inner_down S gens W ρ C i (suc m) (λ z. absurd (omega arith)) I e))
          (ap (completes S gens W (insert S C g)) (sym next) ∙ sym (completes_down S gens W C i (omega arith) e) ∙ b) in
          omega (arith, a, ap length (turn S gens W ρ emit C p n i m false (ap not e)), length-append here there)
      go false e f h =
          let a : 0 < length there = h (ap (completes S gens W C) (sym next) ∙ sym (completes_on S gens W C i (omega arith) e) ∙ b) in
          omega (arith, a, ap length (turn S gens W ρ emit C p n i m true (ap not e)))
