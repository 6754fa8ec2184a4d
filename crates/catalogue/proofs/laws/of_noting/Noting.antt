-- Entries met one after the other.
--   met_full       where nothing that is met changes anything
--   steady_after   the state stays steady, the buffer keeping its length
--   records_met    where records are kept, the state is that after the records
--   taken_inside   the generators of residue 0 taken by price are those taken inside the space
--   is_full_as, noted_record, noted_offer   what the code does, aim by aim
-- Assumes nothing.
use Rattle.std.specs.Prelude.{◌≡◌, refl, Bool, true, ℕ, zero, suc, length, get_or}
use Rattle.std.proofs.Common.{sym, ◌∙◌, subst, arith, eqb-true, ne_eqb}
use Rattle.std.proofs.Math.Path.{ap}
use Rattle.std.proofs.lemmas.Bool.{false≢true}
use mathlib.Core.List.{List, [], ◌∷◌, ◌++◌, map}
use Rattle.std.proofs.Math.Dec.{eqb}
use Rattle.linear.specs.Basis.{reduce}
use Rattle.linear.specs.Entry.{inside, generator}
use Rattle.linear.specs.Prices.{cheapest_in}
use Rattle.linear.specs.Word.{word, is_zero}
use Rattle.residues.specs.children.Residues.{residues}
use Rattle.residues.proofs.laws.of_children.Child.{residue_at}
use Rattle.words.specs.laws.Masks.{AllBelow}
use Rattle.cheapest.specs.Offers.{taken_along, offered}
use Rattle.cheapest.specs.laws.Taking.{taken_cheapest}
use Rattle.records.specs.Records.{State, note, runs, run, Sane}
use Rattle.records.specs.Keep.{state_of}
use Rattle.records.specs.laws.Records.{note_full, run_sane}
use Rattle.records.specs.declared.Tally.{Tally}
use Rattle.catalogue.specs.noting.Noting.{is_full, met, Steady}
use Rattle.catalogue.specs.declared.noting.Aim.{Aim}
use Rattle.catalogue.specs.declared.noting.Aim.TheVariants as aim

pub taken_inside : (gens h order C : List ℕ) → h ≡ residues gens C → AllBelow (length gens) order → taken_along gens h order ≡ cheapest_in word gens order C
taken_inside gens h order C l = taken_cheapest gens h order C (λ j b. test j)
  where
    zero_test : (x : ℕ) → eqb x 0 ≡ is_zero x
    zero_test zero = refl
    zero_test (suc x) = ne_eqb (suc x) 0 (omega arith)

    test : (j : ℕ) → eqb (get_or h j 0) 0 ≡ inside word C (generator word gens j)
    test j = unfold inside in
        ap (λ (x : List ℕ). eqb (get_or x j 0) 0) l ∙ ap (λ (x : ℕ). eqb x 0) (residue_at gens C j) ∙ zero_test (reduce word C (generator word gens j))

runs_map : {A B : Type 0} (step : State → B → State) (f : A → B) (s : State) (xs : List A)
    → runs (λ (s : State) (x : A). step s (f x)) s xs ≡ runs step s (map f xs)
unfolding runs
runs_map step f s [] = refl
runs_map step f s (x ∷ xs) = runs_map step f (step s (f x)) xs

module _ (gens order prices : List ℕ) where
  pub met_full : (a : Aim) (t : Tally) (out : List ℕ) → is_full a t.found ≡ true → (e : List ℕ × List ℕ)
      → met gens order prices a (state_of t out) e ≡ state_of t out
  met_full (aim.Records limit) t out f e = note_full limit (state_of t out) (e.0 ++ e.1) (eqb-true t.found limit f)
  met_full aim.Cheapest t out f e = absurd (false≢true f)

  pub records_met : (limit : ℕ) (s : State) (l : List (List ℕ × List ℕ))
      → runs (met gens order prices (aim.Records limit)) s l ≡ run limit s (map (λ e. e.0 ++ e.1) l)
  records_met limit s l = runs_map (note limit) (λ e. e.0 ++ e.1) s l

  pub steady_after : (a : Aim) (s end : State) (l : List (List ℕ × List ℕ)) → Steady a s → length end.buf ≡ length s.buf
      → end ≡ runs (met gens order prices a) s l
      → Steady a end
  steady_after (aim.Records limit) s end l S k e =
      subst (Sane limit) (sym (e ∙ records_met limit s l)) (run_sane limit s (map (λ e. e.0 ++ e.1) l) S).0
  steady_after aim.Cheapest s end l S k e = omega (arith, S, k)

-- ---- what the code does
pub is_full_as : {a : Aim} (found : ℕ) {b : Bool} → (x : Aim) → a ≡ x → b ≡ is_full x found → b ≡ is_full a found
is_full_as found x e q = q ∙ ap (λ (y : Aim). is_full y found) (sym e)

module _ (gens order prices : List ℕ) (a : Aim) (s end : State) (e : List ℕ × List ℕ) where
  pub noted_record : (limit : ℕ) → a ≡ aim.Records limit → end ≡ note limit s (e.0 ++ e.1) → end ≡ met gens order prices a s e
  noted_record limit q f = f ∙ ap (λ (x : Aim). met gens order prices x s e) (sym q)

pub noted_offer : (gens h order prices C p : List ℕ) (a : Aim) (t : Tally) (out last : List ℕ) → a ≡ aim.Cheapest → h ≡ residues gens C
    → AllBelow (length gens) order
    → last ≡ offered prices (eqb t.found 0) (taken_along gens h order) out
    → state_of (record { found = 1; shown = t.shown; at = t.at }) last ≡ met gens order prices a (state_of t out) (p, C)
noted_offer gens h order prices C p a t out last q l n f =
    ap (λ (x : List ℕ). record { found = 1; shown = t.shown; at = t.at; buf = x })
    (f ∙ ap (λ (N : List ℕ). offered prices (eqb t.found 0) N out) (taken_inside gens h order C l n))
    ∙ ap (λ (x : Aim). met gens order prices x (state_of t out) (p, C)) (sym q)
