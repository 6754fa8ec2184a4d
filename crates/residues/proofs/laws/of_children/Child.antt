-- The child of a space, by a generator that is new there.
--   reduce_child, child_residues   its residues are those of the space, cleared by the generator's
--   residue_at, residues_length    the residue with a number; how many there are
--   clear_zero, clear_self, zero_clear   the row x clears to 0 only 0 and x, and these it does
--   clear_at                       the cleared residue with a number
--   with_zero                      the generators of residue 0 are those in the space
--   mem_with                       the generators of a residue
-- Assumes nothing.
use Rattle.std.specs.Prelude.{◌≡◌, refl, ◌≢◌, ◌⊎◌, Bool, true, false, cond, ℕ, zero, suc, length, get_or, eqb}
use Rattle.std.proofs.Common.{sym, ap, ap₂, ◌∙◌, subst, inl, inr, true≢false, arith, eq-eqb, ne_eqb}
use Rattle.std.proofs.lemmas.Bool.{false≢true}
use mathlib.Core.List.{List, [], ◌∷◌, map, Memᴰ}
use Rattle.std.proofs.Math.ListN.{get_or-map}
use Rattle.std.proofs.lemmas.List.{length-map}
use Rattle.std.specs.Int.Bits.{bit_xor, xor_zero_l, xor_self}
use Rattle.linear.specs.Bit.{bit, top}
use Rattle.linear.specs.Basis.{clear, reduce, insert, Reduced}
use Rattle.linear.specs.Select.{only}
use Rattle.linear.specs.Entry.{same_vec, inside, generator, generators_in}
use Rattle.linear.specs.Word.{word, scale_w, is_zero}
use Rattle.linear.specs.laws.Bit.{bit_zero, top_one}
use Rattle.linear.proofs.laws.Reduce.{clear_done}
use Rattle.linear.proofs.laws.Residue.{reduce_nul, reduce_insert}
use Rattle.linear.proofs.laws.Select.{mem_only}
use Rattle.linear.proofs.laws.Entry.{same_vec_yes}
use Rattle.linear.proofs.laws.Word.{norm_word}
use Rattle.residues.specs.children.Residues.{residues, with_residue}

-- ---- its residues
pub reduce_child : (C : List ℕ) → Reduced word C → (g m : ℕ) → reduce word C g ≢ 0
    → reduce word (insert word C g) m ≡ clear word (reduce word C g) (reduce word C m)
reduce_child C ρ g m h = reduce_insert word C ρ g m h ∙ ap (λ (r : ℕ). clear word r (reduce word C m)) (norm_word (reduce word C g) h)

pub child_residues : (gens C : List ℕ) → Reduced word C → (g : ℕ) → reduce word C g ≢ 0
    → map (clear word (reduce word C g)) (residues gens C) ≡ residues gens (insert word C g)
unfolding residues
child_residues [] C ρ g n = refl
child_residues (m ∷ gens) C ρ g n = ap₂ ◌∷◌ (sym (reduce_child C ρ g m n)) (child_residues gens C ρ g n)

pub residues_length : (gens C : List ℕ) → length (residues gens C) ≡ length gens
unfolding residues
residues_length gens C = length-map gens (reduce word C)

pub residue_at : (gens C : List ℕ) (i : ℕ) → get_or (residues gens C) i 0 ≡ reduce word C (generator word gens i)
unfolding residues generator
residue_at gens C i = ap (λ (d : ℕ). get_or (map (reduce word C) gens) i d) (sym (reduce_nul word C)) ∙ get_or-map (reduce word C) gens i 0

pub zero_yes : (x : ℕ) → is_zero x ≡ true → x ≡ 0
zero_yes zero e = refl
zero_yes (suc x) e = absurd (false≢true e)

pub zero_no : (x : ℕ) → is_zero x ≡ false → x ≢ 0
zero_no zero e q = true≢false e
zero_no (suc x) e q = let z : suc x ≡ 0 = q in omega arith

pub clear_zero : (x y : ℕ) → clear word x y ≡ 0 → (y ≡ 0) ⊎ (x ≡ y)
unfolding clear same_vec
clear_zero x y = go (bit y (top x))
  where
    go : (t : Bool) → bit_xor (scale_w t x) y ≡ 0 → (y ≡ 0) ⊎ (x ≡ y)
    go true e = inr (same_vec_yes word x y (ap is_zero e))
    go false e = inl (sym (xor_zero_l y) ∙ e)

pub clear_self : (x : ℕ) → x ≢ 0 → clear word x x ≡ 0
unfolding clear
clear_self x n = go (bit x (top x)) refl
  where
    go : (t : Bool) → bit x (top x) ≡ t → bit_xor (scale_w t x) x ≡ 0
    go true e = xor_self x
    go false e = absurd (top_one x n e)

pub zero_clear : (x : ℕ) → clear word x 0 ≡ 0
zero_clear x = clear_done word x 0 (bit_zero (top x))

pub clear_at : (x : ℕ) (d : List ℕ) (i : ℕ) → get_or (map (clear word x) d) i 0 ≡ clear word x (get_or d i 0)
clear_at x d i = ap (λ (e : ℕ). get_or (map (clear word x) d) i e) (sym (zero_clear x)) ∙ get_or-map (clear word x) d i 0

-- ---- the generators by residue
with_only : (x : ℕ) (gens C : List ℕ) → with_residue x gens (residues gens C) ≡ only (λ g. eqb (reduce word C g) x) gens
unfolding with_residue residues only
with_only x [] C = refl
with_only x (g ∷ gens) C = ap (λ (r : List ℕ). cond (eqb (reduce word C g) x) (g ∷ r) r) (with_only x gens C)

eqb_zero : (y : ℕ) → eqb y 0 ≡ is_zero y
eqb_zero zero = refl
eqb_zero (suc y) = ne_eqb (suc y) 0 (λ e. omega arith)

pub with_zero : (gens C : List ℕ) → with_residue 0 gens (residues gens C) ≡ generators_in word gens C
unfolding with_residue residues generators_in only inside
with_zero [] C = refl
with_zero (g ∷ gens) C = ap₂ (λ (t : Bool) (r : List ℕ). cond t (g ∷ r) r) (eqb_zero (reduce word C g)) (with_zero gens C)

module _ (gens C : List ℕ) where
  pub mem_with : (y m : ℕ) → Memᴰ m gens → reduce word C m ≡ y → Memᴰ m (with_residue y gens (residues gens C))
  mem_with y m k e =
      subst (λ (l : List ℕ). Memᴰ m l) (sym (with_only y gens C)) (mem_only (λ g. eqb (reduce word C g) y) gens m k (eq-eqb (reduce word C m) y e))
