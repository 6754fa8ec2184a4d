-- The refusals by what the tests say, and the buffers after them.
--   turnable_as                 2 and 3
--   turned_as                   12 and 9, of an admitted formula
--   short_room                  each buffer has room
--   lent_refused, lent_filled   the buffers as they were, and filled
-- Assumes nothing.
use Rattle.std.specs.Prelude.{◌≡◌, refl, Bool, false, not, ◌||◌, List, ℕ, ◌≤◌, length, eqb, ltb, Option}
use Rattle.std.proofs.Common.{sym, ap₂, ◌∙◌, subst, ltb-false}
use Rattle.std.proofs.lemmas.List.{length-map}
use Rattle.kinds.specs.Sizes.{shape_of, sizes}
use Rattle.kinds.specs.Refusal.{Answer, refused, accepted, need, refuse}
use Rattle.kinds.specs.laws.Refusal.{neither}
use Rattle.kinds.specs.declared.Kind.{Kind}
use Rattle.kinds.specs.declared.Kind.TheVariants as kind
use Rattle.words.specs.Masks.{zero_in}
use Rattle.words.specs.Buffers.{filled}
use Rattle.maps.specs.Generators.{length_list_of}
use Rattle.formula_check.specs.Formula.{Admitted, too_short}
use Rattle.turning.specs.Turning.{reversed, column, columns, turned, is_poly, middle_of, turnable, turned_into}
use Rattle.turning.specs.Lent.{Lent}

pub turnable_as : (named : Option Kind) (p q r : ℕ) {a t : Bool} {s z : Option (ℕ × ℕ × ℕ)}
    → not (is_poly named) ≡ a → sizes (shape_of kind.Poly p q r) ≡ s → eqb p q ≡ t → sizes (middle_of p) ≡ z
    → turnable named p q r ≡ refuse 2 a (need 3 s λ _. refuse 3 (not t) (need 3 z λ _. accepted tt))
unfolding turnable
turnable_as named p q r A S T Z = rw (A, S, T, Z)

-- of an admitted formula: a product is used by no row, or a buffer of u, v or w words is too short
turned_short : (u v w : ℕ) (f : Admitted) → too_short u v w (turned f) ≡ (ltb u (length f.firsts) || (ltb v (length f.firsts) || ltb w f.n))
turned_short u v w f =
    ap₂ (λ (x : ℕ) (y : Bool). ltb u x || y) (length-map f.firsts (reversed f.n))
    (ap₂ (λ (x y : ℕ). ltb v x || ltb w y) (length_list_of (column f.rows) 0 (length f.firsts)) (length_list_of (column f.seconds) 0 f.n))

pub turned_as : (u v w : ℕ) (f : Admitted) {z s : Bool} → z ≡ zero_in (columns f.rows (length f.firsts))
    → s ≡ (ltb u (length f.firsts) || (ltb v (length f.firsts) || ltb w f.n)) → turned_into u v w f ≡ refuse 12 z (refuse 9 s (accepted (turned f)))
turned_as u v w f Z S = ap₂ (λ (z s : Bool). refuse 12 z (refuse 9 s (accepted (turned f)))) (sym Z) (turned_short u v w f ∙ sym S)

-- ---- the buffers
pub short_room : (u v w k n : ℕ) → (ltb u k || (ltb v k || ltb w n)) ≡ false → (k ≤ u) × (k ≤ v) × (n ≤ w)
short_room u v w k n e =
    let a = neither (ltb u k) (ltb v k || ltb w n) e in
    let b = neither (ltb v k) (ltb w n) a.1 in
    (ltb-false u k a.0, ltb-false v k b.0, ltb-false w n b.1)

pub lent_refused : {o : Answer Admitted} (e : ℕ) (a b d : List ℕ) → o ≡ refused e → Lent o a b d a b d
lent_refused e a b d q = subst (λ (o : Answer Admitted). Lent o a b d a b d) (sym q) (record { firsts = refl; seconds = refl; rows = refl })

pub lent_filled : {o : Answer Admitted} (g : Admitted) {a b d a₁ b₁ d₁ : List ℕ} → o ≡ accepted g → a₁ ≡ filled g.firsts a → b₁ ≡ filled g.seconds b
    → d₁ ≡ filled g.rows d → Lent o a b d a₁ b₁ d₁
lent_filled g {a} {b} {d} {a₁} {b₁} {d₁} q x y z =
    subst (λ (o : Answer Admitted). Lent o a b d a₁ b₁ d₁) (sym q) (record { firsts = x; seconds = y; rows = z })
