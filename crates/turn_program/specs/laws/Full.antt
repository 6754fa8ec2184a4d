-- A full product formula that buffers hold, whose parts are xs, ys and zs, and its turning.
--   full_is, full_words, full_some   it is `full_of`, its parts are words, and it has a variable
--   full_refused, full_turned        the reply, where the turning refuses it and where it fills the buffers
-- Assumes nothing.
use Rattle.std.specs.Prelude.{◌≡◌, List, ℕ, ◌≤◌, length, take, Some}
use Rattle.std.proofs.Common.{sym, ap, ap₂, ◌∙◌, subst, arith}
use Rattle.std.proofs.lemmas.List.{length-map}
use Rattle.kinds.specs.declared.Kind.TheVariants as kind
use Rattle.kinds.specs.declared.Shape.{Shape}
use Rattle.kinds.specs.Refusal.{Answer, refused, accepted, refused_by}
use Rattle.kinds.specs.laws.Refusal.{by_some, by_none}
use Rattle.kinds.specs.Sizes.{shape_of, sizes}
use Rattle.kinds.specs.laws.Sizes.{Bounds, poly_some, sizes_bounds}
use Rattle.formula_check.specs.Formula.{Admitted, formula_of}
use Rattle.formula_check.specs.Buffers.{formula_in}
use Rattle.formula_check.specs.Replies.{Fitting}
use Rattle.formula_check.proofs.laws.Buffers.{in_is, in_products, in_fits}
use Rattle.formula_files.specs.Lent.{formula_reply, Left}
use Rattle.formula_files.specs.declared.Read.{Read}
use Rattle.formula_files.specs.declared.Read.TheVariants as read
use Rattle.turning.specs.Turning.{reversed, middle_of, turned, turned_into}
use Rattle.turning.specs.Lent.{full_of, Words, Lent}
use Rattle.turn_program.specs.TurnFile.{FullHeld}

lent_left : (o : Answer Admitted) (a b d a₁ b₁ d₁ : List ℕ) → Lent o a b d a₁ b₁ d₁ → Left o a b d a₁ b₁ d₁
lent_left (refused e) a b d a₁ b₁ d₁ L = tt
lent_left (accepted f) a b d a₁ b₁ d₁ L = (L.firsts, L.seconds, L.rows)

module _ (shape : Shape) (k : ℕ) (a b rows : List ℕ) (F : FullHeld shape k a b rows) (n m t : ℕ) (S : sizes shape ≡ Some (n, m, t))
    (xs ys zs : List ℕ) (X : xs ≡ take k a) (Y : ys ≡ take k b) (Z : zs ≡ take t rows) where
  bounds : Bounds n m t
  bounds = sizes_bounds shape (n, m, t) S

  fits : Fitting shape n m xs ys zs
  fits = in_fits shape k a b rows F.ready n m t S xs ys zs X Y Z

  square : (shape.p ≡ n) × (shape.p ≡ m)
  square =
      let g = (poly_some shape.p shape.p 0 (n, m, t) (sym (ap sizes F.full) ∙ S)).2 in
      (ap (λ (z : ℕ × ℕ × ℕ). z.0) g, ap (λ (z : ℕ × ℕ × ℕ). z.1) g)

  pub full_is : formula_in shape k a b rows ≡ full_of n xs ys zs
  full_is =
      in_is shape k a b rows F.ready n m t S xs ys zs X Y Z
      ∙ ap₂ (λ (s : Shape) (i : ℕ). formula_of s n i xs ys zs) (F.full ∙ ap (λ (p : ℕ). shape_of kind.Poly p p 0) square.0)
      (sym square.1 ∙ square.0)

  pub full_words : Words n xs ys zs
  full_words =
      record {
        bits = bounds.fits.first_most;
        products = fits.few;
        pairs = (let e = fits.paired in let h = fits.few in omega arith);
        outputs = (sizes_bounds shape (n, m, length zs) fits.sized).most_outputs;
      }

  pub full_some : (1 ≤ n) × (n ≤ 64)
  full_some = (bounds.fits.first, bounds.fits.first_most)

  module _ (u v w u₁ v₁ w₁ : List ℕ) (e : ℕ)
      (T : (turned_into (length u) (length v) (length w) (full_of n xs ys zs) ≡ refused_by e (turned (full_of n xs ys zs)))
      × Lent (turned_into (length u) (length v) (length w) (full_of n xs ys zs)) u v w u₁ v₁ w₁) where
    turn_left : Left (turned_into (length u) (length v) (length w) (formula_in shape k a b rows)) u v w u₁ v₁ w₁
    turn_left =
        subst (λ (f : Admitted). Left (turned_into (length u) (length v) (length w) f) u v w u₁ v₁ w₁) (sym full_is)
        (lent_left (turned_into (length u) (length v) (length w) (full_of n xs ys zs)) u v w u₁ v₁ w₁ T.1)

    answer : (x : Read) → x ≡ formula_reply (refused_by e (turned (full_of n xs ys zs)))
        → (x ≡ formula_reply (turned_into (length u) (length v) (length w) (formula_in shape k a b rows)))
        × Left (turned_into (length u) (length v) (length w) (formula_in shape k a b rows)) u v w u₁ v₁ w₁
    answer x h = (
      h ∙ sym (ap formula_reply (ap (turned_into (length u) (length v) (length w)) full_is ∙ T.0)),
      turn_left,
    )

    pub full_refused : (e ≡ 0 → ⊥) → (read.Refused e ≡ formula_reply (turned_into (length u) (length v) (length w) (formula_in shape k a b rows)))
        × Left (turned_into (length u) (length v) (length w) (formula_in shape k a b rows)) u v w u₁ v₁ w₁
    full_refused d = answer (read.Refused e) (sym (ap formula_reply (by_some e (turned (full_of n xs ys zs)) d)))

    pub full_turned : (x : Shape) → x ≡ middle_of n → e ≡ 0
        → (read.Formula x k ≡ formula_reply (turned_into (length u) (length v) (length w) (formula_in shape k a b rows)))
        × Left (turned_into (length u) (length v) (length w) (formula_in shape k a b rows)) u v w u₁ v₁ w₁
    full_turned x h d =
        answer (read.Formula x k)
        (ap₂ read.Formula h (sym (length-map xs (reversed n) ∙ in_products shape k a b rows F.ready n m t S xs ys zs X Y Z))
        ∙ sym (ap formula_reply (by_none e (turned (full_of n xs ys zs)) d)))
