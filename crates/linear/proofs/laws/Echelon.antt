-- Echelon rows as they grow: what they leave of a vector is the next row.
--   echelon_next   it is an echelon row too, if it is 0 or leads with 1
--   next_span      with it the vector is a combination of the rows
-- That nothing is left exactly of their combinations is `echelon_member` (Reduce). Assumes nothing.
use Rattle.std.specs.Prelude.{◌≡◌, refl, ◌⊎◌}
use Rattle.std.proofs.Common.{◌∙◌, inl, inr}
use mathlib.Core.List.Memᴰ
use mathlib.Core.List.{List, [], ◌∷◌, ◌++◌, Memᴰ}
use Rattle.linear.specs.Space.{Space}
use Rattle.linear.specs.Span.{Span}
use Rattle.linear.specs.Basis.{clear, reduce, Echelon}
use Rattle.linear.specs.laws.Span.{mem_cons, cast, span_add, span_mem, span_mono}
use Rattle.linear.proofs.laws.Reduce.{clear_at, reduce_keep, reduce_rest}

module _ (S : Space) where
  open S use {fld, Vec, nul, coord, lead}
  open fld use {𝟘, 𝟙}

  pub echelon_next : (B : List Vec) → Echelon S B → (v : Vec) → (reduce S B v ≡ nul) ⊎ (coord (reduce S B v) (lead (reduce S B v)) ≡ 𝟙)
      → Echelon S (B ++ reduce S B v ∷ [])
  unfolding reduce
  echelon_next [] h v (inl z) = (inl z, tt)
  echelon_next [] h v (inr o) = (inr (o, λ x m. absurd (Memᴰ.not-nil m)), tt)
  echelon_next (b ∷ B) h v l = (first h.0, echelon_next B h.1 (clear S b v) l)
    where
      r : Vec
      r = reduce S B (clear S b v)

      first : (b ≡ nul) ⊎ ((coord b (lead b) ≡ 𝟙) × ((x : Vec) → Memᴰ x B → coord x (lead b) ≡ 𝟘))
          → (b ≡ nul) ⊎ ((coord b (lead b) ≡ 𝟙) × ((x : Vec) → Memᴰ x (B ++ r ∷ []) → coord x (lead b) ≡ 𝟘))
      first (inl z) = inl z
      first (inr o) = inr (o.0, λ x m. at x (Memᴰ.append_cases B m))
        where
          at : (x : Vec) → Memᴰ x B ⊎ Memᴰ x (r ∷ []) → coord x (lead b) ≡ 𝟘
          at x (inl m) = o.1 x m
          at x (inr m) =
              mem_cons {P = λ y. coord y (lead b) ≡ 𝟘} (reduce_keep S B (clear S b v) (lead b) o.1 ∙ clear_at S b v o.0)
              (λ y k. absurd (Memᴰ.not-nil k)) x m

  pub next_span : (B : List Vec) (v : Vec) → Span S (B ++ reduce S B v ∷ []) v
  next_span B v =
      let q = reduce_rest S B v in
      cast S q.2
      (span_add S (span_mono S (λ x m. Memᴰ.append_left (reduce S B v ∷ []) m) q.1) (span_mem S (Memᴰ.append_right B (Memᴰ.head refl))))
