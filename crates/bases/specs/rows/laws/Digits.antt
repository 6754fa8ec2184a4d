-- Digits of three elements as two masks.
--   digits_within   the twos are among the nonzero digits
--   nonzero_at, two_at   the bits of the masks
-- Assumes nothing.
use Rattle.std.specs.Prelude.{◌≡◌, refl, Bool, false, ◌&&◌, List, [], ◌∷◌, map, ℕ, zero, suc, get_or}
use Rattle.std.proofs.Common.{sym, ap₂, ◌∙◌}
use Rattle.std.specs.Int.Bits.{bit_and}
use Rattle.linear.specs.Bit.{bit}
use Rattle.linear.specs.Planes.{Three, n0, n1, n2}
use Rattle.linear.specs.laws.Bit.{bit_of_and, bit_ext}
use Rattle.linear.specs.laws.Planes.{nonzero, is_two}
use Rattle.bases.specs.rows.Rows.{mask_of}
use Rattle.bases.specs.rows.laws.Rows.{mask_bit}

map_at : (f : Three → Bool) → f n0 ≡ false → (cs : List Three) (i : ℕ) → get_or (map f cs) i false ≡ f (get_or cs i n0)
map_at f z [] i = sym z
map_at f z (c ∷ cs) zero = refl
map_at f z (c ∷ cs) (suc i) = map_at f z cs i

pub nonzero_at : (cs : List Three) (i : ℕ) → bit (mask_of (map nonzero cs)) i ≡ nonzero (get_or cs i n0)
nonzero_at cs i = mask_bit (map nonzero cs) i ∙ map_at nonzero refl cs i

pub two_at : (cs : List Three) (i : ℕ) → bit (mask_of (map is_two cs)) i ≡ is_two (get_or cs i n0)
two_at cs i = mask_bit (map is_two cs) i ∙ map_at is_two refl cs i

two_nonzero : (c : Three) → nonzero c && is_two c ≡ is_two c
two_nonzero n0 = refl
two_nonzero n1 = refl
two_nonzero n2 = refl

pub digits_within : (cs : List Three) → bit_and (mask_of (map nonzero cs)) (mask_of (map is_two cs)) ≡ mask_of (map is_two cs)
digits_within cs =
    bit_ext _ _
    (λ i. bit_of_and (mask_of (map nonzero cs)) (mask_of (map is_two cs)) i ∙ ap₂ ◌&&◌ (nonzero_at cs i) (two_at cs i) ∙ two_nonzero (get_or cs i n0)
    ∙ sym (two_at cs i))
