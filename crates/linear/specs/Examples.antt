-- Entries of small problems, computed from the definitions: over two elements and over three. Assumes nothing.
use Rattle.std.specs.Prelude.{◌≡◌, refl, List, [], ◌∷◌}
use Rattle.linear.specs.Basis.{clear, reduce, norm, place, insert, inserts, basis_of, dim}
use Rattle.linear.specs.Order.{rising_lists}
use Rattle.linear.specs.Select.{any_of, only, first_of_each}
use Rattle.linear.specs.Entry.{same_vec, same_basis, inside, generators_in, generator, chosen, space, fits, entries}
use Rattle.linear.specs.Bit.{bit, top, digits_of}
use Rattle.linear.specs.Word.{word}
use Rattle.linear.specs.Planes.{Planes, sum_nonzero, sum_twos}
use Rattle.linear.specs.Trit.{trits}

-- generators 1, 2, 3 and target 3: for k = 2 one entry, whose extension is generator 0
pub two_elements : entries word (1 ∷ 2 ∷ 3 ∷ []) (3 ∷ []) 2 ≡ (0 ∷ []) ∷ []
unfolding bit top digits_of clear reduce norm place insert inserts basis_of dim rising_lists any_of only first_of_each same_vec same_basis inside generators_in generator chosen space fits entries
two_elements = refl

-- e₀, e₁, e₀ + e₁ and e₀ + 2 e₁, as nonzero mask and mask of twos; the target is e₀ + e₁
pub four : List Planes
four = ((1, 0), refl) ∷ ((2, 0), refl) ∷ ((3, 0), refl) ∷ ((3, 2), refl) ∷ []

pub three_elements : entries trits four (((3, 0), refl) ∷ []) 2 ≡ (0 ∷ []) ∷ []
unfolding four sum_nonzero sum_twos bit top digits_of clear reduce norm place insert inserts basis_of dim rising_lists any_of only first_of_each same_vec same_basis inside generators_in generator chosen space fits entries
three_elements = refl
