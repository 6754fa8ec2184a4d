-- Values of the definitions, by computation. Assumes nothing.
use mathlib.Core.Path.{◌≡◌, refl}
use mathlib.Core.Bool.{true, false}
use mathlib.Core.List.{[], ◌∷◌}
use Rattle.linear.specs.Basis.{clear, reduce, norm, place, insert, inserts, basis_of}
use Rattle.linear.specs.Bit.{bit, digits_of, top}
use Rattle.linear.specs.Entry.{inside}
use Rattle.linear.specs.Word.{word}
use Rattle.forms.specs.products.Product.{form_of, product_form}
use Rattle.forms.specs.Weight.{weight}

pub bit_40_3 : bit 40 3 ≡ true
unfolding bit
bit_40_3 = refl

pub bit_40_64 : bit 40 64 ≡ false
unfolding bit
bit_40_64 = refl

pub weight_7 : weight 64 7 ≡ 3
unfolding weight bit
weight_7 = refl

pub top_40 : top 40 ≡ 5
unfolding top digits_of
top_40 = refl

pub top_0 : top 0 ≡ 0
unfolding top digits_of
top_0 = refl

pub product_33 : product_form 2 2 3 3 ≡ 15
unfolding product_form form_of bit
product_33 = refl

pub product_25 : product_form 2 3 2 5 ≡ 40
unfolding product_form form_of bit
product_25 = refl

pub clear_65 : clear word 6 5 ≡ 3
unfolding clear bit top digits_of
clear_65 = refl

pub clear_05 : clear word 0 5 ≡ 5
unfolding clear bit top digits_of
clear_05 = refl

pub reduce_7 : reduce word (5 ∷ 3 ∷ []) 7 ≡ 1
unfolding reduce clear bit top digits_of
reduce_7 = refl

pub basis_635 : basis_of word (6 ∷ 3 ∷ 5 ∷ []) ≡ 5 ∷ 3 ∷ []
unfolding basis_of inserts insert place norm reduce clear bit top digits_of
basis_635 = refl

pub inside_6 : inside word (5 ∷ 3 ∷ []) 6 ≡ true
unfolding inside reduce clear bit top digits_of
inside_6 = refl

pub none_6 : inside word [] 6 ≡ false
unfolding inside reduce
none_6 = refl
