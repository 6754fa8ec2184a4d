-- The kinds of bilinear map, each with its number and its name.
--   kind_entry      == the one table: kind, number, name, and whether it is the list of forms or a map
--   number_of k     == the number by which a caller names the kind
--   name_of k       == the bytes that name it in a file
--   kind_numbered x == the kind with the number x; each kind is the one with its number (kind_numbered_law)
--   longest_name    == the most bytes of a name (name_short)
--   kind_named s    == the kind that the bytes s name; each kind is the one with its name (kind_named_law)
--   is_list k       == whether it is the list
--   handed k c     == how many forms or costs a call or file hands in where a list hands in c: none for the other kinds
--   known_map o     == the kind, if it is known and not the list
-- Document 01: poly, short, circ, mat, list. Document 02: mid. Assumes nothing.
use Rattle.std.specs.Prelude.{◌≡◌, refl, Bool, true, false, ◌&&◌, cond, List, [], ◌∷◌, ℕ, ◌≤◌, length, eqb, Option, None, Some}
use Rattle.std.specs.List.{find}
use Rattle.std.proofs.Common.{arith}
use Rattle.kinds.specs.declared.Kind.{Kind}
use Rattle.kinds.specs.declared.Kind.TheVariants as kind

pub record Entry : Type 0 where
  pub number : ℕ
  pub name : List ℕ
  pub list : Bool

-- a byte string is a list of numbers below 256: `p` is 112, and so on
abbrev pub kind_entry : Kind → Entry
kind_entry kind.Poly = record { number = 0; name = 112 ∷ 111 ∷ 108 ∷ 121 ∷ []; list = false }
kind_entry kind.Short = record { number = 1; name = 115 ∷ 104 ∷ 111 ∷ 114 ∷ 116 ∷ []; list = false }
kind_entry kind.Circ = record { number = 2; name = 99 ∷ 105 ∷ 114 ∷ 99 ∷ []; list = false }
kind_entry kind.Mat = record { number = 3; name = 109 ∷ 97 ∷ 116 ∷ []; list = false }
kind_entry kind.List = record { number = 4; name = 108 ∷ 105 ∷ 115 ∷ 116 ∷ []; list = true }
kind_entry kind.Mid = record { number = 5; name = 109 ∷ 105 ∷ 100 ∷ []; list = false }

abbrev pub number_of : Kind → ℕ
number_of k = (kind_entry k).number

abbrev pub name_of : Kind → List ℕ
name_of k = (kind_entry k).name

abbrev pub longest_name : ℕ
longest_name = 5

pub name_short : (k : Kind) → length (name_of k) ≤ longest_name
name_short kind.Poly = omega arith
name_short kind.Short = omega arith
name_short kind.Circ = omega arith
name_short kind.Mat = omega arith
name_short kind.List = omega arith
name_short kind.Mid = omega arith

abbrev pub is_list : Kind → Bool
is_list k = (kind_entry k).list

abbrev pub handed : Kind → ℕ → ℕ
handed k c = cond (is_list k) c 0

abbrev pub kinds : List Kind
kinds = kind.Poly ∷ kind.Short ∷ kind.Circ ∷ kind.Mat ∷ kind.List ∷ kind.Mid ∷ []

unfoldable pub kind_numbered : ℕ → Option Kind
kind_numbered x = find (λ k. eqb (number_of k) x) kinds

pub kind_numbered_law : (kd : Kind) → kind_numbered (number_of kd) ≡ Some kd
unfolding kind_numbered
kind_numbered_law kind.Poly = refl
kind_numbered_law kind.Short = refl
kind_numbered_law kind.Circ = refl
kind_numbered_law kind.Mat = refl
kind_numbered_law kind.List = refl
kind_numbered_law kind.Mid = refl

-- two byte strings are the same
abbrev pub same : List ℕ → List ℕ → Bool
same [] [] = true
same [] (y ∷ t) = false
same (x ∷ s) [] = false
same (x ∷ s) (y ∷ t) = eqb x y && same s t

abbrev pub kind_named : List ℕ → Option Kind
kind_named s = find (λ k. same (name_of k) s) kinds

pub kind_named_law : (k : Kind) → kind_named (name_of k) ≡ Some k
kind_named_law kind.Poly = refl
kind_named_law kind.Short = refl
kind_named_law kind.Circ = refl
kind_named_law kind.Mat = refl
kind_named_law kind.List = refl
kind_named_law kind.Mid = refl

-- a kind that has formulae. Refusal 2: "The kind .. is unknown, or is list where a formula is sent."
abbrev pub known_map : Option Kind → Option Kind
known_map None = None
known_map (Some k) = cond (is_list k) None (Some k)
