-- Fields, and spaces of vectors with coordinates over them: the one structure that all of this crate is about.
--   Field == numbers with sum, product, negative and inverse
--   Space == vectors over a field, each given by its coordinates (a vector is a form, a coordinate is one product a_i b_j)
-- Document 01: "A bilinear form in n variables a and m variables b is a word of n × m bits: bit i × m + j stands for the product a_i b_j".
-- `Word` is that instance; `Trit` is one over the field of three elements. Assumes nothing.
use Rattle.std.specs.Prelude.{◌≡◌, ◌≢◌, Bool, true, false, ℕ, ◌<◌}

pub record Field : Type 1 where
  pub K : Type 0
  pub 𝟘 : K
  pub 𝟙 : K
  pub plus : K → K → K
  pub times : K → K → K
  pub neg : K → K
  pub inv : K → K
  pub plus_assoc : (a b c : K) → plus (plus a b) c ≡ plus a (plus b c)
  pub plus_comm : (a b : K) → plus a b ≡ plus b a
  pub plus_zero : (a : K) → plus a 𝟘 ≡ a
  pub plus_neg : (a : K) → plus a (neg a) ≡ 𝟘
  pub times_assoc : (a b c : K) → times (times a b) c ≡ times a (times b c)
  pub times_comm : (a b : K) → times a b ≡ times b a
  pub times_one : (a : K) → times a 𝟙 ≡ a
  pub times_plus : (a b c : K) → times a (plus b c) ≡ plus (times a b) (times a c)
  pub inv_times : (a : K) → a ≢ 𝟘 → times (inv a) a ≡ 𝟙
  pub one_ne_zero : 𝟙 ≢ 𝟘

-- Vectors with a coordinate at every number, all but finitely many 0. Vectors with equal coordinates are equal (`ext`).
-- `lead v` is the number of the highest coordinate that is not 0 (of the zero vector: any number), and `is_nul` tests for the zero vector.
-- There is no dimension here: a form of w coordinates is a vector that is 0 from w on.
pub record Space : Type 1 where
  pub fld : Field
  pub Vec : Type 0
  pub nul : Vec
  pub add : Vec → Vec → Vec
  pub scale : fld.K → Vec → Vec
  pub coord : Vec → ℕ → fld.K
  pub lead : Vec → ℕ
  pub is_nul : Vec → Bool
  pub coord_nul : (i : ℕ) → coord nul i ≡ fld.𝟘
  pub coord_add : (u v : Vec) (i : ℕ) → coord (add u v) i ≡ fld.plus (coord u i) (coord v i)
  pub coord_scale : (c : fld.K) (v : Vec) (i : ℕ) → coord (scale c v) i ≡ fld.times c (coord v i)
  pub ext : (u v : Vec) → ((i : ℕ) → coord u i ≡ coord v i) → u ≡ v
  pub lead_above : (v : Vec) (i : ℕ) → lead v < i → coord v i ≡ fld.𝟘
  pub lead_ne : (v : Vec) → v ≢ nul → coord v (lead v) ≢ fld.𝟘
  pub is_nul_yes : (v : Vec) → is_nul v ≡ true → v ≡ nul
  pub is_nul_no : (v : Vec) → is_nul v ≡ false → v ≢ nul
