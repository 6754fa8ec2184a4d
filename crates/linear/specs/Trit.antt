-- The field of three elements, and vectors over it as two planes of bits. That everything holds of it too shows that nothing here is tied to two elements.
--   Three  == 0, 1 and 2, with sums and products modulo 3
--   Planes == a vector: the mask of its nonzero coordinates, then the mask of those that are 2, which lies inside the first
--   digit  == the coordinate that a bit of each plane stands for
--   three  == the field
--   trits  == the space
-- Laws: laws/Planes. Assumes nothing.
use Rattle.std.specs.Prelude.{◌≡◌, refl, ◌≢◌}
use Rattle.linear.specs.Space.{Field, Space}
use Rattle.linear.specs.Bit.{top}
use Rattle.linear.specs.Planes.{Three, n0, n1, n2, plus3, times3, neg3, Planes, coord3, nul3}
use Rattle.linear.specs.Word.{is_zero}
use Rattle.linear.specs.laws.Planes.{trit_law, one_not_zero, add3, scale3, at_nul, at_add, at_scale, planes_ext, planes_above, planes_lead, planes_nul, planes_not}

abbrev pub three : Field
three =
    record {
      K = Three;
      𝟘 = n0;
      𝟙 = n1;
      plus = plus3;
      times = times3;
      neg = neg3;
      inv = λ a. a;
      plus_assoc = trit_law (λ a b c. plus3 (plus3 a b) c) (λ a b c. plus3 a (plus3 b c)) refl;
      plus_comm = λ a b. trit_law (λ a b c. plus3 a b) (λ a b c. plus3 b a) refl a b a;
      plus_zero = λ a. trit_law (λ a b c. plus3 a n0) (λ a b c. a) refl a a a;
      plus_neg = λ a. trit_law (λ a b c. plus3 a (neg3 a)) (λ a b c. n0) refl a a a;
      times_assoc = trit_law (λ a b c. times3 (times3 a b) c) (λ a b c. times3 a (times3 b c)) refl;
      times_comm = λ a b. trit_law (λ a b c. times3 a b) (λ a b c. times3 b a) refl a b a;
      times_one = λ a. trit_law (λ a b c. times3 a n1) (λ a b c. a) refl a a a;
      times_plus = trit_law (λ a b c. times3 a (plus3 b c)) (λ a b c. plus3 (times3 a b) (times3 a c)) refl;
      inv_times = invert;
      one_ne_zero = one_not_zero;
    }
  where
    invert : (a : Three) → a ≢ n0 → times3 a a ≡ n1
    invert n0 h = absurd (h refl)
    invert n1 h = refl
    invert n2 h = refl

abbrev pub trits : Space
trits =
    record {
      fld = three;
      Vec = Planes;
      nul = nul3;
      add = add3;
      scale = scale3;
      coord = coord3;
      lead = λ v. top v.0.0;
      is_nul = λ v. is_zero v.0.0;
      coord_nul = at_nul;
      coord_add = at_add;
      coord_scale = at_scale;
      ext = planes_ext;
      lead_above = planes_above;
      lead_ne = planes_lead;
      is_nul_yes = planes_nul;
      is_nul_no = planes_not;
    }
