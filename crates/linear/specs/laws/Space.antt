-- The laws of a field that its record leaves out, and the laws of vectors, which follow from their coordinates. Assumes nothing.
use Rattle.std.specs.Prelude.{◌≡◌, ◌≢◌}
use Rattle.std.proofs.Common.{sym, ap, ap₂, ◌∙◌}
use Rattle.linear.specs.Space.{Field, Space}

-- ---- the field's laws that the record leaves out
module _ (F : Field) where
  open F use {K, 𝟘, 𝟙, plus, times, neg, inv, plus_assoc, plus_comm, plus_zero, plus_neg, times_assoc, times_comm, times_one, times_plus, inv_times}

  pub zero_plus : (a : K) → plus 𝟘 a ≡ a
  zero_plus a = plus_comm 𝟘 a ∙ plus_zero a

  pub neg_plus : (a : K) → plus (neg a) a ≡ 𝟘
  neg_plus a = plus_comm (neg a) a ∙ plus_neg a

  -- a cancels at the left
  pub cancel : (a b : K) → plus (neg a) (plus a b) ≡ b
  cancel a b = sym (plus_assoc (neg a) a b) ∙ ap (λ x. plus x b) (neg_plus a) ∙ zero_plus b

  pub self_zero : (a : K) → plus a a ≡ a → a ≡ 𝟘
  self_zero a e = sym (cancel a a) ∙ ap (plus (neg a)) e ∙ neg_plus a

  pub times_zero : (a : K) → times a 𝟘 ≡ 𝟘
  times_zero a = self_zero (times a 𝟘) (sym (times_plus a 𝟘 𝟘) ∙ ap (times a) (plus_zero 𝟘))

  pub zero_times : (a : K) → times 𝟘 a ≡ 𝟘
  zero_times a = times_comm 𝟘 a ∙ times_zero a

  pub one_times : (a : K) → times 𝟙 a ≡ a
  one_times a = times_comm 𝟙 a ∙ times_one a

  -- the negative is the one that adds up to 0
  pub neg_unique : (a b : K) → plus a b ≡ 𝟘 → b ≡ neg a
  neg_unique a b e = sym (cancel a b) ∙ ap (plus (neg a)) e ∙ plus_zero (neg a)

  pub neg_zero : neg 𝟘 ≡ 𝟘
  neg_zero = sym (neg_unique 𝟘 𝟘 (plus_zero 𝟘))

  pub plus_times : (a b c : K) → times (plus a b) c ≡ plus (times a c) (times b c)
  plus_times a b c = times_comm (plus a b) c ∙ times_plus c a b ∙ ap₂ plus (times_comm c a) (times_comm c b)

  -- no divisors of zero
  pub inv_cancel : (a b : K) → a ≢ 𝟘 → times (inv a) (times a b) ≡ b
  inv_cancel a b h = sym (times_assoc (inv a) a b) ∙ ap (λ x. times x b) (inv_times a h) ∙ one_times b

  pub no_divisor : (a b : K) → a ≢ 𝟘 → times a b ≡ 𝟘 → b ≡ 𝟘
  no_divisor a b h e = sym (inv_cancel a b h) ∙ ap (times (inv a)) e ∙ times_zero (inv a)

-- ---- the laws of vectors, coordinate by coordinate
module _ (S : Space) where
  open S use {fld, Vec, nul, add, scale, coord, lead, is_nul, coord_nul, coord_add, coord_scale, ext}
  open fld use {K, 𝟘, 𝟙, plus, times, neg, inv, plus_assoc, plus_comm, plus_zero, plus_neg, times_assoc, times_comm, times_one, times_plus, inv_times}

  pub add_comm : (u v : Vec) → add u v ≡ add v u
  add_comm u v = ext (add u v) (add v u) (λ i. coord_add u v i ∙ plus_comm (coord u i) (coord v i) ∙ sym (coord_add v u i))

  pub add_assoc : (u v w : Vec) → add (add u v) w ≡ add u (add v w)
  add_assoc u v w = ext (add (add u v) w) (add u (add v w)) (λ i. simp (coord_add, plus_assoc))

  pub add_nul : (v : Vec) → add v nul ≡ v
  add_nul v = ext (add v nul) v (λ i. simp (coord_add, coord_nul, plus_zero))

  pub nul_add : (v : Vec) → add nul v ≡ v
  nul_add v = add_comm nul v ∙ add_nul v

  pub add_left_comm : (u v w : Vec) → add u (add v w) ≡ add v (add u w)
  add_left_comm u v w = sym (add_assoc u v w) ∙ ap (λ x. add x w) (add_comm u v) ∙ add_assoc v u w

  pub scale_nul : (c : K) → scale c nul ≡ nul
  scale_nul c = ext (scale c nul) nul (λ i. simp (coord_scale, coord_nul, times_zero fld))

  pub zero_scale : (v : Vec) → scale 𝟘 v ≡ nul
  zero_scale v = ext (scale 𝟘 v) nul (λ i. simp (coord_scale, coord_nul, zero_times fld))

  pub one_scale : (v : Vec) → scale 𝟙 v ≡ v
  one_scale v = ext (scale 𝟙 v) v (λ i. simp (coord_scale, one_times fld))

  pub scale_add : (c : K) (u v : Vec) → scale c (add u v) ≡ add (scale c u) (scale c v)
  scale_add c u v = ext (scale c (add u v)) (add (scale c u) (scale c v)) (λ i. simp (coord_scale, coord_add, times_plus))

  pub plus_scale : (a b : K) (v : Vec) → scale (plus a b) v ≡ add (scale a v) (scale b v)
  plus_scale a b v = ext (scale (plus a b) v) (add (scale a v) (scale b v)) (λ i. simp (coord_scale, coord_add, plus_times fld))

  pub scale_scale : (a b : K) (v : Vec) → scale a (scale b v) ≡ scale (times a b) v
  scale_scale a b v = ext (scale a (scale b v)) (scale (times a b) v) (λ i. simp (coord_scale, times_assoc))

  -- what one multiple takes away the other puts back
  pub take_put : (c : K) (u v : Vec) → add (scale c u) (add (scale (neg c) u) v) ≡ v
  take_put c u v =
      sym (add_assoc (scale c u) (scale (neg c) u) v)
      ∙ ap (λ x. add x v) (sym (plus_scale c (neg c) u) ∙ ap (λ a. scale a u) (plus_neg c) ∙ zero_scale u)
      ∙ nul_add v

  pub put_take : (c : K) (u v : Vec) → add (scale (neg c) u) (add (scale c u) v) ≡ v
  put_take c u v =
      sym (add_assoc (scale (neg c) u) (scale c u) v)
      ∙ ap (λ x. add x v) (sym (plus_scale (neg c) c u) ∙ ap (λ a. scale a u) (neg_plus fld c) ∙ zero_scale u)
      ∙ nul_add v

  pub minus_add : (u v : Vec) → add (scale (neg 𝟙) u) (add u v) ≡ v
  minus_add u v = ap (λ x. add (scale (neg 𝟙) u) (add x v)) (sym (one_scale u)) ∙ put_take 𝟙 u v
