-- A reading, case by case, in the terms of the code's answers.
--   file_1, file_rest       the first two lines; rest_2 .. rest-judged: refusals 2, 3, and what is left
--   judged_not, judged_is   refusals 6 to 9 by one number, and the formula
--   under_none, under_told  what the reading of the lines says
-- Assumes nothing.
use Rattle.std.specs.Prelude.{ℕ, ◌-◌, ◌≤◌, ◌≡◌, refl, List, Bool, true, false, ◌||◌, ltb, length, take, drop, Option, None, Some}
use Rattle.std.proofs.Math.Path.{sym, ap₂}
use Rattle.std.proofs.Common.{ap, ◌∙◌, arith, ltb-false}
use borrow.Author.Rules.{part_to_end}
use Rattle.kinds.specs.declared.Kind.{Kind}
use Rattle.kinds.specs.declared.Shape.{Shape}
use Rattle.kinds.specs.Kinds.{known_map}
use Rattle.kinds.specs.Limits.{most_products}
use Rattle.kinds.specs.Refusal.{Answer, refused, accepted, refuse, follow}
use Rattle.kinds.specs.Sizes.{shape_of, sizes}
use Rattle.words.specs.Masks.{wide, zero_in}
use Rattle.words.specs.Buffers.{filled}
use Rattle.words.specs.laws.Buffers.{filled_sets}
use Rattle.text.specs.heads.Head.{Head, head_lines}
use Rattle.formula_check.specs.Formula.{Admitted, formula_of, passed, admit, too_short, held_in}
use Rattle.formula_files.specs.lines.Formula.{body}
use Rattle.formula_files.specs.refusals.Number.{number}
use Rattle.formula_files.specs.lines.laws.Told.{Told}
use Rattle.formula_files.specs.FormulaFile.{under, rest, formula_file}
use Rattle.formula_files.specs.Lent.{formula_reply, Left, Under}
use Rattle.formula_files.specs.declared.Read.{Read}
use Rattle.formula_files.specs.declared.Read.TheVariants as read

-- ---- the first two lines
module _ (s : List ℕ) (la lb lr : ℕ) where
  pub file_1 : head_lines s ≡ None → formula_file s la lb lr ≡ refused 1
  unfolding formula_file
  file_1 e = rw e

  pub file_rest : (h : Head) (t : List ℕ) → head_lines s ≡ Some (h, t) → formula_file s la lb lr ≡ rest h t la lb lr
  unfolding formula_file
  file_rest h t e = rw e

module _ (kd : Option Kind) (p q r k : ℕ) (t : List ℕ) (la lb lr : ℕ) where
  -- the first two lines, by their parts
  abbrev rest_of : Answer Admitted
  rest_of = rest (record { kind = kd; p = p; q = q; r = r; k = k }) t la lb lr

  pub rest_2 : known_map kd ≡ None → rest_of ≡ refused 2
  unfolding rest admit
  rest_2 e = rw e

  module _ (kind : Kind) (K : known_map kd ≡ Some kind) where
    pub rest_3 : sizes (shape_of kind p q r) ≡ None → rest_of ≡ refused 3
    unfolding rest admit
    rest_3 g = rw (K, g)

    pub rest_under : (n m o : ℕ) → sizes (shape_of kind p q r) ≡ Some (n, m, o) → rest_of ≡ under (shape_of kind p q r) k n m o la lb lr t
    unfolding rest admit
    rest_under n m o g = rw (K, g)

    pub rest_judged : (n m o : ℕ) (xs ys zs : List ℕ) → sizes (shape_of kind p q r) ≡ Some (n, m, o) → body k o t ≡ Some (xs, ys, zs)
        → rest_of ≡ follow (passed (shape_of kind p q r) n m k xs ys zs) (held_in la lb lr)
    unfolding rest admit
    rest_judged n m o xs ys zs g i = rw (K, g, i)

-- ---- 6 to 9
abbrev judged : (w z many : Bool) → (Admitted → Bool) → Admitted → Answer Admitted
judged w z many short f = follow (refuse 6 w (refuse 7 z (refuse 8 many (accepted f)))) λ g. refuse 9 (short g) (accepted g)

number_some : (w z a b : Bool) (short : Admitted → Bool) (f : Admitted) (e : ℕ) → short f ≡ b → e ≡ number w z a b → (e ≡ 0 → ⊥) → judged w z a short f ≡ refused e
number_some true z a b short f e q h n = ap refused (sym h)
number_some false true a b short f e q h n = ap refused (sym h)
number_some false false true b short f e q h n = ap refused (sym h)
number_some false false false true short f e q h n = rw q (ap refused (sym h))
number_some false false false false short f e q h n = absurd (n h)

number_none : (w z a b : Bool) (short : Admitted → Bool) (f : Admitted) → short f ≡ b → number w z a b ≡ 0 → (judged w z a short f ≡ accepted f) × (b ≡ false)
number_none true z a b short f q h = absurd (let q : ◌≡◌ {A = ℕ} 6 0 = h in omega arith)
number_none false true a b short f q h = absurd (let q : ◌≡◌ {A = ℕ} 7 0 = h in omega arith)
number_none false false true b short f q h = absurd (let q : ◌≡◌ {A = ℕ} 8 0 = h in omega arith)
number_none false false false true short f q h = absurd (let q : ◌≡◌ {A = ℕ} 9 0 = h in omega arith)
number_none false false false false short f q h = (rw q, refl)

or_assoc : (a b c : Bool) → (a || b) || c ≡ a || (b || c)
or_assoc true b c = refl
or_assoc false b c = refl

module _ (shape : Shape) (k n m t la lb lr : ℕ) (xs ys zs : List ℕ) (w z : Bool) (W : w ≡ ((wide n xs || wide m ys) || wide k zs)) (Z : z ≡ (zero_in xs || zero_in ys))
    (lx : length xs ≡ k) (ly : length ys ≡ k) (lz : length zs ≡ t) (e : ℕ) (E : e ≡ number w z (ltb most_products k) (ltb la k || (ltb lb k || ltb lr t))) where
  -- the buffers, by the formula's lists
  short : too_short la lb lr (formula_of shape n m xs ys zs) ≡ (ltb la k || (ltb lb k || ltb lr t))
  short = rw (lx, ly, lz)

  passes : follow (passed shape n m k xs ys zs) (held_in la lb lr) ≡ judged w z (ltb most_products k) (too_short la lb lr) (formula_of shape n m xs ys zs)
  unfolding passed
  passes =
      ap₂ (λ (x y : Bool). judged x y (ltb most_products k) (too_short la lb lr) (formula_of shape n m xs ys zs))
      (sym (or_assoc (wide n xs) (wide m ys) (wide k zs)) ∙ sym W) (sym Z)

  pub judged_not : (e ≡ 0 → ⊥) → follow (passed shape n m k xs ys zs) (held_in la lb lr) ≡ refused e
  judged_not h = passes ∙ number_some w z (ltb most_products k) (ltb la k || (ltb lb k || ltb lr t)) (too_short la lb lr) (formula_of shape n m xs ys zs) e short E h

  pub judged_is : e ≡ 0 → (follow (passed shape n m k xs ys zs) (held_in la lb lr) ≡ accepted (formula_of shape n m xs ys zs)) × ((ltb la k || (ltb lb k || ltb lr t)) ≡ false)
  judged_is h =
      let g = number_none w z (ltb most_products k) (ltb la k || (ltb lb k || ltb lr t)) (too_short la lb lr) (formula_of shape n m xs ys zs) short (sym E ∙ h) in
      (passes ∙ g.0, g.1)

pub room : (k t la lb lr : ℕ) → (ltb la k || (ltb lb k || ltb lr t)) ≡ false → (k ≤ la) × (k ≤ lb) × (t ≤ lr)
room k t la lb lr e = go (ltb la k) (ltb lb k) (ltb lr t) refl refl refl e
  where
    go : (x y z : Bool) → ltb la k ≡ x → ltb lb k ≡ y → ltb lr t ≡ z → (x || (y || z)) ≡ false → (k ≤ la) × (k ≤ lb) × (t ≤ lr)
    go true y z a b c f = absurd (let q : ◌≡◌ {A = ℕ} 0 1 = cc in omega arith)
    go false true z a b c f = absurd (let q : ◌≡◌ {A = ℕ} 0 1 = cc in omega arith)
    go false false true a b c f = absurd (let q : ◌≡◌ {A = ℕ} 0 1 = cc in omega arith)
    go false false false a b c f = (ltb-false la k a, ltb-false lb k b, ltb-false lr t c)

-- ---- what is left in the buffers
pub left_refused : (o : Answer Admitted) (e : ℕ) (a b d a₁ b₁ d₁ : List ℕ) → o ≡ refused e → (read.Refused e ≡ formula_reply o) × Left o a b d a₁ b₁ d₁
left_refused o e a b d a₁ b₁ d₁ h = rw h (refl, tt)

left_formula : (o : Answer Admitted) (f : Admitted) (a b d a₁ b₁ d₁ : List ℕ) → o ≡ accepted f
    → a₁ ≡ filled f.firsts a → b₁ ≡ filled f.seconds b → d₁ ≡ filled f.rows d → (formula_reply (accepted f) ≡ formula_reply o) × Left o a b d a₁ b₁ d₁
left_formula o f a b d a₁ b₁ d₁ h ha hb hd = rw h (refl, (ha, hb, hd))

module _ (k n m t : ℕ) (s a b d a₁ b₁ d₁ : List ℕ) where
  pub under_none : body k t s ≡ None → Under k n m t s a b d a₁ b₁ d₁ 5
  under_none e = record { stopped = λ shape h. rw e; all = λ shape h. absurd (let q : ◌≡◌ {A = ℕ} 5 0 = h in omega arith) }

  module _ (w z : Bool) (la lb lr e : ℕ) (l : Told n m k t s a b d a₁ b₁ d₁ w z) (ha : la ≡ length a) (hb : lb ≡ length b) (hd : lr ≡ length d)
      (h : e ≡ number w z (ltb most_products k) (ltb la k || (ltb lb k || ltb lr t))) where
    by : e ≡ number w z (ltb most_products k) (ltb (length a) k || (ltb (length b) k || ltb (length d) t))
    by = rw (← ha, ← hb, ← hd) h

    judges : (shape : Shape) → under shape k n m t (length a) (length b) (length d) s ≡ follow (passed shape n m k l.xs l.ys l.zs) (held_in (length a) (length b) (length d))
    judges shape = rw l.is

    pub under_told : Under k n m t s a b d a₁ b₁ d₁ e
    under_told = record {
      stopped = λ shape x. judges shape
          ∙ judged_not shape k n m t (length a) (length b) (length d) l.xs l.ys l.zs w z l.toowide l.haszero l.xlong l.ylong l.zlong e by x;
      all = λ shape x.
          let g = judged_is shape k n m t (length a) (length b) (length d) l.xs l.ys l.zs w z l.toowide l.haszero l.xlong l.ylong l.zlong e by x in
          let f = room k t (length a) (length b) (length d) g.1 in
          let L = left_formula (under shape k n m t (length a) (length b) (length d) s) (formula_of shape n m l.xs l.ys l.zs) a b d a₁ b₁ d₁
          (judges shape ∙ g.0)
          (l.first ∙ filled_sets l.xs a k l.xlong f.0) (l.second ∙ filled_sets l.ys b k l.ylong f.1) (l.third ∙ filled_sets l.zs d t l.zlong f.2) in
          (ap (read.Formula shape) (sym l.xlong) ∙ L.0, L.1);
    }

-- the same of the part of s from u on
pub under_at : (k n m t : ℕ) (s : List ℕ) (u : ℕ) (a b d a₁ b₁ d₁ : List ℕ) (e : ℕ) → Under k n m t (take (length s - u) (drop u s)) a b d a₁ b₁ d₁ e → Under k n m t (drop u s) a b d a₁ b₁ d₁ e
under_at k n m t s u a b d a₁ b₁ d₁ e h = rw (part_to_end s u) at h

pub left_under : (o o' : Answer Admitted) (x : Read) (a b d a₁ b₁ d₁ : List ℕ) → o ≡ o' → (x ≡ formula_reply o') × Left o' a b d a₁ b₁ d₁ → (x ≡ formula_reply o) × Left o a b d a₁ b₁ d₁
left_under o o' x a b d a₁ b₁ d₁ e h = rw e h
