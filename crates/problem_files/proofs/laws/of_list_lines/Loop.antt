-- The loop over the lines of a role: the forms and costs written so far, then those of the lines that are left.
--   behind xs ys o                    == what o reads, behind the forms xs and the costs ys
--   roles_start, -turn, -stop, -end   none is written yet, one turn, a misshapen line, the end
-- Assumes nothing.
use Prim.Native.Nat.{ℕ, suc, ◌+◌, ◌-◌, ◌<◌}
use Rattle.std.specs.Prelude.{◌≡◌, length, take, drop, set, Option, None, Some}
use Rattle.std.proofs.Math.Path.{refl, ap₂}
use Rattle.std.proofs.Common.{sym, ap, ◌∙◌, add-one, take-suc-set}
use mathlib.Core.List.{List, [], ◌∷◌, ◌++◌, append_assoc, append-nil}
use native.Mathlib.Omega.{arith}
use Rattle.std.proofs.Math.Nat.{sub-zero}
use Rattle.text.specs.Reading.{◌>>=◌}
use Rattle.problem_files.specs.list_lines.Roles.{role_line, role_lines}

abbrev pub behind : (xs ys : List ℕ) → Option ((List ℕ × List ℕ) × List ℕ) → Option ((List ℕ × List ℕ) × List ℕ)
behind xs ys None = None
behind xs ys (Some e) = Some ((xs ++ e.0.0, ys ++ e.0.1), e.1)

-- a number written behind those that stand
written : (d : List ℕ) (i x : ℕ) (rest : List ℕ) → i < length d → take i d ++ (x ∷ rest) ≡ take (i + 1) (set d i x) ++ rest
written d i x rest h =
    sym (ap (λ (l : List ℕ). l ++ rest) (ap (λ (k : ℕ). take k (set d i x)) (add-one i) ∙ take-suc-set d i x h) ∙ append_assoc (take i d) (x ∷ []) rest)

all_taken : (d : List ℕ) (i n : ℕ) → i ≡ n → take i d ++ [] ≡ take n d
all_taken d i n h = append-nil (take i d) ∙ ap (λ (k : ℕ). take k d) h

module _ (c most n : ℕ) where
  pub roles_start : (s : List ℕ) → role_lines c most n s ≡ behind [] [] (role_lines c most (n - 0) s)
  roles_start s = rw sub-zero (go (role_lines c most n s))
    where
      go : (o : Option ((List ℕ × List ℕ) × List ℕ)) → o ≡ behind [] [] o
      go None = refl
      go (Some e) = refl

  pub roles_turn : (at i : ℕ) (s d e : List ℕ) (x y : ℕ) (t : List ℕ) → i < n → i < length d → i < length e → role_line c most (drop at s) ≡ Some ((x, y), t)
      → behind (take i d) (take i e) (role_lines c most (n - i) (drop at s))
      ≡ behind (take (i + 1) (set d i x)) (take (i + 1) (set e i y)) (role_lines c most (n - (i + 1)) t)
  unfolding role_lines
  roles_turn at i s d e x y t h l m q =
      let f : n - i ≡ suc (n - (i + 1)) = omega arith in
      rw (f, q) (go (role_lines c most (n - (i + 1)) t))
    where
      go : (o : Option ((List ℕ × List ℕ) × List ℕ))
          → behind (take i d) (take i e) (◌>>=◌ {B = (List ℕ × List ℕ) × List ℕ} o λ w. Some ((x ∷ w.0.0, y ∷ w.0.1), w.1))
          ≡ behind (take (i + 1) (set d i x)) (take (i + 1) (set e i y)) o
      go None = refl
      go (Some w) = ap₂ (λ (a b : List ℕ). Some ((a, b), w.1)) (written d i x w.0.0 l) (written e i y w.0.1 m)

  pub roles_stop : (at i : ℕ) (s d e : List ℕ) → i < n → role_line c most (drop at s) ≡ None
      → behind (take i d) (take i e) (role_lines c most (n - i) (drop at s)) ≡ None
  unfolding role_lines
  roles_stop at i s d e h q =
      let f : n - i ≡ suc (n - (i + 1)) = omega arith in
      rw (f, q)

  pub roles_end : (i : ℕ) (s d e : List ℕ) → i ≡ n → behind (take i d) (take i e) (role_lines c most (n - i) s) ≡ Some ((take n d, take n e), s)
  unfolding role_lines
  roles_end i s d e h =
      let f : n - i ≡ 0 = omega arith in
      rw f (ap₂ (λ (a b : List ℕ). Some ((a, b), s)) (all_taken d i n h) (all_taken e i n h))
