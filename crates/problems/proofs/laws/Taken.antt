-- What an accepted problem is like, kind by kind.
--   ListTaken ..     == the list's forms have the right numbers and widths, and no generator is zero or stands twice
--   MapTaken ..      == the map has at most 4,095 generators, no list was handed in, and the further forms have n × m bits
--   listed_taken, mapped_taken   an accepted list or map is such, and is the problem that the definition says
--   shaped_inv       an accepted problem of a kind and sizes has sizes that fit
--   posed_inv        an accepted problem has a kind
-- Assumes nothing.
use Rattle.std.specs.Prelude.{◌≡◌, false, not, ◌||◌, List, ℕ, ◌*◌, length, eqb, ltb, Some}
use Rattle.std.proofs.Common.{sym, arith, ltb-false, eqb-true}
use Rattle.std.proofs.lemmas.Bool.{not-false}
use Rattle.kinds.specs.Kinds.{kind_numbered}
use Rattle.kinds.specs.Sizes.{shape_of, sizes}
use Rattle.kinds.specs.Refusal.{Answer, accepted, refuse}
use Rattle.kinds.specs.laws.Refusal.{accepted_inj, need_inv, refuse_inv, neither}
use Rattle.kinds.specs.declared.Kind.{Kind}
use Rattle.kinds.specs.declared.Shape.{Shape}
use Rattle.words.specs.Masks.{wide, zero_in}
use Rattle.words.specs.lists.Lists.{repeats, unlike}
use Rattle.maps.specs.Generators.{generator_forms, count_of}
use Rattle.problems.specs.Problem.{Problem, problem, target_forms, listed, mapped, sorted, shaped, posed}
use Rattle.problems.proofs.laws.Refusals.{counted}
use Rattle.kinds.specs.Limits.{most_generators}
use Rattle.problems.specs.Taken.{ListTaken, MapTaken}

like : (c u : ℕ) (gs ts : List ℕ) → unlike c u gs ts ≡ false → (length gs ≡ c) × (length ts ≡ u)
like c u gs ts e =
    let n = neither (not (eqb (length gs) c)) (not (eqb (length ts) u)) e in
    (eqb-true (length gs) c (not-false (eqb (length gs) c) n.0), eqb-true (length ts) u (not-false (eqb (length ts) u) n.1))

pub listed_taken : (p q r : ℕ) (gs ts others : List ℕ) (P : Problem) → listed p q r gs ts others ≡ accepted P → ListTaken p q r gs ts others P
unfolding listed
listed_taken p q r gs ts others P e =
    let seven : Answer Problem = refuse 7 (zero_in gs || repeats gs) (accepted (problem gs ts)) in
    let six : Answer Problem = refuse 6 (wide p gs || (wide p ts || wide p others)) seven in
    let a = refuse_inv 4 (ltb most_generators q) (refuse 5 (unlike q r gs ts) six) P e in
    let b = refuse_inv 5 (unlike q r gs ts) six P a.1 in
    let c = refuse_inv 6 (wide p gs || (wide p ts || wide p others)) seven P b.1 in
    let d = refuse_inv 7 (zero_in gs || repeats gs) (accepted (problem gs ts)) P c.1 in
    let l = like q r gs ts b.0 in
    let w = neither (wide p gs) (wide p ts || wide p others) c.0 in
    let v = neither (wide p ts) (wide p others) w.1 in
    let z = neither (zero_in gs) (repeats gs) d.0 in
    record {
      is = sym (accepted_inj (problem gs ts) P d.1);
      few = ltb-false most_generators q a.0;
      generators = l.0;
      targets = l.1;
      generators_fit = w.0;
      targets_fit = v.0;
      others_fit = v.1;
      no_zero = z.0;
      no_repeat = z.1;
    }

pub mapped_taken : (shape : Shape) (n m u : ℕ) (gs ts others : List ℕ) (P : Problem) → mapped shape n m u gs ts others ≡ accepted P
    → MapTaken shape n m u gs ts others P
unfolding mapped
mapped_taken shape n m u gs ts others P e =
    let made : Problem = problem (generator_forms n m) (target_forms shape n m u) in
    let six : Answer Problem = refuse 6 (wide (n * m) others) (accepted made) in
    let a = need_inv 4 (count_of n m) (λ c. refuse 5 (unlike 0 0 gs ts) six) P e in
    let b = refuse_inv 5 (unlike 0 0 gs ts) six P a.2 in
    let c = refuse_inv 6 (wide (n * m) others) (accepted made) P b.1 in
    let l = like 0 0 gs ts b.0 in
    let f = counted n m a.0 a.1 in
    record {
      is = sym (accepted_inj made P c.1);
      few = (let g = f.0 in let h = f.1 in omega arith);
      no_generators = l.0;
      no_targets = l.1;
      others_fit = c.0;
    }

pub record Kinded (shape : Shape) (gs ts others : List ℕ) (P : Problem) : Type 0 where
  pub n : ℕ
  pub m : ℕ
  pub u : ℕ
  pub sized : sizes shape ≡ Some (n, m, u)
  pub rest : sorted shape n m u gs ts others ≡ accepted P

pub shaped_inv : (shape : Shape) (gs ts others : List ℕ) (P : Problem) → shaped shape gs ts others ≡ accepted P → Kinded shape gs ts others P
unfolding shaped
shaped_inv shape gs ts others P e =
    let b = need_inv 3 (sizes shape) (λ z. sorted shape z.0 z.1 z.2 gs ts others) P e in
    record { n = b.0.0; m = b.0.1; u = b.0.2; sized = b.1; rest = b.2 }

pub posed_inv : (number p q r : ℕ) (gs ts others : List ℕ) (P : Problem) → posed number p q r gs ts others ≡ accepted P
    → (kd : Kind) × (kind_numbered number ≡ Some kd) × (shaped (shape_of kd p q r) gs ts others ≡ accepted P)
unfolding posed
posed_inv number p q r gs ts others P e = need_inv 2 (kind_numbered number) (λ kd. shaped (shape_of kd p q r) gs ts others) P e
