-- A problem that was handed in, laid out in the arrays g and t: what a definition that follows it says, and its counts.
--   follow_refused, follow_made   what follows the problem
--   handed_room                   its counts
--   few_handed, targets_handed    those of the parts in use
--   replied_as                    the two equations of a call, the answer and the buffer at exit, from those of what it follows
-- Assumes nothing.
use Rattle.std.specs.Prelude.{◌≡◌, List, ℕ, ◌≤◌, length, take}
use Rattle.std.proofs.Common.{sym, ap, ap₂, ◌∙◌, subst, arith, length-take, length-take-le}
use Rattle.kinds.specs.Limits.{most_generators, most_targets}
use Rattle.kinds.specs.Refusal.{Answer, refused, follow}
use Rattle.problems.specs.Problem.{Problem, problem}
use Rattle.problems.specs.declared.Posed.{Posed}
use Rattle.problems.specs.declared.Posed.TheVariants as answer
use Rattle.problems.specs.Replies.{seen_posed, PosedFits, Room, Laid}

module _ {asked : Answer Problem} {x : Posed} {g t : List ℕ} (L : Laid asked x g t) where
  pub follow_refused : {A : Type 0} (f : Problem → Answer A) {e : ℕ} → x ≡ answer.Refused e → follow asked f ≡ refused e
  follow_refused f q = ap (λ (a : Answer Problem). follow a f) (L.answer ∙ ap (seen_posed g t) q)

  -- G and T are the parts of the arrays in use
  pub follow_made : {A : Type 0} (f : Problem → Answer A) {c u : ℕ} {G T : List ℕ} → x ≡ answer.Are c u → G ≡ take c g → T ≡ take u t
      → follow asked f ≡ f (problem G T)
  follow_made f q a b =
      ap (λ (y : Answer Problem). follow y f) (L.answer ∙ ap (seen_posed g t) q) ∙ ap₂ (λ (G T : List ℕ). f (problem G T)) (sym a) (sym b)

  pub handed_room : {c u : ℕ} → x ≡ answer.Are c u → Room c u
  handed_room q = subst PosedFits q L.room

  pub few_handed : {c u : ℕ} {G : List ℕ} → x ≡ answer.Are c u → G ≡ take c g → length G ≤ most_generators
  few_handed {c} q a = omega (arith, ap length a, length-take c g, (handed_room q).generators)

  pub targets_handed : {c u : ℕ} {T : List ℕ} → x ≡ answer.Are c u → length t ≡ most_targets → T ≡ take u t → u ≡ length T
  targets_handed {u = u} q l a = sym (ap length a ∙ length-take-le u t (let m = (handed_room q).targets in omega arith))

pub replied_as : {A : Type 0} (lent : Answer A → List ℕ) {a b s : Answer A} {after : List ℕ} → a ≡ b → (b ≡ s) × (after ≡ lent b)
    → (a ≡ s) × (after ≡ lent a)
replied_as lent e R = (e ∙ R.0, R.1 ∙ sym (ap lent e))
