-- What the steps of the call say, and that together they say what is defined.
--   FormulaeReplied                         == the two equations of the call: the answer, and the buffer at exit
--   given_far, given_no, given_yes          the three cases: refusal 8, refusal 10, the listing of the space
--   made_some                               from the problem handed in
-- Assumes nothing.
use Rattle.std.specs.Prelude.{◌≡◌, refl, Bool, true, false, not, List, ℕ, ◌+◌, ◌<◌, ◌≤◌, length, take}
use Rattle.std.proofs.Common.{sym, ap, ◌∙◌, arith, lt-ltb, le-ltb}
use Rattle.std.proofs.Math.Path.{ap₂}
use Rattle.std.proofs.lemmas.Bool.{not-false}
use Rattle.kinds.specs.Refusal.{Answer, refused, accepted, refuse}
use Rattle.problems.specs.Problem.{Problem, problem}
use Rattle.problems.specs.declared.Posed.{Posed}
use Rattle.problems.specs.declared.Posed.TheVariants as answer
use Rattle.problems.specs.Replies.{Laid}
use Rattle.problems.proofs.laws.Handed.{handed_room, targets_handed}
use Rattle.linear.specs.Basis.{dim}
use Rattle.linear.specs.Word.{word}
use Rattle.space_formulae.specs.spaces.Spaces.{Formulae, is_entry, formulae_listing, formulae_for, seen_formulae, lent_formulae, SpaceAccepted, FormulaeTold, Rows}
use Rattle.space_formulae.specs.declared.spaces.Listed.{Listed as Reply}
use Rattle.space_formulae.specs.declared.spaces.Listed.TheVariants as reply
use Rattle.space_formulae.proofs.laws.of_spaces.Entry.{is_entry_law}
use Rattle.kinds.specs.Limits.{most_targets}
use Rattle.space_formulae.specs.Replies.{Some}

abbrev pub FormulaeReplied : Answer Formulae → List ℕ → Reply → List ℕ → Type 0
FormulaeReplied a old x after = (a ≡ seen_formulae x after) × (after ≡ lent_formulae a old)

-- ---- of a posed problem
pub replied_refused : (a : Answer Formulae) (old : List ℕ) (e : ℕ) → a ≡ refused e → FormulaeReplied a old (reply.Refused e) old
replied_refused a old e q = (q, sym (ap (λ (b : Answer Formulae). lent_formulae b old) q))

-- an accepted answer leaves what it says in the buffer
lent_told : (l : Formulae) (old : List ℕ) (r : Reply) (after : List ℕ) → accepted l ≡ seen_formulae r after → after ≡ l.buffer
lent_told l old (reply.Refused e) after q = absurd (let z : ◌≡◌ {A = ℕ} 0 1 = cc in omega arith)
lent_told l old (reply.All n) after q = let z : l.buffer ≡ after = cc in sym z
lent_told l old (reply.More n) after q = let z : l.buffer ≡ after = cc in sym z

module _ (gens targets rows old : List ℕ) where
  abbrev step : Bool → Bool → Answer Formulae
  step far good = refuse 8 far (refuse 10 (not good) (accepted (formulae_listing (problem gens targets) rows old)))

  abbrev pub Given : Reply → List ℕ → Type 0
  Given = FormulaeReplied (formulae_for (problem gens targets) rows old) old

  pub given_far : dim word targets + 6 < length rows → Given (reply.Refused 8) old
  unfolding formulae_for
  given_far h =
      replied_refused (formulae_for (problem gens targets) rows old) old 8
      (ap (λ (b : Bool). step b (is_entry gens targets rows)) (lt-ltb (dim word targets + 6) (length rows) h))

  module _ (h : length rows ≤ dim word targets + 6) (t : Bool) (R : Rows gens targets rows t) where
    near : (u : Bool) → t ≡ u → formulae_for (problem gens targets) rows old ≡ step false u
    unfolding formulae_for
    near u e = ap₂ step (le-ltb (dim word targets + 6) (length rows) h) (sym R.is ∙ e)

    pub given_no : not t ≡ true → Given (reply.Refused 10) old
    given_no e = replied_refused (formulae_for (problem gens targets) rows old) old 10 (no t refl e)
      where
        no : (u : Bool) → t ≡ u → not u ≡ true → formulae_for (problem gens targets) rows old ≡ refused 10
        no true q z = absurd (let y : ◌≡◌ {A = ℕ} 0 1 = cc in omega arith)
        no false q z = near false q

    pub is_accepted : not t ≡ false → Some targets → SpaceAccepted gens targets rows
    is_accepted e S = record { entry = (is_entry_law gens targets rows).0 (sym R.is ∙ not-false t e); few = R.room (not-false t e); some_target = S.some_target; targets_few_law = S.few }

    pub given_yes : not t ≡ false → (r : Reply) (after : List ℕ) → FormulaeTold gens targets rows old r after → Given r after
    given_yes e r after T =
        let q = near true (not-false t e) in (
          q ∙ T.answer,
          lent_told (formulae_listing (problem gens targets) rows old) old r after T.answer ∙ sym (ap (λ (b : Answer Formulae). lent_formulae b old) q),
        )

-- ---- from the problem handed in
pub made_some : {asked : Answer Problem} {x : Posed} {g t T : List ℕ} (L : Laid asked x g t) {c u : ℕ} → x ≡ answer.Are c u → length t ≡ most_targets
    → T ≡ take u t → Some T
made_some L q h a =
    let R = handed_room L q in
    let l = targets_handed L q h a in
    record { some_target = (let m = R.some_target in omega arith); few = (let m = R.targets in omega arith) }
