-- How the Formulae program starts.
--   head_put                      the first lines, from their pieces
--   first_refused, first_listed   what is printed first, by what was said
--   plan_refused, plan_listed     a problem's Catalogue, by its answer
--   start_short, start_refused, start_listed   an input, by its problem
--   shown_few                     at most 4,096 entries are shown
-- Assumes nothing.
use Rattle.std.specs.Prelude.{ℕ, ◌≤◌, ◌≡◌, refl, Bool, true, ◌||◌, List, length, take, ltb}
use Rattle.std.proofs.Common.{sym, ◌∙◌, subst, arith, ltb-false}
use Rattle.std.proofs.Math.Path.{ap}
use Rattle.std.proofs.Math.Bool.{false}
use Rattle.std.proofs.Math.Seq.{paste}
use Rattle.kinds.specs.declared.Shape.{Shape}
use Rattle.kinds.specs.Limits.{most_generators, most_targets}
use Rattle.kinds.specs.Refusal.{Answer, refused, accepted, refuse, follow}
use Rattle.kinds.specs.laws.Refusal.{accepted_inj, refuse_inv, follow_inv, neither}
use Rattle.words.specs.Buffers.{zeros}
use Rattle.words.specs.laws.Buffers.{pasted}
use Rattle.problems.specs.Problem.{Problem, problem}
use Rattle.problems.proofs.Theorems.{Few, shaped_few}
use Rattle.problem_files.specs.posing.Posing.{ProblemFile}
use Rattle.problem_files.specs.posing.Views.{seen_posing, PosesIn}
use Rattle.problem_files.proofs.laws.Accepted.{file_poses}
use Rattle.problem_files.specs.declared.posing.PosedRead.{PosedRead}
use Rattle.problem_files.specs.declared.posing.PosedRead.TheVariants as posed
use Rattle.problem_files.specs.inputs.Inputs.{posed_input}
use Rattle.problem_files.proofs.laws.of_inputs.Input.{file_of, same_parts, input_posed}
use Rattle.catalogue.specs.Catalogue.{Catalogued, catalogue_of, seen_catalogue, lent_catalogue}
use Rattle.catalogue.specs.declared.Catalogued.{Catalogued as Reply}
use Rattle.catalogue.specs.declared.Catalogued.TheVariants as reply
use Rattle.catalogue_text.specs.laws.Catalogue.{fitted}
use Rattle.printing.specs.fields.Piece.{Piece}
use Rattle.printing.specs.fields.RefusedText.{refused_text}
use Rattle.printing.specs.fields.laws.Pieces.{Put, piece, piece_then, whole}
use Rattle.catalogue_text.specs.report.CatalogueReports.{counts_text}
use Rattle.text.specs.Limits.{program_words}
use Rattle.formulae_program.specs.declared.plan.Plan.{Plan}
use Rattle.formulae_program.specs.declared.plan.Started.{Started}
use Rattle.formulae_program.specs.declared.plan.Started.TheVariants as started
use Rattle.formulae_program.specs.first_part.Listed.{PlanListed, listed_entries, listed_in, listed_file, formulae_names, formulae_head}
use Rattle.formulae_program.specs.first_part.Starts.{plan_for, started_of, generators_held, targets_held, listing_after}
use Rattle.formulae_program.specs.first_part.Starts.{started_for, forms_held, Planned, Starts, first_text}

-- ---- the first lines
pub head_put : (shape : Shape) (k ell found shown a e : ℕ) (d d₁ d₂ : List ℕ)
    → Piece d 0 (counts_text shape k ell found shown) 182 d₁ a → Put d₁ a formulae_names d₂ e
    → Piece d 0 (formulae_head shape k ell found shown) 210 d₂ e
unfolding formulae_head
head_put shape k ell found shown a e d d₁ d₂ P Q = piece_then P (piece d₁ a formulae_names 28 d₂ e Q (omega arith))

pub first_refused : (x : Started) (n e : ℕ) (d : List ℕ) → x ≡ started.Refused n → (take e d ≡ refused_text n) × (e ≤ 32) → (take e d ≡ first_text x) × (e ≤ 210)
first_refused x n e d h P = (P.0 ∙ sym (ap first_text h), (let a = P.1 in omega arith))

pub first_listed : (x : Started) (y : Plan) (d d₁ : List ℕ) (e : ℕ) → x ≡ started.Listed y → length d ≡ 256
    → Piece d 0 (formulae_head y.shape y.k y.ell y.found y.shown) 210 d₁ e → (take e d₁ ≡ first_text x) × (e ≤ 210)
first_listed x y d d₁ e h l P =
    (whole (first_text (started.Listed y)) d d₁ 210 e P (omega arith) ∙ sym (ap first_text h), omega (arith, P.after, P.most))

-- ---- a problem's Catalogue, from the code's answer y
module _ (shape : Shape) (k : ℕ) (x : Problem) (gs ts old : List ℕ) (y : Reply) (after : List ℕ)
    (A : (catalogue_of x k old ≡ seen_catalogue y after) × (after ≡ lent_catalogue (catalogue_of x k old) old)) where
  planned_as : (o : Answer Catalogued) → catalogue_of x k old ≡ o → (z : Started) (g t : List ℕ) → z ≡ started_for shape k x o
      → g ≡ forms_held o x.generators gs → t ≡ forms_held o x.targets ts → Planned shape k x gs ts old z g t after
  planned_as o q z g t a b c =
      record {
        said = a ∙ sym (ap (started_for shape k x) q);
        generators = b ∙ sym (ap (λ (o : Answer Catalogued). forms_held o x.generators gs) q);
        targets = c ∙ sym (ap (λ (o : Answer Catalogued). forms_held o x.targets ts) q);
        listed = A.1;
      }

  pub plan_refused : {e : ℕ} (g t : List ℕ) → y ≡ reply.Refused e → g ≡ zeros gs → t ≡ zeros ts → Planned shape k x gs ts old (started.Refused e) g t after
  plan_refused {e} g t h a b = planned_as (refused e) (A.0 ∙ ap (λ (w : Reply). seen_catalogue w after) h) (started.Refused e) g t refl a b

  pub plan_listed : {l f s : ℕ} (g t : List ℕ) → y ≡ reply.Entries l f s
      → g ≡ paste gs 0 x.generators (length x.generators) → t ≡ paste ts 0 x.targets (length x.targets)
      → Planned shape k x gs ts old (started.Listed (plan_for shape k x (record { ell = l; found = f; shown = s; buffer = after }))) g t after
  plan_listed {l} {f} {s} g t h a b =
      let c : Catalogued = record { ell = l; found = f; shown = s; buffer = after } in
      planned_as (accepted c) (A.0 ∙ ap (λ (w : Reply). seen_catalogue w after) h) (started.Listed (plan_for shape k x c)) g t refl
      (a ∙ pasted x.generators gs) (b ∙ pasted x.targets ts)

-- ---- an input
starts_as : (s gs ts old : List ℕ) (o : Answer PlanListed) → listed_file s (length gs) (length ts) old ≡ o → (x : Started) (g t listing : List ℕ)
    → x ≡ started_of o → g ≡ generators_held o gs → t ≡ targets_held o ts → listing ≡ listing_after o old → Starts s gs ts old x g t listing
starts_as s gs ts old o q x g t listing a b c d =
    record {
      said = a ∙ sym (ap started_of q);
      generators = b ∙ sym (ap (λ (o : Answer PlanListed). generators_held o gs) q);
      targets = c ∙ sym (ap (λ (o : Answer PlanListed). targets_held o ts) q);
      listed = d ∙ sym (ap (λ (o : Answer PlanListed). listing_after o old) q);
    }

file_as : (s : List ℕ) (u v : ℕ) (old : List ℕ) (b : Bool) → (ltb u most_generators || ltb v most_targets) ≡ b → listed_file s u v old ≡ refuse 9 b (listed_in s old)
unfolding listed_file
file_as s u v old b h = ap (λ (b : Bool). refuse 9 b (listed_in s old)) h

pub short_not : (u v : ℕ) → (ltb u most_generators || ltb v most_targets) ≡ false → (most_generators ≤ u) × (most_targets ≤ v)
short_not u v h = let n = neither (ltb u most_generators) (ltb v most_targets) h in (ltb-false u most_generators n.0, ltb-false v most_targets n.1)

module _ (s gs ts old : List ℕ) where
  pub start_short : (g t : List ℕ) → (ltb (length gs) most_generators || ltb (length ts) most_targets) ≡ true → g ≡ zeros gs → t ≡ zeros ts
      → Starts s gs ts old (started.Refused 9) g t old
  start_short g t h a b = starts_as s gs ts old (refused 9) (file_as s (length gs) (length ts) old true h) (started.Refused 9) g t old refl a b refl

  module _ {cs xs ys : List ℕ} {y : PosedRead} (h : (ltb (length gs) most_generators || ltb (length ts) most_targets) ≡ false)
      (P : PosesIn (posed_input s) cs xs ys y) where
    abbrev seen : PosedRead → Answer ProblemFile
    seen z = seen_posing P.first P.second cs xs ys z

    listed_as : (z : PosedRead) → y ≡ z → listed_file s (length gs) (length ts) old ≡ follow (seen z) (listed_entries old)
    unfolding listed_in
    listed_as z q =
        file_as s (length gs) (length ts) old false h
        ∙ ap (λ (o : Answer ProblemFile). follow o (listed_entries old)) (P.poses.answer ∙ ap seen q)

    pub start_refused : {e : ℕ} (g t : List ℕ) → y ≡ posed.Refused e → g ≡ zeros gs → t ≡ zeros ts → Starts s gs ts old (started.Refused e) g t old
    start_refused {e} g t q a b = starts_as s gs ts old (refused e) (listed_as (posed.Refused e) q) (started.Refused e) g t old refl a b refl

    module _ {shape : Shape} {k c u : ℕ} {G T : List ℕ} (q : y ≡ posed.Problem shape k c u) (i : G ≡ take c xs) (j : T ≡ take u ys) where
      abbrev F : ProblemFile
      F = file_of s cs xs ys P q i j

      pub start_listed : (x : Started) (g t listing : List ℕ) → Planned shape k (problem G T) gs ts old x g t listing → Starts s gs ts old x g t listing
      start_listed x g t listing R =
          let S : Planned shape k F.problem gs ts old x g t listing =
          subst (λ (z : Problem). Planned shape k z gs ts old x g t listing) (sym (same_parts s cs xs ys P q i j)) R in
          go (catalogue_of F.problem k old) refl S
        where
          go : (o : Answer Catalogued) → catalogue_of F.problem k old ≡ o → Planned shape k F.problem gs ts old x g t listing → Starts s gs ts old x g t listing
          go (refused e) z S =
              starts_as s gs ts old (refused e)
              (listed_as (posed.Problem shape k c u) q ∙ ap (λ (o : Answer Catalogued). follow o λ d. accepted (record { problem = F; said = d })) z) x g t listing
              (S.said ∙ ap (started_for shape k F.problem) z)
              (S.generators ∙ ap (λ (o : Answer Catalogued). forms_held o F.problem.generators gs) z)
              (S.targets ∙ ap (λ (o : Answer Catalogued). forms_held o F.problem.targets ts) z)
              (S.listed ∙ ap (λ (o : Answer Catalogued). lent_catalogue o old) z)
          go (accepted d) z S =
              starts_as s gs ts old (accepted (record { problem = F; said = d }))
              (listed_as (posed.Problem shape k c u) q ∙ ap (λ (o : Answer Catalogued). follow o λ d. accepted (record { problem = F; said = d })) z) x g t listing
              (S.said ∙ ap (started_for shape k F.problem) z)
              (S.generators ∙ ap (λ (o : Answer Catalogued). forms_held o F.problem.generators gs) z)
              (S.targets ∙ ap (λ (o : Answer Catalogued). forms_held o F.problem.targets ts) z)
              (S.listed ∙ ap (λ (o : Answer Catalogued). lent_catalogue o old) z)

-- ---- an accepted input
pub record ListedSo (s old : List ℕ) (L : PlanListed) : Type 0 where
  pub input : posed_input s ≡ accepted L.problem
  pub said : catalogue_of L.problem.problem L.problem.k old ≡ accepted L.said
  pub few : Few L.problem.problem

pub listed_inv : (s old : List ℕ) (L : PlanListed) → listed_in s old ≡ accepted L → ListedSo s old L
unfolding listed_in
listed_inv s old L e =
    let a = follow_inv (posed_input s) (listed_entries old) L e in
    let Q : ProblemFile = a.0 in
    let b = follow_inv (catalogue_of Q.problem Q.k old) (λ c. accepted (record { problem = Q; said = c })) L a.2 in
    let l : record { problem = Q; said = b.0 } ≡ L = accepted_inj (record { problem = Q; said = b.0 }) L b.2 in
    let S : ListedSo s old (record { problem = Q; said = b.0 }) =
    record { input = a.1; said = b.1; few = shaped_few Q.shape Q.generators Q.targets _ Q.problem (file_poses s Q (input_posed s Q a.1)) } in
    subst (ListedSo s old) l S

pub file_inv : (s : List ℕ) (u v : ℕ) (old : List ℕ) (L : PlanListed) → listed_file s u v old ≡ accepted L → listed_in s old ≡ accepted L
unfolding listed_file
file_inv s u v old L e = (refuse_inv 9 (ltb u most_generators || ltb v most_targets) (listed_in s old) L e).1

-- how many entries are shown of what was said
abbrev pub shown_of : Started → ℕ
shown_of (started.Refused e) = 0
shown_of (started.Listed x) = x.shown

pub shown_few : (s gs ts old : List ℕ) (x : Started) (g t listing : List ℕ) → length old ≡ program_words → Starts s gs ts old x g t listing → shown_of x ≤ program_words
shown_few s gs ts old x g t listing w S = subst (λ (y : Started). shown_of y ≤ program_words) (sym S.said) (go (listed_file s (length gs) (length ts) old) refl)
  where
    go : (o : Answer PlanListed) → listed_file s (length gs) (length ts) old ≡ o → shown_of (started_of o) ≤ program_words
    go (refused e) q = omega arith
    go (accepted L) q =
        let I = listed_inv s old L (file_inv s (length gs) (length ts) old L q) in
        (fitted L.problem.problem L.problem.k old L.said I.few w I.said).few
