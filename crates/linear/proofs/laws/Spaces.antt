-- Solution spaces that are given by any list of vectors.
--   solution_of_space, space_of_solution   SolutionSpace of a list, Solution of its reduced basis
--   space_listed                           exactly one entry spans the same space
-- Assumes nothing.
use Rattle.std.specs.Prelude.{◌≡◌, ℕ}
use Rattle.std.proofs.Common.{sym, ◌∙◌, subst}
use Rattle.std.proofs.Math.Path.{ap}
use mathlib.Core.List.{List, Memᴰ}
use Rattle.std.proofs.Math.ListN.{length}
use Rattle.linear.specs.Space.{Space}
use Rattle.linear.specs.Span.{Span, SameSpan}
use Rattle.linear.specs.Basis.{basis_of, dim}
use Rattle.linear.specs.Entry.{same_basis, generators_in, fits, Solution, SolutionSpace, space, entries}
use Rattle.linear.specs.laws.Span.{span_mem, span_mono}
use Rattle.linear.proofs.laws.Insert.{basis_of_reduced, basis_of_span}
use Rattle.linear.proofs.laws.Dimension.{unique, basis_of_is}
use Rattle.linear.proofs.laws.Select.{once_eq}
use Rattle.linear.proofs.laws.Entry.{same_basis_yes, same_basis_no, generators_in_within, space_reduced, entries_once}
use Rattle.linear.proofs.laws.Extension.{entries_complete}
use Rattle.linear.proofs.laws.Rank.{generators_in_mem, generators_in_gens}

module _ (S : Space) (gens targets : List S.Vec) (k : ℕ) where
  open S use {Vec}

  pub solution_of_space : (X : List Vec) → SolutionSpace S gens targets k X → Solution S gens targets k (basis_of S X)
  solution_of_space X E =
      record {
        reduced = basis_of_reduced S X;
        size = (unfold dim in E.size);
        holds = λ t m. (basis_of_span S X t).1 (E.holds t m);
        spanned =
            λ v s.
            let r = E.spanned v ((basis_of_span S X v).0 s) in
            span_mono S (λ x m. generators_in_mem S gens targets (basis_of S X) (basis_of_reduced S X) x (r.1 x m) ((basis_of_span S X x).1 (r.2 x (span_mem S m)))) r.3;
      }

  pub space_of_solution : (B : List Vec) → Solution S gens targets k B → SolutionSpace S gens targets k B
  space_of_solution B E =
      record {
        size = (unfold dim in ap length (basis_of_is S B B E.reduced (λ v s. s) (λ v s. s)) ∙ E.size);
        holds = E.holds;
        spanned = λ v s. (generators_in S gens B, generators_in_gens S gens targets B, generators_in_within S gens B, E.spanned v s);
      }

  pub space_listed : (X : List Vec) → SolutionSpace S gens targets k X
      → (es : List ℕ) × Memᴰ es (entries S gens targets k) × SameSpan S (space S gens targets es) X
      × ((fs : List ℕ) → Memᴰ fs (entries S gens targets k) → SameSpan S (space S gens targets fs) X → fs ≡ es)
  space_listed X E = (
    r.0,
    r.1,
    (λ v s. (basis_of_span S X v).0 (subst (λ (B : List Vec). Span S B v) r.2 s), λ v s. subst (λ (B : List Vec). Span S B v) (sym r.2) ((basis_of_span S X v).1 s)),
    λ fs m q. once_eq (space S gens targets) (fits S gens k) (same_basis S) (same_basis_yes S) (same_basis_no S) (entries S gens targets k) (entries_once S gens targets k) fs r.0 m r.1
        (unique S (space S gens targets fs) (basis_of S X) (space_reduced S gens targets fs) (basis_of_reduced S X)
        (λ v s. (basis_of_span S X v).1 (q.0 v s)) (λ v s. q.1 v ((basis_of_span S X v).0 s)) ∙ sym r.2),
  )
    where
      r : (es : List ℕ) × Memᴰ es (entries S gens targets k) × (space S gens targets es ≡ basis_of S X)
      r = entries_complete S gens targets k (basis_of S X) (solution_of_space X E)
