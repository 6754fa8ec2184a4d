-- The entries met, of any targets that have the basis.
--   met_entries   the state after the walk is that after all entries for k, each its extension and its space
-- Assumes nothing.
use Rattle.std.specs.Prelude.{◌≡◌, List, [], map, ℕ, ◌-◌, ◌≤◌, length}
use Rattle.std.proofs.Common.{ap, ap₂, ◌∙◌, arith}
use Rattle.linear.specs.Basis.{basis_of}
use Rattle.linear.specs.Entry.{entries, space}
use Rattle.linear.specs.Word.{word}
use Rattle.bases.specs.Basis.{Holds, based_dim}
use Rattle.bases.specs.declared.Basis.{Basis}
use Rattle.records.specs.declared.Tally.{Tally}
use Rattle.records.specs.Records.{runs}
use Rattle.records.specs.Keep.{state_of}
use Rattle.catalogue.specs.noting.Noting.{met}
use Rattle.catalogue.specs.walk.Walk.{search}
use Rattle.catalogue.proofs.laws.of_walk.Search.{search_is}
use Rattle.catalogue.specs.meeting.Meeting.{start, Met}
use Rattle.catalogue.specs.declared.noting.Aim.{Aim}

pub met_entries : (gens : List ℕ) (b : Basis) (k : ℕ) (a : Aim) (order prices buffer last : List ℕ) (t : Tally) → b.len ≤ k
    → Met gens b k a order prices buffer last t
    → (targets : List ℕ) → Holds (basis_of word targets) b
    → state_of t last ≡ runs (met gens order prices a) (start buffer) (map (λ es. (es, space word gens targets es)) (entries word gens targets k))
met_entries gens b k a order prices buffer last t l M targets B =
    let e = based_dim targets b B in
    M.state
    ∙ ap (λ (C : List ℕ). runs (met gens order prices a) (start buffer) (search gens k C [] (length gens - 0) 0 (k - b.len))) B.is
    ∙ ap₂ (λ (n m : ℕ). runs (met gens order prices a) (start buffer) (search gens k (basis_of word targets) [] n 0 (k - m)))
    (let z : length gens - 0 ≡ length gens = omega arith in z) e
    ∙ ap (runs (met gens order prices a) (start buffer)) (search_is gens targets k (omega (arith, e)))
