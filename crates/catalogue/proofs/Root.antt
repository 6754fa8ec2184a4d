-- The walk from the targets' space.
-- rooted: what is asked of it, from what is asked of the listing. root-node: what the walk asks is met at the start.
-- listed-none: k is below the space's dimension. listed-end: the entries met there are the listing.
-- Assumes nothing.
use mathlib.Core.Path.{◌≡◌, refl, ap, ◌∙◌}
use mathlib.Core.List.{List, [], ◌∷◌, ◌++◌, map}
use Prim.Native.Nat.{ℕ, ◌-◌, ◌<◌, ◌≤◌}
use native.Mathlib.Omega.{arith}
use lib.ListN.{length, take}
use Rattle.linear.specs.Basis.{reduce}
use Rattle.linear.specs.Entry.{entries, space}
use Rattle.linear.specs.Word.{word}
use Rattle.bases.specs.Basis.{rows_of, based_dim}
use Rattle.bases.specs.declared.Basis.{Basis}
use Rattle.residues.specs.children.Residues.{residues}
use Rattle.residues.specs.Mapped.{Mapped}
use Rattle.records.specs.declared.Tally.{Tally}
use Rattle.records.specs.Records.{run}
use Rattle.catalogue.specs.declared.noting.Aim.{Aim}
use Rattle.catalogue.specs.declared.noting.Aim.TheVariants as aim
use Rattle.catalogue.proofs.laws.of_noting.Noting.{records_met}
use Rattle.catalogue.specs.walk.Walk.{Node}
use Rattle.catalogue.specs.meeting.Meeting.{start, Rooted, Met}
use Rattle.catalogue.proofs.laws.of_meeting.Meeting.{met_entries}
use Rattle.catalogue.specs.listing.Listing.{SearchAsked, ListedFrom}
use Rattle.catalogue.proofs.laws.of_listing.Listing.{listed_below, listed_run}

pub rooted : {gens : List ℕ} {b : Basis} {k : ℕ} (limit : ℕ) (order prices buffer : List ℕ) → SearchAsked gens b k → b.len ≤ k
    → Rooted gens b k (aim.Records limit) order prices buffer
rooted limit order prices buffer A l =
    record {
      small = A.small;
      valid = A.valid;
      least = l;
      near = A.near;
      menu = tt;
      steady = record { limited = omega arith; fewer = omega arith; inside = omega arith };
    }

pub root_node : (gens : List ℕ) (k : ℕ) (a : Aim) (order prices buffer : List ℕ) (b : Basis) (h : List ℕ) → Rooted gens b k a order prices buffer
    → Mapped (reduce word (rows_of b)) gens h
    → Node gens (take (length gens) h) 0 (k - b.len) b (record { numbers = 0 ∷ 0 ∷ 0 ∷ 0 ∷ 0 ∷ 0 ∷ 0 ∷ 0 ∷ []; len = 0 })
    (record { found = 0; shown = 0; at = 0 }) a order prices buffer
unfolding residues
root_node gens k a order prices buffer b h R M =
    record {
      left = M.is;
      small = omega (arith, R.small);
      begin = omega arith;
      valid = R.valid;
      tidy = record { whole = refl; room = omega (arith, R.near) };
      menu = R.menu;
      steady = R.steady;
    }

pub listed_none : (gens : List ℕ) (k limit : ℕ) (buffer : List ℕ) (b : Basis) → k < b.len
    → ListedFrom gens b k limit buffer buffer (record { ell = b.len; found = 0; shown = 0 })
listed_none gens k limit buffer b h targets B = listed_below gens targets k b.len limit buffer (based_dim targets b B) h

-- the records of what is met are those of the entries
pub listed_end : (gens : List ℕ) (k limit : ℕ) (order prices buffer : List ℕ) (b : Basis) → b.len ≤ k → (t : Tally) (last : List ℕ)
    → Met gens b k (aim.Records limit) order prices buffer last t → ListedFrom gens b k limit buffer last
    (record { ell = b.len; found = t.found; shown = t.shown })
listed_end gens k limit order prices buffer b l t last M targets B =
    listed_run gens targets k limit buffer b.len (based_dim targets b B) t last
    (met_entries gens b k (aim.Records limit) order prices buffer last t l M targets B
    ∙ records_met gens order prices limit (start buffer) (map (λ es. (es, space word gens targets es)) (entries word gens targets k))
    ∙ ap (run limit (start buffer)) (both (entries word gens targets k)))
  where
    both : (l : List (List ℕ)) → map (λ (e : List ℕ × List ℕ). e.0 ++ e.1) (map (λ (es : List ℕ). (es, space word gens targets es)) l)
        ≡ map (λ (es : List ℕ). es ++ space word gens targets es) l
    both [] = refl
    both (es ∷ l) = ap (λ (r : List (List ℕ)). (es ++ space word gens targets es) ∷ r) (both l)
