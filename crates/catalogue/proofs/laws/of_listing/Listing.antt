-- What a listing says.
--   record_length_law   every record has the length that its definition says
--   found_all       with at most 4,095 generators and k at most ℓ + 6 the limit 2 ^ 64 - 1 cuts nothing
--   listed_below    there is no entry for k below the targets' dimension
--   listed_run      the state after the entries' records is the listing
-- Assumes nothing.
use Rattle.std.specs.Prelude.{◌≡◌, ℕ, ◌+◌, ◌-◌, ◌*◌, ◌^◌, ◌<◌, ◌≤◌, min, length, take, drop}
use Rattle.std.proofs.Math.Path.{refl}
use Rattle.std.proofs.Common.{sym, ap, ap₂, ◌∙◌, arith, length-append, length-take, take-take}
use mathlib.Core.List.{List, ◌++◌, map, Memᴰ}
use Rattle.std.proofs.lemmas.List.{length-map}
use Rattle.linear.specs.Basis.{dim}
use Rattle.linear.specs.Entry.{entries, space}
use Rattle.linear.specs.Word.{word}
use Rattle.linear.proofs.laws.Order.{mem_map_inv}
use Rattle.linear.proofs.laws.Entry.{entries_sound, entries_shape}
use Rattle.linear.proofs.laws.Rank.{entries_below}
use Rattle.linear.proofs.laws.Count.{entries_count}
use Rattle.records.specs.declared.Tally.{Tally}
use Rattle.records.specs.Records.{State, run}
use Rattle.records.specs.Keep.{state_of}
use Rattle.catalogue.specs.declared.listing.Listing.{Listing}
use Rattle.catalogue.specs.meeting.Meeting.{start}
use Rattle.catalogue.specs.listing.Listing.{records, flat, fitting, Listed}
use Rattle.catalogue.proofs.laws.of_listing.Run.{fitting_le, fitting_none, after_all, run_limit}
use Rattle.records.specs.Length.{record_length}
use Rattle.kinds.specs.Limits.{most_generators}

pub record_length_law : (gens targets : List ℕ) (k : ℕ) (r : List ℕ) → Memᴰ r (records gens targets k) → length r ≡ record_length (dim word targets) k
unfolding records
record_length_law gens targets k =
    mem_map_inv (λ es. es ++ space word gens targets es) (λ r. length r ≡ record_length (dim word targets) k) (entries word gens targets k)
    (λ es m. length-append es (space word gens targets es) ∙ ap₂ ◌+◌ (entries_shape word gens targets k es m).0 (entries_sound word gens targets k es m).size)

pub records_length : (gens targets : List ℕ) (k : ℕ) → length (records gens targets k) ≡ length (entries word gens targets k)
unfolding records
records_length gens targets k = length-map (entries word gens targets k) (λ es. es ++ space word gens targets es)

pub found_all : (gens targets : List ℕ) (k : ℕ) (before after : List ℕ) (r : Listing) → length gens ≤ most_generators → k ≤ dim word targets + 6
    → Listed gens targets k (2 ^ 64 - 1) before after r
    → r.found ≡ length (entries word gens targets k)
found_all gens targets k before after r s h L =
    let b : length (entries word gens targets k) < 2 ^ 64 = entries_count word gens targets k s h in
    omega (arith, b, L.found)

pub listed_below : (gens targets : List ℕ) (k l limit : ℕ) (buffer : List ℕ) → l ≡ dim word targets → k < l
    → Listed gens targets k limit buffer buffer (record { ell = l; found = 0; shown = 0 })
unfolding flat
listed_below gens targets k l limit buffer e h =
    let z : length (entries word gens targets k) ≡ 0 = ap length (entries_below word gens targets k (omega arith)) in
    record {
      ell = e;
      found = omega (arith, z);
      shown = sym (fitting_none (record_length (dim word targets) k) (length buffer));
      buffer = ap (λ (x : ℕ). drop x buffer) (let q : 0 ≡ 0 * record_length (dim word targets) k = omega arith in q);
    }

pub listed_run : (gens targets : List ℕ) (k limit : ℕ) (buffer : List ℕ) (l : ℕ) → l ≡ dim word targets → (t : Tally) (last : List ℕ)
    → state_of t last ≡ run limit (start buffer) (map (λ es. es ++ space word gens targets es) (entries word gens targets k))
    → Listed gens targets k limit buffer last (record { ell = l; found = t.found; shown = t.shown })
listed_run gens targets k limit buffer l e t last q =
    record { ell = e; found = count; shown = shown; buffer = content }
  where
    n : ℕ
    n = record_length (dim word targets) k

    rs : List (List ℕ)
    rs = records gens targets k

    c : ℕ
    c = length (take limit rs)

    s : ℕ
    s = fitting n c (length buffer)

    same : map (λ es. es ++ space word gens targets es) (entries word gens targets k) ≡ rs
    same = unfold records in refl

    all : state_of t last ≡ after_all n (start buffer) (take limit rs) s
    all =
        q ∙ ap (run limit (start buffer)) same ∙ run_limit limit n rs buffer (record_length_law gens targets k)

    found : t.found ≡ c
    found = ap (λ (x : State). x.found) all ∙ (let z : 0 + c ≡ c = omega arith in z)

    count : t.found ≡ min limit (length (entries word gens targets k))
    count = found ∙ length-take limit rs ∙ ap (min limit) (records_length gens targets k)

    is_s : t.shown ≡ s
    is_s = ap (λ (x : State). x.shown) all ∙ (let z : 0 + s ≡ s = omega arith in z)

    shown : t.shown ≡ fitting n t.found (length buffer)
    shown = is_s ∙ ap (λ (x : ℕ). fitting n x (length buffer)) (sym found)

    few : s ≤ limit
    few = omega (arith, fitting_le n c (length buffer), length-take limit rs)

    content : last ≡ flat (take t.shown rs) ++ drop (t.shown * n) buffer
    content =
        ap (λ (x : State). x.buf) all
        ∙ ap₂ (λ (x : List (List ℕ)) (y : ℕ). flat x ++ drop y buffer) (take-take s limit rs few) (let z : 0 + s * n ≡ s * n = omega arith in z)
        ∙ ap (λ (x : ℕ). flat (take x rs) ++ drop (x * n) buffer) (sym is_s)
