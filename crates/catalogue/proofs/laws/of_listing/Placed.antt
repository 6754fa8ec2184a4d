-- Where a record stands: record i at i times its length.
--   placed        in the words of records of one length
--   entry_placed  in a listing of entries: the entry's extension, then its basis
-- Assumes nothing.
use Rattle.std.specs.Prelude.{◌≡◌, refl, drop, get_or}
use Rattle.std.proofs.Math.Path.{ap}
use Rattle.std.proofs.Common.{◌∙◌}
use mathlib.Core.List.{List, [], ◌∷◌, ◌++◌, map, append_assoc, Memᴰ}
use Prim.Native.Nat.{ℕ, zero, suc, ◌+◌, ◌*◌, ◌<◌, ◌≤◌}
use native.Mathlib.Omega.{arith}
use Rattle.std.proofs.Math.Nat.{suc-mul}
use Rattle.std.proofs.Math.ListN.{length, take, get_or-map}
use Rattle.std.proofs.Math.Seq.{take_at, drop-append-add}
use Rattle.linear.specs.Basis.{dim}
use Rattle.linear.specs.Entry.{entries, space}
use Rattle.linear.specs.Word.{word}
use Rattle.records.specs.Length.{record_length}
use Rattle.catalogue.specs.listing.Listing.{records, flat}
use Rattle.catalogue.proofs.laws.of_listing.Listing.{record_length_law, records_length}

module _ (n : ℕ) (tail d : List ℕ) where
  pub placed : (rs : List (List ℕ)) (s i : ℕ) → ((r : List ℕ) → Memᴰ r rs → length r ≡ n) → i < s → s ≤ length rs
      → take n (drop (i * n) (flat (take s rs) ++ tail)) ≡ get_or rs i d
  unfolding flat
  placed [] s i z h m = absurd (omega arith)
  placed (r ∷ rs) zero i z h m = absurd (omega arith)
  placed (r ∷ rs) (suc s) zero z h m =
      ap (λ (j : ℕ). take n (drop j ((r ++ flat (take s rs)) ++ tail))) (let q : 0 * n ≡ 0 = omega arith in q)
      ∙ ap (take n) (append_assoc r (flat (take s rs)) tail) ∙ take_at r (flat (take s rs) ++ tail) n (z r (Memᴰ.head refl))
  placed (r ∷ rs) (suc s) (suc i) z h m =
      ap (λ (b : List ℕ). take n (drop (suc i * n) b)) (append_assoc r (flat (take s rs)) tail)
      ∙ ap (λ (j : ℕ). take n (drop j (r ++ (flat (take s rs) ++ tail)))) (let q : suc i * n ≡ length r + i * n = omega (arith, suc-mul i n, z r (Memᴰ.head refl)) in q)
      ∙ ap (take n) (drop-append-add r (flat (take s rs) ++ tail) (i * n))
      ∙ placed rs s i (λ x k. z x (Memᴰ.tail k)) (omega arith) (omega arith)

module _ (gens targets : List ℕ) (k : ℕ) (tail : List ℕ) where
  pub entry_placed : (s i : ℕ) → i < s → s ≤ length (entries word gens targets k)
      → let es = get_or (entries word gens targets k) i [] in
      take (record_length (dim word targets) k) (drop (i * record_length (dim word targets) k) (flat (take s (records gens targets k)) ++ tail)) ≡ es ++ space word gens targets es
  unfolding records
  entry_placed s i h m =
      let line : List ℕ → List ℕ = λ es. es ++ space word gens targets es in
      placed (record_length (dim word targets) k) tail (line []) (map line (entries word gens targets k)) s i (record_length_law gens targets k) h
      (let l : length (map line (entries word gens targets k)) ≡ length (entries word gens targets k) = records_length gens targets k in omega arith)
      ∙ get_or-map line (entries word gens targets k) i []
