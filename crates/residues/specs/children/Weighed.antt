-- Values and their weights. A value is a residue other than 0; its rank is the dimension that the generators with it bring in.
--   points m                              == how many values a space over another has at the most, m dimensions more
--   rank_of gens d start v                 == the rank, modulo the generators in d's space, of the generators from start on with residue v
--   Shared d dead v                       == a dead number has the value v
--   Owner d start w bound n               == a number from start on with the value of n, and a weight that is not 0 and no less than the value's bound
--   Weighed gens d start dead w bound     == bound v is at least the rank of each value v that no dead number has, and each number that is not dead and
--                                            has a value has an owner
--   Light k m n low                       == a weight up to low is 0 or too light: times the values that there may be it is less than what is missing of k
--                                            dimensions besides n
--   Pick gens D W start low w             == a number from start on, of a generator in W that is new at D, whose weight is above low
--   Picked gens d start k m dead low w    == every space for k over d with m more dimensions and without a dead generator has such a number
--   Apart d i x left gone w bound         == the number i has no weight, or one below half of left, is gone, has the value x, or too little with its sum with x
--   Joined d start x left gone w bound p  == the numbers from start on that p does not pick are so
--   PickedBy .. gone n p                  == `Picked`, over d and the generator with the number n
-- Heavy values are enough (`weighed_picked`), and where two dimensions are missing a value x leaves only those that with x and their sum have what is
-- needed (`joined_picked`): proofs/laws/of_children/Weighed, Join. Assumes nothing.
use Rattle.std.specs.Prelude.{◌≡◌, ◌≢◌, ◌⊎◌, List, ℕ, ◌+◌, ◌-◌, ◌*◌, ◌^◌, ◌<◌, ◌≤◌, length, get_or, drop}
use Rattle.std.specs.Int.Bits.{bit_xor}
use Rattle.linear.specs.Span.{Span}
use Rattle.linear.specs.Basis.{reduce, insert, basis_of, Reduced}
use Rattle.linear.specs.Entry.{generator}
use Rattle.linear.specs.Share.{over}
use Rattle.linear.specs.Word.{word}
use Rattle.residues.specs.children.Residues.{residues, with_residue}
use Rattle.residues.specs.children.Found.{Leads, Spared}

unfoldable pub points : ℕ → ℕ
points m = 2 ^ m - 1

abbrev pub rank_of : List ℕ → List ℕ → ℕ → ℕ → ℕ
rank_of gens d start v = over word (basis_of word (with_residue 0 gens d)) (with_residue v (drop start gens) (drop start d))

pub record Shared (d dead : List ℕ) (v : ℕ) : Type 0 where
  pub number : ℕ
  pub dies : get_or dead number 0 ≢ 0
  pub value : get_or d number 0 ≡ v

pub record Owner (d : List ℕ) (start : ℕ) (w : List ℕ) (bound : ℕ → ℕ) (n : ℕ) : Type 0 where
  pub at : ℕ
  pub from : start ≤ at
  pub below : at < length d
  pub same : get_or d at 0 ≡ get_or d n 0
  pub some : get_or w at 0 ≢ 0
  pub weight : bound (get_or d n 0) ≤ get_or w at 0

pub record Weighed (gens d : List ℕ) (start : ℕ) (dead w : List ℕ) (bound : ℕ → ℕ) : Type 0 where
  pub above : (v : ℕ) → v ≢ 0 → ¬ Shared d dead v → rank_of gens d start v ≤ bound v
  pub owner : (n : ℕ) → start ≤ n → n < length d → get_or d n 0 ≢ 0 → get_or dead n 0 ≡ 0 → Owner d start w bound n

pub record Light (k m n low : ℕ) : Type 0 where
  pub less : (r : ℕ) → r ≤ low → (r ≡ 0) ⊎ (points m * r < k - n)

pub record Pick (gens D W : List ℕ) (start low : ℕ) (w : List ℕ) : Type 0 where
  pub at : ℕ
  pub from : start ≤ at
  pub below : at < length gens
  pub has : Span word W (generator word gens at)
  pub fresh : reduce word D (generator word gens at) ≢ 0
  pub picked : low < get_or w at 0

pub record Picked (gens d : List ℕ) (start k m : ℕ) (dead : List ℕ) (low : ℕ) (w : List ℕ) : Type 0 where
  pub some : (C D W : List ℕ) → Reduced word C → Reduced word D → d ≡ residues gens D → (j : ℕ) → Leads gens C D W start k m j → Spared gens W dead
      → Pick gens D W start low w

abbrev pub Apart : List ℕ → ℕ → ℕ → ℕ → List ℕ → List ℕ → (ℕ → ℕ) → Type 0
Apart d i x left gone w bound =
    (get_or w i 0 ≡ 0) ⊎ (get_or w i 0 + get_or w i 0 < left) ⊎ (get_or gone i 0 ≢ 0) ⊎ (get_or d i 0 ≡ x) ⊎ (get_or w i 0 + bound (bit_xor (get_or d i 0) x) < left)

pub record Joined (d : List ℕ) (start x left : ℕ) (gone w : List ℕ) (bound : ℕ → ℕ) (p : List ℕ) : Type 0 where
  pub out : (i : ℕ) → start ≤ i → i < length d → get_or p i 0 ≡ 0 → Apart d i x left gone w bound

pub record PickedBy (gens d : List ℕ) (start k m : ℕ) (dead : List ℕ) (n : ℕ) (p : List ℕ) : Type 0 where
  pub some : (C D W : List ℕ) → Reduced word C → Reduced word D → d ≡ residues gens D
      → (j : ℕ) → Leads gens C (insert word D (generator word gens n)) W start k m j → Spared gens W dead
      → Pick gens (insert word D (generator word gens n)) W start 0 p
