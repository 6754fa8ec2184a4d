-- Short relations between values. Where no value has a rank above 1 and more generators are needed than a space has different sums of few of them, two such
-- sums agree: three or four generators of different values, from start on and not gone, have values whose sum is 0, while their own sum is new.
--   Short c m lines                             == so many generators that two sums of few of them agree in m dimensions: of at most two of them (lines: of at
--                                                  most one, beside a fixed one)
--   Standing gens d W start w gone x            == a number that may stand in a relation: from start on, of weight 1, not gone, in W, with a value
--   Related gens d W start w gone lines         == three or four such numbers (h is the number of generators where there are three) whose values sum to 0 and
--                                                  whose generators' sum is not in the span of the generators of value 0
--   AllRelated gens d start k m gone w lines    == every space for k over d with m more dimensions, without a generator that is gone, has such numbers
-- The law: `leads_related` (proofs/laws/of_children/Relation). Assumes nothing.
use Rattle.std.specs.Prelude.{◌≡◌, ◌≢◌, ◌⊎◌, Bool, true, false, List, ℕ, ◌+◌, ◌-◌, ◌*◌, ◌^◌, ◌<◌, ◌≤◌, length, get_or}
use Rattle.std.specs.Int.Bits.{bit_xor}
use Rattle.linear.specs.Span.{Span}
use Rattle.linear.specs.Basis.{reduce, basis_of, Reduced}
use Rattle.linear.specs.Entry.{generator}
use Rattle.linear.specs.Word.{word}
use Rattle.residues.specs.children.Residues.{residues, with_residue}
use Rattle.residues.specs.children.Found.{Leads, Spared}

abbrev pub Short : ℕ → ℕ → Bool → Type 0
Short c m true = 2 ^ (m - 1) < c
Short c m false = 2 * 2 ^ m < 2 + c * (c + 1)

pub record Standing (gens d W : List ℕ) (start : ℕ) (w gone : List ℕ) (x : ℕ) : Type 0 where
  pub from : start ≤ x
  pub below : x < length gens
  pub weight : get_or w x 0 ≡ 1
  pub alive : get_or gone x 0 ≡ 0
  pub has : Span word W (generator word gens x)
  pub value : get_or d x 0 ≢ 0

pub record Related (gens d W : List ℕ) (start : ℕ) (w gone : List ℕ) (lines : Bool) : Type 0 where
  pub i : ℕ
  pub j : ℕ
  pub g : ℕ
  pub h : ℕ
  pub ij : i < j
  pub jg : j < g
  pub gh : g < h
  pub hn : h ≤ length gens
  pub first : Standing gens d W start w gone i
  pub second : Standing gens d W start w gone j
  pub third : Standing gens d W start w gone g
  pub fourth : (h ≡ length gens) ⊎ Standing gens d W start w gone h
  pub wanted : lines ≡ true → h ≡ length gens
  pub apart_ij : get_or d i 0 ≢ get_or d j 0
  pub apart_ig : get_or d i 0 ≢ get_or d g 0
  pub apart_jg : get_or d j 0 ≢ get_or d g 0
  pub sum : bit_xor (get_or d i 0) (get_or d j 0) ≡ bit_xor (get_or d g 0) (get_or d h 0)
  pub free : reduce word (basis_of word (with_residue 0 gens d)) (bit_xor (bit_xor (get_or gens i 0) (get_or gens j 0)) (bit_xor (get_or gens g 0) (get_or gens h 0))) ≢ 0

pub record AllRelated (gens d : List ℕ) (start k m : ℕ) (gone w : List ℕ) (lines : Bool) : Type 0 where
  pub some : (C D W : List ℕ) → Reduced word C → Reduced word D → d ≡ residues gens D → (j : ℕ) → Leads gens C D W start k m j → Spared gens W gone
      → Related gens d W start w gone lines
