-- What a search along heavy values gives. It looks for the spaces over the space of a walk's node and marks the number that the walk goes on with to
-- each of them. A space is given by the residues of the generators at it: h at the walk's node, d at a space over it. `dead` and `gone` have a flag
-- for each number, not 0 where it is dead: the spaces with its generator are met, or are none of the walk's.
--   Leads gens C D W start k m j      == from the space C a walk goes on with the number j, the first that is new, to W, a space for k over D with m more
--                                        dimensions
--   Spared gens W dead                == the space W has no generator of a dead number
--   Met gens h d .. m dead marks      == for every such W over d, m more dimensions, without a dead generator, the number is marked
--   MetBy gens h d .. m dead n marks  == the same over d and the generator with the number n
--   Fair h marks                      == no known number is marked
--   Grown marks marks'                == what was marked is marked
--   Found, FoundBy                    == what a search gives: every space over d (and a generator that has a value there) is met, and marks stay and stay fair
--   Finished h d start marks marks'   == the first number from start on that is new at h and not at d is marked, unless it is known; marks stay and stay fair
--   LeftOver .. dead gone marks       == of the spaces without a dead generator those with one that is gone are met
-- A search starts with dead and gone alike (`left_start`), goes over a number and adds it to those that are gone (`left_more`), in any order, and
-- ends where all that are picked are gone (`left_met`): proofs/laws/of_children/Found. Assumes nothing.
use Rattle.std.specs.Prelude.{◌≡◌, ◌≢◌, ◌⊎◌, false, List, ℕ, ◌<◌, ◌≤◌, length, get_or}
use Rattle.linear.specs.Span.{Span, Within}
use Rattle.linear.specs.Basis.{insert, Reduced, dim}
use Rattle.linear.specs.Entry.{generator, generators_in}
use Rattle.linear.specs.Heavy.{Fills}
use Rattle.linear.specs.Word.{word}
use Rattle.residues.specs.children.Residues.{residues, known}

pub record Leads (gens C D W : List ℕ) (start k m j : ℕ) : Type 0 where
  pub from : Within word C D
  pub fills : Fills word gens D W m
  pub rank : dim word (generators_in word gens W) ≡ k
  pub begin : start ≤ j
  pub number : j < length gens
  pub has : Span word W (generator word gens j)
  pub new : ¬ Span word C (generator word gens j)
  pub first : (i : ℕ) → i < j → Span word W (generator word gens i) → Span word C (generator word gens i)

pub record Spared (gens W dead : List ℕ) : Type 0 where
  pub none : (i : ℕ) → get_or dead i 0 ≢ 0 → ¬ Span word W (generator word gens i)

pub record Met (gens h d : List ℕ) (start k m : ℕ) (dead marks : List ℕ) : Type 0 where
  pub all : (C D W : List ℕ) → Reduced word C → Reduced word D → h ≡ residues gens C → d ≡ residues gens D → (j : ℕ) → Leads gens C D W start k m j
      → Spared gens W dead → get_or marks j 0 ≢ 0

pub record MetBy (gens h d : List ℕ) (start k m : ℕ) (dead : List ℕ) (n : ℕ) (marks : List ℕ) : Type 0 where
  pub all : (C D W : List ℕ) → Reduced word C → Reduced word D → h ≡ residues gens C → d ≡ residues gens D
      → (j : ℕ) → Leads gens C (insert word D (generator word gens n)) W start k m j → Spared gens W dead → get_or marks j 0 ≢ 0

pub record Fair (h marks : List ℕ) : Type 0 where
  pub on : (j : ℕ) → get_or marks j 0 ≢ 0 → false ≡ known h j

pub record Grown (marks marks' : List ℕ) : Type 0 where
  pub stays : (j : ℕ) → get_or marks j 0 ≢ 0 → get_or marks' j 0 ≢ 0

pub record Found (gens h d : List ℕ) (start k m : ℕ) (dead marks marks' : List ℕ) : Type 0 where
  pub met : Met gens h d start k m dead marks'
  pub grown : Grown marks marks'
  pub fair : Fair h marks → Fair h marks'

pub record FoundBy (gens h d : List ℕ) (start k m : ℕ) (dead : List ℕ) (n : ℕ) (marks marks' : List ℕ) : Type 0 where
  pub met : get_or d n 0 ≢ 0 → MetBy gens h d start k m dead n marks'
  pub grown : Grown marks marks'
  pub fair : Fair h marks → Fair h marks'

pub record Finished (h d : List ℕ) (start : ℕ) (marks marks' : List ℕ) : Type 0 where
  pub first : (j : ℕ) → start ≤ j → j < length h → get_or h j 0 ≢ 0 → get_or d j 0 ≡ 0 → false ≡ known h j
      → ((i : ℕ) → i < j → get_or d i 0 ≡ 0 → get_or h i 0 ≡ 0) → get_or marks' j 0 ≢ 0
  pub grown : Grown marks marks'
  pub fair : Fair h marks → Fair h marks'

pub record LeftOver (gens h d : List ℕ) (start k m : ℕ) (dead gone marks : List ℕ) : Type 0 where
  pub either : (C D W : List ℕ) → Reduced word C → Reduced word D → h ≡ residues gens C → d ≡ residues gens D → (j : ℕ) → Leads gens C D W start k m j
      → Spared gens W dead
      → (get_or marks j 0 ≢ 0) ⊎ Spared gens W gone
