-- The least number of dimensions with an entry, and the cheapest formula.
--   Looking    == no number of dimensions below k has an entry, whatever targets have the basis b
--   skipped    == below the bound nothing is found
--   looking_start, looking_next, looking_found, looking_none   the loop of `least_formula`
--   too_short, finished                                        what `finish` says
--   asking, finishing, says_formula, says_above, says_beyond, missed_is   what `rank_of` asks and says
-- Assumes nothing.
use Rattle.std.specs.Prelude.{◌≡◌, refl, Bool, true, false, length, take, drop, Option, None, Some}
use Rattle.std.proofs.Math.Path.{sym, ap}
use Rattle.std.proofs.Common.{◌∙◌, subst, length-append, length-take, length-drop, lt-ltb, le-ltb}
use Rattle.std.proofs.Math.Bool.{not}
use mathlib.Core.List.{List, [], ◌∷◌, map}
use Prim.Native.Nat.{ℕ, suc, ◌+◌, ◌-◌, ◌<◌, ◌≤◌}
use native.Mathlib.Omega.{arith}
use Rattle.std.proofs.lemmas.List.{length-map}
use Rattle.std.proofs.Math.Seq.{paste, take-length}
use Rattle.kinds.specs.Limits.{most_generators, most_products}
use Rattle.kinds.specs.Refusal.{refused, accepted, refuse}
use Rattle.words.specs.Buffers.{filled}
use Rattle.words.specs.laws.Masks.{AllBelow}
use Rattle.words.specs.laws.Buffers.{take_filled}
use Rattle.linear.specs.Basis.{basis_of, dim}
use Rattle.linear.specs.Entry.{inside, chosen, space}
use Rattle.linear.specs.Formulae.{or_else, formula, all_formulae, least_from, missed}
use Rattle.linear.specs.Order.{Rising}
use Rattle.linear.specs.Prices.{cheapest, cheapest_in, by_price}
use Rattle.linear.specs.Select.{any_of}
use Rattle.linear.specs.Word.{word}
use Rattle.linear.proofs.laws.Fewest.{fewest_formula, fewest_some, fewest_none, fewest_missed}
use Rattle.linear.proofs.laws.AllFormulae.{cheapest_entries}
use Rattle.linear.proofs.laws.Prices.{cheapest_none, by_price_length}
use Rattle.bases.specs.declared.Basis.{Basis}
use Rattle.bases.specs.Basis.{rows_of, Holds, based_dim}
use Rattle.bases.specs.rows.Rows.{row_of}
use Rattle.cheapest.specs.Offers.{price_base}
use Rattle.cheapest.specs.laws.Members.{by_price_below}
use Rattle.catalogue.specs.noting.Noting.{formula_room}
use Rattle.catalogue.specs.meeting.Cheapest.{held, CheapestFrom}
use Rattle.choices.specs.declared.Choice.{Choice}
use Rattle.choices.specs.Choice.{numbers_of, forms_of, Chose, Solves, record_of, chose_record, formula_record}
use Rattle.choices.specs.laws.Writing.{numbers_length, written_first}
use Rattle.rank.specs.matrix_rank.Matrix.{Bound}
use Rattle.rank.specs.fewest.Fewest.{is, above, beyond, written, ranking, RankAsked, Asking, LeastFound, LeastFrom, Finishing}

-- ---- below the bound
pub skipped : (gens : List ℕ) (b : Basis) (bound k : ℕ) (order prices last : List ℕ) → Bound gens b bound → k < bound
    → CheapestFrom gens b k order prices false last
skipped gens b bound k order prices last H h targets B =
    ap (λ (l : List (List ℕ)). cheapest prices (map (λ es. cheapest_in word gens order (space word gens targets es)) l)) (H targets B k h)
    ∙ (cheapest_none prices []).1 refl

-- ---- the loop over the numbers of dimensions
module _ (gens : List ℕ) (b : Basis) (order prices : List ℕ) where
  step : (targets : List ℕ) (k : ℕ) → k < b.len + 7
      → least_from word gens targets prices (b.len + 7 - k) k
      ≡ or_else (cheapest prices (all_formulae word gens targets k)) (least_from word gens targets prices (b.len + 7 - (k + 1)) (k + 1))
  unfolding least_from
  step targets k h =
      ap (λ (n : ℕ). least_from word gens targets prices n k) (let e : b.len + 7 - k ≡ suc (b.len + 7 - (k + 1)) = omega arith in e)
      ∙ ap (λ (j : ℕ). or_else (cheapest prices (all_formulae word gens targets k)) (least_from word gens targets prices (b.len + 7 - (k + 1)) j))
      (let e : suc k ≡ k + 1 = omega arith in e)

  pub record Looking (k : ℕ) : Type 0 where
    pub from : b.len ≤ k
    pub upto : k ≤ b.len + 7
    pub is : (targets : List ℕ) → Holds (basis_of word targets) b
        → least_from word gens targets prices 7 b.len ≡ least_from word gens targets prices (b.len + 7 - k) k

  pub looking_start : Looking b.len
  looking_start =
      record {
        from = omega arith;
        upto = omega arith;
        is = λ targets B. ap (λ (n : ℕ). least_from word gens targets prices n b.len) (let e : 7 ≡ b.len + 7 - b.len = omega arith in e);
      }

  -- what was found for k
  module _ {buffer : List ℕ} (A : Asking gens b order prices buffer) (k : ℕ) (L : Looking k) (h : k < b.len + 7) (r : Bool) (last : List ℕ)
      (C : CheapestFrom gens b k order prices r last) where
    told : (targets : List ℕ) → Holds (basis_of word targets) b
        → least_from word gens targets prices 7 b.len ≡ or_else (held k r last) (least_from word gens targets prices (b.len + 7 - (k + 1)) (k + 1))
    told targets B =
        L.is targets B ∙ step targets k h
        ∙ ap (λ (o : Option (List ℕ)). or_else o (least_from word gens targets prices (b.len + 7 - (k + 1)) (k + 1)))
        (cheapest_entries word gens targets prices price_base k A.priced.each (omega (arith, A.small))
        ∙ subst (λ (js : List ℕ). CheapestFrom gens b k js prices r last) A.by_price_law C targets B)

    pub looking_next : r ≡ false → Looking (k + 1)
    looking_next z =
        record {
          from = (let a = L.from in omega arith);
          upto = omega arith;
          is = λ targets B. told targets B ∙ ap (λ (t : Bool). or_else (held k t last) (least_from word gens targets prices (b.len + 7 - (k + 1)) (k + 1))) z;
        }

    pub looking_found : r ≡ true → LeastFrom gens b prices (Some k) last
    looking_found o targets B =
        told targets B ∙ ap (λ (t : Bool). or_else (held k t last) (least_from word gens targets prices (b.len + 7 - (k + 1)) (k + 1))) o

  pub looking_none : (k : ℕ) (last : List ℕ) → Looking k → b.len + 7 ≤ k → LeastFrom gens b prices None last
  looking_none k last L h targets B =
      L.is targets B ∙ ap (λ (n : ℕ). least_from word gens targets prices n k) (let e : b.len + 7 - k ≡ 0 = omega arith in e) ∙ (unfold least_from in refl)

-- what the loop asks, the generators' numbers being by price
pub asking : (gens targets prices : List ℕ) (b : Basis) (order last before buffer : List ℕ) → RankAsked gens targets prices b
    → last ≡ filled (by_price price_base prices) before → order ≡ take (length gens) last → formula_room ≤ length buffer → Asking gens b order prices buffer
asking gens targets prices b order last before buffer R e f l =
    record {
      small = R.few;
      valid = R.basis.valid;
      priced =
          record {
            numbers = subst (AllBelow (length gens)) (sym is_order)
                (subst (λ (n : ℕ). AllBelow n (by_price price_base prices)) R.each (by_price_below prices small));
            each = R.each;
            narrow = R.narrow;
          };
      by_price_law = is_order;
      room = l;
    }
  where
    small : length prices ≤ price_base
    small = omega (arith, R.few, R.each)

    is_order : order ≡ by_price price_base prices
    is_order =
        f ∙ ap (take (length gens)) e
        ∙ take_filled (length gens) (by_price price_base prices) before (by_price_length price_base prices small ∙ R.each)

-- ---- finishing
module _ (gens targets numbers old : List ℕ) where
  pub too_short : length old < length numbers + length targets → written gens targets old (formula numbers) ≡ refused 9
  too_short h =
      ap (λ (b : Bool). refuse 9 b (accepted (is (length numbers) (filled (formula_record gens targets numbers) old))))
      (lt-ltb (length old) (length numbers + length targets) h)

  module _ (c : Choice) (C : Chose gens numbers c) where
    pub picked_length : c.len ≡ length numbers
    picked_length = numbers_length c C.whole ∙ ap length C.numbers

    pub picked_solves : Solves (chosen word gens numbers) targets → Solves (forms_of c) targets
    picked_solves S = subst (λ (xs : List ℕ). Solves xs targets) (sym C.forms) S

    pub finished : length numbers + length targets ≤ length old → (last : List ℕ) → last ≡ paste old 0 (record_of c targets) (c.len + length targets)
        → written gens targets old (formula numbers) ≡ accepted (is (length numbers) last)
    finished h last e =
        ap (λ (b : Bool). refuse 9 b (accepted (is (length numbers) (filled (formula_record gens targets numbers) old))))
        (le-ltb (length old) (length numbers + length targets) h)
        ∙ ap (λ (x : List ℕ). accepted (is (length numbers) x))
        (sym (e ∙ written_first (record_of c targets) old (c.len + length targets) size ∙ ap (λ (x : List ℕ). filled x old)
        (chose_record gens numbers targets c C)))
      where
        size : c.len + length targets ≡ length (record_of c targets)
        size = omega (arith, numbers_length c C.whole, length-append (numbers_of c) (map (row_of (forms_of c)) targets), length-map targets (row_of (forms_of c)))

-- ---- what Rank says
rising_below : (lo hi : ℕ) (es : List ℕ) → Rising lo hi es → AllBelow hi es
rising_below lo hi [] r = tt
rising_below lo hi (e ∷ es) r = (r.1, rising_below (suc e) hi es r.2)

module _ (gens targets prices : List ℕ) (all : missed word gens targets ≡ false) where
  pub finishing : (numbers : List ℕ) → length gens ≤ most_generators → length numbers ≤ most_products
      → least_from word gens targets prices 7 (dim word targets) ≡ Some numbers → Finishing gens targets numbers
  finishing numbers s f e =
      let R = fewest_formula word gens targets prices numbers (fewest_some word gens targets prices numbers all e) in
      record {
        small = s;
        below = rising_below 0 (length gens) numbers R.rising;
        few = f;
        solves = record { independent = R.independent; computes = R.computes };
      }

  pub says_formula : (old numbers : List ℕ) → least_from word gens targets prices 7 (dim word targets) ≡ Some numbers
      → ranking gens targets prices old ≡ written gens targets old (formula numbers)
  says_formula old numbers e = unfold ranking in ap (written gens targets old) (fewest_some word gens targets prices numbers all e)

  pub says_above : (old : List ℕ) → least_from word gens targets prices 7 (dim word targets) ≡ None → ranking gens targets prices old ≡ accepted above
  says_above old e = unfold ranking in ap (written gens targets old) (fewest_none word gens targets prices all e)

pub says_beyond : (gens targets prices old : List ℕ) → missed word gens targets ≡ true → ranking gens targets prices old ≡ accepted beyond
says_beyond gens targets prices old q = unfold ranking in ap (written gens targets old) (fewest_missed word gens targets prices q)

pub missed_is : (gens targets : List ℕ) (t : Bool) (b : Basis) → Holds (basis_of word gens) b → t ≡ any_of (λ t. not (inside word (rows_of b) t)) targets
    → missed word gens targets ≡ t
missed_is gens targets t b B e = unfold missed in ap (λ (C : List ℕ). any_of (λ t. not (inside word C t)) targets) (sym B.is) ∙ sym e

-- the numbers behind a cost
module _ (k : ℕ) (buffer numbers : List ℕ) (l : length buffer ≡ formula_room) (e : numbers ≡ take k (take most_products (drop 1 buffer))) where
  is_held : numbers ≡ take k (drop 1 buffer)
  is_held =
      e ∙ ap (take k)
      (ap (λ (n : ℕ). take n (drop 1 buffer)) (let z : most_products ≡ length (drop 1 buffer) = omega (arith, l, length-drop 1 buffer) in z) ∙ take-length
      (drop 1 buffer))

  pub few_held : length numbers ≤ most_products
  few_held = omega (arith, l, ap length is_held, length-take k (drop 1 buffer), length-drop 1 buffer)

  pub numbers_held : {o : Option (List ℕ)} → o ≡ Some (take k (drop 1 buffer)) → o ≡ Some numbers
  numbers_held f = f ∙ ap (λ (x : List ℕ). Some x) (sym is_held)

-- what `least_formula` said, by its answer
pub found_as : (gens targets prices : List ℕ) (b : Basis) (r s : Option ℕ) (buffer : List ℕ) → Holds (basis_of word targets) b
    → LeastFrom gens b prices r buffer → r ≡ s
    → LeastFound gens targets prices (dim word targets) s buffer
found_as gens targets prices b r s buffer B F e =
    subst (λ (x : Option ℕ). LeastFound gens targets prices (dim word targets) x buffer) e
    (subst (λ (l : ℕ). LeastFound gens targets prices l r buffer) (based_dim targets b B) (F targets B))
