-- The formulae of a space, listed.
--   SpaceAccepted gens targets rows            == rows are those of a solution space, at most 64, and there is a target
--   FormulaeTold gens targets rows old r after == r and the buffer say what is defined
--   record_size_law                           the record of a formula has the size that its definition says
--   first_node                            what the recursion asks is met at the start
--   told_all, told_more                   what it gives there is the listing: all, or more
-- Assumes nothing.
use Rattle.std.specs.Prelude.{◌≡◌, refl, ◌≢◌, Bool, true, false, drop, eqb}
use Rattle.std.proofs.Math.Path.{sym, ap, ap₂, subst}
use Rattle.std.proofs.Common.{◌∙◌, length-take, take-take, eq-eqb, ne_eqb}
use mathlib.Core.List.{List, [], ◌++◌, map, Memᴰ}
use Prim.Native.Nat.{ℕ, zero, suc, ◌+◌, ◌-◌, ◌*◌, ◌/◌, ◌<◌, ◌≤◌, min}
use native.Mathlib.Omega.{arith}
use Rattle.std.proofs.Math.ListN.{length, take, length-append}
use Rattle.std.proofs.lemmas.List.{length-map}
use Rattle.linear.specs.Basis.{inserts, basis_of, Reduced}
use Rattle.linear.specs.Entry.{chosen}
use Rattle.linear.specs.Formulae.{formulae}
use Rattle.linear.specs.Spread.{Inner}
use Rattle.linear.specs.Word.{word}
use Rattle.linear.specs.laws.Span.{span_nil, span_none}
use Rattle.linear.proofs.laws.Order.{mem_map_inv}
use Rattle.linear.proofs.laws.Formulae.{formulae_are}
use Rattle.bases.specs.declared.Basis.{Basis}
use Rattle.bases.specs.Basis.{rows_of, Holds}
use Rattle.bases.specs.rows.Rows.{row_of}
use Rattle.choices.specs.declared.Choice.{Choice}
use Rattle.choices.specs.Choice.{Whole, formula_record}
use Rattle.records.specs.declared.Tally.{Tally}
use Rattle.records.specs.Records.{State, run}
use Rattle.records.specs.Keep.{state_of}
use Rattle.catalogue.specs.listing.Listing.{flat, fitting}
use Rattle.catalogue.proofs.laws.of_listing.Run.{after_all, run_limit}
use Rattle.space_formulae.specs.enumeration.Spread.{formulae_from, Branch}
use Rattle.space_formulae.proofs.laws.of_enumeration.Spread.{formulae_from_law}
use Rattle.problems.specs.Problem.{problem}
use Rattle.space_formulae.specs.spaces.Spaces.{Formulae, record_size, formulae_listing, SpaceAccepted, FormulaeTold}
use Rattle.space_formulae.specs.declared.spaces.Listed.TheVariants as reply
use Rattle.kinds.specs.Refusal.{accepted}

module _ (gens targets rows : List ℕ) (ρ : Reduced word rows) where
  pub record_size_law : (r : List ℕ) → Memᴰ r (map (formula_record gens targets) (formulae word gens rows)) → length r ≡ record_size targets rows
  unfolding formula_record
  record_size_law =
      mem_map_inv (formula_record gens targets) (λ r. length r ≡ record_size targets rows) (formulae word gens rows)
      (λ es m. length-append es (map (row_of (chosen word gens es)) targets) ∙ ap₂ ◌+◌ ((formulae_are word gens rows ρ es).0 m).number (length-map targets (row_of (chosen word gens es))))

-- ---- how many of c formulae fit, records of n words, room for w; and whether these are all
fits_is : (n c w : ℕ) → 0 < n → fitting n c w ≡ min c (w / n)
unfolding fitting
fits_is zero c w h = absurd (omega arith)
fits_is (suc n) c w h = refl

module _ (n c w : ℕ) (h : 0 < n) where
  -- counting stops one after those that fit
  found_fits : fitting n (min (w / n + 1) c) w ≡ fitting n c w
  found_fits = fits_is n (min (w / n + 1) c) w h ∙ at (w / n) ∙ sym (fits_is n c w h)
    where
      at : (d : ℕ) → min (min (d + 1) c) d ≡ min c d
      at d = omega arith

  all_fit : min (w / n + 1) c ≡ fitting n c w → fitting n c w ≡ c
  all_fit e = fits_is n c w h ∙ at (w / n) (e ∙ fits_is n c w h)
    where
      at : (d : ℕ) → min (d + 1) c ≡ min c d → min c d ≡ c
      at d a = omega arith

  more_fit : min (w / n + 1) c ≢ fitting n c w → fitting n c w ≢ c
  more_fit e q = at (w / n) (λ z. e (z ∙ sym (fits_is n c w h))) (sym (fits_is n c w h) ∙ q)
    where
      at : (d : ℕ) → min (d + 1) c ≢ min c d → min c d ≢ c
      at d a b = a (omega arith)

-- ---- the recursion from the empty basis
module _ (gens targets rows old : List ℕ) (A : SpaceAccepted gens targets rows) (b : Basis) (B : Holds [] b) where
  ρ : Reduced word rows
  ρ = A.entry.reduced

  pub first_node : (c : Choice) → Whole c → c.len ≡ 0 → (limit : ℕ)
      → Branch gens rows targets (length rows) b c (record { found = 0; shown = 0; at = 0 }) limit old
  unfolding chosen basis_of inserts
  first_node c W z limit =
      record {
        space = ρ;
        computes = A.entry.holds;
        valid = B.valid;
        inner =
            subst (λ (X : List ℕ). Inner word rows X (length rows)) (sym B.is)
            (record { reduced = tt; within = (λ v s. span_none word (span_nil word s)); size = omega arith });
        chose = record { whole = W; numbers = refl; forms = ap (λ (k : ℕ). take k c.forms) z ∙ sym (ap (λ (k : ℕ). chosen word gens (take k c.numbers)) z) };
        basis = ap (λ (k : ℕ). basis_of word (take k c.forms)) z ∙ sym B.is;
        number = omega arith;
        room = A.few;
        sane = record { limited = omega arith; fewer = omega arith; inside = omega arith };
      }

  abbrev n : ℕ
  n = record_size targets rows

  abbrev all : List (List ℕ)
  all = formulae word gens rows

  abbrev rs : List (List ℕ)
  rs = map (formula_record gens targets) all

  abbrev s : ℕ
  s = fitting n (length all) (length old)

  abbrev start : State
  start = record { found = 0; shown = 0; at = 0; buf = old }

  size_ok : 0 < n
  size_ok = let a = A.some_target in omega arith

  module _ (p : List ℕ) (z : p ≡ []) (limit : ℕ) (l : limit ≡ length old / n + 1) (u : Tally) (last : List ℕ)
      (q : state_of u last ≡ run limit start (formulae_from gens rows targets (rows_of b) p (length gens - 0) 0 (length rows))) where
    abbrev m : ℕ
    m = length (take limit rs)

    count : m ≡ min (length old / n + 1) (length all)
    count = length-take limit rs ∙ ap₂ min l (length-map all (formula_record gens targets))

    fit : fitting n m (length old) ≡ s
    fit = ap (λ (x : ℕ). fitting n x (length old)) count ∙ found_fits n (length all) (length old) size_ok

    ends : state_of u last ≡ after_all n start (take limit rs) s
    ends =
        q
        ∙ ap₂ (λ (C x : List ℕ). run limit start (formulae_from gens rows targets C x (length gens - 0) 0 (length rows))) B.is z
        ∙ ap (λ (k : ℕ). run limit start (formulae_from gens rows targets [] [] k 0 (length rows))) (let e : length gens - 0 ≡ length gens = omega arith in e)
        ∙ ap (run limit start) (formulae_from_law gens rows targets ρ)
        ∙ run_limit limit n rs old (record_size_law gens targets rows ρ)
        ∙ ap (after_all n start (take limit rs)) fit

    found : u.found ≡ min (length old / n + 1) (length all)
    found = ap (λ (x : State). x.found) ends ∙ (let e : 0 + m ≡ m = omega arith in e) ∙ count

    shown : u.shown ≡ s
    shown = ap (λ (x : State). x.shown) ends ∙ (let e : 0 + s ≡ s = omega arith in e)

    few : s ≤ limit
    few = at (length old / n) (fits_is n (length all) (length old) size_ok) l
      where
        at : (d : ℕ) → s ≡ min (length all) d → limit ≡ d + 1 → s ≤ limit
        at d e f = omega arith

    buffer : last ≡ flat (take s rs) ++ drop (s * n) old
    buffer =
        ap (λ (x : State). x.buf) ends
        ∙ ap₂ (λ (x : List (List ℕ)) (y : ℕ). flat x ++ drop y old) (take-take s limit rs few) (let e : 0 + s * n ≡ s * n = omega arith in e)

    equal : {a a' : ℕ} {b b' : Bool} {d d' : List ℕ} → a ≡ a' → b ≡ b' → d ≡ d' → ◌≡◌ {A = Formulae} (record { listed = a; whole = b; buffer = d }) (record { listed = a'; whole = b'; buffer = d' })
    equal e f g = cc

    told : (t : Bool) → eqb s (length all) ≡ t → accepted (formulae_listing (problem gens targets) rows old) ≡ accepted (record { listed = u.shown; whole = t; buffer = last })
    unfolding formulae_listing
    told t e = ap accepted (equal (sym shown) e (sym buffer))

    pub told_all : u.found ≡ u.shown → FormulaeTold gens targets rows old (reply.All u.shown) last
    told_all e = record { answer = told true (eq-eqb s (length all) (all_fit n (length all) (length old) size_ok (sym found ∙ e ∙ shown))) }

    pub told_more : u.found ≢ u.shown → FormulaeTold gens targets rows old (reply.More u.shown) last
    told_more e = record { answer = told false (ne_eqb s (length all) (more_fit n (length all) (length old) size_ok (λ x. e (found ∙ x ∙ sym shown)))) }
