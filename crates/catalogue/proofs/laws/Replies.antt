-- Catalogue of a posed problem: what the code's steps say is what is defined.
--   given_far    k exceeds ℓ + 6
--   given_near   it does not, and the entries are listed
-- Assumes nothing.
use Rattle.std.proofs.Math.Path.{◌≡◌, sym, ap}
use Rattle.std.proofs.Common.{◌∙◌, lt-ltb, le-ltb}
use Rattle.std.specs.Prelude.{Bool, ℕ, ◌+◌, ◌*◌, ◌<◌, ◌≤◌, take}
use mathlib.Core.List.{List, ◌++◌}
use Rattle.std.proofs.Math.ListN.{length, drop}
use Rattle.kinds.specs.Refusal.{Answer, refused, accepted, refuse}
use Rattle.problems.specs.Problem.{problem}
use Rattle.linear.specs.Basis.{dim}
use Rattle.linear.specs.Entry.{entries}
use Rattle.linear.specs.Word.{word}
use Rattle.catalogue.specs.declared.listing.Listing.{Listing}
use Rattle.catalogue.specs.listing.Listing.{records, flat, fitting, Listed}
use Rattle.catalogue.proofs.laws.of_listing.Listing.{found_all}
use Rattle.catalogue.specs.declared.Catalogued.{Catalogued as Reply}
use Rattle.catalogue.specs.declared.Catalogued.TheVariants as reply
use Rattle.catalogue.specs.Catalogue.{Catalogued, entry_listing, catalogue_of, seen_catalogue, lent_catalogue}
use Rattle.kinds.specs.Limits.{most_generators}
use Rattle.words.specs.Buffers.{largest_word}
use Rattle.records.specs.Length.{record_length}

module _ (gens targets : List ℕ) (k : ℕ) (old : List ℕ) where
  -- the two equations of a call
  abbrev Given : Reply → List ℕ → Type 0
  Given r after =
      (catalogue_of (problem gens targets) k old ≡ seen_catalogue r after) × (after ≡ lent_catalogue (catalogue_of (problem gens targets) k old) old)

  pub given_far : dim word targets + 6 < k → Given (reply.Refused 8) old
  unfolding catalogue_of
  given_far h =
      let e : catalogue_of (problem gens targets) k old ≡ refused 8 =
      ap (λ (b : Bool). refuse 8 b (accepted (entry_listing (problem gens targets) k old))) (lt-ltb (dim word targets + 6) k h) in
      (e, sym (ap (λ (a : Answer Catalogued). lent_catalogue a old) e))

  pub given_near : length gens ≤ most_generators → k ≤ dim word targets + 6 → (l : Listing) (after : List ℕ) → Listed gens targets k largest_word old after l
      → Given (reply.Entries l.ell l.found l.shown) after
  unfolding catalogue_of
  given_near s h l after D =
      (e, sym (ap (λ (a : Answer Catalogued). lent_catalogue a old) e))
    where
      all : l.found ≡ length (entries word gens targets k)
      all = found_all gens targets k old after l s h D

      size : ℕ
      size = record_length (dim word targets) k

      shown : l.shown ≡ fitting size (length (entries word gens targets k)) (length old)
      shown = D.shown ∙ ap (λ (c : ℕ). fitting size c (length old)) all

      same : entry_listing (problem gens targets) k old ≡ record { ell = l.ell; found = l.found; shown = l.shown; buffer = after }
      same = unfold entry_listing in equal (sym D.ell) (sym all) (sym shown) (ap (λ (s : ℕ). flat (take s (records gens targets k)) ++ drop (s * size) old) (sym shown) ∙ sym D.buffer)
        where
          equal : {a a' b b' c c' : ℕ} {d d' : List ℕ} → a ≡ a' → b ≡ b' → c ≡ c' → d ≡ d'
              → ◌≡◌ {A = Catalogued} (record { ell = a; found = b; shown = c; buffer = d }) (record { ell = a'; found = b'; shown = c'; buffer = d' })
          equal p q r t = cc

      e : catalogue_of (problem gens targets) k old ≡ accepted (record { ell = l.ell; found = l.found; shown = l.shown; buffer = after })
      e = ap (λ (b : Bool). refuse 8 b (accepted (entry_listing (problem gens targets) k old))) (le-ltb (dim word targets + 6) k h) ∙ ap accepted same
