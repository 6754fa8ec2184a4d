-- Along a chain to the first match.
--   told_apart, told_late, told_free                    what is said of a pair: its sum is another one; it is not before g; else by the rest of its form
--   Following                                           == the chain is followed to the pointer p, and no pair before it on the chain is a match
--   following_start, following_next, following_found, following_end   from the beginning; one pair further; at a match; at the chain's end
-- Assumes nothing.
use Rattle.std.specs.Prelude.{◌≡◌, ◌≢◌, Bool, true, false, not, List, ℕ, ◌-◌, ◌<◌, ◌≤◌, eqb, length, get_or}
use Rattle.std.proofs.Common.{sym, ◌∙◌, subst, arith, eqb-true}
use Rattle.std.proofs.lemmas.Bool.{false≢true, not-false}
use Rattle.std.specs.Int.Bits.{bit_xor}
use Rattle.linear.specs.Basis.{reduce}
use Rattle.linear.specs.Word.{word}
use Rattle.words.specs.tables.laws.Seek.{either}
use Rattle.relations.specs.pairs.Bucket.{bucket_of}
use Rattle.relations.specs.pairs.Pairs.{first_of, second_of, Stored, Chained, Match, MatchFrom}

module _ (gens s v : List ℕ) (base g y f x : ℕ) where
  abbrev pub Told : Bool → Type 0
  Told r = (r ≡ false → ¬ Match gens s v base g y f x) × (r ≡ true → second_of x < g)

  pub told_apart : bit_xor (get_or v (first_of base x) 0) (get_or v (second_of x) 0) ≢ y → Told false
  told_apart n = (λ e m. n m.sum, λ e. absurd (false≢true e))

  pub told_late : g ≤ second_of x → Told false
  told_late l = (λ e m. omega (arith, m.before), λ e. absurd (false≢true e))

  pub told_free : second_of x < g → (t : ℕ) → t ≡ reduce word s (bit_xor (bit_xor (get_or gens (first_of base x) 0) (get_or gens (second_of x) 0)) f)
      → Told (not (eqb t 0))
  told_free l t e = (λ k m. m.free (sym e ∙ eqb-true t 0 (not-false (eqb t 0) k)), λ k. l)

pub record Following (gens s v : List ℕ) (base g y f e p : ℕ) : Type 0 where
  pub low : p ≤ e
  pub kept : p ≢ 0 → Stored v (length gens) base (bucket_of y) (p - 1)
  pub none : (x : ℕ) → Stored v (length gens) base (bucket_of y) x → x < e → p ≤ x → ¬ Match gens s v base g y f x

module _ (gens s v : List ℕ) (base g y f e : ℕ) where
  pub following_start : (e ≢ 0 → Stored v (length gens) base (bucket_of y) (e - 1)) → Following gens s v base g y f e e
  following_start h = record { low = omega arith; kept = h; none = λ x t l m. absurd (omega arith) }

  module _ (p : ℕ) (F : Following gens s v base g y f e p) where
    pub following_next : (links : List ℕ) → Chained v (length gens) base links → p ≢ 0 → ¬ Match gens s v base g y f (p - 1)
        → Following gens s v base g y f e (get_or links (p - 1) 0)
    following_next links C ne not_here =
        record {
          low = omega (arith, C.falls (p - 1), F.low);
          kept = λ z. C.link (bucket_of y) (p - 1) (F.kept ne) z;
          none = λ x t l m. either (p - 1) x
              (λ k. subst (λ (z : ℕ). ¬ Match gens s v base g y f z) (sym k) not_here)
              (λ k. either 0 (p - x)
              (λ z. F.none x t l (omega arith))
              (λ z. absurd (let o = C.onward (bucket_of y) x (p - 1) t (F.kept ne) (omega arith) in omega (arith, o))));
        }

    pub following_found : p ≢ 0 → second_of (p - 1) < g → MatchFrom gens s v base g y f e p
    following_found ne b = record { low = F.low; kept = F.kept; before = λ _. b; none = F.none }

    pub following_end : p ≡ 0 → MatchFrom gens s v base g y f e 0
    following_end z =
        record {
          low = omega arith;
          kept = λ ne. absurd (omega arith);
          before = λ ne. absurd (omega arith);
          none = λ x t l m. F.none x t l (omega arith);
        }
