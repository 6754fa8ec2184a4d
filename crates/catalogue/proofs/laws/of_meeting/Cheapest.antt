-- What is held after the entries for k.
--   Held o s          == the state s holds the choice o of k numbers, behind its cost; none is held where none was met
--   held_more         one entry more
--   held_all          all of them
--   formula_length    the cheapest formula of an entry for k has k numbers
--   cheapest_met      what is held after all entries is the cheapest of their formulae
-- Assumes nothing.
use Rattle.std.specs.Prelude.{◌≡◌, Bool, cond, drop, eqb, Option, None, Some}
use Rattle.std.proofs.Math.Path.{refl, sym, ap}
use Rattle.std.proofs.Common.{◌∙◌, subst, arith}
use Rattle.std.proofs.Math.Bool.{true, false}
use mathlib.Core.List.{List, [], ◌∷◌, map, Memᴰ}
use Prim.Native.Nat.{ℕ, suc, ◌≤◌}
use Rattle.std.proofs.Math.ListN.{length, take}
use Rattle.linear.specs.Entry.{entries, space}
use Rattle.linear.specs.Prices.{precedes, cheaper, cheapest_from, cheapest_in, by_price}
use Rattle.linear.specs.Word.{word}
use Rattle.linear.proofs.laws.Cheapest.{cheapest_in_formula}
use Rattle.linear.proofs.laws.Entry.{entries_sound}
use Rattle.kinds.specs.Limits.{most_generators}
use Rattle.records.specs.Records.{State, runs}
use Rattle.cheapest.specs.Offers.{offered, priced, price_base}
use Rattle.cheapest.specs.laws.Offers.{offered_first, offered_best}
use Rattle.catalogue.specs.noting.Noting.{met}
use Rattle.catalogue.specs.meeting.Meeting.{start}
use Rattle.catalogue.specs.meeting.Cheapest.{held, cheapest_for}
use Rattle.catalogue.specs.declared.noting.Aim.TheVariants as aim

module _ (gens order prices : List ℕ) (k : ℕ) where
  abbrev pub Held : Option (List ℕ) → State → Type 0
  Held None s = s.found ≡ 0
  Held (Some es) s = (s.found ≡ 1) × (length es ≡ k) × (take (suc k) s.buf ≡ priced prices es)

  abbrev step : State → List ℕ × List ℕ → State
  step = met gens order prices aim.Cheapest

  -- one entry more, whose cheapest formula has k numbers
  held_more : (o : Option (List ℕ)) (s : State) (p C : List ℕ) → length (cheapest_in word gens order C) ≡ k → Held o s
      → Held (cheaper prices o (cheapest_in word gens order C)) (step s (p, C))
  unfolding cheaper
  held_more None s p C l h = (
    refl,
    l,
    ap (λ (f : ℕ). take (suc k) (offered prices (eqb f 0) (cheapest_in word gens order C) s.buf)) h
        ∙ ap (λ (n : ℕ). take (suc n) (offered prices true (cheapest_in word gens order C) s.buf)) (sym l) ∙ offered_first prices
        (cheapest_in word gens order C) s.buf,
  )
  held_more (Some es) s p C l h =
      let fs : List ℕ = cheapest_in word gens order C in
      let e : take (suc (length es)) s.buf ≡ priced prices es = ap (λ (n : ℕ). take (suc n) s.buf) h.1 ∙ h.2 in (
        refl,
        sized (precedes prices fs es) fs es l h.1,
        ap (λ (f : ℕ). take (suc k) (offered prices (eqb f 0) fs s.buf)) h.0
            ∙ ap (λ (n : ℕ). take (suc n) (offered prices false fs s.buf)) (sym h.1)
            ∙ offered_best prices es fs s.buf e (l ∙ sym h.1),
      )
    where
      sized : (b : Bool) (fs es : List ℕ) → length fs ≡ k → length es ≡ k → length (cond b fs es) ≡ k
      sized true fs es u v = u
      sized false fs es u v = v

  module _ (targets : List ℕ) where
    held_all : (l : List (List ℕ)) (o : Option (List ℕ)) (s : State)
        → ((es : List ℕ) → Memᴰ es l → length (cheapest_in word gens order (space word gens targets es)) ≡ k)
        → Held o s
        → Held (cheapest_from prices o (map (λ es. cheapest_in word gens order (space word gens targets es)) l))
        (runs step s (map (λ es. (es, space word gens targets es)) l))
    unfolding cheapest_from runs
    held_all [] o s n h = h
    held_all (es ∷ l) o s n h =
        held_all l (cheaper prices o (cheapest_in word gens order (space word gens targets es))) (step s (es, space word gens targets es))
        (λ fs m. n fs (Memᴰ.tail m)) (held_more o s es (space word gens targets es) (n es (Memᴰ.head refl)) h)

    -- what the code says of the state
    held_said : (o : Option (List ℕ)) (s : State) (b : Bool) → Held o s → ((s.found ≡ 0) → b ≡ false) → ((s.found ≡ 1) → b ≡ true) → o ≡ held k b s.buf
    held_said None s b h z t = ap (λ (x : Bool). held k x s.buf) (sym (z h))
    held_said (Some es) s b h z t =
        ap Some (behind s.buf es h.2) ∙ ap (λ (x : Bool). held k x s.buf) (sym (t h.0))
      where
        behind : (buf es : List ℕ) → take (suc k) buf ≡ priced prices es → es ≡ take k (drop 1 buf)
        behind [] es e = absurd (let z = ap length e in omega arith)
        behind (x ∷ buf) es e = sym (ap (drop 1) e)

    pub cheapest_met : (last : State) (buffer : List ℕ) (b : Bool)
        → ((es : List ℕ) → Memᴰ es (entries word gens targets k) → length (cheapest_in word gens order (space word gens targets es)) ≡ k)
        → last ≡ runs step (start buffer) (map (λ es. (es, space word gens targets es)) (entries word gens targets k))
        → ((last.found ≡ 0) → b ≡ false) → ((last.found ≡ 1) → b ≡ true)
        → cheapest_for gens order prices targets k ≡ held k b last.buf
    cheapest_met last buffer b n e z t =
        held_said (cheapest_for gens order prices targets k) last b
        (subst (Held (cheapest_for gens order prices targets k)) (sym e) (held_all (entries word gens targets k) None (start buffer) n refl)) z t

pub formula_length : (gens order prices targets : List ℕ) (k : ℕ) → order ≡ by_price price_base prices → length prices ≡ length gens
    → length gens ≤ most_generators
    → (es : List ℕ) → Memᴰ es (entries word gens targets k) → length (cheapest_in word gens order (space word gens targets es)) ≡ k
formula_length gens order prices targets k q all few es m =
    let E = entries_sound word gens targets k es m in
    ap (λ (js : List ℕ). length (cheapest_in word gens js (space word gens targets es))) q
    ∙ (cheapest_in_formula word gens prices price_base all (omega (arith, few)) (space word gens targets es) E.reduced E.spanned).number ∙ E.size
