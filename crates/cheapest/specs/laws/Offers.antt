-- A formula with its cost in a buffer, and one offered to it.
--   taken_first, taken_costed        what was taken stands at the start of its buffer, and has prices
--   headed                           a list behind its head, from a buffer's start
--   taken_room, written_whole        there is room behind the cost; the cost, and behind it what was taken
--   better_later                     where it is not the first, what stands before decides
--   replaced_yes, replaced_no        the list offered replaces what is held, or not
--   candidate, candidate_room        the formula that a choice has written, which fits
--   offered_is                       it is offered
-- For callers:
--   offered_length    the buffer is as long as it was
--   offered_first     the first formula stands in it
--   offered_best      of the one held and a further one that which precedes the other
-- Assumes nothing.
use Rattle.std.specs.Prelude.{◌≡◌, refl, Bool, true, false, cond, ◌||◌, ℕ, suc, ◌+◌, ◌<◌, ◌≤◌, length, take, drop, set}
use Rattle.std.proofs.Common.{sym, ap₂, ◌∙◌, subst, arith}
use Rattle.std.proofs.Math.Path.{ap}
use mathlib.Core.List.{List, [], ◌∷◌, ◌++◌}
use Rattle.std.proofs.Math.Seq.{paste, take-length}
use Rattle.words.specs.Buffers.{filled}
use Rattle.words.specs.laws.Buffers.{pasted, take_filled, filled_length}
use Rattle.words.specs.laws.Masks.{AllBelow}
use Rattle.linear.specs.Prices.{total, earlier, precedes}
use Rattle.cheapest.specs.Offers.{Costed, Along, taken_along, Taken, priced, Written, better, replaced, offered}

-- ---- the formula taken, in a buffer
module _ {gens h order before numbers : List ℕ} {n : ℕ} (T : Taken gens h order before n numbers) where
  pub taken_first : take n numbers ≡ taken_along gens h order
  taken_first = ap (take n) T.is ∙ take_filled n (taken_along gens h order) before (sym T.many)

  pub taken_costed : {prices taken : List ℕ} → Along gens h order prices → taken ≡ take n numbers → Costed prices taken
  taken_costed {prices = prices} A e =
      subst (Costed prices) (sym (e ∙ taken_first))
      (record {
        few = omega (arith, T.many, T.room);
        numbers = subst (λ (b : ℕ). AllBelow b (taken_along gens h order)) (sym A.each) T.below;
        narrow = A.narrow;
      })

pub headed : (x : ℕ) (xs d : List ℕ) → length xs < length d → paste (set d 0 x) 1 xs (length xs) ≡ filled (x ∷ xs) d
headed x xs [] h = absurd (omega arith)
headed x xs (y ∷ d) h =
    ap (λ (l : List ℕ). x ∷ l)
    (ap₂ ◌++◌ (take-length xs) (ap (λ (k : ℕ). drop k (x ∷ d)) (let e : 1 + length xs ≡ suc (length xs) = omega arith in e)))

module _ {gens h order before numbers : List ℕ} {n : ℕ} (prices out : List ℕ) (T : Taken gens h order before n numbers) where
  pub taken_room : {taken : List ℕ} → taken ≡ take n numbers → 64 < length out → length taken < length out
  taken_room e room = omega (arith, ap length (e ∙ taken_first T), T.many, T.room)

  pub written_whole : (taken after : List ℕ) (cost : ℕ) → taken ≡ take n numbers → cost ≡ total prices taken
      → after ≡ paste (set out 0 cost) 1 taken (length taken) → 64 < length out → Written prices (taken_along gens h order) out n after
  written_whole taken after cost e f g room =
      record {
        many = T.many;
        room = T.room;
        is =
            g ∙ headed cost taken out (taken_room e room)
            ∙ ap₂ (λ (x : ℕ) (es : List ℕ). filled (x ∷ es) out) (f ∙ ap (total prices) (e ∙ taken_first T)) (e ∙ taken_first T);
      }

-- ---- a list offered
pub better_later : {first r : Bool} (new old : List ℕ) → first ≡ false → r ≡ earlier new old → r ≡ better first new old
better_later new old f e = e ∙ sym (ap (λ (t : Bool). t || earlier new old) f)

module _ (first : Bool) (new held front : List ℕ) (t : Bool) (e : front ≡ take (length new) held) (f : t ≡ better first new front) where
  choice : (s : Bool) → t ≡ s → replaced first new held ≡ cond s (filled new held) held
  choice s g = ap (λ (u : Bool). cond u (filled new held) held) (sym (sym g ∙ f ∙ ap (better first new) e))

  pub replaced_yes : (after : List ℕ) → t ≡ true → after ≡ paste held 0 new (length new) → after ≡ replaced first new held
  replaced_yes after g c = c ∙ pasted new held ∙ sym (choice true g)

  pub replaced_no : t ≡ false → held ≡ replaced first new held
  replaced_no g = sym (choice false g)

-- ---- a formula offered
module _ {prices es before after : List ℕ} {n : ℕ} (W : Written prices es before n after) where
  pub candidate : take (n + 1) after ≡ priced prices es
  candidate = ap (take (n + 1)) W.is ∙ take_filled (n + 1) (priced prices es) before (let e = W.many in omega arith)

  pub candidate_room : {new : List ℕ} (held : List ℕ) → new ≡ take (n + 1) after → 64 < length held → length new ≤ length held
  candidate_room held e room = omega (arith, ap length (e ∙ candidate), W.many, W.room)

  pub offered_is : {new last : List ℕ} (first : Bool) (held : List ℕ) → new ≡ take (n + 1) after → last ≡ replaced first new held
      → last ≡ offered prices first es held
  unfolding offered
  offered_is first held e f = f ∙ ap (λ (l : List ℕ). replaced first l held) (e ∙ candidate)

-- ---- for callers
pub offered_length : (prices : List ℕ) (first : Bool) (fs held : List ℕ) → suc (length fs) ≤ length held → length (offered prices first fs held) ≡ length held
unfolding offered
offered_length prices first fs held h = go (better first (priced prices fs) (take (suc (length fs)) held))
  where
    go : (t : Bool) → length (cond t (filled (priced prices fs) held) held) ≡ length held
    go true = filled_length (priced prices fs) held h
    go false = refl

pub offered_first : (prices fs held : List ℕ) → take (suc (length fs)) (offered prices true fs held) ≡ priced prices fs
unfolding offered
offered_first prices fs held = take_filled (suc (length fs)) (priced prices fs) held refl

pub offered_best : (prices es fs held : List ℕ) → take (suc (length es)) held ≡ priced prices es → length fs ≡ length es
    → take (suc (length es)) (offered prices false fs held) ≡ priced prices (cond (precedes prices fs es) fs es)
unfolding offered precedes earlier
offered_best prices es fs held h e =
    ap (λ (l : List ℕ). take (suc (length es)) (cond (earlier (priced prices fs) l) (filled (priced prices fs) held) held))
    (ap (λ (k : ℕ). take (suc k) held) e ∙ h)
    ∙ go (precedes prices fs es)
  where
    go : (t : Bool) → take (suc (length es)) (cond t (filled (priced prices fs) held) held) ≡ priced prices (cond t fs es)
    go true = take_filled (suc (length es)) (priced prices fs) held (ap suc e)
    go false = h
