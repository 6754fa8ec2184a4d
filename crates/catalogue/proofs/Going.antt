-- The walk's loop over the numbers of a node.
-- Going == the entries so far are met, and those to come, met, give the final state.
-- going_off, going-down: one number more, not marked or gone into. going_full, going_end: nothing changes any more; all numbers are done.
-- going_next: all numbers up to the next marked one.
-- node-down: what the child's node is.
-- Assumes nothing.
use mathlib.Core.Path.{◌≡◌, refl, sym, ap, ap₂, ◌∙◌, subst}
use mathlib.Core.Logic.{◌≢◌, ◌⊎◌, inl, inr}
use mathlib.Core.Bool.{Bool, true, false}
use mathlib.Core.List.{List, ◌++◌, map}
use Prim.Native.Nat.{ℕ, zero, suc, ◌+◌, ◌-◌, ◌<◌, ◌≤◌}
use native.Mathlib.Omega.{arith}
use lib.ListN.{length, get_or, take}
use Rattle.linear.specs.Basis.{clear, reduce, insert}
use Rattle.linear.specs.Entry.{generator}
use Rattle.linear.specs.Word.{word}
use Rattle.linear.proofs.laws.Residue.{insert_residue}
use Rattle.bases.specs.Basis.{rows_of, Valid, Holds}
use Rattle.bases.specs.declared.Basis.{Basis}
use Rattle.residues.specs.children.Residues.{residues, known}
use Rattle.residues.specs.Mapped.{Mapped}
use Rattle.residues.specs.children.Barren.{Barren}
use Rattle.sieve.specs.marked_numbers.Marks.{NextMarked}
use Rattle.sieve.specs.Sieve.{Judged, Sieved}
use Rattle.residues.proofs.laws.of_children.Known.{known_ne}
use Rattle.residues.proofs.laws.of_children.Child.{residue_at, residues_length, child_residues}
use Rattle.records.specs.declared.Chain.{Chain}
use Rattle.records.specs.declared.Tally.{Tally}
use Rattle.records.specs.Records.{State, runs}
use Rattle.records.specs.Keep.{chain_of, state_of, Tidy, Pushed}
use Rattle.catalogue.specs.declared.noting.Aim.{Aim}
use Rattle.catalogue.specs.noting.Noting.{is_full, met, Menu, Steady}
use Rattle.catalogue.proofs.laws.of_noting.Noting.{met_full, steady_after}
use Rattle.catalogue.specs.walk.Walk.{search, Node}
use Rattle.records.specs.laws.Ahead.{Ahead, ahead_as, ahead_past, ahead_full, ahead_none}
use Rattle.catalogue.proofs.laws.of_walk.Search.{turn_end, turn_skip, turn_down, turn_drop}
use Rattle.residues.specs.Room.{search_room}

-- a state on the way: steady, with a buffer of that size
pub record Good (aim : Aim) (size : ℕ) (s : State) : Type 0 where
  pub steady : Steady aim s
  pub same : length s.buf ≡ size

pub record Going (gens : List ℕ) (k : ℕ) (C p : List ℕ) (missing : ℕ) (aim : Aim) (order prices : List ℕ) (final : State) (size j : ℕ) (t : Tally)
    (out mine : List ℕ) : Type 0 where
  pub within : j ≤ length gens
  pub ahead : Ahead (met gens order prices aim) (Good aim size) final (search gens k C p (length gens - j) j missing) (state_of t out)
  pub whole : length mine ≡ search_room

module _ (gens : List ℕ) (k : ℕ) (b : Basis) (c : Chain) (missing : ℕ) (aim : Aim) (order prices : List ℕ) (final : State) (size : ℕ) (h : List ℕ)
    (l : h ≡ residues gens (rows_of b)) (G : Valid b) (T : Tidy c missing) (ne : missing ≢ 0)
    (j : ℕ) (t : Tally) (out mine : List ℕ) (I : Going gens k (rows_of b) (chain_of c) missing aim order prices final size j t out mine) where
  pub going_skip : j < length gens → true ≡ known h j → Going gens k (rows_of b) (chain_of c) missing aim order prices final size (j + 1) t out mine
  going_skip g e =
      record { within = omega arith; ahead = ahead_as I.ahead (turn_skip gens k (rows_of b) (chain_of c) h j missing l ne g e); whole = I.whole }

  pub going_full : true ≡ is_full aim t.found → state_of t out ≡ final
  going_full e = ahead_full I.ahead (met_full gens order prices aim t out (sym e))

  pub going_end : length gens ≤ j → state_of t out ≡ final
  going_end g = ahead_none I.ahead (turn_end gens k (rows_of b) (chain_of c) h j missing l ne g)

  module _ (g : j < length gens) (e : false ≡ known h j) where
    at_j : get_or h j 0 ≡ reduce word (rows_of b) (generator word gens j)
    at_j = ap (λ (x : List ℕ). get_or x j 0) l ∙ residue_at gens (rows_of b) j

    pub new_row : get_or h j 0 ≢ 0
    new_row = known_ne h j e

    rows_down : (b' : Basis) → Holds (insert word (rows_of b) (get_or h j 0)) b' → rows_of b' ≡ insert word (rows_of b) (generator word gens j)
    rows_down b' W = W.is ∙ ap (insert word (rows_of b)) at_j ∙ insert_residue word (rows_of b) G.reduced (generator word gens j)

    pub node_down : Menu gens order prices aim → length gens ≤ search_room → (b' : Basis) → Holds (insert word (rows_of b) (get_or h j 0)) b' → (c' : Chain)
        → Pushed c j c' → (mine' : List ℕ) → Mapped (clear word (get_or h j 0)) h mine'
        → Node gens (take (length gens) mine') (j + 1) (missing - 1) b' c' t aim order prices out
    node_down M s b' W c' P mine' K =
        record {
          left =
              ap (λ (n : ℕ). take n mine') (sym (ap length l ∙ residues_length gens (rows_of b))) ∙ K.is
              ∙ ap₂ (λ (x : ℕ) (y : List ℕ). map (clear word x) y) at_j l
              ∙ child_residues gens (rows_of b) G.reduced (generator word gens j) (λ z. new_row (at_j ∙ z))
              ∙ ap (residues gens) (sym (rows_down b' W));
          small = s;
          begin = omega arith;
          valid = W.valid;
          tidy = record { whole = P.whole; room = omega (arith, P.more, T.room) };
          menu = M;
          steady = I.ahead.good.steady;
        }

    pub going_down : (b' : Basis) → Holds (insert word (rows_of b) (get_or h j 0)) b' → (c' : Chain) → Pushed c j c' → (r : Tally) (out' mine' : List ℕ) → length mine' ≡ search_room
        → length out' ≡ size → state_of r out' ≡ runs (met gens order prices aim) (state_of t out)
        (search gens k (rows_of b') (chain_of c') (length gens - (j + 1)) (j + 1) (missing - 1))
        → Going gens k (rows_of b) (chain_of c) missing aim order prices final size (j + 1) r out' mine'
    going_down b' W c' P r out' mine' w same q =
        let here : List (List ℕ × List ℕ) = search gens k (rows_of b') (chain_of c') (length gens - (j + 1)) (j + 1) (missing - 1) in
        let there : List (List ℕ × List ℕ) = search gens k (rows_of b) (chain_of c) (length gens - (j + 1)) (j + 1) missing in
        let e' : search gens k (rows_of b) (chain_of c) (length gens - j) j missing ≡ here ++ there =
        turn_down gens k (rows_of b) (chain_of c) h j missing l ne g e
        ∙ ap₂ (λ (x y : List ℕ). search gens k x y (length gens - (j + 1)) (j + 1) (missing - 1) ++ there) (sym (rows_down b' W)) (sym P.is) in
        let G : Good aim size (state_of r out') =
        record {
          steady = steady_after gens order prices aim (state_of t out) (state_of r out') here I.ahead.good.steady
              (same ∙ sym I.ahead.good.same) q;
          same = same;
        } in
        record { within = omega arith; ahead = ahead_past I.ahead here there e' q G; whole = w }

    -- a child with nothing above it may be left out
    pub going_drop : Barren gens h j k missing → Going gens k (rows_of b) (chain_of c) missing aim order prices final size (j + 1) t out mine
    going_drop B =
        let there : List (List ℕ × List ℕ) = search gens k (rows_of b) (chain_of c) (length gens - (j + 1)) (j + 1) missing in
        record {
          within = omega arith;
          ahead =
              ahead_as I.ahead
              (turn_down gens k (rows_of b) (chain_of c) h j missing l ne g e
              ∙ ap (λ (x : List (List ℕ × List ℕ)). x ++ there) (turn_drop gens k (rows_of b) (chain_of c) h j missing l ne G.reduced g e B));
          whole = I.whole;
        }

  -- no mark
  pub going_off : j < length gens → (r : ℕ) → Judged gens h j k missing r → r ≡ 0
      → Going gens k (rows_of b) (chain_of c) missing aim order prices final size (j + 1) t out mine
  going_off g r J z = go (J.off z) (known h j) refl
    where
      go : (true ≡ known h j) ⊎ Barren gens h j k missing → (u : Bool) → known h j ≡ u
          → Going gens k (rows_of b) (chain_of c) missing aim order prices final size (j + 1) t out mine
      go (inl a) u q = going_skip g a
      go (inr a) true q = going_skip g (sym q)
      go (inr a) false q = going_drop g (sym q) a

-- ---- up to the next marked number
module _ (gens : List ℕ) (k : ℕ) (b : Basis) (c : Chain) (missing : ℕ) (aim : Aim) (order prices : List ℕ) (final : State) (size : ℕ) (h : List ℕ)
    (l : h ≡ residues gens (rows_of b)) (G : Valid b) (T : Tidy c missing) (ne : missing ≢ 0)
    (t : Tally) (out mine : List ℕ) (lo : ℕ) (marks : List ℕ) (S : Sieved gens h lo (length gens) k missing marks) where
  going_past : (d j : ℕ) → lo ≤ j → j + d ≤ length gens → ((i : ℕ) → j ≤ i → i < j + d → get_or marks i 0 ≡ 0)
      → Going gens k (rows_of b) (chain_of c) missing aim order prices final size j t out mine → Going gens k (rows_of b)
      (chain_of c) missing aim order prices final size (j + d) t out mine
  going_past zero j a m f I = subst (λ (i : ℕ). Going gens k (rows_of b) (chain_of c) missing aim order prices final size i t out mine)
      (let e : j ≡ j + 0 = omega arith in e) I
  going_past (suc d) j a m f I =
      subst (λ (i : ℕ). Going gens k (rows_of b) (chain_of c) missing aim order prices final size i t out mine) (let e : j + 1 + d ≡ j + suc d = omega arith in e)
      (going_past d (j + 1) (omega arith) (omega arith) (λ i p q. f i (omega arith) (omega arith))
      (going_off gens k b c missing aim order prices final size h l G T ne j t out mine I (omega arith) (get_or marks j 0) (S.judged j a (omega arith))
      (f j (omega arith) (omega arith))))

  pub going_next : (j r : ℕ) → lo ≤ j → NextMarked marks j (length gens) r
      → Going gens k (rows_of b) (chain_of c) missing aim order prices final size j t out mine → Going gens k (rows_of b)
      (chain_of c) missing aim order prices final size r t out mine
  going_next j r a N I =
      let e : j + (r - j) ≡ r = omega (arith, N.low) in
      subst (λ (i : ℕ). Going gens k (rows_of b) (chain_of c) missing aim order prices final size i t out mine) e
      (going_past (r - j) j a (omega (arith, N.high)) (λ i p q. N.none i p (omega arith)) I)
