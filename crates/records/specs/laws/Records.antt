-- How the state changes with one record, and with several.
--   note_full, note_fits, note_short   the three cases
--   runs_append, runs_still            two lists; no step changes anything. run-full: the limit is reached
--   note_sane, run_sane, run_kept      the counts stay in range, and the buffer its length
-- Assumes nothing.
use Rattle.std.specs.Prelude.{◌≡◌, refl, ◌≢◌, Bool, true, false, cond, List, [], ◌∷◌, ◌++◌, ℕ, ◌+◌, ◌<◌, ◌≤◌, eqb, leb}
use Rattle.std.proofs.Common.{sym, ap, ◌∙◌, subst, arith}
use Rattle.std.proofs.Math.ListN.{length}
use Rattle.std.proofs.Math.Seq.{paste}
use Rattle.std.proofs.lemmas.List.Edits.{length-paste}
use borrow.Author.Tests.{eq-eqb, ne_eqb, le-leb, lt-leb, leb-true, eqb-false}
use Rattle.records.specs.Records.{State, note, runs, run, Sane, Kept}

pub runs_append : {A : Type 0} (step : State → A → State) (st : State) (xs ys : List A) → runs step st (xs ++ ys) ≡ runs step (runs step st xs) ys
unfolding runs
runs_append step st [] ys = refl
runs_append step st (x ∷ xs) ys = runs_append step (step st x) xs ys

-- no step changes the state
pub runs_still : {A : Type 0} (step : State → A → State) (st : State) (xs : List A) → ((x : A) → step st x ≡ st) → runs step st xs ≡ st
unfolding runs
runs_still step st [] h = refl
runs_still step st (x ∷ xs) h = ap (λ (s : State). runs step s xs) (h x) ∙ runs_still step st xs h

-- the three cases
module _ (limit : ℕ) (st : State) (r : List ℕ) where
  pub note_full : st.found ≡ limit → note limit st r ≡ st
  unfolding note
  note_full e = simp (eq-eqb st.found limit e)

  pub note_fits : st.found ≢ limit → st.at + length r ≤ length st.buf
      → note limit st r ≡ record { found = st.found + 1; shown = st.shown + 1; at = st.at + length r; buf = paste st.buf st.at r (length r) }
  unfolding note
  note_fits n h = simp (ne_eqb st.found limit n, le-leb (st.at + length r) (length st.buf) h)

  pub note_short : st.found ≢ limit → length st.buf < st.at + length r → note limit st r ≡ record { found = st.found + 1; shown = st.shown; at = st.at; buf = st.buf }
  unfolding note
  note_short n h = simp (ne_eqb st.found limit n, lt-leb (st.at + length r) (length st.buf) h)

pub run_full : (limit : ℕ) (st : State) (rs : List (List ℕ)) → st.found ≡ limit → run limit st rs ≡ st
run_full limit st rs e = runs_still (note limit) st rs (λ r. note_full limit st r e)

pub note_sane : (limit : ℕ) (st : State) (r : List ℕ) → Sane limit st → Sane limit (note limit st r) × (length (note limit st r).buf ≡ length st.buf)
unfolding note
note_sane limit st r s = go (eqb st.found limit) refl (leb (st.at + length r) (length st.buf)) refl
  where
    Ok : State → Type 0
    Ok x = Sane limit x × (length x.buf ≡ length st.buf)

    yes' : State
    yes' = record { found = st.found + 1; shown = st.shown + 1; at = st.at + length r; buf = paste st.buf st.at r (length r) }

    no' : State
    no' = record { found = st.found + 1; shown = st.shown; at = st.at; buf = st.buf }

    go : (t : Bool) → eqb st.found limit ≡ t → (u : Bool) → leb (st.at + length r) (length st.buf) ≡ u → Ok (cond t st (cond u yes' no'))
    go true e u f = (s, refl)
    go false e true f =
        let h : st.at + length r ≤ length st.buf = leb-true (st.at + length r) (length st.buf) f in
        let l : length (paste st.buf st.at r (length r)) ≡ length st.buf = length-paste st.buf st.at r (length r) h (omega arith) in
        let n : st.found ≢ limit = eqb-false st.found limit e in
        (record { limited = (let a = s.limited in omega arith); fewer = (let a = s.fewer in omega arith); inside = omega arith }, l)
    go false e false f =
        let n : st.found ≢ limit = eqb-false st.found limit e in
        (record { limited = (let a = s.limited in omega arith); fewer = (let a = s.fewer in omega arith); inside = s.inside }, refl)

pub run_sane : (limit : ℕ) (st : State) (rs : List (List ℕ)) → Sane limit st → Sane limit (run limit st rs) × (length (run limit st rs).buf ≡ length st.buf)
unfolding runs
run_sane limit st [] s = (s, refl)
run_sane limit st (r ∷ rs) s =
    let a = note_sane limit st r s in
    let b = run_sane limit (note limit st r) rs a.0 in
    (b.0, b.1 ∙ a.1)

pub run_kept : {limit size : ℕ} {st end : State} (rs : List (List ℕ)) → Kept limit size st → end ≡ run limit st rs → Kept limit size end
run_kept {limit} {size} {st} {end} rs K e =
    let v = run_sane limit st rs K.sane in
    record { sane = subst (Sane limit) (sym e) v.0; same = ap (λ (x : State). length x.buf) e ∙ v.1 ∙ K.same }
