-- Records of one length, written up to a limit: the state after all of them.
--   fitting_le, fitting_in                  no more fit than there are, and than the buffer takes
--   fitting_none, fitting_more, fitting_no  none; one more that fits; no room
--   after_all n s rs c == the state after the records rs of n words, of which c fit
--   run_law, run_take, run_limit            a run that stays below the limit; only the first count; from the start of the buffer
-- Assumes nothing.
use Rattle.std.specs.Prelude.{◌≡◌, ◌≢◌, ℕ, zero, suc, ◌+◌, ◌-◌, ◌*◌, ◌/◌, ◌<◌, ◌≤◌, min, length, take, drop}
use Rattle.std.proofs.Math.Path.{refl}
use Rattle.std.proofs.Common.{sym, ap, ap₂, ◌∙◌, arith, div-mul-le_self, le_refl, mul-le-mul, suc-mul, length-take, take-append-drop, drop-drop}
use mathlib.Core.List.Memᴰ
use mathlib.Core.List.{List, [], ◌∷◌, ◌++◌, append-nil, append_assoc, Memᴰ}
use Rattle.std.proofs.Math.Decide.{dec_le, ℕ_discrete}
use Rattle.std.proofs.Math.Nat.{div-eq_of_lt, div-eq-sub-div}
use Rattle.std.proofs.Math.Seq.{paste, take-length, take-nil}
use Rattle.std.proofs.lemmas.List.Edits.{length-paste, take-paste, drop-paste}
use Rattle.linear.specs.laws.Span.{mem_cons}
use Rattle.records.specs.Records.{State, note, runs, run}
use Rattle.records.specs.laws.Records.{note_fits, note_short, run_full}
use Rattle.catalogue.specs.listing.Listing.{flat, fitting}

pub fitting_le : (n c w : ℕ) → fitting n c w ≤ c
unfolding fitting
fitting_le zero c w = omega arith
fitting_le (suc n) c w = at (w / suc n)
  where
    at : (q : ℕ) → min c q ≤ c
    at q = omega arith

pub fitting_in : (n c w : ℕ) → fitting n c w * n ≤ w
unfolding fitting
fitting_in zero c w = omega arith
fitting_in (suc n) c w =
    let a : min c (w / suc n) * suc n ≤ w / suc n * suc n = mul-le-mul (low c (w / suc n)) (le_refl (suc n)) in
    let b : w / suc n * suc n ≤ w = div-mul-le_self w (suc n) in
    omega arith
  where
    low : (x y : ℕ) → min x y ≤ y
    low x y = omega arith

pub fitting_none : (n w : ℕ) → fitting n 0 w ≡ 0
unfolding fitting
fitting_none zero w = refl
fitting_none (suc n) w = omega arith

fitting_more : (n c w : ℕ) → n ≤ w → fitting n (suc c) w ≡ suc (fitting n c (w - n))
unfolding fitting
fitting_more zero c w h = refl
fitting_more (suc n) c w h =
    let e : w / suc n ≡ (w - suc n) / suc n + 1 = div-eq-sub-div {m = suc n} {n = w} (omega arith) h in
    let a : ℕ = w / suc n in
    let b : ℕ = (w - suc n) / suc n in
    step a b e
  where
    step : (a b : ℕ) → a ≡ b + 1 → min (suc c) a ≡ suc (min c b)
    step a b e = omega arith

fitting_no : (n c w : ℕ) → w < n → fitting n c w ≡ 0
unfolding fitting
fitting_no zero c w h = absurd (omega arith)
fitting_no (suc n) c w h = ap (λ (x : ℕ). min c x) (div-eq_of_lt h) ∙ (let e : min c 0 ≡ 0 = omega arith in e)

-- ---- the state after all records, from any state
abbrev pub after_all : ℕ → State → List (List ℕ) → ℕ → State
after_all n st rs s =
    record {
      found = st.found + length rs;
      shown = st.shown + s;
      at = st.at + s * n;
      buf = take st.at st.buf ++ flat (take s rs) ++ drop (st.at + s * n) st.buf;
    }

state_eq : {f f' s s' a a' : ℕ} {b b' : List ℕ} → f ≡ f' → s ≡ s' → a ≡ a' → b ≡ b'
    → ◌≡◌ {A = State} (record { found = f; shown = s; at = a; buf = b }) (record { found = f'; shown = s'; at = a'; buf = b' })
state_eq e₁ e₂ e₃ e₄ = cc

pub run_law : (limit n : ℕ) (rs : List (List ℕ)) (st : State) → ((r : List ℕ) → Memᴰ r rs → length r ≡ n) → st.found + length rs ≤ limit → st.at ≤ length st.buf
    → run limit st rs ≡ after_all n st rs (fitting n (length rs) (length st.buf - st.at))
unfolding runs flat
run_law limit n [] st h l i =
    start (fitting n 0 (length st.buf - st.at)) (fitting_none n (length st.buf - st.at))
  where
    start : (s : ℕ) → s ≡ 0 → st ≡ after_all n st [] s
    start zero e =
        state_eq (omega arith) (omega arith) (omega arith)
        (sym
        (ap (λ (x : ℕ). take st.at st.buf ++ [] ++ drop x st.buf) (let z : st.at + 0 * n ≡ st.at = omega arith in z) ∙ ap
        (λ (x : List ℕ). x ++ drop st.at st.buf) (append-nil (take st.at st.buf)) ∙ take-append-drop st.at st.buf))
    start (suc s) e = absurd (omega arith)
run_law limit n (r ∷ rs) st h l i = go (dec_le (st.at + n) (length st.buf)) (λ x a b. run_law limit n rs x (λ y m. h y (Memᴰ.tail m)) a b)
  where
    lr : length r ≡ n
    lr = h r (Memᴰ.head refl)

    ne : st.found ≢ limit
    ne e = omega arith

    w : ℕ
    w = length st.buf

    c : ℕ
    c = length rs

    yes' : State
    yes' = record { found = st.found + 1; shown = st.shown + 1; at = st.at + length r; buf = paste st.buf st.at r (length r) }

    no' : State
    no' = record { found = st.found + 1; shown = st.shown; at = st.at; buf = st.buf }

    short : st.at + n ≤ w → (s : ℕ) → after_all n yes' rs s ≡ after_all n st (r ∷ rs) (suc s)
    short f s =
        let g : st.at + length r ≤ w = omega (arith, lr) in
        let a : st.at + length r + s * n ≡ st.at + suc s * n = omega (arith, lr, suc-mul s n) in
        state_eq (omega (arith, lr)) (omega (arith, lr)) a
        (ap₂ (λ (x y : List ℕ). x ++ flat (take s rs) ++ y)
        (take-paste st.buf st.at r (length r) i (omega (arith, lr)) ∙ ap (λ (x : List ℕ). take st.at st.buf ++ x) (take-length r))
        (sym (drop-drop (s * n) (st.at + length r) (paste st.buf st.at r (length r))) ∙ ap (drop (s * n)) (drop-paste st.buf st.at r (length r) i (omega (arith, lr)))
        ∙ drop-drop (s * n) (st.at + length r) st.buf ∙ ap (λ (x : ℕ). drop x st.buf) a)
        ∙ ap (λ (x : List ℕ). x ++ drop (st.at + suc s * n) st.buf) (append_assoc (take st.at st.buf) r (flat (take s rs))))

    long : (s : ℕ) → s ≡ 0 → after_all n no' rs s ≡ after_all n st (r ∷ rs) s
    long zero e = state_eq (omega (arith, lr)) refl refl refl
    long (suc s) e = absurd (omega (arith, lr))

    go : Dec (st.at + n ≤ w) → ((x : State) → x.found + c ≤ limit → x.at ≤ length x.buf → run limit x rs ≡ after_all n x rs (fitting n c (length x.buf - x.at)))
        → run limit (note limit st r) rs ≡ after_all n st (r ∷ rs) (fitting n (suc c) (w - st.at))
    go (yes f) ih =
        let g : st.at + length r ≤ w = omega (arith, lr) in
        let lp : length (paste st.buf st.at r (length r)) ≡ w = length-paste st.buf st.at r (length r) g (omega (arith, lr)) in
        let e : length (paste st.buf st.at r (length r)) - (st.at + length r) ≡ w - st.at - n = omega (arith, lr) in
        ap (λ (x : State). run limit x rs) (note_fits limit st r ne g) ∙ ih yes' (omega (arith, lr)) (omega (arith, lr))
        ∙ ap (λ (x : ℕ). after_all n yes' rs (fitting n c x)) e ∙ short f (fitting n c (w - st.at - n))
        ∙ ap (after_all n st (r ∷ rs)) (sym (fitting_more n c (w - st.at) (omega (arith, lr))))
    go (no f) ih =
        let g : w - st.at < n = omega (arith, lr) in
        let z : fitting n c (w - st.at) ≡ 0 = fitting_no n c (w - st.at) g in
        ap (λ (x : State). run limit x rs) (note_short limit st r ne (omega (arith, lr))) ∙ ih no' (omega (arith, lr)) i
        ∙ long (fitting n c (w - st.at)) z ∙ ap (after_all n st (r ∷ rs)) (z ∙ sym (fitting_no n (suc c) (w - st.at) g))

note_found : (limit : ℕ) (st : State) (r : List ℕ) → st.found ≢ limit → (note limit st r).found ≡ st.found + 1
note_found limit st r n = go (dec_le (st.at + length r) (length st.buf))
  where
    go : Dec (st.at + length r ≤ length st.buf) → (note limit st r).found ≡ st.found + 1
    go (yes h) = ap (λ (x : State). x.found) (note_fits limit st r n h)
    go (no h) = ap (λ (x : State). x.found) (note_short limit st r n (omega arith))

pub run_take : (limit : ℕ) (rs : List (List ℕ)) (st : State) → st.found ≤ limit → run limit st rs ≡ run limit st (take (limit - st.found) rs)
run_take limit [] st h = ap (run limit st) (sym (take-nil (limit - st.found)))
run_take limit (r ∷ rs) st h = go (ℕ_discrete st.found limit) (λ l. run_take limit rs (note limit st r) l)
  where
    go : Dec (st.found ≡ limit) → ((note limit st r).found ≤ limit → run limit (note limit st r) rs ≡ run limit (note limit st r) (take (limit - (note limit st r).found) rs))
        → run limit st (r ∷ rs) ≡ run limit st (take (limit - st.found) (r ∷ rs))
    go (yes e) ih = run_full limit st (r ∷ rs) e ∙ sym (run_full limit st (take (limit - st.found) (r ∷ rs)) e)
    go (no n) ih =
        let f : (note limit st r).found ≡ st.found + 1 = note_found limit st r n in
        let a : limit - st.found ≡ suc (limit - (note limit st r).found) = omega arith in
        first ∙ ih (omega arith) ∙ sym (ap (λ (m : ℕ). run limit st (take m (r ∷ rs))) a ∙ second (limit - (note limit st r).found))
      where
        first : run limit st (r ∷ rs) ≡ run limit (note limit st r) rs
        first = unfold runs in refl

        second : (m : ℕ) → run limit st (take (suc m) (r ∷ rs)) ≡ run limit (note limit st r) (take m rs)
        second m = unfold runs in refl

mem_take : {A : Type 0} (P : A → Type 0) (n : ℕ) (l : List A) → ((x : A) → Memᴰ x l → P x) → (x : A) → Memᴰ x (take n l) → P x
mem_take P zero l h = λ x m. absurd (Memᴰ.not-nil m)
mem_take P (suc n) [] h = λ x m. absurd (Memᴰ.not-nil m)
mem_take P (suc n) (y ∷ l) h = mem_cons {P = P} (h y (Memᴰ.head refl)) (mem_take P n l (λ x m. h x (Memᴰ.tail m)))

pub run_limit : (limit n : ℕ) (rs : List (List ℕ)) (buf : List ℕ) → ((r : List ℕ) → Memᴰ r rs → length r ≡ n)
    → run limit (record { found = 0; shown = 0; at = 0; buf = buf }) rs
    ≡ after_all n (record { found = 0; shown = 0; at = 0; buf = buf }) (take limit rs) (fitting n (length (take limit rs)) (length buf))
run_limit limit n rs buf h =
    run_take limit rs st (omega arith) ∙ ap (λ (m : ℕ). run limit st (take m rs)) none
    ∙ run_law limit n (take limit rs) st (mem_take (λ r. length r ≡ n) limit rs h) (omega (arith, length-take limit rs)) (omega arith)
    ∙ ap (λ (w : ℕ). after_all n st (take limit rs) (fitting n (length (take limit rs)) w)) (let e : length buf - 0 ≡ length buf = omega arith in e)
  where
    st : State
    st = record { found = 0; shown = 0; at = 0; buf = buf }

    none : limit - 0 ≡ limit
    none = omega arith
