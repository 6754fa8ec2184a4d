-- One number more in the table.
--   entered_none    its value has no slot
--   entered_first   it is the first of its value
--   entered_more    another one is, and the rows of that one have grown by the sum of the two generators
--   sound_slots, enter_slots                the slots may be sought in
--   enter_number, enter_some, enter_grow    what a slot has is a number, which has a weight, and its stretch may grow
-- Assumes nothing.
use Rattle.std.specs.Prelude.{◌≡◌, refl, ◌≢◌, List, ◌∷◌, ◌++◌, ℕ, zero, suc, ◌+◌, ◌-◌, ◌<◌, ◌≤◌, length, get_or, set}
use Rattle.std.proofs.Common.{sym, ap, ◌∙◌, subst, inl, inr, arith, get_or-set_same, get_or-set_other}
use Rattle.std.specs.Int.Bits.{bit_xor}
use Rattle.std.proofs.lemmas.Nat.{xor_comm}
use Rattle.linear.specs.Span.{Span}
use Rattle.linear.specs.Word.{word}
use Rattle.linear.specs.laws.Span.{cast, span_weak, span_head, span_cons, span_uncons, span_rest}
use Rattle.weights.specs.rank_rows.Stretch.{stretch, StretchGrowing, StretchGrown}
use Rattle.weights.specs.Table.{slot_of, Slots}
use Rattle.weights.specs.Enter.{value_rows, TableSound, ValuePlace, Entering, Entered}
use Rattle.words.specs.tables.laws.Seek.{either, apart}
use Rattle.weights.specs.laws.Seek.{slot_below, slot_owner, slot_kept, slot_own}
use Rattle.residues.specs.Room.{search_room}
use Rattle.weights.specs.slots.Bucket.{slot_count}

set_at : (P : ℕ → Type 0) (l : List ℕ) (b x c : ℕ) → b < length l → (c ≡ b → P x) → (c ≢ b → P (get_or l c 0)) → P (get_or (set l b x) c 0)
set_at P l b x c k f g =
    either b c (λ e. subst P (sym (ap (λ (d : ℕ). get_or (set l b x) d 0) e ∙ get_or-set_same l b x 0 k)) (f e))
    (λ n. subst P (sym (get_or-set_other l b c x 0 n)) (g n))

most_set : (w : List ℕ) (b x : ℕ) → b < length w → (t : ℕ) → x ≤ t → ((c : ℕ) → get_or w c 0 ≤ t) → (c : ℕ) → get_or (set w b x) c 0 ≤ t
most_set w b x l t k f c = set_at (λ (y : ℕ). y ≤ t) w b x c l (λ e. k) (λ n. f c)

valued_set : (d w : List ℕ) (b x : ℕ) → b < length w → get_or d b 0 ≢ 0 → ((n : ℕ) → get_or w n 0 ≢ 0 → get_or d n 0 ≢ 0) → (n : ℕ) → get_or (set w b x) n 0 ≢ 0
    → get_or d n 0 ≢ 0
valued_set d w b x l ne f n =
    set_at (λ (y : ℕ). y ≢ 0 → get_or d n 0 ≢ 0) w b x n l (λ e q z. ne (ap (λ (m : ℕ). get_or d m 0) (sym e) ∙ z)) (λ m. f n)

used : (x f : ℕ) → x ≡ suc f → x ≢ 0
used x f e z = omega arith

pub sound_slots : (d : List ℕ) (i : ℕ) (slots w : List ℕ) → length slots ≡ slot_count → i ≤ length d → TableSound i slots w → Slots slots d
sound_slots d i slots w z l T = record { size = z; number = λ q. at q (get_or slots q 0) refl }
  where
    at : (q x : ℕ) → get_or slots q 0 ≡ x → x ≤ length d
    at q zero e = omega arith
    at q (suc f) e = omega (arith, T.first q f e)

module _ (gens d S : List ℕ) (i : ℕ) (slots rows w : List ℕ) (E : Entering gens d i slots rows w) where
  pub enter_slots : Slots slots d
  enter_slots = sound_slots d i slots w E.sizes.slots_all (omega (arith, E.inside)) E.sound

  pub enter_number : (q : ℕ) → get_or slots q 0 ≢ 0 → get_or slots q 0 - 1 < i
  enter_number q n = E.sound.first q (get_or slots q 0 - 1) (omega arith)

  pub enter_some : (q : ℕ) → get_or slots q 0 ≢ 0 → get_or w (get_or slots q 0 - 1) 0 ≢ 0
  enter_some q n = E.sound.some q (get_or slots q 0 - 1) (omega arith)

  pub enter_grow : (q : ℕ) → get_or slots q 0 ≢ 0 → StretchGrowing (get_or w (get_or slots q 0 - 1) 0 - 1) (get_or slots q 0 - 1) rows
  enter_grow q n =
      let g = get_or slots q 0 - 1 in
      record {
        size = E.sizes.rows_all;
        number = omega (arith, enter_number q n, E.inside, E.sizes.few);
        low = omega (arith, E.sound.low g);
        gap = λ l. let y : 64 ≤ get_or w g 0 = E.sound.gap g (omega arith) in omega arith;
      }

  -- a weight is written
  module _ (k x : ℕ) (within : k < search_room) (low : x ≤ 200) (gap : 9 < x → 64 ≤ x) where
    inside_w : k < length w
    inside_w = omega (arith, E.sizes.all)

    next_sound : (slots' : List ℕ) → x ≢ 0 → ((q f : ℕ) → get_or slots' q 0 ≡ suc f → f < i + 1)
        → ((q f : ℕ) → get_or slots' q 0 ≡ suc f → f ≢ k → get_or w f 0 ≢ 0)
        → TableSound (i + 1) slots' (set w k x)
    next_sound slots' ne first some =
        record {
          first = first;
          some = λ q f e. set_at (λ (y : ℕ). y ≢ 0) w k x f inside_w (λ p. ne) (λ n. some q f e n);
          low = λ n. set_at (λ (y : ℕ). y ≤ 200) w k x n inside_w (λ e. low) (λ m. E.sound.low n);
          gap = λ n. set_at (λ (y : ℕ). 9 < y → 64 ≤ y) w k x n inside_w (λ e. gap) (λ m. E.sound.gap n);
        }

    old_sound : x ≢ 0 → TableSound (i + 1) slots (set w k x)
    old_sound ne = next_sound slots ne (λ q f e. omega (arith, E.sound.first q f e)) (λ q f e m. E.sound.some q f e)

    -- a number keeps its place where neither its weight nor its owner's is written
    module _ (slots' rows' : List ℕ) (n : ℕ) where
      keep_none : n ≢ k → slot_of slots' d (get_or d n 0) ≡ slot_count → get_or w n 0 ≡ 200 → ValuePlace gens d S slots' rows' (set w k x) n
      keep_none ne e z = inl (e, get_or-set_other w k n x 0 ne ∙ z)

      keep_held : (f : ℕ) → f ≢ k → get_or slots' (slot_of slots' d (get_or d n 0)) 0 ≡ suc f
          → (get_or w f 0 ≤ 9 → Span word (value_rows gens (get_or w f 0) f rows' ++ S) (get_or gens n 0)) → ValuePlace gens d S slots' rows' (set w k x) n
      keep_held f ne e s =
          inr
          (record {
            at = f;
            slot = e;
            spans = subst (λ (y : ℕ). y ≤ 9 → Span word (value_rows gens y f rows' ++ S) (get_or gens n 0)) (sym (get_or-set_other w k f x 0 ne)) s;
          })

      held_here : (f : ℕ) → f ≡ k → get_or slots' (slot_of slots' d (get_or d n 0)) 0 ≡ suc f
          → (x ≤ 9 → Span word (value_rows gens x f rows' ++ S) (get_or gens n 0)) → ValuePlace gens d S slots' rows' (set w k x) n
      held_here f p e s =
          inr
          (record {
            at = f;
            slot = e;
            spans = subst (λ (y : ℕ). y ≤ 9 → Span word (value_rows gens y f rows' ++ S) (get_or gens n 0))
                (sym (ap (λ (j : ℕ). get_or (set w k x) j 0) p ∙ get_or-set_same w k x 0 inside_w)) s;
          })

  in_w : i < search_room
  in_w = omega (arith, E.inside, E.sizes.few)

  in_all : i < length w
  in_all = omega (arith, E.inside, E.sizes.few, E.sizes.all)

  pub entered_none : slot_of slots d (get_or d i 0) ≡ slot_count → Entered gens d S i slots rows w slots rows (set w i 200) 200
  entered_none z =
      record {
        low = omega arith;
        sound = old_sound i 200 in_w (omega arith) (λ l. omega arith) (λ e. omega arith);
        from = λ start l F. F;
        here = inl (z, get_or-set_same w i 200 0 in_all);
        before = before;
        most = most_set w i 200 in_all;
        valued = valued_set d w i 200 in_all;
      }
    where
      before : (n : ℕ) → n < i → ValuePlace gens d S slots rows w n → ValuePlace gens d S slots rows (set w i 200) n
      before n l (inl p) = keep_none i 200 in_w (omega arith) (λ g. omega arith) slots rows n (λ e. omega arith) p.0 p.1
      before n l (inr H) =
          keep_held i 200 in_w (omega arith) (λ g. omega arith) slots rows n H.at
          (λ e. omega (arith, E.sound.first (slot_of slots d (get_or d n 0)) H.at H.slot)) H.slot H.spans

  pub entered_first : (q : ℕ) → q ≡ slot_of slots d (get_or d i 0) → q ≤ slot_count → q ≢ slot_count → get_or slots q 0 ≡ 0
      → Entered gens d S i slots rows w (set slots q (i + 1)) rows (set w i 1) 1
  entered_first q e l ne z =
      record {
        low = omega arith;
        sound = next_sound i 1 in_w (omega arith) (λ g. absurd (omega arith)) (set slots q (i + 1)) (λ g. omega arith) first some;
        from = λ start a F.
            record { on = λ p f. set_at (λ (y : ℕ). y ≡ suc f → start ≤ f) slots q (i + 1) p within (λ g h. omega arith) (λ g h. F.on p f h) };
        here = held_here i 1 in_w (omega arith) (λ g. absurd (omega arith)) (set slots q (i + 1)) rows i i refl own (λ g. span_head word (get_or gens i 0) S);
        before = before;
        most = most_set w i 1 in_all;
        valued = valued_set d w i 1 in_all;
      }
    where
      within : q < length slots
      within = omega (arith, E.sizes.slots_all)

      first : (p f : ℕ) → get_or (set slots q (i + 1)) p 0 ≡ suc f → f < i + 1
      first p f = set_at (λ (y : ℕ). y ≡ suc f → f < i + 1) slots q (i + 1) p within (λ g h. omega arith) (λ g h. omega (arith, E.sound.first p f h))

      some : (p f : ℕ) → get_or (set slots q (i + 1)) p 0 ≡ suc f → f ≢ i → get_or w f 0 ≢ 0
      some p f =
          set_at (λ (y : ℕ). y ≡ suc f → f ≢ i → get_or w f 0 ≢ 0) slots q (i + 1) p within (λ g h m. absurd (m (omega arith)))
          (λ g h m. E.sound.some p f h)

      own : get_or (set slots q (i + 1)) (slot_of (set slots q (i + 1)) d (get_or d i 0)) 0 ≡ suc i
      own =
          ap (λ (p : ℕ). get_or (set slots q (i + 1)) p 0)
          (slot_own slots q (i + 1) z d (get_or d i 0) within (omega arith) (ap (λ (k : ℕ). get_or d k 0) (let k : i + 1 - 1 ≡ i = omega arith in k)) (sym e))
          ∙ get_or-set_same slots q (i + 1) 0 within ∙ (let k : i + 1 ≡ suc i = omega arith in k)

      before : (n : ℕ) → n < i → ValuePlace gens d S slots rows w n → ValuePlace gens d S (set slots q (i + 1)) rows (set w i 1) n
      before n a (inl p) =
          let v = get_or d n 0 in
          keep_none i 1 in_w (omega arith) (λ g. absurd (omega arith)) (set slots q (i + 1)) rows n (λ g. omega arith)
          (slot_kept slots q (i + 1) z d v (λ b. absurd (let y : slot_of slots d v ≡ slot_count = p.0 in omega arith)) ∙ p.0) p.1
      before n a (inr H) =
          let v = get_or d n 0 in
          let u : get_or slots (slot_of slots d v) 0 ≢ 0 = used (get_or slots (slot_of slots d v) 0) H.at H.slot in
          keep_held i 1 in_w (omega arith) (λ g. absurd (omega arith)) (set slots q (i + 1)) rows n H.at
          (λ g. omega (arith, E.sound.first (slot_of slots d v) H.at H.slot))
          (ap (λ (p : ℕ). get_or (set slots q (i + 1)) p 0) (slot_kept slots q (i + 1) z d v (λ b. u)) ∙ apart slots q (i + 1) z (slot_of slots d v) u ∙ H.slot)
          H.spans

  pub entered_more : (q g m : ℕ) → q ≡ slot_of slots d (get_or d i 0) → get_or slots q 0 ≡ suc g → get_or w g 0 ≡ suc m → (rows' : List ℕ) (r : ℕ)
      → StretchGrown S (bit_xor (get_or gens i 0) (get_or gens g 0)) m g rows rows' r → (x : ℕ) → x ≡ suc r
      → Entered gens d S i slots rows w slots rows' (set w g x) x
  entered_more q g m e o u rows' r G x xe =
      record {
        low = low;
        sound = old_sound g x small low gap (λ z. omega arith);
        from = λ start l F. F;
        here = held_here g x small low gap slots rows' i g refl (ap (λ (p : ℕ). get_or slots p 0) (sym e) ∙ o) here;
        before = before;
        most = most_set w g x (omega (arith, small, E.sizes.all));
        valued = λ ne. valued_set d w g x (omega (arith, small, E.sizes.all)) (λ z. ne (sym own ∙ z));
      }
    where
      early : g < i
      early = E.sound.first q g o

      small : g < search_room
      small = omega (arith, early, in_w)

      low : x ≤ 200
      low = omega (arith, xe, G.low)

      gap : 9 < x → 64 ≤ x
      gap l = let y : 63 ≤ r = G.gap (omega arith) in omega arith

      -- the rows of the value, now
      up : (u : ℕ) → Span word (get_or gens g 0 ∷ stretch r g rows' ++ S) u → Span word (value_rows gens x g rows' ++ S) u
      up u s = subst (λ (y : ℕ). Span word (value_rows gens y g rows' ++ S) u) (sym xe) s

      here : x ≤ 9 → Span word (value_rows gens x g rows' ++ S) (get_or gens i 0)
      here l =
          up (get_or gens i 0)
          (span_rest word (xor_comm (get_or gens i 0) (get_or gens g 0)) (span_head word (get_or gens g 0) (stretch r g rows' ++ S))
          (span_weak word (G.holds (omega arith))))

      keep : x ≤ 9 → (v : ℕ) → Span word (value_rows gens (get_or w g 0) g rows ++ S) v → Span word (value_rows gens x g rows' ++ S) v
      keep l v s =
          let t : Span word (get_or gens g 0 ∷ stretch m g rows ++ S) v = subst (λ (y : ℕ). Span word (value_rows gens y g rows ++ S) v) u s in
          let p = span_uncons word t in
          up v (cast word p.3 (span_cons word p.0 (G.keeps (omega arith) p.1 p.2)))

      -- the rows of another
      others : (f : ℕ) → f ≢ g → (y : ℕ) → y ≤ 9 → value_rows gens y f rows ≡ value_rows gens y f rows'
      others f n zero l = refl
      others f n (suc y) l = ap (λ (R : List ℕ). get_or gens f 0 ∷ R) (sym (G.others f y n (omega arith)))

      own : get_or d g 0 ≡ get_or d i 0
      own = slot_owner slots d (get_or d i 0) E.sizes.slots_all g (ap (λ (y : ℕ). get_or slots y 0) (sym e) ∙ o)

      before : (n : ℕ) → n < i → ValuePlace gens d S slots rows w n → ValuePlace gens d S slots rows' (set w g x) n
      before n l (inl p) = keep_none g x small low gap slots rows' n other p.0 p.1
        where
          -- the owner has a slot
          other : n ≢ g
          other z =
              slot_below slots E.sizes.slots_all q (used (get_or slots q 0) g o)
              (e ∙ ap (slot_of slots d) (sym own ∙ ap (λ (y : ℕ). get_or d y 0) (sym z)) ∙ p.0)
      before n l (inr H) =
          either g H.at
          (λ z. held_here g x small low gap slots rows' n H.at z H.slot
          (λ k. subst (λ (y : ℕ). Span word (value_rows gens x y rows' ++ S) (get_or gens n 0)) (sym z)
          (keep k (get_or gens n 0) (subst (λ (y : ℕ). Span word (value_rows gens (get_or w y 0) y rows ++ S) (get_or gens n 0)) z
          (H.spans (subst (λ (y : ℕ). get_or w y 0 ≤ 9) (sym z) (let a : m ≤ r = G.more in omega arith)))))))
          (λ z. keep_held g x small low gap slots rows' n H.at z H.slot
          (λ k. subst (λ (R : List ℕ). Span word (R ++ S) (get_or gens n 0)) (others H.at z (get_or w H.at 0) k) (H.spans k)))
