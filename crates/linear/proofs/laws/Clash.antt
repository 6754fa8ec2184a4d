-- Two with the same key among many, and the lists of at most two numbers.
-- What they are is in specs/laws/Clash.
--   clash              a list whose keys are members of a shorter list has two with the same key
--   near_count         how many lists of at most two numbers there are; near_mem: what each of them is
-- Assumes nothing.
use Rattle.std.specs.Prelude.{◌≡◌, refl, ◌≢◌, ◌⊎◌, ℕ, suc, ◌+◌, ◌*◌, ◌<◌, ◌≤◌, length}
use Rattle.std.proofs.Common.{sym, ap, inl, inr, suc-mul, mul-suc, arith, length-append}
use mathlib.Core.List.Memᴰ
use mathlib.Core.List.{List, [], ◌∷◌, ◌++◌, map, Memᴰ}
use Rattle.std.proofs.lemmas.List.{length-map}
use Rattle.linear.specs.Order.{Rising}
use Rattle.linear.specs.laws.Span.{mem_cons}
use Rattle.linear.proofs.laws.Order.{rising_from, rising_mem, mem_map_inv, mem_append}
use Rattle.linear.proofs.laws.Heavy.{xs}
use Rattle.linear.specs.laws.Clash.{Clash, Twins, near, Near}

-- ---- two with the same key
-- a list without one of its members has one less, and all that are other than it
take_out : {B : Type 0} {x : B} {l : List B} → Memᴰ x l
    → (r : List B) × (length l ≡ suc (length r)) × ((y : B) → Memᴰ y l → y ≢ x → Memᴰ y r)
take_out {B} {x} (Memᴰ.head {x = z} {xs = l} e) =
    (l, refl, mem_cons {P = λ y. y ≢ x → Memᴰ y l} (λ n. absurd (n (sym e))) (λ y m n. m))
take_out {B} {x} (Memᴰ.tail {x = z} {xs = l} m) =
    let r = take_out m in
    (z ∷ r.0, ap suc r.1, mem_cons {P = λ y. y ≢ x → Memᴰ y (z ∷ r.0)} (λ n. Memᴰ.head refl) (λ y k n. Memᴰ.tail (r.2 y k n)))

module _ {A B : Type 0} (key : A → B) (dec : (x y : B) → Dec (x ≡ y)) where
  seek : (x : B) (L : List A) → ((b : A) × Memᴰ b L × (x ≡ key b)) ⊎ ((b : A) → Memᴰ b L → x ≢ key b)
  seek x [] = inr (λ b m. absurd (Memᴰ.not-nil m))
  seek x (a ∷ L) = go (dec x (key a)) (seek x L)
    where
      go : Dec (x ≡ key a) → ((b : A) × Memᴰ b L × (x ≡ key b)) ⊎ ((b : A) → Memᴰ b L → x ≢ key b)
          → ((b : A) × Memᴰ b (a ∷ L) × (x ≡ key b)) ⊎ ((b : A) → Memᴰ b (a ∷ L) → x ≢ key b)
      go (yes e) r = inl (a, Memᴰ.head refl, e)
      go (no n) (inl (b, m, e)) = inl (b, Memᴰ.tail m, e)
      go (no n) (inr f) = inr (mem_cons {P = λ b. x ≢ key b} n f)

  pub clash : (L : List A) (keys : List B) → ((a : A) → Memᴰ a L → Memᴰ (key a) keys) → length keys < length L → Clash key L
  clash [] keys h l = absurd (omega arith)
  clash (a ∷ L) keys h l = go (seek (key a) L) (λ r f k. clash L r f k)
    where
      go : ((b : A) × Memᴰ b L × (key a ≡ key b)) ⊎ ((b : A) → Memᴰ b L → key a ≢ key b)
          → ((r : List B) → ((b : A) → Memᴰ b L → Memᴰ (key b) r) → length r < length L → Clash key L)
          → ((b : A) × Memᴰ b L × (key a ≡ key b)) ⊎ Clash key L
      go (inl r) ih = inl r
      go (inr f) ih =
          let t = take_out (h a (Memᴰ.head refl)) in
          let q : length keys ≡ suc (length t.0) = t.1 in
          inr (ih t.0 (λ b m. t.2 (key b) (h b (Memᴰ.tail m)) (λ e. f b m (sym e))) (omega arith))

pub clash_append : {A B : Type 0} (key : A → B) (xs ys : List A) → Clash key (xs ++ ys)
    → Clash key xs ⊎ ((a : A) × (b : A) × Memᴰ a xs × Memᴰ b ys × (key a ≡ key b)) ⊎ Clash key ys
clash_append key [] ys c = inr (inr c)
clash_append {A} key (x ∷ xs) ys c = go c (clash_append key xs ys)
  where
    Cross : List A → Type 0
    Cross l = (a : A) × (b : A) × Memᴰ a l × Memᴰ b ys × (key a ≡ key b)

    at : (b : A) → Memᴰ b (xs ++ ys) → key x ≡ key b → Clash key (x ∷ xs) ⊎ Cross (x ∷ xs) ⊎ Clash key ys
    at = mem_append (λ b. key x ≡ key b → Clash key (x ∷ xs) ⊎ Cross (x ∷ xs) ⊎ Clash key ys) xs (λ b m e. inl (inl (b, m, e)))
        (λ b m e. inr (inl (x, b, Memᴰ.head refl, m, e)))

    up : Clash key xs ⊎ Cross xs ⊎ Clash key ys → Clash key (x ∷ xs) ⊎ Cross (x ∷ xs) ⊎ Clash key ys
    up (inl k) = inl (inr k)
    up (inr (inl (a, b, m, n, e))) = inr (inl (a, b, Memᴰ.tail m, n, e))
    up (inr (inr k)) = inr (inr k)

    go : ((b : A) × Memᴰ b (xs ++ ys) × (key x ≡ key b)) ⊎ Clash key (xs ++ ys)
        → (Clash key (xs ++ ys) → Clash key xs ⊎ Cross xs ⊎ Clash key ys) → Clash key (x ∷ xs) ⊎ Cross (x ∷ xs) ⊎ Clash key ys
    go (inl (b, m, e)) ih = at b m e
    go (inr k) ih = up (ih k)

pub clash_rising : {A B : Type 0} (key : A → B) (f : ℕ → A) (lo hi : ℕ) (es : List ℕ) → Rising lo hi es → Clash key (map f es) → Twins key f lo hi es
clash_rising key f lo hi [] r c = absurd c
clash_rising {A} {B} key f lo hi (e ∷ es) r c = go c (clash_rising key f (suc e) hi es r.2)
  where
    first : (g : ℕ) → Memᴰ g es → key (f e) ≡ key (f g) → Twins key f lo hi (e ∷ es)
    first g m q =
        let b = rising_mem (suc e) hi es r.2 g m in
        record {
          one = e;
          other = g;
          from = r.0;
          less = b.0;
          below = b.1;
          one_in = Memᴰ.head refl;
          other_in = Memᴰ.tail m;
          same = q;
        }

    go : ((b : A) × Memᴰ b (map f es) × (key (f e) ≡ key b)) ⊎ Clash key (map f es) → (Clash key (map f es) → Twins key f (suc e) hi es)
        → Twins key f lo hi (e ∷ es)
    go (inl (b, m, q)) ih = mem_map_inv f (λ b. key (f e) ≡ key b → Twins key f lo hi (e ∷ es)) es first b m q
    go (inr k) ih =
        let t = ih k in
        record {
          one = t.one;
          other = t.other;
          from = (let a : suc e ≤ t.one = t.from in let b : lo ≤ e = r.0 in omega arith);
          less = t.less;
          below = t.below;
          one_in = Memᴰ.tail t.one_in;
          other_in = Memᴰ.tail t.other_in;
          same = t.same;
        }

-- ---- the lists of at most two numbers
pub near_count : (es : List ℕ) → 2 * length (near es) ≡ 2 + length es * (length es + 1)
unfolding near
near_count [] = refl
near_count (e ∷ es) =
    let c : ℕ = length es in
    let p : ℕ → List ℕ = λ f. e ∷ f ∷ [] in
    let z : suc c + 1 ≡ suc (c + 1) = omega arith in
    omega (
      arith,
      length-append (map p es) (near es),
      length-map es p,
      suc-mul c (suc c + 1),
      ap (λ (n : ℕ). c * n) z,
      mul-suc c (c + 1),
      near_count es,
    )

pub near_mem : (lo hi : ℕ) (es : List ℕ) → Rising lo hi es → (b : List ℕ) → Memᴰ b (near es) → Near lo hi es b
unfolding near
near_mem lo hi [] r =
    mem_cons {P = Near lo hi []} (record { rising = tt; own = λ x m. m; few = omega arith }) (λ b m. absurd (Memᴰ.not-nil m))
near_mem lo hi (e ∷ es) r =
    mem_cons {P = Near lo hi (e ∷ es)}
    (record { rising = (r.0, r.1, tt); own = mem_cons {P = In} (Memᴰ.head refl) (λ x m. absurd (Memᴰ.not-nil m)); few = omega arith })
    (mem_append (Near lo hi (e ∷ es)) (map (λ f. e ∷ f ∷ []) es) (mem_map_inv (λ f. e ∷ f ∷ []) (Near lo hi (e ∷ es)) es pair)
    (λ b m. up b (near_mem (suc e) hi es r.2 b m)))
  where
    In : ℕ → Type 0
    In x = Memᴰ x (e ∷ es)

    pair : (f : ℕ) → Memᴰ f es → Near lo hi (e ∷ es) (e ∷ f ∷ [])
    pair f m =
        let b = rising_mem (suc e) hi es r.2 f m in
        record {
          rising = (r.0, r.1, (b.0, b.1, tt));
          own = mem_cons {P = In} (Memᴰ.head refl) (mem_cons {P = In} (Memᴰ.tail m) (λ x k. absurd (Memᴰ.not-nil k)));
          few = omega arith;
        }

    up : (b : List ℕ) → Near (suc e) hi es b → Near lo hi (e ∷ es) b
    up b N =
        let a : lo ≤ e = r.0 in
        record { rising = rising_from lo (suc e) hi b (omega arith) N.rising; own = λ x m. Memᴰ.tail (N.own x m); few = N.few }
