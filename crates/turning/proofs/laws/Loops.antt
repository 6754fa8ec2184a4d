-- What a turn of each loop does, over plain lists.
--   map_list                       the values of a function at the members of a list, as a list made of a function
--   Put, put_start, put_next, put_end   writing f 0, f 1, .. from a buffer's start
--   zero_any                       looking for a zero among them
-- Assumes nothing.
use Rattle.std.specs.Prelude.{◌≡◌, Bool, ◌||◌, List, [], ◌∷◌, ◌++◌, map, ℕ, zero, suc, ◌+◌, ◌<◌, ◌≤◌, length, get_or, drop, set, eqb}
use Rattle.std.proofs.Math.Path.{refl}
use Rattle.std.proofs.Common.{sym, ap, ap₂, ◌∙◌, append_assoc, add-one, add-zero, add-suc, suc-add, zero-add, arith, length-set}
use Rattle.std.proofs.lemmas.List.{set_at}
use Rattle.std.specs.List.{list_any, range_with_len}
use Rattle.words.specs.Masks.{zero_in}
use Rattle.words.specs.Buffers.{filled}
use Rattle.words.specs.laws.Scan.{next}
use Rattle.maps.specs.Generators.{list_of, length_list_of}

-- ---- lists made of a function
list_of_last : (f : ℕ → ℕ) (i c : ℕ) → list_of f i (suc c) ≡ list_of f i c ++ (f (i + c) ∷ [])
unfolding list_of
list_of_last f i zero = ap (λ (x : ℕ). f x ∷ []) (sym (add-zero i))
list_of_last f i (suc c) =
    ap (λ (l : List ℕ). f i ∷ l) (list_of_last f (suc i) c ∙ ap (λ (x : ℕ). list_of f (suc i) c ++ (f x ∷ [])) (suc-add i c ∙ sym (add-suc i c)))

list_of_shift : (f : ℕ → ℕ) (i c : ℕ) → list_of (λ l. f (suc l)) i c ≡ list_of f (suc i) c
unfolding list_of
list_of_shift f i zero = refl
list_of_shift f i (suc c) = ap (λ (l : List ℕ). f (suc i) ∷ l) (list_of_shift f (suc i) c)

pub map_list : (f : ℕ → ℕ) (xs : List ℕ) → map f xs ≡ list_of (λ l. f (get_or xs l 0)) 0 (length xs)
unfolding list_of
map_list f [] = refl
map_list f (x ∷ xs) = ap (λ (l : List ℕ). f x ∷ l) (map_list f xs ∙ list_of_shift (λ l. f (get_or (x ∷ xs) l 0)) 0 (length xs))

-- ---- written from a buffer's start: the first i of c words stand there, and the rest is as it was
module _ (f : ℕ → ℕ) (c : ℕ) (before : List ℕ) where
  pub record Put (after : List ℕ) (i : ℕ) : Type 0 where
    pub within : i ≤ c
    pub kept : length after ≡ length before
    pub is : after ≡ list_of f 0 i ++ drop i before

  pub put_start : Put before 0
  unfolding list_of
  put_start = record { within = omega arith; kept = refl; is = refl }

  pub put_next : (after : List ℕ) (i x : ℕ) → Put after i → i < c → c ≤ length before → x ≡ f i → Put (set after i x) (i + 1)
  put_next after i x P h room e =
      record {
        within = omega arith;
        kept = length-set after i x ∙ P.kept;
        is =
            ap₂ (λ (l : List ℕ) (y : ℕ). set l i y) (P.is ∙ ap (λ (l : List ℕ). list_of f 0 i ++ l) (next before i (omega arith))) e
            ∙ set_at (list_of f 0 i) (get_or before i 0) (drop (i + 1) before) (f i) i (length_list_of f 0 i)
            ∙ sym (append_assoc (list_of f 0 i) (f i ∷ []) (drop (i + 1) before)) ∙ ap (λ (l : List ℕ). l ++ drop (i + 1) before) (sym last);
      }
    where
      last : list_of f 0 (i + 1) ≡ list_of f 0 i ++ (f i ∷ [])
      last = ap (list_of f 0) (add-one i) ∙ list_of_last f 0 i ∙ ap (λ (x : ℕ). list_of f 0 i ++ (f x ∷ [])) (zero-add i)

  pub put_end : (after : List ℕ) (i : ℕ) → Put after i → c ≤ i → after ≡ filled (list_of f 0 c) before
  put_end after i P h =
      P.is ∙ ap (λ (n : ℕ). list_of f 0 n ++ drop n before) (let w = P.within in let e : i ≡ c = omega arith in e)
      ∙ ap (λ (n : ℕ). list_of f 0 c ++ drop n before) (sym (length_list_of f 0 c))

-- ---- a zero among them
pub zero_any : (f : ℕ → ℕ) (i c : ℕ) → list_any (λ l. eqb (f l) 0) (range_with_len i c) ≡ zero_in (list_of f i c)
unfolding zero_in list_of
zero_any f i zero = refl
zero_any f i (suc c) =
    ap (λ (b : Bool). eqb (f i) 0 || b) (ap (λ (k : ℕ). list_any (λ l. eqb (f l) 0) (range_with_len k c)) (add-one i) ∙ zero_any f (suc i) c)
