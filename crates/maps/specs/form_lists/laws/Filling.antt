-- What a turn of each loop does, over plain lists.
--   list_of_first                               a list that is made is its first and the rest
--   listed_none, listed_next, listed_end       writing f 0, f 1, .. from a buffer's start
-- Assumes nothing.
use Rattle.std.specs.Prelude.{◌≡◌, List, [], ◌∷◌, ◌++◌, ℕ, suc, ◌+◌, ◌-◌, ◌<◌, ◌≤◌, length, take, set}
use Rattle.std.proofs.Common.{sym, ap, ◌∙◌, append_assoc, append-nil, add-one, arith, take-suc-set}
use Rattle.maps.specs.Generators.{list_of}

-- ---- a word written behind those that stand
written : (out : List ℕ) (i x : ℕ) (rest F : List ℕ) → i < length out → take i out ++ (x ∷ rest) ≡ F → take (i + 1) (set out i x) ++ rest ≡ F
written out i x rest F h inv =
    ap (λ (l : List ℕ). l ++ rest) (ap (λ (k : ℕ). take k (set out i x)) (add-one i) ∙ take-suc-set out i x h)
    ∙ append_assoc (take i out) (x ∷ []) rest ∙ inv

pub list_of_first : (f : ℕ → ℕ) (i c : ℕ) → i < c → list_of f i (c - i) ≡ f i ∷ list_of f (i + 1) (c - (i + 1))
unfolding list_of
list_of_first f i c h =
    let e : c - i ≡ suc (c - (i + 1)) = omega arith in
    ap (list_of f i) e ∙ ap (λ (k : ℕ). f i ∷ list_of f k (c - (i + 1))) (sym (add-one i))

pub listed_none : (f : ℕ → ℕ) (c : ℕ) (out : List ℕ) → take 0 out ++ list_of f 0 (c - 0) ≡ list_of f 0 c
listed_none f c out = let e : c - 0 ≡ c = omega arith in ap (list_of f 0) e

pub listed_next : (f : ℕ → ℕ) (i c x : ℕ) (out F : List ℕ) → i < c → i < length out → x ≡ f i → take i out ++ list_of f i (c - i) ≡ F
    → take (i + 1) (set out i x) ++ list_of f (i + 1) (c - (i + 1)) ≡ F
listed_next f i c x out F h k e inv =
    written out i x (list_of f (i + 1) (c - (i + 1))) F k
    (ap (λ (y : ℕ). take i out ++ (y ∷ list_of f (i + 1) (c - (i + 1)))) e ∙ ap (λ (l : List ℕ). take i out ++ l) (sym (list_of_first f i c h)) ∙ inv)

pub listed_end : (f : ℕ → ℕ) (i c : ℕ) (out F : List ℕ) → i ≤ c → c ≤ i → take i out ++ list_of f i (c - i) ≡ F → take c out ≡ F
unfolding list_of
listed_end f i c out F h k inv =
    let e : c - i ≡ 0 = omega arith in
    let s : c ≡ i = omega arith in
    ap (λ (k : ℕ). take k out) s ∙ sym (append-nil (take i out)) ∙ sym (ap (λ (k : ℕ). take i out ++ list_of f i k) e) ∙ inv
