-- Lists written into a buffer.
--   Writing f xs before at after i == the values of f at the first i of xs stand in the buffer, from place `at` on
--   record_written                 the record of a formula, its numbers written first and then its rows
-- Assumes nothing.
use Rattle.std.specs.Prelude.{◌≡◌, refl, List, ◌++◌, map, ℕ, suc, ◌+◌, ◌<◌, ◌≤◌, length, get_or, take, drop, set}
use Rattle.std.proofs.Common.{sym, ap, ap₂, ◌∙◌, append_assoc, arith, length-append, length-set, length-take-le, drop-drop, zero-add}
use Rattle.std.proofs.lemmas.List.{length-map}
use Rattle.std.proofs.Math.ListN.{get_or-map}
use Rattle.std.proofs.lemmas.List.Edits.{take-paste, drop-paste}
use Rattle.std.proofs.Math.Seq.{take-length, paste, paste-zero, paste-suc}
use Rattle.words.specs.Buffers.{filled}
use Rattle.bases.specs.rows.Rows.{row_of}
use Rattle.choices.specs.declared.Choice.{Choice}
use Rattle.choices.specs.Choice.{numbers_of, forms_of, Whole, record_of}

-- ---- values of a function, written one after the other
module _ (f : ℕ → ℕ) (xs before : List ℕ) (at : ℕ) where
  pub record Writing (after : List ℕ) (i : ℕ) : Type 0 where
    pub within : i ≤ length xs
    pub same : length after ≡ length before
    pub is : after ≡ paste before at (map f xs) i

  pub writing_start : Writing before 0
  writing_start = record { within = omega arith; same = refl; is = paste-zero before at (map f xs) }

  pub writing_next : (after : List ℕ) (i v : ℕ) → Writing after i → i < length xs → at + length xs ≤ length before → v ≡ f (get_or xs i 0) → Writing (set after (at + i) v) (i + 1)
  writing_next after i v W l h e =
      record {
        within = omega arith;
        same = length-set after (at + i) v ∙ W.same;
        is =
            ap (λ (y : ℕ). set after (at + i) y) (e ∙ there) ∙ ap (λ (a : List ℕ). set a (at + i) (get_or (map f xs) i (f 0))) W.is
            ∙ paste-suc before at (map f xs) i (f 0) (omega arith) (omega (arith, length-map xs f)) ∙ ap (paste before at (map f xs)) (let z : suc i ≡ i + 1 = omega arith in z);
      }
    where
      there : f (get_or xs i 0) ≡ get_or (map f xs) i (f 0)
      there = sym (get_or-map f xs i 0)

  pub writing_end : (after : List ℕ) (i : ℕ) → Writing after i → length xs ≤ i → after ≡ paste before at (map f xs) (length xs)
  writing_end after i W l = W.is ∙ ap (paste before at (map f xs)) (let a = W.within in let e : i ≡ length xs = omega arith in e)

-- ---- two lists written one after the other
pub two_written : (xs ys d : List ℕ) (at u : ℕ) → u ≡ length ys → at + (length xs + u) ≤ length d
    → paste (paste d at xs (length xs)) (at + length xs) ys u ≡ paste d at (xs ++ ys) (length xs + u)
two_written xs ys d at u e h =
    ap₂ (λ (a b : List ℕ). a ++ take u ys ++ b) (take-paste d at xs (length xs) (omega arith) (omega arith))
    (sym (drop-drop u (at + length xs) (paste d at xs (length xs))) ∙ ap (drop u) (drop-paste d at xs (length xs) (omega arith) (omega arith)) ∙ drop-drop u (at + length xs) d)
    ∙ ap₂ (λ (a : List ℕ) (n : ℕ). a ++ drop n d) inner (let z : at + length xs + u ≡ at + (length xs + u) = omega arith in z)
  where
    whole : take (length xs + u) (xs ++ ys) ≡ xs ++ ys
    whole = ap (λ (n : ℕ). take n (xs ++ ys)) (let z : length xs + u ≡ length (xs ++ ys) = omega (arith, e, length-append xs ys) in z) ∙ take-length (xs ++ ys)

    inner : (take at d ++ take (length xs) xs) ++ take u ys ≡ take at d ++ take (length xs + u) (xs ++ ys)
    inner =
        append_assoc (take at d) (take (length xs) xs) (take u ys)
        ∙ ap (λ (r : List ℕ). take at d ++ r) (ap₂ ◌++◌ (take-length xs) (ap (λ (n : ℕ). take n ys) e ∙ take-length ys) ∙ sym whole)

pub numbers_length : (c : Choice) → Whole c → c.len ≡ length (numbers_of c)
numbers_length c W = sym (length-take-le c.len c.numbers (let a = W.room in let b = W.numbers in omega arith))

pub forms_length : (c : Choice) → Whole c → c.len ≡ length (forms_of c)
forms_length c W = sym (length-take-le c.len c.forms (let a = W.room in let b = W.forms in omega arith))

pub record_written : (c : Choice) (targets d after last : List ℕ) (at : ℕ) → Whole c → at + (c.len + length targets) ≤ length d → after ≡ paste d at (numbers_of c) (length (numbers_of c))
    → last ≡ paste after (at + c.len) (map (row_of (forms_of c)) targets) (length targets) → last ≡ paste d at (record_of c targets) (c.len + length targets)
record_written c targets d after last at W h e f =
    f ∙ ap₂ (λ (a : List ℕ) (n : ℕ). paste a (at + n) (map (row_of (forms_of c)) targets) (length targets)) e (numbers_length c W)
    ∙ two_written (numbers_of c) (map (row_of (forms_of c)) targets) d at (length targets) (sym (length-map targets (row_of (forms_of c)))) (omega (arith, h, numbers_length c W))
    ∙ ap (λ (n : ℕ). paste d at (record_of c targets) (n + length targets)) (sym (numbers_length c W))

-- from the start of the buffer
pub written_first : (xs d : List ℕ) (n : ℕ) → n ≡ length xs → paste d 0 xs n ≡ filled xs d
written_first xs d n e = ap (λ (k : ℕ). paste d 0 xs k) e ∙ ap₂ (λ (a b : List ℕ). a ++ b) (take-length xs) (ap (λ (k : ℕ). drop k d) (zero-add (length xs)))
