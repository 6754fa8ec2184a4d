-- Writing from the start of a buffer.
--   filled_sets   word by word, where there is room, it comes to `filled`
--   pasted        a list pasted at the start comes to `filled`
--   take_filled, filled_length   the list stands at the start, and the buffer is as long as it was
--   at_most       what is at most one length is at most an equal one
-- Assumes nothing.
use Rattle.std.specs.Prelude.{ℕ, ◌+◌, ◌≤◌, ◌≡◌, List, ◌++◌, length, take, drop}
use Rattle.std.proofs.Common.{sym, ap, ◌∙◌, subst, arith, zero-add, length-append, length-drop}
use Rattle.std.proofs.lemmas.List.Edits.{sets, sets-eq}
use Rattle.std.proofs.Math.Seq.{paste, take-length, take-append_seam}
use Rattle.words.specs.Buffers.{filled}

pub filled_sets : (xs d : List ℕ) (n : ℕ) → length xs ≡ n → n ≤ length d → sets d 0 xs ≡ filled xs d
filled_sets xs d n e h = rw (sets-eq xs d 0 (omega arith)) (rw zero-add)

pub pasted : (xs d : List ℕ) → paste d 0 xs (length xs) ≡ filled xs d
pasted xs d = ap (λ (l : List ℕ). l ++ drop (0 + length xs) d) (take-length xs) ∙ ap (λ (n : ℕ). xs ++ drop n d) (zero-add (length xs))

pub take_filled : (n : ℕ) (xs d : List ℕ) → length xs ≡ n → take n (filled xs d) ≡ xs
take_filled n xs d e = ap (λ (k : ℕ). take k (filled xs d)) (sym e) ∙ take-append_seam xs (drop (length xs) d)

pub filled_length : (xs d : List ℕ) → length xs ≤ length d → length (filled xs d) ≡ length d
filled_length xs d h = length-append xs (drop (length xs) d) ∙ (let e = length-drop (length xs) d in omega arith)

pub at_most : {k m n : ℕ} → m ≡ k → n ≤ k → n ≤ m
at_most {n = n} e h = subst (λ (k : ℕ). n ≤ k) (sym e) h
