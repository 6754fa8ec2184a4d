-- The lines of a listing, entry by entry.
--   lines_are   lines of records that stand in a buffer one after the other
-- Assumes nothing.
use Rattle.std.specs.Prelude.{◌≡◌, length, drop, get_or}
use Rattle.std.proofs.Math.Path.{refl, ap, ap₂}
use Rattle.std.proofs.Common.{sym, ◌∙◌, take-append-drop, take_at, drop_at, drop-drop}
use mathlib.Core.List.{List, [], ◌∷◌, ◌++◌, append_assoc}
use Prim.Native.Nat.{ℕ, zero, suc, ◌+◌, ◌*◌, ◌<◌}
use native.Mathlib.Omega.{arith}
use Rattle.std.proofs.Math.ListN.{take}
use Rattle.printing.specs.record_lines.RecordLines.{record_lines}
use Rattle.programs.specs.meaning.Lines.{lines_of}

module _ (d k : ℕ) (buf : List ℕ) where
  -- a record at m, cut in two
  cut : (m : ℕ) (es W : List ℕ) → length es ≡ d → length W ≡ k → take (d + k) (drop m buf) ≡ es ++ W → (take d (drop m buf) ≡ es) × (take k (drop (m + d) buf) ≡ W)
  cut m es W a b e =
      let R : List ℕ = drop (d + k) (drop m buf) in
      let q : drop m buf ≡ es ++ (W ++ R) = sym (take-append-drop (d + k) (drop m buf)) ∙ ap (λ (x : List ℕ). x ++ R) e ∙ append_assoc es W R in (
        ap (take d) q ∙ take_at es (W ++ R) d a,
        ap (take k) (sym (drop-drop d m buf) ∙ ap (drop d) q ∙ drop_at es (W ++ R) d a) ∙ take_at W R k b,
      )

  -- the record of a member of l at its place, counted from i
  abbrev pub Stands : (List ℕ → List ℕ) → List (List ℕ) → ℕ → Type 0
  Stands f l i = (j : ℕ) → j < length l → (length (get_or l j []) ≡ d) × (length (f (get_or l j [])) ≡ k) × (take (d + k) (drop ((i + j) * (d + k)) buf) ≡ get_or l j [] ++ f (get_or l j []))

  pub lines_are : (line : ℕ → List ℕ → List ℕ → List ℕ) (f : List ℕ → List ℕ) (l : List (List ℕ)) (i : ℕ) → Stands f l i
      → record_lines line d k i (length l) buf ≡ lines_of line f i l
  unfolding record_lines lines_of
  lines_are line f [] i h = refl
  lines_are line f (es ∷ l) i h =
      let s = h 0 (omega arith) in
      let c = cut (i * (d + k)) es (f es) s.0 s.1 (ap (λ (n : ℕ). take (d + k) (drop (n * (d + k)) buf)) (let z : i ≡ i + 0 = omega arith in z) ∙ s.2) in
      ap₂ ◌++◌ (ap₂ (line i) c.0 c.1)
      (lines_are line f l (suc i) λ j m.
      let t = h (suc j) (omega arith) in
      (t.0, t.1, ap (λ (n : ℕ). take (d + k) (drop (n * (d + k)) buf)) (let z : suc i + j ≡ i + suc j = omega arith in z) ∙ t.2))
