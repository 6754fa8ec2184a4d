-- One number pushed, and one entry kept.
-- pushed: the chain with one number more. chain_length: how many numbers it has.
-- lengths_fit, record-length: the length of the entry's record. written: its numbers and its rows, written one after the other.
-- Assumes nothing.
use mathlib.Core.Path.{◌≡◌, refl, sym, ap, ap₂, ◌∙◌}
use mathlib.Core.List.{List, ◌++◌, append_assoc}
use Prim.Native.Nat.{ℕ, ◌+◌, ◌<◌, ◌≤◌}
use mir.Syntax.{w64}
use mir.Val.{Fits}
use native.Mathlib.Omega.{arith}
use native.Mathlib.Numerals.{add-one}
use lib.ListN.{length, take, drop, set, length-append, length-set}
use lib.Seq.{paste, take-paste, drop-paste, take-length, drop-drop, take-suc-set, length-take-le}
use Rattle.bases.specs.Basis.{rows_of, rows_length}
use Rattle.bases.specs.declared.Basis.{Basis}
use Rattle.records.specs.declared.Chain.{Chain}
use Rattle.records.specs.declared.Tally.{Tally}
use Rattle.records.specs.Keep.{chain_of, Tidy, Pushed, EntryKeeping}

pub pushed : (c : Chain) (j m : ℕ) → Tidy c m → 0 < m → Pushed c j (record { numbers = set c.numbers c.len j; len = c.len + 1 })
pushed c j m T h =
    record {
      whole = length-set c.numbers c.len j ∙ T.whole;
      more = refl;
      is = ap (λ (k : ℕ). take k (set c.numbers c.len j)) (add-one c.len) ∙ take-suc-set c.numbers c.len j (omega (arith, T.whole, T.room));
    }

pub chain_length : (c : Chain) (m : ℕ) → Tidy c m → length (chain_of c) ≡ c.len
chain_length c m T = length-take-le c.len c.numbers (omega (arith, T.whole, T.room))

module _ {b : Basis} {c : Chain} {t : Tally} {limit : ℕ} {out : List ℕ} (K : EntryKeeping b c t limit out) where
  pub lengths_fit : Fits w64 (c.len + b.len)
  lengths_fit = record { fits = omega (arith, K.tidy.room, K.valid.room) }

  pub record_length_law : length (chain_of c ++ rows_of b) ≡ c.len + b.len
  record_length_law = length-append (chain_of c) (rows_of b) ∙ ap₂ ◌+◌ (chain_length c 0 K.tidy) (rows_length b K.valid)

paste_paste : (d : List ℕ) (at : ℕ) (p q : List ℕ) → at + length p ≤ length d
    → paste (paste d at p (length p)) (at + length p) q (length q) ≡ paste d at (p ++ q) (length (p ++ q))
paste_paste d at p q h =
    ap₂ (λ (x y : List ℕ). x ++ take (length q) q ++ y)
    (take-paste d at p (length p) (omega arith) (omega arith) ∙ ap (λ (x : List ℕ). take at d ++ x) (take-length p))
    (sym (drop-drop (length q) (at + length p) (paste d at p (length p))) ∙ ap (drop (length q))
    (drop-paste d at p (length p) (omega arith) (omega arith)) ∙ drop-drop (length q) (at + length p) d)
    ∙ ap (λ (x : List ℕ). take at d ++ p ++ x ++ drop (at + length p + length q) d) (take-length q)
    ∙ ap₂ (λ (x : List ℕ) (n : ℕ). x ++ drop n d) (append_assoc (take at d) p q ∙ ap (λ (x : List ℕ). take at d ++ x) (sym (take-length (p ++ q))))
    (let e : at + length p + length q ≡ at + length (p ++ q) = omega (arith, length-append p q) in e)

-- the numbers written, then the rows
pub written : (d : List ℕ) (at : ℕ) (p q : List ℕ) (cl size : ℕ) (mid last : List ℕ) → length p ≡ cl → length (p ++ q) ≡ size → at + size ≤ length d
    → mid ≡ paste d at p (length p) → last ≡ paste mid (at + cl) q (length q) → last ≡ paste d at (p ++ q) size
written d at p q cl size mid last ec es h em el =
    el ∙ ap₂ (λ (x : List ℕ) (y : ℕ). paste x (at + y) q (length q)) em (sym ec) ∙ paste_paste d at p q (omega (arith, es, h, length-append p q))
    ∙ ap (paste d at (p ++ q)) es
