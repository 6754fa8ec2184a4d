-- rows_of b == the rows in use of the record b
-- most_rows == the most rows of a basis
-- Valid b == b holds a reduced basis: 64 words, at most 64 rows in use, 0 in every word after them, rows below 2 ^ 64, and reduced
-- Holds B b == b is valid and its rows are B
-- held B == the record with the rows B
-- rows-length: a valid record has as many rows as its count says.
-- based-dim: a record that holds the basis of some vectors counts their dimension.
-- contains-iff: the test `inside` on the rows of a valid record is true exactly if the vector is in their span.
-- holds_held, held-holds: a record that holds B is held B, and held B holds B if B is reduced and its rows are below 2 ^ 64. So there is one
-- record for each basis.
-- Assumes nothing.
use Rattle.std.specs.Prelude.{◌≡◌, ◌↔◌, true, List, ◌++◌, ℕ, ◌-◌, ◌≤◌, take, drop, replicate}
use Rattle.std.proofs.Math.Path.{sym, ap}
use Rattle.std.proofs.Common.{ap₂, ◌∙◌, subst, arith, length-append, take-append-drop, length-take-le}
use Rattle.std.proofs.Math.ListN.{length}
use Rattle.std.proofs.lemmas.List.{length-replicate}
use Rattle.std.proofs.Math.Seq.{drop-append_seam, take-append_seam}
use Rattle.linear.specs.Basis.{Reduced, basis_of, dim}
use Rattle.linear.specs.Entry.{inside}
use Rattle.linear.specs.Span.{Span}
use Rattle.linear.specs.Word.{word, Below}
use Rattle.linear.proofs.laws.Entry.{inside_yes, yes_inside}
use Rattle.linear.proofs.laws.Word.{at_most}
use Rattle.bases.specs.declared.Basis.{Basis}

-- document 01: "That basis is a record of at most 64 rows and their number"
abbrev pub most_rows : ℕ
most_rows = 64

abbrev pub rows_of : Basis → List ℕ
rows_of b = take b.len b.rows

pub record Valid (b : Basis) : Type 0 where
  pub whole : length b.rows ≡ most_rows
  pub room : b.len ≤ most_rows
  pub rest : drop b.len b.rows ≡ replicate (most_rows - b.len) 0
  pub words : (Below 64) (rows_of b)
  pub reduced : Reduced word (rows_of b)

pub record Holds (B : List ℕ) (b : Basis) : Type 0 where
  pub valid : Valid b
  pub is : rows_of b ≡ B

unfoldable pub held : List ℕ → Basis
held B = record { rows = B ++ replicate (most_rows - length B) 0; len = length B }

pub rows_length : (b : Basis) → Valid b → length (rows_of b) ≡ b.len
rows_length b G = length-take-le b.len b.rows (omega (arith, G.whole, G.room))

pub based_dim : (xs : List ℕ) (b : Basis) → Holds (basis_of word xs) b → b.len ≡ dim word xs
based_dim xs b B = unfold dim in sym (rows_length b B.valid) ∙ ap length B.is

pub contains_iff : (b : Basis) → Valid b → (v : ℕ) → (inside word (rows_of b) v ≡ true) ↔ Span word (rows_of b) v
contains_iff b G v = (inside_yes word (rows_of b) v, yes_inside word (rows_of b) G.reduced v)

pub holds_held : (B : List ℕ) (b : Basis) → Holds B b → b ≡ held B
unfolding held
holds_held B b H =
    let n : b.len ≡ length B = sym (rows_length b H.valid) ∙ ap length H.is in
    let e : b.rows ≡ B ++ replicate (most_rows - length B) 0 =
    sym (take-append-drop b.len b.rows) ∙ ap₂ ◌++◌ H.is (H.valid.rest ∙ ap (λ (k : ℕ). replicate (most_rows - k) 0) n) in
    ap₂ (λ (rs : List ℕ) (k : ℕ). record { rows = rs; len = k }) e n

pub held_holds : (B : List ℕ) → Reduced word B → (Below 64) B → Holds B (held B)
unfolding held
held_holds B ρ h =
    let n : length B ≤ 64 = at_most 64 B ρ h in
    let zs : List ℕ = replicate (most_rows - length B) 0 in
    let e : take (length B) (B ++ zs) ≡ B = take-append_seam B zs in
    record {
      valid =
          record {
            whole = length-append B zs ∙ omega (arith, n, length-replicate {A = ℕ} (64 - length B) 0);
            room = n;
            rest = drop-append_seam B zs;
            words = subst (Below 64) (sym e) h;
            reduced = subst (Reduced word) (sym e) ρ;
          };
      is = e;
    }
