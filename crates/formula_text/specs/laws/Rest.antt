-- What is left of a text to print.
--   Rest o at t out e u == printing u from place e of `out` on gives what printing the whole of t from place `at` of o on gives
--   rest_start, rest_next, rest_end   before the first piece, after one more, and after the last
-- Assumes nothing.
use Rattle.std.specs.Prelude.{ℕ, ◌+◌, ◌≤◌, ◌≡◌, refl, List, [], ◌++◌, length}
use Rattle.std.proofs.Common.{sym, ◌∙◌, arith, length-append}
use Rattle.std.proofs.lemmas.List.Edits.{sets}
use Rattle.printing.specs.laws.Print.{sets_append}
use Rattle.printing.specs.fields.Piece.{Piece}

pub record Rest (o : List ℕ) (at : ℕ) (t out : List ℕ) (e : ℕ) (u : List ℕ) : Type 0 where
  pub after : e + length u ≡ at + length t
  pub holds : sets out e u ≡ sets o at t

pub rest_start : (o : List ℕ) (at : ℕ) (t : List ℕ) → Rest o at t o at t
rest_start o at t = record { after = refl; holds = refl }

pub rest_next : {o t out out₁ xs u : List ℕ} {at e f m : ℕ} → Rest o at t out e (xs ++ u) → Piece out e xs m out₁ f → Rest o at t out₁ f u
rest_next {o} {t} {out} {out₁} {xs} {u} {at} {e} {f} {m} R P =
    record {
      after = omega (arith, R.after, P.after, length-append xs u);
      holds = rw (P.holds, P.after) (sym (sets_append xs u out e) ∙ R.holds);
    }

pub rest_end : {o t out : List ℕ} {at e : ℕ} (m : ℕ) → Rest o at t out e [] → length t ≤ m → Piece o at t m out e
rest_end m R h = record { after = omega (arith, R.after); holds = R.holds; most = h }
