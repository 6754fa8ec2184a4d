-- A reply that is a formula, and the buffers that hold it.
--   Held o shape k a b rows   == the answer o is a formula of that shape with k products, and the buffers hold it
--   held                      such is every answer that is told so, of formulae that are not refused, with the buffers filled
--   read_held                 such is the answer of a reading
--   refused_is                a reply that is a refusal
-- Assumes nothing.
use Rattle.std.specs.Prelude.{◌≡◌, refl, List, ℕ, length, take}
use Rattle.std.proofs.Common.{sym, ap, ap₂, ◌∙◌, arith}
use Rattle.kinds.specs.Refusal.{Answer, refused, accepted}
use Rattle.kinds.specs.declared.Shape.{Shape}
use Rattle.words.specs.laws.Buffers.{take_filled, filled_length}
use Rattle.formula_check.specs.Formula.{Admitted, formula_of}
use Rattle.formula_check.specs.Buffers.{formula_in, FormulaBuffers}
use Rattle.formula_check.proofs.laws.Buffers.{sizes_in_law}
use Rattle.formula_files.specs.Lent.{formula_reply, first_of, second_of, rows_lent, Left}
use Rattle.formula_files.specs.FormulaFile.{formula_file}
use Rattle.formula_files.specs.Sound.{Sound, BufferRoom}
use Rattle.formula_files.specs.AcceptedSound.{formula_accepted_sound}
use Rattle.formula_files.specs.declared.Read.TheVariants as read

pub record Held (o : Answer Admitted) (shape : Shape) (k : ℕ) (a b rows : List ℕ) : Type 0 where
  pub f : Admitted
  pub is : o ≡ accepted f
  pub sound : Sound f
  pub ready : FormulaBuffers shape k a b rows
  pub holds : formula_in shape k a b rows ≡ f

module _ (f : Admitted) (a b rows a₁ b₁ rows₁ : List ℕ) (S : Sound f) (R : BufferRoom f (length a) (length b) (length rows))
    (L : Left (accepted f) a b rows a₁ b₁ rows₁) where
  ready : FormulaBuffers f.shape (length f.firsts) a₁ b₁ rows₁
  ready =
      record {
        n = f.n;
        m = f.m;
        u = length f.rows;
        sized = S.fits;
        firsts = (let l = ap length L.0 ∙ filled_length f.firsts a R.for_firsts in omega (arith, l, R.for_firsts));
        seconds = (let l = ap length L.1 ∙ filled_length f.seconds b R.for_seconds in omega (arith, l, S.paired, R.for_seconds));
        outputs = (let l = ap length L.2 ∙ filled_length f.rows rows R.for_rows in omega (arith, l, R.for_rows));
        few = S.few;
      }

  holds : formula_in f.shape (length f.firsts) a₁ b₁ rows₁ ≡ f
  holds =
      let k = length f.firsts in
      ap (λ (z : ℕ × ℕ × ℕ). formula_of f.shape z.0 z.1 (take k a₁) (take k b₁) (take z.2 rows₁))
      (sizes_in_law f.shape (f.n, f.m, length f.rows) S.fits)
      ∙ ap₂ (λ (x y : List ℕ). formula_of f.shape f.n f.m x y (take (length f.rows) rows₁))
      (ap (take k) L.0 ∙ take_filled k f.firsts a refl) (ap (take k) L.1 ∙ take_filled k f.seconds b (sym S.paired))
      ∙ ap (formula_of f.shape f.n f.m f.firsts f.seconds)
      (ap (take (length f.rows)) L.2 ∙ take_filled (length f.rows) f.rows rows refl)

pub held : (o : Answer Admitted) (shape : Shape) (k : ℕ) (a b rows a₁ b₁ rows₁ : List ℕ)
    → ((f : Admitted) → o ≡ accepted f → Sound f × BufferRoom f (length a) (length b) (length rows))
    → read.Formula shape k ≡ formula_reply o → Left o a b rows a₁ b₁ rows₁ → Held o shape k a₁ b₁ rows₁
held (refused e) shape k a b rows a₁ b₁ rows₁ S h L = absurd (let z : ◌≡◌ {A = ℕ} 0 1 = cc in omega arith)
held (accepted f) shape k a b rows a₁ b₁ rows₁ S h L =
    let s : f.shape ≡ shape = cc in
    let n : length f.firsts ≡ k = cc in
    rw (sym s, sym n) (record {
      f = f;
      is = refl;
      sound = (S f refl).0;
      ready = ready f a b rows a₁ b₁ rows₁ (S f refl).0 (S f refl).1 L;
      holds = holds f a b rows a₁ b₁ rows₁ (S f refl).0 (S f refl).1 L;
    })

lent_left : (o : Answer Admitted) (a b rows a₁ b₁ rows₁ : List ℕ) → a₁ ≡ first_of o a → b₁ ≡ second_of o b → rows₁ ≡ rows_lent o rows
    → Left o a b rows a₁ b₁ rows₁
lent_left (refused e) a b rows a₁ b₁ rows₁ x y z = tt
lent_left (accepted f) a b rows a₁ b₁ rows₁ x y z = (x, y, z)

pub read_held : (s : List ℕ) (shape : Shape) (k : ℕ) (a b rows a₁ b₁ rows₁ : List ℕ)
    → read.Formula shape k ≡ formula_reply (formula_file s (length a) (length b) (length rows))
    → a₁ ≡ first_of (formula_file s (length a) (length b) (length rows)) a → b₁ ≡ second_of (formula_file s (length a) (length b) (length rows)) b
    → rows₁ ≡ rows_lent (formula_file s (length a) (length b) (length rows)) rows
    → Held (formula_file s (length a) (length b) (length rows)) shape k a₁ b₁ rows₁
read_held s shape k a b rows a₁ b₁ rows₁ told x y z =
    held (formula_file s (length a) (length b) (length rows)) shape k a b rows a₁ b₁ rows₁ (formula_accepted_sound s (length a) (length b) (length rows)) told
    (lent_left (formula_file s (length a) (length b) (length rows)) a b rows a₁ b₁ rows₁ x y z)

pub refused_is : (o : Answer Admitted) (e : ℕ) → read.Refused e ≡ formula_reply o → o ≡ refused e
refused_is (refused e') e h = cc
refused_is (accepted f) e h = absurd (let z : ◌≡◌ {A = ℕ} 0 1 = cc in omega arith)
