-- The line of a refusal fits every page of 32 bytes.
--   page_takes   a page that is longer takes it
--   refused_fits it stands on the page whole
-- Assumes nothing.
use Rattle.std.specs.Prelude.{ℕ, ◌+◌, ◌≤◌, ◌≡◌, Bool, false, cond, List, [], ◌∷◌, ◌++◌, length, take, drop, ltb}
use Rattle.std.proofs.Common.{ap, ap₂, ◌∙◌, arith, length-append, le-ltb}
use Rattle.std.proofs.Math.Seq.{take-append_seam}
use Rattle.text.specs.Line.{LF}
use Rattle.printing.specs.Print.{number_text}
use Rattle.words.specs.Buffers.{filled}
use Rattle.printing.specs.fields.laws.Pieces.{number_short}
use Rattle.printing.specs.fields.Written.{bytes_in, written_in}
use Rattle.printing.specs.fields.RefusedText.{refused_name, refused_text}

refused_short : (n : ℕ) → length (refused_text n) ≤ 29
unfolding refused_text
refused_short n = omega (arith, number_short n, length-append refused_name (number_text n), length-append (refused_name ++ number_text n) (LF ∷ []))

pub refused_fits : (n e : ℕ) (d d₁ : List ℕ) → 32 ≤ length d → (e ≡ bytes_in (refused_text n) d) × (d₁ ≡ written_in (refused_text n) d) → (take e d₁ ≡ refused_text n) × (e ≤ 32)
unfolding bytes_in written_in
refused_fits n e d d₁ l p =
    let s : length (refused_text n) ≤ 29 = refused_short n in
    let f : ltb (length d) (length (refused_text n)) ≡ false = le-ltb (length d) (length (refused_text n)) (omega arith) in
    let a : e ≡ length (refused_text n) = p.0 ∙ ap (λ (b : Bool). cond b 0 (length (refused_text n))) f in
    let b : d₁ ≡ filled (refused_text n) d = p.1 ∙ ap (λ (b : Bool). cond b d (filled (refused_text n) d)) f in
    (ap₂ take a b ∙ take-append_seam (refused_text n) (drop (length (refused_text n)) d), omega arith)

pub page_takes : {n : ℕ} (m : ℕ) → n ≡ 32 + m → 32 ≤ n
page_takes m h = omega arith
