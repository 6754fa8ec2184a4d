-- A text handed over on a lent page.
--   OnPage t d x d₁     == the answer x, and the page d₁ after it, where t was to go to the page d
--   print_none, print_all   the two cases
--   printed_whole       a text on a page of one's own, handed over
--   never_refused       a page that takes every text is not refused
-- Assumes nothing.
use Rattle.std.specs.Prelude.{ℕ, ◌≤◌, ◌<◌, ◌≡◌, refl, Bool, List, length, take}
use Rattle.std.proofs.Common.{sym, ap, ◌∙◌, subst, arith, length-take, lt-ltb, le-ltb}
use Rattle.kinds.specs.Refusal.{accepted, refuse}
use Rattle.kinds.specs.laws.Refusal.{accepted_inj}
use Rattle.words.specs.laws.Buffers.{filled_sets}
use Rattle.printing.specs.fields.laws.Pieces.{Put}
use Rattle.printing.specs.fields.Written.{written_in}
use Rattle.printing.specs.pages.Printed.{page_answer, seen_printed, PrintedWhole}
use Rattle.printing.specs.declared.pages.Printed.{Printed}
use Rattle.printing.specs.declared.pages.Printed.TheVariants as printed

abbrev pub OnPage : (t d : List ℕ) → Printed → List ℕ → Type 0
OnPage t d x d₁ = (page_answer t d ≡ seen_printed x) × (d₁ ≡ written_in t d)

pub print_none : (t d : List ℕ) → length d < length t → OnPage t d (printed.Refused 9) d
unfolding page_answer written_in
print_none t d h = rw (lt-ltb (length d) (length t) h) (refl, refl)

pub print_all : (t d d₁ : List ℕ) (e : ℕ) → length t ≤ length d → Put d 0 t d₁ e → OnPage t d (printed.Bytes e) d₁
unfolding page_answer written_in
print_all t d d₁ e h p =
    let n : length t ≡ e = omega (arith, p.0) in
    rw (le-ltb (length d) (length t) h) (ap accepted n, p.1 ∙ filled_sets t d (length t) refl h)

-- a text that stands at the start of a page of one's own, of m bytes at most, handed over
pub printed_whole : (t d : List ℕ) (x : Printed) (d₁ w : List ℕ) (n m : ℕ) → take n w ≡ t → n ≤ m → OnPage (take n w) d x d₁
    → (page_answer t d ≡ seen_printed x) × (d₁ ≡ written_in t d) × (length t ≤ m)
printed_whole t d x d₁ w n m h l P =
    let Q = subst (λ (z : List ℕ). OnPage z d x d₁) h P in
    (Q.0, Q.1, omega (arith, l, length-take n w, ap length (sym h)))

-- a page of m bytes, where the text has no more, is never refused
pub never_refused : (t d : List ℕ) (x : Printed) (d₁ : List ℕ) (m : ℕ) → (page_answer t d ≡ seen_printed x) × (d₁ ≡ written_in t d) × (length t ≤ m) → length d ≡ m
    → length d₁ ≡ length d → PrintedWhole x d₁
unfolding page_answer
never_refused t d x d₁ m P l k =
    let f = le-ltb (length d) (length t) (let h = P.2 in omega arith) in
    go x (sym (ap (λ (b : Bool). refuse 9 b (accepted (length t))) f) ∙ P.0)
  where
    go : (y : Printed) → accepted (length t) ≡ seen_printed y → PrintedWhole y d₁
    go (printed.Refused e) h = absurd (let z : ◌≡◌ {A = ℕ} 0 1 = cc in omega arith)
    go (printed.Bytes n) h = let e = accepted_inj (length t) n h in let b = P.2 in omega arith
