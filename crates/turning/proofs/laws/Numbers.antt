-- The numbers of the turning's reply.
--   turned_differ      distinct replies have distinct numbers
--   turnable_only, turning_only   by which numbers the turning is refused
--   turning_numbered   it is never refused by 0
-- Assumes nothing.
use Rattle.std.specs.Prelude.{◌≡◌, refl, not, List, ℕ, ◌≤◌, length, eqb, Option}
use Rattle.std.proofs.Common.{sym, ap, ◌∙◌, arith}
use Rattle.kinds.specs.Kinds.{kind_numbered}
use Rattle.kinds.specs.Sizes.{shape_of, sizes}
use Rattle.kinds.specs.Refusal.{Answer, refused, accepted, RefusedOnly}
use Rattle.kinds.specs.Numbers.{NotByZero}
use Rattle.kinds.specs.laws.Refusal.{need_only, refuse_only, follow_only}
use Rattle.kinds.specs.declared.Kind.{Kind}
use Rattle.kinds.specs.declared.Kind.TheVariants as kind
use Rattle.kinds.specs.declared.Shape.{Shape}
use Rattle.words.specs.Masks.{zero_in}
use Rattle.formula_check.specs.Formula.{Admitted, admit, lists_handed, too_short}
use Rattle.formula_check.specs.Replies.{outline}
use Rattle.formula_check.proofs.laws.Numbers.{admit_only, outlines_differ}
use Rattle.turning.specs.Turning.{columns, middle_of, turned, is_poly, turnable, turned_into, turning}
use Rattle.turning.specs.Lent.{turned_reply, turned_numbers}
use Rattle.turning.proofs.laws.Replies.{turned_numbers_law}
use Rattle.turning.specs.declared.Turned.{Turned}
use Rattle.turning.specs.declared.Turned.TheVariants as reply

-- the reply with that outline
reply_of : Answer (Shape × ℕ) → Turned
reply_of (refused e) = reply.Refused e
reply_of (accepted (shape, k)) = reply.Formula shape k

outlined : (o : Answer Admitted) → turned_reply o ≡ reply_of (outline o)
unfolding reply_of
outlined (refused e) = refl
outlined (accepted g) = refl

pub turned_differ : (o s : Answer Admitted) (x y : Turned) → x ≡ turned_reply o → y ≡ turned_reply s → NotByZero o → NotByZero s
    → turned_numbers x ≡ turned_numbers y → x ≡ y
turned_differ o s x y e f n m h =
    e ∙ outlined o ∙ ap reply_of (outlines_differ o s n m (sym (turned_numbers_law o) ∙ sym (ap turned_numbers e) ∙ h ∙ ap turned_numbers f ∙ turned_numbers_law s))
    ∙ sym (outlined s) ∙ sym f

-- ---- by which numbers
pub turnable_only : (P : ℕ → Type 0) (named : Option Kind) (p q r : ℕ) → P 2 → P 3 → RefusedOnly P (turnable named p q r)
unfolding turnable
turnable_only P named p q r two three =
    refuse_only P 2 (not (is_poly named)) _ two
    (need_only P 3 (sizes (shape_of kind.Poly p q r)) _ three λ _.
    refuse_only P 3 (not (eqb p q)) _ three
    (need_only P 3 (sizes (middle_of p)) _ three λ _. tt))

pub turning_only : (P : ℕ → Type 0) (number p q r k : ℕ) (xs ys rows : List ℕ) (u v w : ℕ) → P 2 → P 3 → P 5 → P 6 → P 7 → P 8 → P 12 → P 9
    → RefusedOnly P (turning number p q r k xs ys rows u v w)
unfolding turning
turning_only P number p q r k xs ys rows u v w two three five six seven eight twelve nine =
    follow_only P (turnable (kind_numbered number) p q r) _ (turnable_only P (kind_numbered number) p q r two three) λ _.
    follow_only P (admit (kind_numbered number) p q r k (lists_handed k xs ys rows)) (turned_into u v w)
    (admit_only P (kind_numbered number) p q r k (lists_handed k xs ys rows) two three five six seven eight) λ f.
    refuse_only P 12 (zero_in (columns f.rows (length f.firsts))) _ twelve
    (refuse_only P 9 (too_short u v w (turned f)) _ nine tt)

pub turning_numbered : (number p q r k : ℕ) (xs ys rows : List ℕ) (u v w : ℕ) → NotByZero (turning number p q r k xs ys rows u v w)
turning_numbered number p q r k xs ys rows u v w =
    turning_only (λ e. 1 ≤ e) number p q r k xs ys rows u v w (omega arith) (omega arith) (omega arith) (omega arith) (omega arith) (omega arith)
    (omega arith) (omega arith)
