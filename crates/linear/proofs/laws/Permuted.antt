-- Lists in another order.
--   perm_mem     they have the same members
--   any_of_perm   and a test holds of some member of both or of neither
--   perm_length  they are equally long
--   Distinct l   == no number stands twice in l
--   perm_once    and where no number stands twice in one, none does in the other
-- Assumes nothing.
use Rattle.std.specs.Prelude.{◌≡◌, refl, ◌≢◌, Bool, true, false, ◌||◌, ℕ, suc, length}
use Rattle.std.proofs.Common.{sym, ap, ap₂, ◌∙◌}
use mathlib.Core.List.{List, Memᴰ}
use mathlib.Core.List.Permᴰ
use mathlib.Core.List.{Permᴰ}
use Rattle.linear.specs.Select.{any_of, Once}
use Rattle.linear.specs.laws.Span.{mem_cons}

pub perm_mem : {A : Type 0} {x : A} {l m : List A} → Permᴰ l m → Memᴰ x l → Memᴰ x m
perm_mem Permᴰ.nil k = k
perm_mem (Permᴰ.cons e d) (Memᴰ.head p) = Memᴰ.head (p ∙ e)
perm_mem (Permᴰ.cons e d) (Memᴰ.tail k) = Memᴰ.tail (perm_mem d k)
perm_mem (Permᴰ.swap e f) (Memᴰ.head p) = Memᴰ.tail (Memᴰ.head (p ∙ e))
perm_mem (Permᴰ.swap e f) (Memᴰ.tail (Memᴰ.head p)) = Memᴰ.head (p ∙ f)
perm_mem (Permᴰ.swap e f) (Memᴰ.tail (Memᴰ.tail k)) = Memᴰ.tail (Memᴰ.tail k)
perm_mem (Permᴰ.trans c d) k = perm_mem d (perm_mem c k)

swapped : (a b c : Bool) → a || (b || c) ≡ b || (a || c)
swapped true true c = refl
swapped true false c = refl
swapped false b c = refl

pub any_of_perm : {A : Type 0} (p : A → Bool) {l m : List A} → Permᴰ l m → any_of p l ≡ any_of p m
unfolding any_of
any_of_perm p Permᴰ.nil = refl
any_of_perm p (Permᴰ.cons e d) = ap₂ ◌||◌ (ap p e) (any_of_perm p d)
any_of_perm {A} p (Permᴰ.swap {a' = a} {b' = b} {l = l} e f) = ap₂ (λ (x y : A). p x || (p y || any_of p l)) e f ∙ swapped (p b) (p a) (any_of p l)
any_of_perm p (Permᴰ.trans c d) = any_of_perm p c ∙ any_of_perm p d

pub perm_length : {A : Type 0} {l m : List A} → Permᴰ l m → length l ≡ length m
perm_length Permᴰ.nil = refl
perm_length (Permᴰ.cons e d) = ap suc (perm_length d)
perm_length (Permᴰ.swap e f) = refl
perm_length (Permᴰ.trans c d) = perm_length c ∙ perm_length d

-- no number stands twice
abbrev pub Distinct : List ℕ → Type 0
Distinct l = Once (λ (x : ℕ). x) l

pub perm_once : {l m : List ℕ} → Permᴰ l m → Distinct l → Distinct m
perm_once Permᴰ.nil o = o
perm_once (Permᴰ.cons e d) o = (λ y k p. o.0 y (perm_mem (Permᴰ.symm d) k) (e ∙ p), perm_once d o.1)
perm_once (Permᴰ.swap {a = a} {b = b} {a' = a'} {b' = b'} e f) o = (
  mem_cons {P = λ y. a' ≢ y} (λ p. o.0 b (Memᴰ.head refl) (e ∙ sym p ∙ sym f)) (λ y k p. o.1.0 y k (f ∙ p)),
  (λ y k p. o.0 y (Memᴰ.tail k) (e ∙ p), o.1.1),
)
perm_once (Permᴰ.trans c d) o = perm_once d (perm_once c o)
