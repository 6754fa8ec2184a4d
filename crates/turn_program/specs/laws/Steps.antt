-- The steps of turning a file.
--   turn_unread     refusal 1
--   turn_barred     2 and 3, of the turning
--   shape_read      the first two lines of a formula that is read are its shape
--   turn_stopped    those of the reading
--   held_full       else a full product formula was read
--   turn_told       and is turned
-- Assumes nothing.
use Rattle.std.specs.Prelude.{◌≡◌, ℕ, length, Option, None, Some}
use Rattle.std.proofs.Common.{sym, ap₂, ◌∙◌}
use Rattle.std.proofs.Math.Path.{ap}
use mathlib.Core.List.{List}
use Rattle.kinds.specs.declared.Kind.{Kind}
use Rattle.kinds.specs.declared.Kind.TheVariants as kind
use Rattle.kinds.specs.declared.Shape.{Shape}
use Rattle.kinds.specs.Kinds.{number_of, kind_numbered, kind_numbered_law}
use Rattle.kinds.specs.Limits.{most_products, most_targets}
use Rattle.kinds.specs.Refusal.{Answer, refused, accepted, need, follow, refused_by}
use Rattle.kinds.specs.laws.Refusal.{by_some, by_none}
use Rattle.kinds.specs.Sizes.{shape_of}
use Rattle.text.specs.heads.Head.{Head, head_lines}
use Rattle.formula_check.specs.Formula.{Admitted}
use Rattle.formula_check.specs.Buffers.{formula_in}
use Rattle.formula_files.specs.FormulaFile.{formula_file}
use Rattle.formula_files.specs.Lent.{formula_reply, Left}
use Rattle.formula_files.proofs.laws.FormulaFile.{left_under}
use Rattle.formula_files.specs.laws.Accepted.{file_inv}
use Rattle.formula_files.proofs.laws.Held.{Held, refused_is}
use Rattle.formula_files.proofs.laws.Handed.{sound_handed}
use Rattle.formula_files.specs.Sound.{Sound}
use Rattle.formula_files.specs.declared.Read.{Read}
use Rattle.formula_files.specs.declared.Read.TheVariants as read
use Rattle.turning.specs.Turning.{turnable, turned_into}
use Rattle.turning.proofs.laws.Accepted.{turnable_inv, full_is}
use Rattle.turn_program.specs.TurnFile.{turn_file, FullHeld}

abbrev pub turnable_head : Head → Answer (Unit {0})
turnable_head h = turnable h.kind h.p h.q h.r

abbrev read_then : List ℕ → Answer Admitted
read_then s = follow (formula_file s most_products most_products most_targets) (turned_into most_products most_products most_targets)

pub turn_unread : (s : List ℕ) → head_lines s ≡ None → turn_file s ≡ refused 1
unfolding turn_file
turn_unread s e = ap (λ (o : Option (Head × List ℕ)). need 1 o λ h. follow (turnable_head h.0) λ _. read_then s) e

module _ (s : List ℕ) (h : Head) (t : List ℕ) (e : ℕ) (H : head_lines s ≡ Some (h, t)) (T : turnable_head h ≡ refused_by e (tt {0})) where
  turn_head : turn_file s ≡ follow (refused_by e (tt {0})) λ _. read_then s
  unfolding turn_file
  turn_head =
      ap (λ (o : Option (Head × List ℕ)). need 1 o λ h. follow (turnable_head h.0) λ _. read_then s) H
      ∙ ap (λ (o : Answer (Unit {0})). follow o λ _. read_then s) T

  pub turn_barred : (e ≡ 0 → ⊥) → turn_file s ≡ refused e
  turn_barred d = turn_head ∙ ap (λ (o : Answer (Unit {0})). follow o λ _. read_then s) (by_some e (tt {0}) d)

  turn_read : e ≡ 0 → turn_file s ≡ follow (formula_file s most_products most_products most_targets) (turned_into most_products most_products most_targets)
  turn_read d = turn_head ∙ ap (λ (o : Answer (Unit {0})). follow o λ _. read_then s) (by_none e (tt {0}) d)

-- ---- the formula that was read
abbrev turnable_shape : Shape → Answer (Unit {0})
turnable_shape x = turnable (kind_numbered (number_of x.kind)) x.p x.q x.r

-- the first two lines are its shape
pub shape_read : (s : List ℕ) (h : Head) (t : List ℕ) (f : Admitted) (la lb lr : ℕ) → head_lines s ≡ Some (h, t) → formula_file s la lb lr ≡ accepted f
    → turnable_head h ≡ turnable (kind_numbered (number_of f.shape.kind)) f.shape.p f.shape.q f.shape.r
shape_read s h t f la lb lr H e =
    let G = file_inv s la lb lr f e in
    let A = G.so in
    let p = G.head.p in
    let q = G.head.q in
    let r = G.head.r in
    let w : ◌≡◌ {A = Option (Head × List ℕ)} (Some (h, t)) (Some (G.head, G.text)) = sym H ∙ G.lines in
    let i : ◌≡◌ {A = Head × List ℕ} (h, t) (G.head, G.text) = cc in
    ap (λ (x : Head × List ℕ). turnable_head x.0) i
    ∙ ap (λ (o : Option Kind). turnable o p q r) (A.is_named ∙ sym (kind_numbered_law A.kd)) ∙ ap (λ (g : Admitted). turnable_shape g.shape) A.is

-- and it is a full product formula
read_full : (f : Admitted) → Sound f → turnable_shape f.shape ≡ accepted tt → f.shape ≡ shape_of kind.Poly f.shape.p f.shape.p 0
read_full f S T =
    ap (λ (g : Admitted). g.shape)
    (full_is (sound_handed f S) (turnable_inv (kind_numbered (number_of f.shape.kind)) f.shape.p f.shape.q f.shape.r T))

turn_lent : (f : Admitted) (u v w : List ℕ) → length u ≡ most_products → length v ≡ most_products → length w ≡ most_targets
    → turned_into most_products most_products most_targets f ≡ turned_into (length u) (length v) (length w) f
turn_lent f u v w x y z =
    ap₂ (λ (i j : ℕ). turned_into i j most_targets f) (sym x) (sym y) ∙ ap (λ (i : ℕ). turned_into (length u) (length v) i f) (sym z)

-- ---- once the file may be turned
module _ (s : List ℕ) (h : Head) (t : List ℕ) (e : ℕ) (H : head_lines s ≡ Some (h, t)) (T : turnable_head h ≡ refused_by e (tt {0})) (d : e ≡ 0) where
  pub turn_stopped : (i : ℕ) → read.Refused i ≡ formula_reply (formula_file s most_products most_products most_targets) → turn_file s ≡ refused i
  turn_stopped i told =
      turn_read s h t e H T d
      ∙ ap (λ (o : Answer Admitted). follow o (turned_into most_products most_products most_targets))
      (refused_is (formula_file s most_products most_products most_targets) i told)

  module _ (shape : Shape) (k : ℕ) (a b rows : List ℕ) (R : Held (formula_file s most_products most_products most_targets) shape k a b rows) where
    turn_held : turn_file s ≡ turned_into most_products most_products most_targets (formula_in shape k a b rows)
    turn_held =
        turn_read s h t e H T d
        ∙ ap (λ (o : Answer Admitted). follow o (turned_into most_products most_products most_targets)) R.is
        ∙ ap (turned_into most_products most_products most_targets) (sym R.holds)

    pub held_full : FullHeld shape k a b rows
    held_full =
        let i : shape ≡ R.f.shape = ap (λ (f : Admitted). f.shape) R.holds in
        record {
          full = i ∙ read_full R.f R.sound (sym (shape_read s h t R.f most_products most_products most_targets H R.is) ∙ T ∙ by_none e (tt {0}) d)
              ∙ ap (λ (x : Shape). shape_of kind.Poly x.p x.p 0) (sym i);
          ready = R.ready;
        }

    -- the code's answer, with buffers that take every formula
    pub turn_told : (x : Read) (u v w u₁ v₁ w₁ : List ℕ) → (length u ≡ most_products) × (length v ≡ most_products) × (length w ≡ most_targets)
        → (x ≡ formula_reply (turned_into (length u) (length v) (length w) (formula_in shape k a b rows)))
        × Left (turned_into (length u) (length v) (length w) (formula_in shape k a b rows)) u v w u₁ v₁ w₁
        → (x ≡ formula_reply (turn_file s)) × Left (turn_file s) u v w u₁ v₁ w₁
    turn_told x u v w u₁ v₁ w₁ l =
        left_under (turn_file s) (turned_into (length u) (length v) (length w) (formula_in shape k a b rows)) x u v w u₁ v₁ w₁
        (turn_held ∙ turn_lent (formula_in shape k a b rows) u v w l.0 l.1 l.2)
