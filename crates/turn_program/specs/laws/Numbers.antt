-- The turning of a file that is read as a formula is the turning of that formula on numbers.
--   turning_read   so it is, refused or not
--   read_first     a turned file was read as a formula, which was turned
--   turned_sound   into one that is not refused, and the buffers take it
--   turn_only      by which numbers a file is refused
-- Assumes nothing.
use Rattle.std.specs.Prelude.{◌≡◌, List, ℕ, length, Option}
use Rattle.std.proofs.Common.{sym, ap, ap₂, ◌∙◌, subst, arith}
use Rattle.std.proofs.lemmas.List.{length-map}
use Rattle.kinds.specs.Kinds.{number_of}
use Rattle.kinds.specs.Limits.{most_products, most_targets}
use Rattle.kinds.specs.Refusal.{Answer, accepted, need, follow, RefusedOnly}
use Rattle.kinds.specs.laws.Refusal.{need_inv, follow_inv, need_only, refuse_only, follow_only, follow_known}
use Rattle.kinds.specs.laws.Sizes.{sizes_bounds}
use Rattle.words.specs.Masks.{zero_in}
use Rattle.maps.specs.Generators.{length_list_of}
use Rattle.text.specs.heads.Head.{Head, head_lines}
use Rattle.formula_check.specs.Formula.{Admitted}
use Rattle.formula_files.specs.FormulaFile.{formula_file}
use Rattle.formula_files.specs.AcceptedSound.{formula_accepted_sound}
use Rattle.formula_files.specs.Sound.{Sound, BufferRoom}
use Rattle.formula_files.proofs.Theorems.{sound_admitted}
use Rattle.formula_files.specs.laws.Accepted.{file_inv}
use Rattle.formula_files.proofs.laws.Handed.{handed_sound, sound_room}
use Rattle.formula_files.proofs.laws.Roomy.{room_held, file_only}
use Rattle.turning.specs.Turning.{reversed, column, columns, turned, turned_into, turning}
use Rattle.turning.proofs.laws.Numbers.{turnable_only}
use Rattle.turning.proofs.laws.Accepted.{turning_inv, turned_handed}
use Rattle.turn_program.specs.TurnFile.{turn_file, turning_of}
use Rattle.turn_program.specs.laws.Steps.{turnable_head, shape_read}

pub turning_read : (s : List ℕ) (f : Admitted) → formula_file s most_products most_products most_targets ≡ accepted f → turn_file s ≡ turning_of f
unfolding turn_file turning
turning_read s f e =
    let G = file_inv s most_products most_products most_targets f e in
    let S = (formula_accepted_sound s most_products most_products most_targets f e).0 in
    ap (λ (o : Option (Head × List ℕ)). need 1 o λ h. follow (turnable_head h.0) λ _.
    follow (formula_file s most_products most_products most_targets) (turned_into most_products most_products most_targets)) G.lines
    ∙ ap₂ (λ (x : Answer (Unit {0})) (y : Answer Admitted). follow x λ _. follow y (turned_into most_products most_products most_targets))
    (shape_read s G.head G.text f most_products most_products most_targets G.lines e) (e ∙ sym ((sound_admitted f).0 S))

pub read_first : (s : List ℕ) (g : Admitted) → turn_file s ≡ accepted g
    → (f : Admitted) × (formula_file s most_products most_products most_targets ≡ accepted f) × (turning_of f ≡ accepted g)
unfolding turn_file
read_first s g e =
    let a = need_inv 1 (head_lines s) (λ h. follow (turnable_head h.0) λ _.
    follow (formula_file s most_products most_products most_targets) (turned_into most_products most_products most_targets)) g e in
    let b = follow_inv (turnable_head a.0.0) (λ _.
    follow (formula_file s most_products most_products most_targets) (turned_into most_products most_products most_targets)) g a.2 in
    let c = follow_inv (formula_file s most_products most_products most_targets) (turned_into most_products most_products most_targets) g b.2 in
    (c.0, c.1, sym (turning_read s c.0 c.1) ∙ e)

pub turned_sound : (s : List ℕ) (g : Admitted) → turn_file s ≡ accepted g → Sound g × BufferRoom g most_products most_products most_targets
turned_sound s g e =
    let R = read_first s g e in
    let f = R.0 in
    let H = turned_handed (turning_inv (number_of f.shape.kind) f.shape.p f.shape.q f.shape.r (length f.firsts) f.firsts f.seconds
    f.rows most_products most_products most_targets g R.2) in
    let S = handed_sound _ _ _ _ _ _ _ _ g H in
    (S, sound_room g S)

-- ---- the refusals
turned_room : (f : Admitted) → Sound f → BufferRoom (turned f) most_products most_products most_targets
turned_room f S =
    record {
      for_firsts = (let l = length-map f.firsts (reversed f.n) in let h = S.few in omega arith);
      for_seconds = (let l = length_list_of (column f.rows) 0 (length f.firsts) in let h = S.few in omega arith);
      for_rows = (let l = length_list_of (column f.seconds) 0 f.n in
          let h = (sizes_bounds f.shape (f.n, f.m, length f.rows) S.fits).fits.first_most in omega arith);
    }

pub turn_only : (P : ℕ → Type 0) (s : List ℕ) → P 1 → P 2 → P 3 → P 5 → P 6 → P 7 → P 8 → P 12 → RefusedOnly P (turn_file s)
unfolding turn_file
turn_only P s one two three five six seven eight twelve =
    need_only P 1 (head_lines s) _ one λ h.
    follow_only P (turnable_head h.0) _ (turnable_only P h.0.kind h.0.p h.0.q h.0.r two three) λ _.
    follow_known P (formula_file s most_products most_products most_targets) (turned_into most_products most_products most_targets)
    (file_only P s one two three five six seven eight) λ f e.
    refuse_only P 12 (zero_in (columns f.rows (length f.firsts))) _ twelve
    (subst (RefusedOnly P)
    (sym (room_held (turned f) most_products most_products most_targets
    (turned_room f (formula_accepted_sound s most_products most_products most_targets f e).0))) tt)
