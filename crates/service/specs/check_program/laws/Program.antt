-- The Check program's text: a refusal's number is at most 9, a text has from 36 to 173 bytes, so the exported call's reply tells them apart.
--   file_fine   a file is refused by a number of at most 9, or its text has more than 35 bytes and at most 173
-- Assumes nothing.
use Rattle.std.specs.Prelude.{◌≡◌, Bool, true, false, cond, List, [], ◌∷◌, ◌++◌, ℕ, ◌<◌, ◌≤◌, length, take, drop, ltb, Option}
use Rattle.std.proofs.Common.{sym, ap, ap₂, ◌∙◌, subst, arith, length-append, lt-ltb, le-ltb}
use Rattle.std.proofs.Math.Decide.{dec_lt}
use Rattle.std.proofs.Math.Seq.{take-append_seam}
use Rattle.kinds.specs.declared.Shape.{Shape}
use Rattle.kinds.specs.Kinds.{name_of, name_short}
use Rattle.kinds.specs.Limits.{most_products, most_targets}
use Rattle.kinds.specs.Refusal.{Answer, refused, accepted, follow, RefusedOnly}
use Rattle.kinds.specs.laws.Refusal.{need_only, refuse_only, follow_only}
use Rattle.words.specs.Buffers.{filled}
use Rattle.text.specs.heads.Head.{head_lines}
use Rattle.printing.specs.Print.{number_text}
use Rattle.formula_files.specs.lines.Formula.{body}
use Rattle.text.specs.Line.{LF}
use Rattle.formula_files.specs.FormulaFile.{rest, formula_file}
use Rattle.formula_check.specs.Formula.{Lists, Admitted, admit, verdict, too_short}
use Rattle.formula_check.proofs.laws.Numbers.{admit_only}
use Rattle.formula_check.specs.declared.verdicts.Verdict.{Verdict}
use Rattle.formula_check.specs.declared.verdicts.Verdict.TheVariants as said
use Rattle.check_text.specs.replies.CheckText.{check_names, verdict_text, check_text}
use Rattle.printing.specs.fields.Fields.{sizes_text, field_text}
use Rattle.printing.specs.fields.RefusedText.{refused_name, refused_text}
use Rattle.check_text.specs.replies.CheckTextLong.{check_text_long}
use Rattle.printing.specs.fields.Written.{bytes_in, written_in}
use Rattle.printing.specs.fields.laws.Pieces.{number_short}
use Rattle.check_text.specs.CheckAnswers.{verdict_of, admitted_text, reply_of, bytes_of}
use Rattle.service.specs.Service.{check_file}
use Rattle.printing.specs.refusals.Pages.{check_page, answer_text}
use Rattle.service.specs.check_program.CheckProgram.{program_text}
use Rattle.text.specs.Limits.{most_bytes}

-- ---- refusals are at most 9
abbrev Small : {A : Type 0} → Answer A → Type 0
Small o = RefusedOnly (λ e. e ≤ 9) o

read_small : (s : List ℕ) (la lb lr : ℕ) → Small (formula_file s la lb lr)
unfolding formula_file rest
read_small s la lb lr =
    let P : ℕ → Type 0 = λ e. e ≤ 9 in
    need_only P 1 (head_lines s) _ (omega arith) λ h.
    let lists : ℕ → Option Lists = λ t. body h.0.k t h.1 in
    follow_only P (admit h.0.kind h.0.p h.0.q h.0.r h.0.k lists) _
    (admit_only P h.0.kind h.0.p h.0.q h.0.r h.0.k lists (omega arith) (omega arith) (omega arith) (omega arith) (omega arith) (omega arith)) λ f.
    refuse_only P 9 (too_short la lb lr f) (accepted f) (omega arith) tt

-- ---- lengths of texts
field_most : (n : ℕ) → length (field_text n) ≤ 21
field_most n = let h = number_short n in omega arith

verdict_most : (v : Verdict) → length (verdict_text v) ≤ 27
verdict_most said.Right = omega arith
verdict_most (said.Wrong t) = omega (arith, field_most t)

sizes_most : (shape : Shape) (k : ℕ) → length (sizes_text shape k) ≤ 89
unfolding sizes_text
sizes_most shape k =
    let a = name_of shape.kind ++ field_text shape.p in
    let b = a ++ field_text shape.q in
    let c = b ++ field_text shape.r in
    omega (
      arith,
      name_short shape.kind,
      field_most shape.p,
      field_most shape.q,
      field_most shape.r,
      field_most k,
      length-append (name_of shape.kind) (field_text shape.p),
      length-append a (field_text shape.q),
      length-append b (field_text shape.r),
      length-append c (field_text k),
    )

pub text_most : (shape : Shape) (k : ℕ) (v : Verdict) (w : ℕ) → length (check_text shape k v w) ≤ 173
unfolding check_text
text_most shape k v w =
    let a = check_names ++ sizes_text shape k in
    let b = a ++ verdict_text v in
    let c = b ++ field_text w in
    omega (
      arith,
      sizes_most shape k,
      verdict_most v,
      field_most w,
      length-append check_names (sizes_text shape k),
      length-append a (verdict_text v),
      length-append b (field_text w),
      length-append c (LF ∷ []),
    )

pub refused_most : (n : ℕ) → length (refused_text n) ≤ 29
unfolding refused_text
refused_most n = let a = refused_name ++ number_text n in omega (arith, number_short n, length-append refused_name (number_text n), length-append a (LF ∷ []))

-- ---- what the file's answer is
abbrev pub Fine : Answer (List ℕ) → Type 0
Fine (refused e) = e ≤ 9
Fine (accepted t) = (35 < length t) × (length t ≤ 173)

fine_read : (o : Answer Admitted) → Small o → Fine (follow o λ f. accepted (admitted_text f))
fine_read (refused e) h = h
fine_read (accepted f) h = (
  check_text_long f.shape (length f.firsts) (verdict_of (verdict f).0) (verdict f).1,
  text_most f.shape (length f.firsts) (verdict_of (verdict f).0) (verdict f).1,
)

pub file_fine : (s : List ℕ) → Fine (check_file s)
unfolding check_file
file_fine s = fine_read (formula_file s most_products most_products most_targets) (read_small s most_products most_products most_targets)

-- ---- the program
written_take : (t d : List ℕ) → length t ≤ length d → take (bytes_in t d) (written_in t d) ≡ t
unfolding bytes_in written_in
written_take t d h =
    ap (λ (b : Bool). take (cond b 0 (length t)) (cond b d (filled t d))) (le-ltb (length d) (length t) h)
    ∙ take-append_seam t (drop (length t) d)

bytes_whole : (t d : List ℕ) → length t ≤ length d → bytes_in t d ≡ length t
unfolding bytes_in
bytes_whole t d h = ap (λ (b : Bool). cond b 0 (length t)) (le-ltb (length d) (length t) h)

-- the two replies told apart
pub print_text : (s d d₁ : List ℕ) (n : ℕ) → length d ≡ check_page → n ≡ reply_of (check_file s) d → d₁ ≡ bytes_of (check_file s) d → 35 < n
    → take n d₁ ≡ answer_text (check_file s)
print_text s d d₁ n l e f h = go (check_file s) (file_fine s) e f
  where
    go : (a : Answer (List ℕ)) → Fine a → n ≡ reply_of a d → d₁ ≡ bytes_of a d → take n d₁ ≡ answer_text a
    go (refused x) g p q = absurd (omega arith)
    go (accepted t) g p q =
        let m : length t ≤ length d = omega (arith, g.1) in
        ap₂ take (p ∙ ap (λ (b : Bool). cond b 9 (length t)) (le-ltb (length d) (length t) m) ∙ sym (bytes_whole t d m)) q
        ∙ written_take t d m

pub print_refusal : (s d d₁ d₂ : List ℕ) (n e : ℕ) → length d ≡ check_page → n ≡ reply_of (check_file s) d → d₁ ≡ bytes_of (check_file s) d → n ≤ 35
    → e ≡ bytes_in (refused_text n) d₁ → d₂ ≡ written_in (refused_text n) d₁ → take e d₂ ≡ answer_text (check_file s)
print_refusal s d d₁ d₂ n e l p q h x y = go (check_file s) (file_fine s) p q
  where
    go : (a : Answer (List ℕ)) → Fine a → n ≡ reply_of a d → d₁ ≡ bytes_of a d → take e d₂ ≡ answer_text a
    go (refused z) g p q =
        let m : length (refused_text n) ≤ length d₁ = let k = refused_most n in let j = ap length q in omega arith in
        ap₂ take x y ∙ written_take (refused_text n) d₁ m ∙ ap refused_text p
    go (accepted t) g p q =
        let m : length t ≤ length d = omega (arith, g.1) in
        let r : n ≡ length t = p ∙ ap (λ (b : Bool). cond b 9 (length t)) (le-ltb (length d) (length t) m) in
        absurd (omega (arith, g.0))

pub program_long : (s d d₁ : List ℕ) (e : ℕ) → length d ≡ check_page → most_bytes < length s → e ≡ bytes_in (refused_text 1) d
    → d₁ ≡ written_in (refused_text 1) d → take e d₁ ≡ program_text s
unfolding program_text
program_long s d d₁ e l h x y =
    ap₂ take x y ∙ written_take (refused_text 1) d (let k = refused_most 1 in omega arith)
    ∙ sym (ap (λ (b : Bool). cond b (refused_text 1) (answer_text (check_file s))) (lt-ltb most_bytes (length s) h))

pub program_short : (s : List ℕ) → length s ≤ most_bytes → answer_text (check_file s) ≡ program_text s
unfolding program_text
program_short s h = sym (ap (λ (b : Bool). cond b (refused_text 1) (answer_text (check_file s))) (le-ltb most_bytes (length s) h))

-- ---- what is printed fits the page
pub bytes_most : (t d : List ℕ) → length d ≡ check_page → bytes_in t d ≤ check_page
unfolding bytes_in
bytes_most t d l = go (dec_lt (length d) (length t))
  where
    go : Dec (length d < length t) → cond (ltb (length d) (length t)) 0 (length t) ≤ check_page
    go (yes h) = subst (λ (b : Bool). cond b 0 (length t) ≤ check_page) (sym (lt-ltb (length d) (length t) h)) (omega arith)
    go (no h) =
        let k : length t ≤ length d = omega arith in
        subst (λ (b : Bool). cond b 0 (length t) ≤ check_page) (sym (le-ltb (length d) (length t) k)) (omega arith)

pub reply_most : (s d : List ℕ) → reply_of (check_file s) d ≤ check_page
reply_most s d = go (check_file s) (file_fine s)
  where
    go : (a : Answer (List ℕ)) → Fine a → reply_of a d ≤ check_page
    go (refused e) f = omega arith
    go (accepted t) f = by (ltb (length d) (length t))
      where
        by : (b : Bool) → cond b 9 (length t) ≤ check_page
        by true = omega arith
        by false = omega (arith, f.1)

pub refused_length : (s d d₁ : List ℕ) → length d ≡ check_page → d₁ ≡ bytes_of (check_file s) d → reply_of (check_file s) d ≤ 35 → length d₁ ≡ check_page
refused_length s d d₁ l q h = go (check_file s) (file_fine s) q h
  where
    go : (a : Answer (List ℕ)) → Fine a → d₁ ≡ bytes_of a d → reply_of a d ≤ 35 → length d₁ ≡ check_page
    go (refused e) f q h = ap length q ∙ l
    go (accepted t) f q h =
        let m : length t ≤ length d = omega (arith, f.1) in
        let r : reply_of (accepted t) d ≡ length t = ap (λ (b : Bool). cond b 9 (length t)) (le-ltb (length d) (length t) m) in
        absurd (omega (arith, f.0))
