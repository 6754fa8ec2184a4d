-- What the answer on a file means, and what the exported call replies. To be read from top to bottom.
--   CheckAnswered, check_answered   a file that is read as a formula is answered, with the verdict that is true of it
--   CheckReplied, check_replied     the reply of `gijpsando_check` and the second string after it, told apart by the reply alone
--   check_read_enough               what the Check program reads of an input, at most 65,537 bytes, is answered as the whole input
-- The definitions: formula_file (formula_files), verdict (formula_check), RightFormula and FormulaDiffers (formula_check, meaning), check_file (Service),
-- admitted_text, reply_of and bytes_of (check_text). Assumes nothing.
use Rattle.std.specs.Prelude.{◌≡◌, refl, Bool, true, false, List, ◌++◌, ◌⊎◌, ◌↔◌, ℕ, ◌<◌, ◌≤◌, length, take, drop, ltb, Option, None, Some}
use Rattle.std.proofs.Common.{ap, inl, inr, arith}
use Rattle.kinds.specs.Limits.{most_products, most_targets}
use Rattle.kinds.specs.laws.Sizes.{sizes_bounds}
use Rattle.kinds.specs.Refusal.{Answer, refused, accepted, follow}
use Rattle.formula_check.specs.Formula.{Admitted, verdict}
use Rattle.formula_check.specs.meaning.Meaning.{RightFormula, FormulaDiffers}
use Rattle.formula_check.proofs.laws.of_meaning.Theorems.{verdict_means}
use Rattle.formula_check.specs.declared.verdicts.Verdict.{Verdict}
use Rattle.formula_check.specs.declared.verdicts.Verdict.TheVariants as said
use Rattle.formula_files.specs.FormulaFile.{formula_file}
use Rattle.formula_files.specs.Sound.{Sound}
use Rattle.formula_files.specs.AcceptedSound.{formula_accepted_sound}
use Rattle.printing.specs.fields.Written.{written_in}
use Rattle.check_text.specs.CheckAnswers.{verdict_of, admitted_text, reply_of, bytes_of}
use Rattle.check_text.specs.replies.CheckText.{check_text}
use Rattle.check_text.specs.laws.Says.{Named, says}
use Rattle.service.specs.Service.{check_file}
use Rattle.service.specs.check_program.CheckProgram.{program_text}
use Rattle.service.specs.check_program.laws.Program.{Fine, file_fine}
use Rattle.text.specs.Limits.{input_room}
use Rattle.text.specs.laws.Enough.{read_enough}
use Rattle.printing.specs.fields.RefusedText.{refused_text}
use Rattle.printing.specs.refusals.Pages.{answer_text}

-- ---- from the file to the verdict
-- the text of a formula with its own adders and any verdict
abbrev pub text_saying : Admitted → Verdict → List ℕ
text_saying f v = check_text f.shape (length f.firsts) v (verdict f).1

pub record CheckAnswered (s : List ℕ) (f : Admitted) : Type 0 where
  -- the formula passes the tests of the refusals
  pub sound : Sound f
  -- it is answered, never refused, with the text of its verdict
  pub answered : check_file s ≡ accepted (admitted_text f)
  -- the verdict is right exactly if every output is the textbook's at every input, and wrong t exactly if t is the least that differs at some input
  pub right : ((verdict f).0 ≡ None) ↔ RightFormula f
  pub wrong : (t : ℕ) → ((verdict f).0 ≡ Some t) ↔ FormulaDiffers f t
  -- and so the text says, byte by byte
  pub says_right : (admitted_text f ≡ text_saying f said.Right) ↔ RightFormula f
  pub says_wrong : (t : ℕ) → t < most_targets → (admitted_text f ≡ text_saying f (said.Wrong t)) ↔ FormulaDiffers f t

-- the text of a verdict, by what is true of the formula
module _ (f : Admitted) (S : Sound f) where
  outputs_few : length f.rows ≤ most_targets
  outputs_few = (sizes_bounds f.shape (f.n, f.m, length f.rows) S.fits).most_outputs

  named : (o : Option ℕ) → (verdict f).0 ≡ o → Named (verdict_of o)
  named None e = tt
  named (Some t) e = let d = (((verdict_means f S.fits S.not_list).1 t).0 e).there in omega (arith, d, outputs_few)

  -- the text says a verdict exactly if that is the verdict
  text_says : (v : Option ℕ) → Named (verdict_of v) → (admitted_text f ≡ text_saying f (verdict_of v)) ↔ ((verdict f).0 ≡ v)
  text_says v h = (
    λ e. back (verdict f).0 v
        (says f.shape (length f.firsts) (verdict_of (verdict f).0) (verdict_of v) (verdict f).1 (named (verdict f).0 refl) h e),
    λ e. ap (λ (o : Option ℕ). text_saying f (verdict_of o)) e,
  )
    where
      back : (a b : Option ℕ) → verdict_of a ≡ verdict_of b → a ≡ b
      back None None e = refl
      back None (Some t) e = absurd (let z : ◌≡◌ {A = ℕ} 0 1 = cc in omega arith)
      back (Some t) None e = absurd (let z : ◌≡◌ {A = ℕ} 0 1 = cc in omega arith)
      back (Some t) (Some s) e = cc

pub check_answered : (s : List ℕ) (f : Admitted) → formula_file s most_products most_products most_targets ≡ accepted f → CheckAnswered s f
unfolding check_file
check_answered s f e =
    let S = (formula_accepted_sound s most_products most_products most_targets f e).0 in
    let M = verdict_means f S.fits S.not_list in
    record {
      sound = S;
      answered = ap (λ (o : Answer Admitted). follow o (λ g. accepted (admitted_text g))) e;
      right = M.0;
      wrong = M.1;
      says_right = (let q = text_says f S None tt in (λ x. M.0.0 (q.0 x), λ x. q.1 (M.0.1 x)));
      says_wrong = λ t h. (let q = text_says f S (Some t) (omega (arith, h)) in (λ x. (M.1 t).0 (q.0 x), λ x. q.1 ((M.1 t).1 x)));
    }

-- ---- the exported call, on a file s and a second string d
-- Document 01: "the reply is the count of bytes written (always above 35) or a refusal's number. Too short a second string is refused by 9."
abbrev pub CheckReplied : (s d : List ℕ) → Type 0
CheckReplied s d =
    ((reply_of (check_file s) d ≤ 9) × (bytes_of (check_file s) d ≡ d))
    ⊎ ((t : List ℕ) × (check_file s ≡ accepted t) × (35 < length t) × (length t ≤ 173) × (reply_of (check_file s) d ≡ length t)
    × (bytes_of (check_file s) d ≡ t ++ drop (length t) d))

pub check_replied : (s d : List ℕ) → CheckReplied s d
unfolding written_in
check_replied s d = go (check_file s) refl (file_fine s)
  where
    go : (a : Answer (List ℕ)) → check_file s ≡ a → Fine a → CheckReplied s d
    go (refused e) q h = rw q (inl (h, refl))
    go (accepted t) q h = by (ltb (length d) (length t)) refl
      where
        by : (b : Bool) → ltb (length d) (length t) ≡ b → CheckReplied s d
        by true p = rw (q, p) (inl (omega arith, refl))
        by false p = rw (q, p) (inr (t, refl, h.0, h.1, refl, refl))

-- ---- the program: "in a program, also an input of more than 65,536 bytes"
pub check_read_enough : (s : List ℕ) → program_text (take input_room s) ≡ program_text s
unfolding program_text
check_read_enough s = read_enough (refused_text 1) (λ t. answer_text (check_file t)) s
