-- The whole of a problem's file, step by step.
--   handed_refused, handed_made   what the forms handed in pose, from the code's answer
--   lines_refused, lines_posed    refusals 4 to 7, or the problem
--   file_1, file_2, file_3, file_is, file_read   refusals 1 to 7
-- Assumes nothing.
use Prim.Native.Nat.{ℕ, ◌-◌, ◌≤◌}
use Rattle.std.specs.Prelude.{◌≡◌, refl, length, take, drop, None, Some}
use Rattle.std.proofs.Common.{sym, ap₂, ◌∙◌, subst}
use Rattle.std.proofs.Math.Path.{ap}
use mathlib.Core.List.{List, []}
use Rattle.kinds.specs.declared.Kind.{Kind}
use Rattle.kinds.specs.declared.Shape.{Shape}
use Rattle.kinds.specs.Sizes.{shape_of, sizes}
use Rattle.kinds.specs.Refusal.{Answer, refused, accepted, follow, refused_by}
use Rattle.problems.specs.Problem.{Problem, problem, shaped}
use Rattle.problems.specs.Replies.{seen_posed, Laid}
use Rattle.problems.proofs.laws.Handed.{handed_room}
use Rattle.problems.specs.declared.Posed.{Posed}
use Rattle.problems.specs.declared.Posed.TheVariants as answer
use Rattle.text.specs.heads.Head.{Head, head_lines}
use Rattle.text.specs.laws.Line.{part}
use Rattle.kinds.specs.Kinds.{handed}
use Rattle.problem_files.specs.handed_forms.ProblemLines.{handed_in, body_of}
use Rattle.problem_files.proofs.laws.of_handed_forms.Lines.{body_few}
use Rattle.problem_files.specs.posing.Posing.{ProblemFile, problem_of, posed_lines, posed_file}
use Rattle.problem_files.specs.posing.Views.{Handed, Poses}
use Rattle.problem_files.specs.declared.posing.PosedRead.{PosedRead}
use Rattle.problem_files.specs.declared.posing.PosedRead.TheVariants as posed
use Rattle.kinds.specs.Limits.{most_targets}
use Rattle.kinds.specs.laws.Refusal.{by_some, by_none}

-- ---- 3 to 7, of the forms handed in
module _ (shape : Shape) (k : ℕ) (gs ts : List ℕ) {others g t : List ℕ} {x : Posed} (l : others ≡ []) (L : Laid (shaped shape gs ts others) x g t) where
  laid : Laid (shaped shape gs ts []) x g t
  laid = subst (λ (o : List ℕ). Laid (shaped shape gs ts o) x g t) l L

  pub handed_refused : {e : ℕ} → x ≡ answer.Refused e → Handed shape k gs ts g t (posed.Refused e)
  handed_refused q = record { by = laid.answer ∙ ap (seen_posed g t) q }

  pub handed_made : {c u : ℕ} → x ≡ answer.Are c u → Handed shape k gs ts g t (posed.Problem shape k c u)
  handed_made q = record { by = (refl, refl, laid.answer ∙ ap (seen_posed g t) q, handed_room laid q) }

-- ---- 4 to 7
module _ (shape : Shape) (k n m : ℕ) (s gs ts cs g t : List ℕ) (e : ℕ)
    (h : body_of shape n m s ≡ refused_by e (handed_in shape gs ts cs)) where
  abbrev judged : List ℕ × List ℕ × List ℕ → Answer Problem → Answer ProblemFile
  judged f o = follow o λ P. accepted (problem_of shape k f.0 f.1 f.2 P)

  body_is : (o : Answer (List ℕ × List ℕ × List ℕ)) → body_of shape n m s ≡ o
      → posed_lines shape k n m s ≡ follow o λ f. judged f (shaped shape f.0 f.1 [])
  unfolding posed_lines
  body_is o q = ap (λ (y : Answer (List ℕ × List ℕ × List ℕ)). follow y λ f. judged f (shaped shape f.0 f.1 [])) q

  pub lines_refused : (e ≡ 0 → ⊥) → Poses (posed_lines shape k n m s) gs ts cs g t (posed.Refused e)
  lines_refused d = record { answer = body_is (refused e) (h ∙ by_some e (handed_in shape gs ts cs) d); fits = tt }

  module _ (z : e ≡ 0) {c d : ℕ} {G T : List ℕ} (i : c ≡ handed shape.kind shape.q) (j : d ≡ handed shape.kind shape.r)
      (a : G ≡ take c gs) (b : T ≡ take d ts) (f : handed shape.kind shape.r ≤ most_targets) where
    abbrev C : List ℕ
    C = take (handed shape.kind shape.q) cs

    taken : body_of shape n m s ≡ accepted (G, T, C)
    taken =
        h ∙ by_none e (handed_in shape gs ts cs) z
        ∙ ap₂ (λ (x y : List ℕ). accepted (x, y, C)) (sym (a ∙ ap (λ (n : ℕ). take n gs) i)) (sym (b ∙ ap (λ (n : ℕ). take n ts) j))

    lines_are : (o : Answer Problem) → shaped shape G T [] ≡ o → posed_lines shape k n m s ≡ judged (G, T, C) o
    lines_are o q = body_is (accepted (G, T, C)) taken ∙ ap (judged (G, T, C)) q

    pub lines_posed : (x : PosedRead) → Handed shape k G T g t x → Poses (posed_lines shape k n m s) gs ts cs g t x
    lines_posed (posed.Refused v) H = record { answer = lines_are (refused v) H.by; fits = tt }
    lines_posed (posed.Problem sh l v u) H =
        let p = H.by in
        subst (λ (y : PosedRead). Poses (posed_lines shape k n m s) gs ts cs g t y)
        (ap₂ (λ (x : Shape) (y : ℕ). posed.Problem x y v u) (sym p.0) (sym p.1))
        (record {
          answer =
              lines_are (accepted (problem (take v g) (take u t))) p.2
              ∙ ap₂ (λ (x y : List ℕ). accepted (problem_of shape k x y C (problem (take v g) (take u t)))) (a ∙ ap (λ (n : ℕ). take n gs) i)
              (b ∙ ap (λ (n : ℕ). take n ts) j);
          fits = record { few_generators = body_few shape n m s (G, T, C) taken; few_targets = f; room = p.3 };
        })

-- ---- 1 to 7
module _ (s : List ℕ) where
  pub file_1 : head_lines s ≡ None → posed_file s ≡ refused 1
  unfolding posed_file
  file_1 e = rw e

  module _ (h : Head) (t : List ℕ) (e : head_lines s ≡ Some (h, t)) where
    pub file_2 : h.kind ≡ None → posed_file s ≡ refused 2
    unfolding posed_file
    file_2 f = rw (e, f)

    module _ (kd : Kind) (f : h.kind ≡ Some kd) where
      pub file_3 : sizes (shape_of kd h.p h.q h.r) ≡ None → posed_file s ≡ refused 3
      unfolding posed_file
      file_3 z = rw (e, f, z)

      pub file_is : (n m o : ℕ) → sizes (shape_of kd h.p h.q h.r) ≡ Some (n, m, o) → posed_file s ≡ posed_lines (shape_of kd h.p h.q h.r) h.k n m t
      unfolding posed_file
      file_is n m o z = rw (e, f, z)

-- the lines under the first two are read at the part of s from i on
pub file_read : (s : List ℕ) (h : Head) (kd : Kind) (n m o i : ℕ) (gs ts cs g t : List ℕ) (x : PosedRead)
    → head_lines s ≡ Some (h, drop i s) → h.kind ≡ Some kd
    → sizes (shape_of kd h.p h.q h.r) ≡ Some (n, m, o)
    → Poses (posed_lines (shape_of kd h.p h.q h.r) h.k n m (take (length s - i) (drop i s))) gs ts cs g t x
    → Poses (posed_file s) gs ts cs g t x
file_read s h kd n m o i gs ts cs g t x e f z P =
    record {
      answer = file_is s h (drop i s) e kd f n m o z ∙ (rw (part s i) at P).answer;
      fits = P.fits;
    }
