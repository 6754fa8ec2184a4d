-- What a problem's file that is accepted has been through.
--   ProblemWent s P   == its first two lines, its kind and sizes, its lines, and the problem that they pose
--   posed_went        a file that poses a problem has been through that
--   file_poses, file_priced   its forms pose its problem; a list has a cost for each generator, of 16 bits each
--   problem_inv       an accepted file poses its problem, and neither 8 nor 9 applies
--   final_refused, final_problem   the reply and the three buffers at exit
-- Assumes nothing.
use Rattle.std.specs.Prelude.{ℕ, ◌≤◌, ◌≡◌, refl, List, [], false, ◌||◌, length, take, ltb, Some}
use Rattle.std.proofs.Common.{sym, ◌∙◌, subst, arith, ltb-false}
use Rattle.std.proofs.Math.Path.{ap}
use Rattle.std.proofs.Math.Seq.{paste}
use Rattle.kinds.specs.declared.Kind.{Kind}
use Rattle.kinds.specs.declared.Shape.{Shape}
use Rattle.kinds.specs.Sizes.{shape_of, sizes}
use Rattle.kinds.specs.Refusal.{Answer, refused, accepted, need, follow}
use Rattle.kinds.specs.laws.Refusal.{accepted_inj, need_inv, follow_inv, neither}
use Rattle.problems.specs.Problem.{Problem, problem, shaped}
use Rattle.kinds.specs.Limits.{most_generators, most_targets}
use Rattle.text.specs.heads.Head.{Head, head_lines}
use Rattle.words.specs.Buffers.{filled, zeros}
use Rattle.words.specs.laws.Buffers.{pasted}
use Rattle.kinds.specs.Kinds.{handed}
use Rattle.problem_files.specs.handed_forms.ProblemLines.{handed_in, body_of, CostsFit}
use Rattle.problem_files.proofs.laws.of_handed_forms.Lines.{body_priced}
use Rattle.problem_files.specs.posing.Posing.{ProblemFile, problem_of, posed_lines, posed_file}
use Rattle.problem_files.specs.posing.Views.{seen_posing, Poses, PosingFits}
use Rattle.problem_files.specs.judging.Judged.{beyond, short, settled}
use Rattle.problem_files.proofs.laws.of_judging.Judging.{settled_inv}
use Rattle.problem_files.specs.ProblemFile.{problem_file}
use Rattle.problem_files.specs.Lent.{problem_reply, generators_of, targets_of, costs_of, Settled}
use Rattle.problem_files.specs.declared.judging.Purpose.{Purpose}
use Rattle.problem_files.specs.declared.judging.ProblemRead.{ProblemRead}
use Rattle.problem_files.specs.declared.judging.ProblemRead.TheVariants as read
use Rattle.problem_files.specs.declared.posing.PosedRead.{PosedRead}
use Rattle.problem_files.specs.declared.posing.PosedRead.TheVariants as posed

pub record ProblemWent (s : List ℕ) (P : ProblemFile) : Type 0 where
  pub head : Head
  pub text : List ℕ
  pub lines : head_lines s ≡ Some (head, text)
  pub kd : Kind
  pub named : head.kind ≡ Some kd
  pub z : ℕ × ℕ × ℕ
  pub sized : sizes (shape_of kd head.p head.q head.r) ≡ Some z
  pub forms : List ℕ × List ℕ × List ℕ
  pub body : body_of (shape_of kd head.p head.q head.r) z.0 z.1 text ≡ accepted forms
  pub problem : Problem
  pub poses : shaped (shape_of kd head.p head.q head.r) forms.0 forms.1 [] ≡ accepted problem
  pub is : problem_of (shape_of kd head.p head.q head.r) head.k forms.0 forms.1 forms.2 problem ≡ P

pub posed_went : (s : List ℕ) (P : ProblemFile) → posed_file s ≡ accepted P → ProblemWent s P
unfolding posed_file posed_lines
posed_went s P e =
    let of : Head × List ℕ → Kind → Shape = λ h kd. shape_of kd h.0.p h.0.q h.0.r in
    let three : Head × List ℕ → Kind → ℕ × ℕ × ℕ → Answer ProblemFile = λ h kd z. posed_lines (of h kd) h.0.k z.0 z.1 h.1 in
    let two : Head × List ℕ → Kind → Answer ProblemFile = λ h kd. need 3 (sizes (of h kd)) (three h kd) in
    let b = need_inv 1 (head_lines s) (λ h. need 2 h.0.kind (two h)) P e in
    let c = need_inv 2 b.0.0.kind (two b.0) P b.2 in
    let d = need_inv 3 (sizes (of b.0 c.0)) (three b.0 c.0) P c.2 in
    let shape = of b.0 c.0 in
    let f = follow_inv (body_of shape d.0.0 d.0.1 b.0.1)
    (λ x. follow (shaped shape x.0 x.1 []) λ Q. accepted (problem_of shape b.0.0.k x.0 x.1 x.2 Q)) P d.2 in
    let j = follow_inv (shaped shape f.0.0 f.0.1 []) (λ Q. accepted (problem_of shape b.0.0.k f.0.0 f.0.1 f.0.2 Q)) P f.2 in
    record {
      head = b.0.0;
      text = b.0.1;
      lines = b.1;
      kd = c.0;
      named = c.1;
      z = d.0;
      sized = d.1;
      forms = f.0;
      body = f.1;
      problem = j.0;
      poses = j.1;
      is = accepted_inj (problem_of shape b.0.0.k f.0.0 f.0.1 f.0.2 j.0) P j.2;
    }

-- the problem that an accepted file poses, from the forms that it hands in
pub file_poses : (s : List ℕ) (P : ProblemFile) → posed_file s ≡ accepted P → shaped P.shape P.generators P.targets [] ≡ accepted P.problem
file_poses s P e =
    let W = posed_went s P e in
    subst (λ (F : ProblemFile). shaped F.shape F.generators F.targets [] ≡ accepted F.problem) W.is W.poses

pub file_priced : (s : List ℕ) (P : ProblemFile) → posed_file s ≡ accepted P → CostsFit P.shape P.costs
file_priced s P e =
    let W = posed_went s P e in
    subst (λ (F : ProblemFile). CostsFit F.shape F.costs) W.is
    (body_priced (shape_of W.kd W.head.p W.head.q W.head.r) W.z.0 W.z.1 W.text W.forms W.body)

pub record Judged (a : Purpose) (u v w : ℕ) (P : ProblemFile) : Type 0 where
  pub within : beyond a P.k P.problem.targets ≡ false
  pub wide : short P.shape u v w ≡ false

module _ (a : Purpose) (u v w : ℕ) (o : Answer ProblemFile) (P : ProblemFile) where
  pub judged_inv : follow o (settled a u v w) ≡ accepted P → (o ≡ accepted P) × Judged a u v w P
  judged_inv e =
      let b = follow_inv o (settled a u v w) P e in
      let c = settled_inv a u v w b.0 P b.2 in
      let J : Judged a u v w b.0 = record { within = c.0; wide = c.1 } in
      (b.1 ∙ ap accepted c.2, subst (Judged a u v w) c.2 J)

pub problem_inv : (a : Purpose) (s : List ℕ) (u v w : ℕ) (P : ProblemFile) → problem_file a s u v w ≡ accepted P
    → (posed_file s ≡ accepted P) × Judged a u v w P
unfolding problem_file
problem_inv a s u v w P e = judged_inv a u v w (posed_file s) P e

-- ---- the four equations of the public call
abbrev pub Final : Answer ProblemFile → ProblemRead → (gs ts cs gs₁ ts₁ cs₁ : List ℕ) → Type 0
Final o x gs ts cs gs₁ ts₁ cs₁ = (x ≡ problem_reply o) × (gs₁ ≡ generators_of o gs) × (ts₁ ≡ targets_of o ts) × (cs₁ ≡ costs_of o cs)

refused_reply : (o : Answer ProblemFile) (e : ℕ) → read.Refused e ≡ problem_reply o → o ≡ refused e
refused_reply (refused i) e q = cc
refused_reply (accepted P) e q = absurd (let z : ◌≡◌ {A = ℕ} 0 1 = cc in omega arith)

accepted_reply : (o : Answer ProblemFile) (shape : Shape) (k : ℕ) → read.Problem shape k ≡ problem_reply o → (P : ProblemFile) × (o ≡ accepted P) × (P.shape ≡ shape)
accepted_reply (refused i) shape k q = absurd (let z : ◌≡◌ {A = ℕ} 0 1 = cc in omega arith)
accepted_reply (accepted P) shape k q = (P, refl, cc)

-- what an accepted file hands in, as it stands at the start of gs, ts and cs, and the room that it needs
pub record Held (u v w : ℕ) (gs ts cs : List ℕ) (shape : Shape) (xs ys zs : List ℕ) : Type 0 where
  pub generators : xs ≡ take (handed shape.kind shape.q) gs
  pub targets : ys ≡ take (handed shape.kind shape.r) ts
  pub costs : zs ≡ take (handed shape.kind shape.q) cs
  pub for_generators : handed shape.kind shape.q ≤ u
  pub for_targets : handed shape.kind shape.r ≤ v
  pub for_costs : handed shape.kind shape.q ≤ w
  pub few_generators : handed shape.kind shape.q ≤ most_generators
  pub few_targets : handed shape.kind shape.r ≤ most_targets

held_by : (a : Purpose) (u v w : ℕ) (gs ts cs g t : List ℕ) (x : PosedRead) (P : ProblemFile) → PosingFits x
    → follow (seen_posing gs ts cs g t x) (settled a u v w) ≡ accepted P → Held u v w gs ts cs P.shape P.generators P.targets P.costs
held_by a u v w gs ts cs g t (posed.Refused e) P f q = absurd (let z : ◌≡◌ {A = ℕ} 0 1 = cc in omega arith)
held_by a u v w gs ts cs g t (posed.Problem shape k c n) P f q =
    let h = handed_in shape gs ts cs in
    let F = problem_of shape k h.0 h.1 h.2 (problem (take c g) (take n t)) in
    let i = settled_inv a u v w F P q in
    let m = handed shape.kind shape.q in
    let l = handed shape.kind shape.r in
    let y = neither (ltb u m) (ltb v l || ltb w m) i.1 in
    let z = neither (ltb v l) (ltb w m) y.1 in
    let H : Held u v w gs ts cs shape F.generators F.targets F.costs =
    record {
      generators = refl;
      targets = refl;
      costs = refl;
      for_generators = ltb-false u m y.0;
      for_targets = ltb-false v l z.0;
      for_costs = ltb-false w m z.1;
      few_generators = f.few_generators;
      few_targets = f.few_targets;
    } in
    subst (λ (P : ProblemFile). Held u v w gs ts cs P.shape P.generators P.targets P.costs) i.2 H

module _ (a : Purpose) (s : List ℕ) (u v w : ℕ) (gs ts cs g t : List ℕ) {x : PosedRead} {y : ProblemRead} (P : Poses (posed_file s) gs ts cs g t x)
    (S : Settled a u v w x t y) where
  same : problem_file a s u v w ≡ follow (seen_posing gs ts cs g t x) (settled a u v w)
  unfolding problem_file
  same = ap (λ (o : Answer ProblemFile). follow o (settled a u v w)) P.answer

  answered : y ≡ problem_reply (problem_file a s u v w)
  answered = S.by gs ts cs g ∙ ap problem_reply (sym same)

  pub final_refused : {e : ℕ} (xs ys zs : List ℕ) {xs₁ ys₁ zs₁ : List ℕ} → y ≡ read.Refused e → xs₁ ≡ zeros xs → ys₁ ≡ zeros ys → zs₁ ≡ zeros zs
      → Final (problem_file a s u v w) (read.Refused e) xs ys zs xs₁ ys₁ zs₁
  final_refused {e} xs ys zs {xs₁} {ys₁} {zs₁} q i j k =
      let r = refused_reply (problem_file a s u v w) e (sym q ∙ answered) in
      subst (λ (o : Answer ProblemFile). Final o (read.Refused e) xs ys zs xs₁ ys₁ zs₁) (sym r) (refl, i, j, k)

  module _ {shape : Shape} {k : ℕ} (q : y ≡ read.Problem shape k) where
    pub of : (F : ProblemFile) × (problem_file a s u v w ≡ accepted F) × (F.shape ≡ shape)
    of = accepted_reply (problem_file a s u v w) shape k (sym q ∙ answered)

    pub held : Held u v w gs ts cs shape of.0.generators of.0.targets of.0.costs
    held =
        subst (λ (h : Shape). Held u v w gs ts cs h of.0.generators of.0.targets of.0.costs) of.2
        (held_by a u v w gs ts cs g t x of.0 P.fits (sym same ∙ of.1))

    -- a buffer, written with the part L of the array ls that is handed in
    left_in : {c d : ℕ} {L zs : List ℕ} (ls xs : List ℕ) {xs₁ : List ℕ} → zs ≡ take d ls → c ≡ d → L ≡ take c ls
        → xs₁ ≡ paste xs 0 L (length L) → xs₁ ≡ filled zs xs
    left_in {L = L} ls xs e i l n = n ∙ pasted L xs ∙ ap (λ (z : List ℕ). filled z xs) (l ∙ ap (λ (n : ℕ). take n ls) i ∙ sym e)

    pub final_problem : {c d : ℕ} {G T C : List ℕ} (xs ys zs : List ℕ) {xs₁ ys₁ zs₁ : List ℕ}
        → c ≡ handed shape.kind shape.q → d ≡ handed shape.kind shape.r → G ≡ take c gs → T ≡ take d ts → C ≡ take c cs
        → xs₁ ≡ paste xs 0 G (length G) → ys₁ ≡ paste ys 0 T (length T) → zs₁ ≡ paste zs 0 C (length C)
        → Final (problem_file a s u v w) (read.Problem shape k) xs ys zs xs₁ ys₁ zs₁
    final_problem xs ys zs i j l m n o p r = (
      sym q ∙ answered,
      left_in gs xs held.generators i l o ∙ sym (ap (λ (o : Answer ProblemFile). generators_of o xs) of.1),
      left_in ts ys held.targets j m p ∙ sym (ap (λ (o : Answer ProblemFile). targets_of o ys) of.1),
      left_in cs zs held.costs i n r ∙ sym (ap (λ (o : Answer ProblemFile). costs_of o zs) of.1),
    )
