-- What is read is the text that is printed for it: nothing else is accepted.
--   numeral_only, cut_only, name_only, field_only
--   head_only      the first two lines of a kind that is known
-- Assumes nothing.
use Rattle.std.specs.Prelude.{ℕ, ◌<◌, ◌≤◌, ◌≡◌, refl, List, [], ◌∷◌, ◌++◌, Bool, true, false, ◌&&◌, cond, length, get_or, ltb, eqb, Option, None, Some}
use Rattle.std.proofs.Common.{sym, ap, ap₂, ◌∙◌, arith, lt-ltb, eq-eqb, eqb-true, ltb-false}
use Rattle.std.proofs.lemmas.Bool.{eqb-false}
use Rattle.kinds.specs.declared.Kind.{Kind}
use Rattle.std.specs.List.{find}
use Rattle.kinds.specs.Kinds.{name_of, same, kind_named, kinds}
use Rattle.kinds.specs.Sizes.{shape_of, given}
use Rattle.kinds.specs.names.laws.Same.{same_only}
use Rattle.kinds.specs.laws.Sizes.{given_some}
use Rattle.text.specs.Reading.{◌>>=◌}
use Rattle.text.specs.laws.Reading.{inv, inj}
use Rattle.text.specs.Numeral.{numeral, digits, count}
use Rattle.text.specs.Line.{LF, comma, cut, name_line, field, count_field}
use Rattle.text.specs.heads.Head.{Head, head_names, count_fields, head_line, head_lines}
use Rattle.printing.specs.Print.{numeral_text, count_text}
use Rattle.formula_text.specs.HeadText.{fields_text, file_head}
use Rattle.round_trips.specs.formulae.laws.Unique.{unique}

pub numeral_only : (base most n : ℕ) (s : List ℕ) → 2 ≤ base → base ≤ 16 → numeral base most s ≡ Some n → s ≡ numeral_text base most n
unfolding numeral
numeral_only base most n s h₂ h₁₆ e = go (eqb (length s) 0) (ltb most (length s)) (ltb 1 (length s) && eqb (get_or s 0 0) 48) refl refl refl e
  where
    clash : (ltb 1 (length s) && eqb (get_or s 0 0) 48) ≡ false → 1 < length s → get_or s 0 0 ≡ 48 → ⊥
    clash f l z =
        let g : true ≡ false = sym (rw (lt-ltb 1 (length s) l, eq-eqb (get_or s 0 0) 48 z)) ∙ f in
        let q : ◌≡◌ {A = ℕ} 0 1 = cc in
        omega arith

    go : (a b c : Bool) → eqb (length s) 0 ≡ a → ltb most (length s) ≡ b → (ltb 1 (length s) && eqb (get_or s 0 0) 48) ≡ c
        → cond a None (cond b None (cond c None (digits base 0 s))) ≡ Some n → s ≡ numeral_text base most n
    go true b c ha hb hc f = absurd (let q : ◌≡◌ {A = ℕ} 0 1 = cc in omega arith)
    go false true c ha hb hc f = absurd (let q : ◌≡◌ {A = ℕ} 0 1 = cc in omega arith)
    go false false true ha hb hc f = absurd (let q : ◌≡◌ {A = ℕ} 0 1 = cc in omega arith)
    go false false false ha hb hc f =
        let z = eqb-false (length s) 0 ha in
        sym (unique base h₂ h₁₆ most s n (omega (arith, z)) (ltb-false most (length s) hb) (clash hc) f)

pub cut_only : (c : ℕ) (s x t : List ℕ) → cut c s ≡ Some (x, t) → s ≡ x ++ (c ∷ t)
unfolding cut
cut_only c [] x t e = absurd (let q : ◌≡◌ {A = ℕ} 0 1 = cc in omega arith)
cut_only c (b ∷ s) x t e = go (eqb b c) refl (cut_only c s) e
  where
    Two : Type 0
    Two = List ℕ × List ℕ

    go : (a : Bool) → eqb b c ≡ a → ((x t : List ℕ) → cut c s ≡ Some (x, t) → s ≡ x ++ (c ∷ t))
        → cond {A = Option Two} a (Some ([], s)) (cut c s >>= λ p. Some (b ∷ p.0, p.1)) ≡ Some (x, t) → b ∷ s ≡ x ++ (c ∷ t)
    go true h ih f =
        let g : ◌≡◌ {A = Two} ([], s) (x, t) = cc in
        let u : [] ≡ x = ap (λ (w : Two). w.0) g in
        let v : s ≡ t = ap (λ (w : Two). w.1) g in
        rw (← u, ← v, eqb-true b c h)
    go false h ih f =
        let i = inv (cut c s) (λ p. Some (b ∷ p.0, p.1)) (x, t) f in
        let j : ◌≡◌ {A = Two} (b ∷ i.0.0, i.0.1) (x, t) = inj i.2 in
        let u : b ∷ i.0.0 ≡ x = ap (λ (w : Two). w.0) j in
        let v : i.0.1 ≡ t = ap (λ (w : Two). w.1) j in
        ap (λ (w : List ℕ). b ∷ w) (ih i.0.0 i.0.1 i.1) ∙ ap₂ (λ (w r : List ℕ). w ++ (c ∷ r)) u v
      where
        inj : {p q : Two} → Some p ≡ Some q → p ≡ q
        inj e = cc

pub name_only : (n s t : List ℕ) → name_line n s ≡ Some t → s ≡ n ++ (LF ∷ t)
unfolding name_line
name_only n s t e =
    let i = inv (cut LF s) (λ p. given (same p.0 n) p.1) t e in
    let j = given_some (same i.0.0 n) i.0.1 t i.2 in
    cut_only LF s i.0.0 i.0.1 i.1 ∙ ap₂ (λ (w r : List ℕ). w ++ (LF ∷ r)) (same_only i.0.0 n j.0) j.1

pub field_only : (base most c : ℕ) (s : List ℕ) (f : ℕ × List ℕ) → 2 ≤ base → base ≤ 16 → field base most c s ≡ Some f
    → s ≡ numeral_text base most f.0 ++ (c ∷ f.1)
unfolding field
field_only base most c s f h₂ h₁₆ e =
    let i = inv (cut c s) (λ g. numeral base most g.0 >>= λ v. Some (v, g.1)) f e in
    let j = inv (numeral base most i.0.0) (λ v. Some (v, i.0.1)) f i.2 in
    let g : ◌≡◌ {A = ℕ × List ℕ} (j.0, i.0.1) f = inj (j.0, i.0.1) f j.2 in
    cut_only c s i.0.0 i.0.1 i.1
    ∙ ap (λ (w : List ℕ). w ++ (c ∷ i.0.1)) (numeral_only base most j.0 i.0.0 h₂ h₁₆ j.1)
    ∙ ap (λ (w : ℕ × List ℕ). numeral_text base most w.0 ++ (c ∷ w.1)) g

fields_only : (s : List ℕ) (n : ℕ × ℕ × ℕ × ℕ) → count_fields s ≡ Some n → s ≡ fields_text n.0 n.1 n.2 n.3
unfolding count_fields fields_text
fields_only s n e =
    let i = inv (count_field s) (λ p. count_field p.1 >>= λ q. count_field q.1 >>= λ r. count r.1 >>= λ k. Some (p.0, q.0, r.0, k)) n e in
    let j = inv (count_field i.0.1) (λ q. count_field q.1 >>= λ r. count r.1 >>= λ k. Some (i.0.0, q.0, r.0, k)) n i.2 in
    let l = inv (count_field j.0.1) (λ r. count r.1 >>= λ k. Some (i.0.0, j.0.0, r.0, k)) n j.2 in
    let m = inv (count l.0.1) (λ k. Some (i.0.0, j.0.0, l.0.0, k)) n l.2 in
    field_only 10 4 comma s i.0 (omega arith) (omega arith) i.1
    ∙ ap (λ (w : List ℕ). count_text i.0.0 ++ (comma ∷ w))
    (field_only 10 4 comma i.0.1 j.0 (omega arith) (omega arith) j.1
    ∙ ap (λ (w : List ℕ). count_text j.0.0 ++ (comma ∷ w))
    (field_only 10 4 comma j.0.1 l.0 (omega arith) (omega arith) l.1
    ∙ ap (λ (w : List ℕ). count_text l.0.0 ++ (comma ∷ w)) (numeral_only 10 4 m.0 l.0.1 (omega arith) (omega arith) m.1)))
    ∙ ap (λ (w : ℕ × ℕ × ℕ × ℕ). count_text w.0 ++ (comma ∷ (count_text w.1 ++ (comma ∷ (count_text w.2 ++ (comma ∷ count_text w.3))))))
    (inj (i.0.0, j.0.0, l.0.0, m.0) n m.2)

-- a kind's name
pub kind_only : (s : List ℕ) (k : Kind) → kind_named s ≡ Some k → s ≡ name_of k
kind_only s k e = go kinds e
  where
    step : (x : Kind) (l : List Kind) (b : Bool) → same (name_of x) s ≡ b → (find (λ k. same (name_of k) s) l ≡ Some k → s ≡ name_of k)
        → cond b (Some x) (find (λ k. same (name_of k) s) l) ≡ Some k → s ≡ name_of k
    step x l true h ih f = sym (same_only (name_of x) s h) ∙ ap name_of (inj x k f)
    step x l false h ih f = ih f

    go : (l : List Kind) → find (λ k. same (name_of k) s) l ≡ Some k → s ≡ name_of k
    go [] f = absurd (let q : ◌≡◌ {A = ℕ} 0 1 = cc in omega arith)
    go (x ∷ l) f = step x l (same (name_of x) s) refl (go l) f

line_only : (s : List ℕ) (h : Head × List ℕ) (k : Kind) → head_line s ≡ Some h → h.0.kind ≡ Some k
    → s ≡ (name_of k ++ (comma ∷ fields_text h.0.p h.0.q h.0.r h.0.k)) ++ (LF ∷ h.1)
unfolding head_line
line_only s h k e z =
    let i = inv (cut LF s)
    (λ l. cut comma l.0 >>= λ f. count_fields f.1 >>= λ n.
    Some (record { kind = kind_named f.0; p = n.0; q = n.1; r = n.2; k = n.3 }, l.1)) h e in
    let j = inv (cut comma i.0.0)
    (λ f. count_fields f.1 >>= λ n. Some (record { kind = kind_named f.0; p = n.0; q = n.1; r = n.2; k = n.3 }, i.0.1)) h i.2 in
    let m = inv (count_fields j.0.1) (λ n. Some (record { kind = kind_named j.0.0; p = n.0; q = n.1; r = n.2; k = n.3 }, i.0.1)) h j.2 in
    let g : ◌≡◌ {A = Head × List ℕ} (record { kind = kind_named j.0.0; p = m.0.0; q = m.0.1; r = m.0.2; k = m.0.3 }, i.0.1) h = inj
    (record { kind = kind_named j.0.0; p = m.0.0; q = m.0.1; r = m.0.2; k = m.0.3 }, i.0.1) h m.2 in
    let y : j.0.0 ≡ name_of k = kind_only j.0.0 k (ap (λ (w : Head × List ℕ). w.0.kind) g ∙ z) in
    cut_only LF s i.0.0 i.0.1 i.1
    ∙ ap (λ (w : List ℕ). w ++ (LF ∷ i.0.1))
    (cut_only comma i.0.0 j.0.0 j.0.1 j.1
    ∙ ap₂ (λ (x w : List ℕ). x ++ (comma ∷ w)) y (fields_only j.0.1 m.0 m.1))
    ∙ ap (λ (w : Head × List ℕ). (name_of k ++ (comma ∷ fields_text w.0.p w.0.q w.0.r w.0.k)) ++ (LF ∷ w.1)) g

pub head_only : (s : List ℕ) (h : Head × List ℕ) (k : Kind) → head_lines s ≡ Some h → h.0.kind ≡ Some k
    → s ≡ file_head (shape_of k h.0.p h.0.q h.0.r) h.0.k h.1
unfolding head_lines file_head
head_only s h k e z =
    let i = inv (name_line head_names s) head_line h e in
    name_only head_names s i.0 i.1 ∙ ap (λ (w : List ℕ). head_names ++ (LF ∷ w)) (line_only i.0 h k i.2 z)
