-- The space beneath a relation.
--   again_basis         the basis of the generators in a larger space, from that of those in a smaller one
--   descend_one, descend_two, descend_three   the residues with one number put in, with two, and beneath the relation
--   descended           what is given
-- Assumes nothing.
use Rattle.std.specs.Prelude.{◌≡◌, ◌⊎◌, cond, ℕ, ◌<◌, ◌≤◌, length, get_or, take, ltb}
use Rattle.std.proofs.Common.{sym, ap, ap₂, ◌∙◌, subst, inl, inr, arith, get_or-take}
use mathlib.Core.List.Memᴰ
use mathlib.Core.List.{List, map, Memᴰ}
use Rattle.std.proofs.lemmas.List.{length-map}
use Rattle.linear.specs.Span.{Span}
use Rattle.linear.specs.Basis.{clear, inserts, basis_of}
use Rattle.linear.specs.Word.{word}
use Rattle.linear.specs.laws.Span.{span_mem, span_bind}
use Rattle.linear.proofs.laws.Insert.{inserts_reduced, inserts_span, basis_of_reduced, basis_of_span}
use Rattle.linear.proofs.laws.Dimension.{basis_of_is}
use Rattle.bases.specs.Basis.{rows_of, Holds}
use Rattle.bases.specs.declared.Basis.{Basis}
use Rattle.residues.specs.children.Residues.{with_residue}
use Rattle.residues.specs.children.Weighed.{Shared}
use Rattle.residues.proofs.laws.of_children.Child.{zero_clear, clear_at}
use Rattle.residues.proofs.laws.of_children.Handed.{residue_mem, mem_residue}
use Rattle.residues.specs.Mapped.{Mapped}
use Rattle.residues.specs.Taking.{Took}
use Rattle.residues.specs.declared.Taken.{Taken}
use Rattle.relations.specs.declared.Place.{Place}
use Rattle.sieve.specs.heavy_search.Relate.{put_in, first_at, second_at, third_row, beneath, Descended}
use Rattle.residues.specs.Room.{search_room}

pub again_basis : (gens d e : List ℕ) → length d ≡ length e → ((i : ℕ) → get_or d i 0 ≡ 0 → get_or e i 0 ≡ 0)
    → inserts word (basis_of word (with_residue 0 gens d)) (with_residue 0 gens e) ≡ basis_of word (with_residue 0 gens e)
again_basis gens d e alike still =
    sym (basis_of_is word (inserts word (basis_of word Z) X) X (inserts_reduced word X (basis_of word Z) (basis_of_reduced word Z))
    (λ v s. span_bind word (λ g m. into g (Memᴰ.append_cases X m)) ((inserts_span word X (basis_of word Z) v).0 s))
    (λ v s. span_bind word (λ g m. (inserts_span word X (basis_of word Z) g).1 (span_mem word (Memᴰ.append_left (basis_of word Z) m))) s))
  where
    Z : List ℕ
    Z = with_residue 0 gens d

    X : List ℕ
    X = with_residue 0 gens e

    kept : (g : ℕ) → Memᴰ g Z → Span word X g
    kept g m =
        let r = residue_mem 0 gens d g m in
        span_mem word (subst (λ (y : ℕ). Memᴰ y X) (sym r.4) (mem_residue 0 gens e r.0 r.1 (omega (arith, r.2)) (still r.0 r.3)))

    into : (g : ℕ) → Memᴰ g X ⊎ Memᴰ g (basis_of word Z) → Span word X g
    into g (inl m) = span_mem word m
    into g (inr m) = span_bind word kept ((basis_of_span word Z g).0 (span_mem word m))

-- what is 0 stays 0
put_zero : (x : ℕ) (d : List ℕ) (i : ℕ) → get_or d i 0 ≡ 0 → get_or (map (clear word x) d) i 0 ≡ 0
put_zero x d i e = clear_at x d i ∙ ap (clear word x) e ∙ zero_clear x

module _ (gens d : List ℕ) (u : Place) (over : length gens ≡ length d) (few : length gens ≤ search_room) (second : second_at u < length gens)
    (third : u.g < length gens) where
  abbrev n : ℕ
  n = length gens

  pub descend_one : (x : ℕ) (mine : List ℕ) → x ≡ get_or d (first_at u) 0 → Mapped (clear word x) d mine → take n mine ≡ put_in d (first_at u)
  descend_one x mine e M = ap (λ (k : ℕ). take k mine) over ∙ M.is ∙ ap (λ (y : ℕ). map (clear word y) d) e

  abbrev d₁ : List ℕ
  d₁ = put_in d (first_at u)

  abbrev d₂ : List ℕ
  d₂ = put_in d₁ (second_at u)

  -- the next row, by the part of an array that is a list
  next : (l out : List ℕ) (y : ℕ) (part : List ℕ) → part ≡ l → n ≡ length l → Mapped (clear word y) part out → take n out ≡ map (clear word y) l
  next l out y part e q M = ap (λ (k : ℕ). take k out) (q ∙ sym (ap length e)) ∙ M.is ∙ ap (map (clear word y)) e

  length_one : n ≡ length d₁
  length_one = over ∙ sym (length-map d (clear word (get_or d (first_at u) 0)))

  length_two : n ≡ length d₂
  length_two = length_one ∙ sym (length-map d₁ (clear word (get_or d₁ (second_at u) 0)))

  at : (l whole : List ℕ) (i : ℕ) → take n whole ≡ l → i < n → get_or whole i 0 ≡ get_or l i 0
  at l whole i e k = sym (get_or-take n whole i 0 k) ∙ ap (λ (x : List ℕ). get_or x i 0) e

  pub descend_two : (mine other : List ℕ) (y : ℕ) → take n mine ≡ d₁ → y ≡ get_or mine (second_at u) 0 → Mapped (clear word y) (take n mine) other
      → take n other ≡ d₂
  descend_two mine other y e q M = next d₁ other y (take n mine) e length_one M ∙ ap (λ (x : ℕ). map (clear word x) d₁) (q ∙ at d₁ mine (second_at u) e second)

  pub descend_three : (other mine : List ℕ) (z : ℕ) → take n other ≡ d₂ → z ≡ third_row other u n → Mapped (clear word z) (take n other) mine
      → take n mine ≡ beneath d u n
  descend_three other mine z e q M =
      next d₂ mine z (take n other) e length_two M ∙ ap (λ (x : ℕ). map (clear word x) d₂) (q ∙ ap (λ (x : ℕ). cond (ltb u.h n) x 0) (at d₂ other u.g e
      third))

  pub descended : (s : Basis) (gone mine : List ℕ) (t : Taken) → Holds (basis_of word (with_residue 0 gens d)) s → length mine ≡ search_room
      → take n mine ≡ beneath d u n → Took gens (take n mine) 0 s gone t → Descended gens d u gone mine t
  descended s gone mine t S w e T =
      record {
        whole = w;
        is = e;
        shared = λ f. subst (λ (x : List ℕ). Shared x gone 0) e (T.shared f);
        held = λ f. let h = T.held f in record { valid = h.valid; is = h.is ∙ same };
      }
    where
      E : List ℕ
      E = beneath d u n

      still : (i : ℕ) → get_or d i 0 ≡ 0 → get_or E i 0 ≡ 0
      still i z = put_zero (third_row d₂ u n) d₂ i (put_zero (get_or d₁ (second_at u) 0) d₁ i (put_zero (get_or d (first_at u) 0) d i z))

      same : inserts word (rows_of s) (with_residue 0 gens (take n mine)) ≡ basis_of word (with_residue 0 gens E)
      same =
          ap₂ (λ (B x : List ℕ). inserts word B (with_residue 0 gens x)) S.is e
          ∙ again_basis gens d E (sym over ∙ length_two ∙ sym (length-map d₂ (clear word (third_row d₂ u n)))) still
