use Rattle.std.specs.Prelude.{ℕ, List, Bool, drop, Option, None, Some}
use Rattle.formula_files.specs.declared.lines.Products.{Products}
use Rattle.formula_files.specs.declared.lines.Rows.{Rows}
use Rattle.formula_files.specs.declared.lines.Body.{Body}

abbrev pub seen_product : List ℕ → Option (ℕ × ℕ × ℕ) → Option (ℕ × ℕ × List ℕ)
seen_product s (Some l) = Some (l.0, l.1, drop l.2 s)
seen_product s None = None

abbrev pub bytes_product : Option (ℕ × ℕ × ℕ) → ℕ
bytes_product (Some l) = l.2
bytes_product None = 0

abbrev pub seen_products : List ℕ → List ℕ → List ℕ → Option Products → Option (List ℕ × List ℕ × List ℕ × Bool × Bool)
seen_products s a b (Some p) = Some (drop p.used s, a, b, p.wide, p.zero)
seen_products s a b None = None

abbrev pub bytes_products : Option Products → ℕ
bytes_products (Some p) = p.used
bytes_products None = 0

abbrev pub seen_rows : List ℕ → List ℕ → Option Rows → Option (List ℕ × List ℕ × Bool)
seen_rows s d (Some r) = Some (drop r.used s, d, r.wide)
seen_rows s d None = None

abbrev pub bytes_rows : Option Rows → ℕ
bytes_rows (Some r) = r.used
bytes_rows None = 0

abbrev pub seen_last : List ℕ → Option Bool → Option (List ℕ × Bool)
seen_last d (Some w) = Some (d, w)
seen_last d None = None

abbrev pub seen_body : List ℕ → List ℕ → List ℕ → Option Body → Option (List ℕ × List ℕ × List ℕ × Bool × Bool)
seen_body a b d (Some x) = Some (a, b, d, x.wide, x.zero)
seen_body a b d None = None
