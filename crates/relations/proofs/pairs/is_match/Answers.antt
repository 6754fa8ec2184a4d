-- `relations::pairs::is_match` meets its contract, by the law of each way through it. Assumes nothing.
use Rattle.std.proofs.Common.{refl, ⊎_elim, rules}
use Rattle.relations.specs.pairs.laws.Match.{told_apart, told_late, told_free}
use Rattle.relations.proofs.pairs.is_match.Goals as goal

pub returns-then-j-g : goal.returns-then-j-g
returns-then-j-g c =
    let a = c.args in
    told_free a.gens.now a.s.now a.v.now a.base a.g a.y a.f a.x c.if-j-g.true.1 c.reduce_rows.result
    c.reduce_rows.ensures

pub returns-else-j-g : goal.returns-else-j-g
returns-else-j-g c =
    let a = c.args in (
      λ e. ⊎_elim
          (λ n. (told_late a.gens.now a.s.now a.v.now a.base a.g a.y a.f a.x n.1).0 refl)
          (λ n. (told_apart a.gens.now a.s.now a.v.now a.base a.g a.y a.f a.x n).0 refl)
          c.if-j-g.either,
      λ e. search rules,
    )
