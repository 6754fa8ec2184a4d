-- `kinds::fits` meets its contract: y is at most 64 / x exactly if x × y is at most 64. Assumes nothing.
use Rattle.std.proofs.Common.{sym, arith}
use Rattle.kinds.specs.Sizes.{within}
use Rattle.kinds.specs.laws.Sizes.{within_yes, is_not, within_quotient}
use Rattle.kinds.proofs.fits.Goals as goal

pub returns-then-x-eq0 : goal.returns-then-x-eq0
returns-then-x-eq0 c = sym (is_not (within c.args.x c.args.y) (λ e. let f = within_yes c.args.x c.args.y e in omega arith))

pub returns : goal.returns
returns c = sym (within_quotient c.args.x c.args.y (omega arith) (omega arith))
