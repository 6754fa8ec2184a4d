-- `relations::pairs::bucket` meets its contract: it is the definition's formula, and no step of it wraps. Assumes nothing.
use mathlib.Core.Path.{refl}
use native.Mathlib.Omega.{arith}
use Rattle.relations.specs.pairs.Bucket.{bucket_of}
use Rattle.relations.proofs.pairs.bucket.Goals as goal

pub returns : goal.returns
unfolding bucket_of
returns c = (refl, omega arith)
