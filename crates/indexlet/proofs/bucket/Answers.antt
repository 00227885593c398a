-- `indexlet::bucket` meets its contract: it computes by the bucket's rule.
use mathlib.Core.Path.{refl}
use Rattle.indexlet.specs.Filters.{bucket_of}
use Rattle.indexlet.proofs.bucket.Goals as goal

pub returns : goal.returns
unfolding bucket_of
returns c = refl
