-- `pack` meets its contract: the number that `as` gives a stage is its rank, and each field has its bits.
use Rattle.std.proofs.Common.{◌≡◌, ℕ, refl, ap, ◌∙◌, rules}
use denote.Enum.Declared.{tag_of}
use Rattle.spec.specs.declared.Stage.{Stage}
use Rattle.spec.specs.declared.Stage.TheVariants.{Free, Open, Locked, Checked}
use Rattle.spec.specs.contracts.Stage.{the_type}
use Rattle.workers.specs.Workers.{rank_of, unpacked}
use Rattle.workers.specs.WordLaws.{pack_is, unpack_pack}
use Rattle.workers.proofs.pack.Goals as goal

tag_rank : (s : Stage) → ◌≡◌ {A = ℕ} (tag_of the_type s) (rank_of s)
tag_rank Free = refl
tag_rank Open = refl
tag_rank Locked = refl
tag_rank Checked = refl

pub returns-clause-value : goal.returns-clause-value
returns-clause-value c = pack_is c.args.x (tag_rank c.args.x.stage)

pub returns-clause-result_value : goal.returns-clause-result_value
returns-clause-result_value c =
    ap unpacked (pack_is c.args.x (tag_rank c.args.x.stage))
    ∙ unpack_pack _ (record { number = search rules; reads = search rules; leaves = search rules; writes = search rules })
