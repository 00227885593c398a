-- `writes::WriteRow::write` meets its contract: by the kind.
use Rattle.std.proofs.Common.{sym}
use Rattle.sets.specs.WriteLaws.{put_kind, deletion_kind}
use Rattle.sets.proofs.writes.WriteRow.write.Goals as goal

pub returns-then-self-eq1 : goal.returns-then-self-eq1
returns-then-self-eq1 c = sym (put_kind c.args.self.kind c.args.self.payload c.if-self-eq1.true)

pub returns-else-self-eq1 : goal.returns-else-self-eq1
returns-else-self-eq1 c = sym (deletion_kind c.args.self.kind c.args.self.payload c.if-self-eq1.false)
