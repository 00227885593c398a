-- `map::entries::hidden_term` meets its contract: by the two tests.
use Rattle.std.proofs.Common.{not, refl, ap}
use Rattle.map.specs.EntryLaws.{hidden_silent, hidden_lacking, hidden_indexed}
use Rattle.map.proofs.entries.hidden_term.Goals as goal
use Rattle.map.proofs.entries.hidden_term.Goals.{else-lacks-via-then-lacks+else-hides_some, else-lacks-via-else-lacks}

pub returns-then-hides_some : goal.returns-then-hides_some
returns-then-hides_some c = hidden_lacking _ c.args.lacks c.args.c c.hides_some.ensures (ap not c.if-hides_some.true) c.if-lacks.true

pub returns-else-lacks : goal.returns-else-lacks
returns-else-lacks c =
    elim c.else-lacks.branch [
      | else-lacks-via-then-lacks+else-hides_some w ↦ hidden_silent _ c.args.lacks c.args.c w.hides_some.ensures (ap not w.if-hides_some.false)
      | else-lacks-via-else-lacks w ↦ hidden_indexed _ c.args.lacks c.args.c refl w.if-lacks.false
    ]
