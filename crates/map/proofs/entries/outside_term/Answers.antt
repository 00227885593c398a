-- `map::entries::outside_term` meets its contract: by the two tests.
use Rattle.map.specs.EntryLaws.{term_idle, term_outside, term_indexed}
use Rattle.map.proofs.entries.outside_term.Goals as goal
use Rattle.map.proofs.entries.outside_term.Goals.{else-lacks-via-then-lacks+else-not-idle, else-lacks-via-else-lacks}

pub returns-then-not-idle : goal.returns-then-not-idle
returns-then-not-idle c = term_outside _ c.args.lacks c.args.c c.idle.ensures c.if-not-idle.true c.if-lacks.true

pub returns-else-lacks : goal.returns-else-lacks
returns-else-lacks c =
    elim c.else-lacks.branch [
      | else-lacks-via-then-lacks+else-not-idle w ↦ term_idle _ c.args.lacks c.args.c w.idle.ensures w.if-not-idle.false
      | else-lacks-via-else-lacks w ↦ term_indexed c.args.c w.if-lacks.false
    ]
