-- `close` is safe: what it writes at last is the rest of the output.
use Rattle.shell.specs.WorkLaws.{finish_within, owed_last, closes_ended}
use Rattle.mapscript.proofs.close.Goals as goal

pub write_due-requires-clause-owed : goal.write_due-requires-clause-owed
write_due-requires-clause-owed c =
    let h = c.requires.rests in
    let f = c.finish-last.ensures in
    let k = c.requires.longest_end_in_bounds.1 in
    let few = finish_within h.stands.started f in
    owed_last h c.if-w-2.false c.if-w.false f

pub returns : goal.returns
returns c =
    let h = c.requires.rests in
    closes_ended h c.if-w-2.false c.if-w.false c.finish-last.ensures c.write_due.ensures
