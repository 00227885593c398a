-- `map::locks::install_one` meets its contract: what is said is the write, which waits since the install or before it.
use Rattle.indexlet.specs.Words.{content_in}
use Rattle.indexlet.specs.EnterLaws.{said_at}
use Rattle.map.specs.WriteWalks.{given}
use Rattle.map.specs.LockLaws.{said_as, install_said, install_room}
use Rattle.map.proofs.locks.install_one.Goals as goal

pub set_content-requires-clause-entry_room : goal.set_content-requires-clause-entry_room
set_content-requires-clause-entry_room c = install_room _ _ _ _ c.requires.tables.words.good (given c.write_at-row.ensures c.requires.i_lt_n.0) c.requires.i_lt_n.1

pub returns : goal.returns
returns c = said_as c.set_content.ensures
    (install_said _ c.args.number c.args.t _ c.write_at-row.result (content_in c.content_at-old.result) _
    (given c.write_at-row.ensures c.requires.i_lt_n.0) (said_at c.find-at.ensures c.content_at-old.ensures) c.installed-c.ensures)
