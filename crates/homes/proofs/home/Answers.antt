-- `home` meets its contract: each byte goes through the table's formula.
use Rattle.homes.specs.HomeLaws.{home_steps}
use Rattle.homes.proofs.home.Goals as goal

pub returns : goal.returns
returns c = home_steps c.args.a _ _ _ _ _ c.to_be_bytes.ensures
    c.table_entry-h3.ensures c.table_entry-h2.ensures c.table_entry-h1.ensures c.table_entry.ensures
