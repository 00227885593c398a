-- `files::put_file` meets its contract: two numbers, the addresses and the entries.
use Rattle.std.proofs.Common.{◌∙◌}
use Rattle.exports.specs.FilePuts.{file_put, wrote_as}
use Rattle.exports.proofs.Puts.{four_is}
use Rattle.exports.proofs.files.put_file.Goals as goal

pub returns : goal.returns
returns c =
    file_put _ _ (wrote_as (c.to_le_bytes.ensures ∙ four_is _) c.put-size.ensures)
    (wrote_as (c.to_le_bytes-2.ensures ∙ four_is _) c.put-addresses.ensures) c.put_addresses-entries.ensures c.put_entries.ensures
