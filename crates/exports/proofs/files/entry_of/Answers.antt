-- `files::entry_of` meets its contract: a value and an owner.
use Rattle.std.proofs.Common.{ℕ, List, ◌++◌, ap, ◌∙◌}
use Rattle.std.specs.Int.{to_le_bytes, w16}
use Rattle.spec.specs.Files.{little_endian}
use Rattle.exports.proofs.Puts.{two_is, eight_is}
use Rattle.exports.proofs.files.entry_of.Goals as goal

pub returns : goal.returns
returns c =
    rw (c.copy_from_slice.ensures.after, c.copy_from_slice-2.ensures.after, c.to_le_bytes.ensures, c.to_le_bytes-2.ensures)
    (ap (λ (t : List ℕ). t ++ to_le_bytes w16 c.args.r.owner) (eight_is c.args.r.value)
    ∙ ap (λ (t : List ℕ). little_endian 8 c.args.r.value ++ t) (two_is c.args.r.owner))
