-- `files::put` meets its contract: the bytes stand at the place, and all others are as before.
use Rattle.std.proofs.Common.{sym, ap, ◌∙◌, length, arith, length-take, length-drop}
use Rattle.exports.proofs.Puts.{put_is}
use Rattle.exports.proofs.files.put.Goals as goal

pub returns : goal.returns
returns g c = put_is _ _ _ _ _ (sym (ap length c.copy_from_slice.ensures.after) ∙ c.copy_from_slice.ensures.len ∙ simp (length-take, length-drop) (omega (arith, c.requires))) c.requires c.copy_from_slice.ensures.after
