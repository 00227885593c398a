-- `words::put_answer_words` meets its contract: five words, and a scan's records.
use Rattle.codes.specs.WordLaws.{wrote_reply}
use Rattle.codes.proofs.words.put_answer_words.Goals as goal

pub returns : goal.returns
returns c = wrote_reply _ _ c.encode.ensures c.listed.ensures c.put_head-next.ensures c.put_rows.ensures
