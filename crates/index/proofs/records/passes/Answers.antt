-- By the address read, and by whether there are so many records.
use Rattle.std.proofs.lemmas.Bool.{leb-true, leb-false, le-ltb}
use Rattle.index.specs.Views.{row_of}
use Rattle.index.specs.Nearing.{leads_no}
use Rattle.index.specs.Searches.{passed_on, passed_end, passed_stop}
use Rattle.index.proofs.records.passes.Goals as goal

pub returns-then-get-key : goal.returns-then-get-key
returns-then-get-key c =
    let held = c.requires.records_sorted in
    let some = c.requires.end_nonzero.0 in
    record {
      on = λ e. passed_on _ _ _ _ held some (row_of c.get.result) (leb-true _ _ e) c.get.ensures c.if-get-key.true;
      past = λ e. passed_end _ _ _ _ held some (leb-false _ _ e);
    }

pub returns-else-get-key : goal.returns-else-get-key
returns-else-get-key c = leads_no (le-ltb _ _ c.if-get-key.false) (passed_stop _ _ _ _ c.requires.records_sorted c.requires.end_nonzero.0 (row_of c.get.result) c.get.ensures c.if-get-key.false)
