-- `replies::write_told` meets its contract, by what is told.
use Rattle.std.proofs.Common.{◌≡◌, ◌≤◌, subst, length, Ok, arith}
use Rattle.engine.specs.declared.steps.Told.{Told}
use Rattle.engine.specs.Performs.{places_in}
use Rattle.console.specs.Program.{places}
use Rattle.console.specs.Replies.{wrote_granted, wrote_found, wrote_listed, wrote_numbered, wrote_counted}
use Rattle.console.proofs.replies.write_told.Goals as goal

pub returns-in-Nothing : goal.returns-in-Nothing
returns-in-Nothing c = wrote_granted c.in-Nothing.is c.put_line.ensures

pub returns-in-Found : goal.returns-in-Found
returns-in-Found c = wrote_found _ c.in-Found.is (c.write_found.ensures _)

pub returns-in-Listed : goal.returns-in-Listed
returns-in-Listed c =
    let a : length c.args.addresses.now ≡ places = c.told-addresses in
    let b : length c.args.values.now ≡ places = c.told-values in
    let o : length c.args.owners.now ≡ places = c.told-owners in
    let n : c.in-Listed.n ≤ places = subst (λ (t : Told). places_in (Ok t) ≤ places) c.in-Listed.is c.requires.told_bound in
    wrote_listed _ c.in-Listed.is (omega arith) (omega arith) (omega arith) c.put_listed_line.ensures

pub returns-in-Numbered : goal.returns-in-Numbered
returns-in-Numbered c = wrote_numbered _ c.in-Numbered.is c.put_granted_line.ensures

pub returns-in-Counted : goal.returns-in-Counted
returns-in-Counted c = wrote_counted _ c.in-Counted.is c.put_granted_line-in-Counted.ensures
