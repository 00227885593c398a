-- `replies::write_reply` meets its contract: what is told, or the refusal.
use Rattle.std.proofs.Common.{◌≤◌, subst, Result}
use Rattle.spec.specs.declared.Refusal.{Refusal}
use Rattle.engine.specs.declared.steps.Told.{Told}
use Rattle.engine.specs.Performs.{places_in}
use Rattle.console.specs.Program.{places}
use Rattle.console.specs.Replies.{replies_as, wrote_refused}
use Rattle.console.proofs.replies.write_reply.Goals as goal

pub write_told-requires-clause-told_bound : goal.write_told-requires-clause-told_bound
write_told-requires-clause-told_bound c = subst (λ (p : Result Told Refusal). places_in p ≤ places) c.in-Ok.is c.requires.reply_bound

pub returns-in-Ok : goal.returns-in-Ok
returns-in-Ok c = replies_as c.in-Ok.is c.write_told.ensures

pub returns-in-Err : goal.returns-in-Err
returns-in-Err c = wrote_refused _ _ c.in-Err.is c.number_of.ensures c.put_line.ensures
