-- `session::run_line` meets its contract, event by event.
use native.Mathlib.Omega.{arith}
use Rattle.transactions.specs.StartLaws.{guarded_fresh}
use Rattle.console.specs.SessionLaws.{goes_true}
use Rattle.console.specs.Places.{places_fit}
use Rattle.console.specs.RunLineLaws.{turn_ended, turn_malformed, turn_guard, turn_line}
use Rattle.console.proofs.session.run_line.Goals as goal

pub write_reply-at-requires-clause-longest_line_in_bounds : goal.write_reply-at-requires-clause-longest_line_in_bounds
write_reply-at-requires-clause-longest_line_in_bounds c =
    let g = goes_true _ _ _ _ _ c.requires.out_value in
    g.2

pub write_reply-at-requires-clause-reply_bound : goal.write_reply-at-requires-clause-reply_bound
write_reply-at-requires-clause-reply_bound c =
    let g = goes_true _ _ _ _ _ c.requires.out_value in
    places_fit c.op_of.ensures c.told-addresses c.told-values c.told-owners c.perform-reply.ensures

pub run_guard-requires : goal.run_guard-requires
run_guard-requires c = (goes_true _ _ _ _ _ c.requires.out_value).2

pub end_malformed-requires : goal.end_malformed-requires
end_malformed-requires c =
    let g = goes_true _ _ _ _ _ c.requires.out_value in
    omega (arith, g.2)

pub returns-in-Line : goal.returns-in-Line
returns-in-Line c =
    let g = goes_true _ _ _ _ _ c.requires.out_value in
    turn_line _ _ _ _ _ _ g.0 g.1 c.requires.started c.parse-t.ensures c.in-Line.is c.op_of.ensures c.told-addresses c.told-values c.told-owners c.perform-reply.ensures
    c.letter_of-letter.ensures c.write_reply-at.ensures

pub returns-in-Guard : goal.returns-in-Guard
returns-in-Guard c =
    let g = goes_true _ _ _ _ _ c.requires.out_value in
    turn_guard _ _ _ _ _ _ g.0 g.1 c.requires.started c.parse-t.ensures c.requires.ready (λ e. guarded_fresh c.requires.ready (c.requires.started.opening e)) c.in-Guard.is (c.run_guard.ensures _)

pub returns-in-Malformed : goal.returns-in-Malformed
returns-in-Malformed c =
    let g = goes_true _ _ _ _ _ c.requires.out_value in
    turn_malformed _ _ _ _ _ _ g.0 g.1 c.requires.started c.parse-t.ensures c.requires.ready c.in-Malformed.is (c.end_malformed.ensures _)

pub returns-in-SliceEnd : goal.returns-in-SliceEnd
returns-in-SliceEnd c =
    let g = goes_true _ _ _ _ _ c.requires.out_value in
    turn_ended _ _ _ _ _ _ g.0 g.1 c.requires.started c.parse-t.ensures c.requires.ready (omega (arith, g.2)) c.in-SliceEnd.is
