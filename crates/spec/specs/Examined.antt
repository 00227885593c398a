-- Request 103: the most slots that a look-up examines, in maps never merged (the request's folded), with no transaction ended
-- except by install. What that bound speaks of.
use Rattle.std.specs.Prelude.{Bool, true, false}
use Rattle.lists.specs.Tests.{less}
use Rattle.spec.specs.Refusals.{ends}
use Rattle.spec.specs.Steps.{beginning, access, locking, validating, installing, aborting, Step, act, merge, merge_oldest, Answer, refused, done, found, listed, numbered, counted, Event}

unfoldable pub is_abort : Step → Bool
is_abort (act w aborting) = true
is_abort (act w beginning) = false
is_abort (act w (access a)) = false
is_abort (act w locking) = false
is_abort (act w validating) = false
is_abort (act w installing) = false
is_abort (merge a) = false
is_abort merge_oldest = false

-- the step, with this answer, takes an entry out of the indexlet, or may: a merge that took a write in, a refusal that ends
-- the transaction, an abort
unfoldable pub takes_out_by : Step → Answer → Bool
takes_out_by s (refused r) = ends r
takes_out_by s done = is_abort s
takes_out_by s (found p n) = false
takes_out_by s (listed l) = false
takes_out_by s (numbered n) = false
takes_out_by s (counted n) = less 0 n

unfoldable pub takes_out : Event → Bool
takes_out e = takes_out_by e.step e.answer
