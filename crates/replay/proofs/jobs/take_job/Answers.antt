-- `jobs::take_job` meets its contract: without meaning, full, or taken.
use Rattle.codes.specs.CodeLaws.{meant_lends}
use Rattle.replay.specs.FitLaws.{fits_yes, fits_no}
use Rattle.replay.specs.RunLaws.{job_unmeant, job_full, job_roomy, job_taken}
use Rattle.engine.specs.Performs.{performed_of}
use Rattle.replay.proofs.jobs.take_job.Goals as goal
use Rattle.std.specs.Prelude.{not}
use Rattle.std.proofs.Math.Path.{ap}

pub returns-then-not-fits : goal.returns-then-not-fits
returns-then-not-fits c = job_full _ _ _ _ c.requires.ready c.requires.at_in_bounds.0 c.requires.at_in_bounds.1 c.decode.ensures c.in-Some.is (fits_no _ _ c.fits.ensures (ap not c.if-not-fits.true))

pub perform_first-reply-requires-clause-lends : goal.perform_first-reply-requires-clause-lends
perform_first-reply-requires-clause-lends c = meant_lends _ _ c.decode.ensures c.in-Some.is

pub put_answer_words-requires : goal.put_answer_words-requires
put_answer_words-requires c = job_roomy _ _ _ _ c.requires.ready c.requires.at_in_bounds.0 c.requires.at_in_bounds.1 c.decode.ensures c.in-Some.is (performed_of _ _ c.perform_first-reply.result) (fits_yes _ _ c.fits.ensures (ap not c.if-not-fits.false)) c.perform_first-reply.ensures

pub returns-else-not-fits : goal.returns-else-not-fits
returns-else-not-fits c = job_taken _ _ _ _ c.requires.ready c.requires.at_in_bounds.0 c.requires.at_in_bounds.1 c.decode.ensures c.in-Some.is (performed_of _ _ c.perform_first-reply.result) (fits_yes _ _ c.fits.ensures (ap not c.if-not-fits.false)) c.perform_first-reply.ensures c.put_answer_words.ensures

pub returns-in-None : goal.returns-in-None
returns-in-None c = job_unmeant _ _ _ _ c.requires.ready c.requires.at_in_bounds.0 c.requires.at_in_bounds.1 c.decode.ensures c.in-None.is
