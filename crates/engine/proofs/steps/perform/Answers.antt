-- `steps::perform` meets its contract: the promise of the function that it calls, under the operation's name.
use Rattle.std.specs.Prelude.{refl}
use Rattle.std.proofs.lemmas.Result.{err_from_is_err_and}
use Rattle.engine.specs.PerformLaws.{quiet_done, quiet_refused, performs_quiet}
use Rattle.engine.proofs.steps.perform.Goals as goal

pub returns-in_err-begin-in-Begin : goal.returns-in_err-begin-in-Begin
returns-in_err-begin-in-Begin c =
    let p = err_from_is_err_and c.from_residual.result c.from_residual.ensures.1 in
    rw (p.1, p.2) (performs_quiet _ (quiet_refused _ (λ b. refl) c.in-Begin.is _
    ((c.in_err-begin-in-Begin.ensures c.args.c.now).refines_so _ _ c.requires)))

pub returns-in_ok-begin-in-Begin : goal.returns-in_ok-begin-in-Begin
returns-in_ok-begin-in-Begin c =
    performs_quiet _ (quiet_done _ (λ b. refl) c.in-Begin.is ((c.in_ok-begin-in-Begin.ensures c.args.c.now).refines_so _ _ c.requires))
