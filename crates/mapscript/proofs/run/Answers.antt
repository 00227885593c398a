use native.Mathlib.Omega.{arith}
use mathlib.Core.Path.{ap}
use Rattle.std.specs.Prelude.{not}
use Rattle.std.proofs.Common.{sym, ◌∙◌}
use Rattle.std.proofs.Math.Bool.{not-not}
use Rattle.lists.specs.TestLaws.{clash}
use Rattle.shell.specs.declared.system.Calls.{Calls}
use Rattle.shell.specs.WorkLaws.{rests_start, ran}
use Rattle.mapscript.proofs.run.Goals as goal
use Rattle.mapscript.proofs.run.Goals.{else-loop-test, then-loop-test+then-not-w}

pub loop-init : goal.loop-init
loop-init c =
    let n = c.none.ensures in
    let made = ap (λ (k : Calls). k.made) n in
    let fed = ap (λ (k : Calls). k.fed) n in
    let told = ap (λ (k : Calls). k.told) n in
    (rests_start _ c.fresh_session-start.ensures n, c.large_buffer-out.ensures, c.large_buffer-input.ensures, omega (arith, made), omega (arith, fed, made), omega (arith, told, made))

pub returns : goal.returns
returns c =
    let i = c.loop.invariant in
    let made = i.3 in
    ran i.0 c.close.ensures
    (elim c.loop-test.branch [
      | else-loop-test w ↦ (λ g. omega (arith, made, w.loop-test.false))
      | then-loop-test+then-not-w w ↦ (λ g. clash g (sym (not-not c.loop.w.going) ∙ ap not w.if-not-w.true))
    ])
