use native.Mathlib.Omega.{arith}
use mathlib.Core.Path.{sym, ◌∙◌}
use Rattle.spec.specs.Widths.{address_size}
use Rattle.laws.specs.Probes.{home_less}
use Rattle.indexlet.specs.SeekLaws.{seek_start, seek_hit, seek_stop, seek_on, seek_end}
use Rattle.indexlet.proofs.seek.Goals as goal

pub loop-d-init : goal.loop-d-init
loop-d-init c = seek_start _ _ _ c.requires

pub overflow_add-i : goal.overflow_add-i
overflow_add-i c = omega (arith, c.requires, home_less address_size c.args.a)

pub returns-then-holds_key : goal.returns-then-holds_key
returns-then-holds_key c = seek_hit _ _ _ _ c.loop-d.invariant c.loop-d-test.true _ c.get-s.ensures
    (sym c.holds_key.ensures ∙ c.if-holds_key.true)

pub returns-then-s-eq0 : goal.returns-then-s-eq0
returns-then-s-eq0 c = seek_stop _ _ _ _ c.loop-d.invariant c.loop-d-test.true _ c.get-s.ensures
    (sym c.holds_key.ensures ∙ c.if-holds_key.false) c.if-s-eq0.true

pub loop-d-preserved : goal.loop-d-preserved
loop-d-preserved c = seek_on _ _ _ _ c.loop-d.invariant c.loop-d-test.true _ c.get-s.ensures
    (sym c.holds_key.ensures ∙ c.if-holds_key.false) c.if-s-eq0.false

pub returns : goal.returns
returns c = seek_end _ _ _ _ c.loop-d.invariant c.loop-d-test.false
