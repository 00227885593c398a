-- `indexlet::look_up` meets its contract: by the place of the entry, or by a search.
use Prim.Native.Nat.{ℕ, suc, ◌<◌}
use native.Mathlib.Numerals.{add-one}
use native.Mathlib.Omega.{arith}
use mathlib.Core.Path.{sym, ap, ◌∙◌, subst}
use Rattle.spec.specs.Widths.{address_size}
use Rattle.spec.specs.Slots.{slot_count}
use Rattle.laws.specs.Probes.{gap, gap_less, home_less}
use Rattle.indexlet.specs.EnterLaws.{said_at, look_hit, look_miss}
use Rattle.indexlet.proofs.look_up.Goals as goal

pub passed-requires : goal.passed-requires
passed-requires c = (subst (λ (n : ℕ). n < slot_count) (sym c.home-h.ensures) (home_less address_size c.args.a), c.if-at-lt-SLOTS.true)

pub overflow_add-examined : goal.overflow_add-examined
overflow_add-examined c = omega (arith, c.passed.ensures, gap_less c.home-h.result c.find-at.result)

pub returns-then-at-lt-SLOTS : goal.returns-then-at-lt-SLOTS
returns-then-at-lt-SLOTS c =
    let f = c.find-at in
    look_hit _ _ _ c.requires (said_at f.ensures c.content_at-content.ensures) _ _ c.if-at-lt-SLOTS.true (f.ensures.hit c.if-at-lt-SLOTS.true)
    (add-one c.passed.result ∙ ap suc (c.passed.ensures ∙ ap (λ (n : ℕ). gap n f.result) c.home-h.ensures))

pub returns-else-at-lt-SLOTS : goal.returns-else-at-lt-SLOTS
returns-else-at-lt-SLOTS c = look_miss _ _ _ c.requires (said_at c.find-at.ensures c.content_at-content.ensures) _ c.seek.ensures
