use Prim.Native.Nat.{◌+◌}
use native.Mathlib.Omega.{arith}
use mathlib.Core.Path.{refl}
use Rattle.queries.specs.ContentsLaws.{rising_all, next_at, next_done}
use Rattle.queries.specs.NextLaws.{passed_start, follows_done}
use Rattle.contents.specs.RowLaws.{words_read}
use Rattle.contents.specs.CopyLaws.{copying_start, copying_above, copying_room, copying_on, copying_as, copying_end}
use Rattle.contents.proofs.copy_contents.Goals as goal

pub loop-next-init : goal.loop-next-init
loop-next-init c = copying_start _ _ (rising_all _ _ _ c.requires.records_held) c.told-copied

pub store-requires : goal.store-requires
store-requires c = copying_room (rising_all _ _ _ c.requires.records_held) c.loop-next.invariant (next_at c.next_record.ensures c.in-Some.is) c.requires.slots_len_bound

pub returns-then-next : goal.returns-then-next
returns-then-next c = copying_end
    (copying_as c.store.ensures
    (copying_on (rising_all _ _ _ c.requires.records_held) c.loop-next.invariant (next_at c.next_record.ensures c.in-Some.is) _
    c.requires.slots_len_bound (words_read c.in-Some.next.address c.in-Some.next.«record».payload.value c.in-Some.next.«record».payload.owner (omega arith) (omega arith))))
    (next_done
    (follows_done _ _ _ c.requires.records_held c.requires.slots_held _ (c.in-Some.next.address + 1) (passed_start _ _ _ _)
    (omega (arith, c.if-next.true)))
    refl)

pub overflow_add-count : goal.overflow_add-count
overflow_add-count c = omega (arith, copying_room (rising_all _ _ _ c.requires.records_held) c.loop-next.invariant (next_at c.next_record.ensures c.in-Some.is) c.requires.slots_len_bound)

pub loop-next-smaller : goal.loop-next-smaller
loop-next-smaller c = omega (
  arith,
  c.if-next.false,
  copying_above (rising_all _ _ _ c.requires.records_held) c.loop-next.invariant
      (next_at c.next_record.ensures c.in-Some.is),
)

pub loop-next-preserved : goal.loop-next-preserved
loop-next-preserved c = copying_as c.store.ensures
    (copying_on (rising_all _ _ _ c.requires.records_held) c.loop-next.invariant (next_at c.next_record.ensures c.in-Some.is) _
    c.requires.slots_len_bound (words_read c.in-Some.next.address c.in-Some.next.«record».payload.value c.in-Some.next.«record».payload.owner (omega arith) (omega arith)))

pub returns : goal.returns
returns c = copying_end c.loop-next.invariant (next_done c.next_record.ensures c.in_default.is)
