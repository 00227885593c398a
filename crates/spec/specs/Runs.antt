-- The starred runs of document 01, "Runs to keep": one table, and one fact proved over it by computing.
use Rattle.std.specs.Prelude.{ℕ, ◌≡◌, refl, Bool, true, false, List, [], ◌∷◌, ◌++◌, map}
use Rattle.std.proofs.Math.Option.{none, some}
use Rattle.lists.specs.Rows.{Row, row}
use Rattle.spec.specs.declared.Refusal.TheVariants.{NoWorker, WorkerFree, Backward, ShortBuffer, Held, Changed, UnderLock, Phantom, Unfit, Uncovered, Overlap}
use Rattle.spec.specs.Records.{limits, standard, standard_map, Payload, Record}
use Rattle.spec.specs.Leaves.{cuts}
use Rattle.spec.specs.Slots.{home_slot}
use Rattle.spec.specs.Maps.{contents}
use Rattle.spec.specs.Steps.{fresh, Places, places, begin, read, scan, put, remove, lock, validate, install, abort, merge, merge_oldest, refused, done, found, listed, numbered, counted, answer, Event, final, history, steps_of}
use Rattle.spec.specs.Events.{value, event, checked, installed}
use Rattle.spec.specs.Computing.{model}

-- buffers in which every scan of the runs fits
abbrev pub wide : Places
wide = places 64 64 64

abbrev pub entry_of : ℕ → ℕ → ℕ → Row Record
entry_of k n c = row k (record { payload = value n; commit = c })

-- A row of the table: a home slot; the leaves that so many records make; whether the map is guarded, a script with its answers,
-- and the contents that it leaves.
pub data Run : Type 0 where
  home : ℕ → ℕ → Run
  leaves : ℕ → List ℕ → Run
  script : Bool → List Event → List (Row Record) → Run

-- what the row says of the model
abbrev pub Holds : Run → Type 0
Holds (home a h) = home_slot limits.bytes a ≡ h
Holds (leaves n ns) = cuts standard n ≡ ns
Holds (script g h rs) =
    (history (fresh (standard_map g)) (steps_of h) ≡ h) × (contents (final (fresh (standard_map g)) (steps_of h)).map ≡ rs)

abbrev pub AllHold : List Run → Type 0
AllHold [] = Unit {0}
AllHold (r ∷ rs) = Holds r × AllHold rs

-- one section is put at 4,096; a scan before its merge meets a phantom, one after it shows it
abbrev pub full_run : List Event
full_run =
    event (begin 0) done
    ∷ event (put 0 4096 (value 32)) done
    ∷ event (lock 0) done
    ∷ event (validate 0) (numbered 1)
    ∷ event (install 0) done
    ∷ event (begin 1) done
    ∷ event (scan 1 4000 5000 wide) (listed [])
    ∷ event (lock 1) done
    ∷ event (validate 1) (refused Phantom)
    ∷ event (merge 4096) (counted 1)
    ∷ event (begin 1) done
    ∷ event (scan 1 4000 5000 wide) (listed (row 4096 (value 32) ∷ []))
    ∷ event (lock 1) done
    ∷ event (validate 1) (numbered 2)
    ∷ event (install 1) done
    ∷ []

-- each reads what the other edits, and both lock
abbrev pub crossing : List Event
crossing =
    event (begin 0) done
    ∷ event (begin 1) done
    ∷ event (read 0 1) (found none 1)
    ∷ event (put 0 2 (value 20)) done
    ∷ event (read 1 2) (found none 1)
    ∷ event (put 1 1 (value 10)) done
    ∷ event (lock 0) done
    ∷ event (lock 1) done
    ∷ event (validate 0) (refused UnderLock)
    ∷ event (validate 1) (numbered 1)
    ∷ event (install 1) done
    ∷ []

-- the order is 0, 1 although 1 installs first
abbrev pub installed_later : List Event
installed_later =
    event (begin 0) done
    ∷ event (read 0 2) (found none 1)
    ∷ event (put 0 1 (value 10)) done
    ∷ event (lock 0) done
    ∷ event (validate 0) (numbered 1)
    ∷ event (begin 1) done
    ∷ event (put 1 2 (value 20)) done
    ∷ event (lock 1) done
    ∷ event (validate 1) (numbered 2)
    ∷ event (install 1) done
    ∷ event (install 0) done
    ∷ []

-- the index holds 7 and its removal waits; a put at 7 is locked, and a merge drops the record under the lock
abbrev pub removed_under_lock : List Event
removed_under_lock =
    event (begin 0) done
    ∷ event (put 0 7 (value 70)) done
    ∷ event (lock 0) done
    ∷ event (validate 0) (numbered 1)
    ∷ event (install 0) done
    ∷ event (merge 7) (counted 1)
    ∷ event (begin 0) done
    ∷ event (remove 0 7) done
    ∷ event (lock 0) done
    ∷ event (validate 0) (numbered 2)
    ∷ event (install 0) done
    ∷ event (begin 0) done
    ∷ event (put 0 7 (value 71)) done
    ∷ event (lock 0) done
    ∷ event (merge 7) (counted 1)
    ∷ event (begin 1) done
    ∷ event (scan 1 0 10 wide) (listed [])
    ∷ event (lock 1) done
    ∷ event (validate 1) (refused Phantom)
    ∷ []

-- ---- further runs, for rules that no starred run shows

-- a put of the same value is still a change: its commit number differs
abbrev pub same_value_again : List Event
same_value_again =
    event (begin 0) done
    ∷ event (put 0 9 (value 90)) done
    ∷ event (lock 0) done
    ∷ event (validate 0) (numbered 1)
    ∷ event (install 0) done
    ∷ event (begin 1) done
    ∷ event (read 1 9) (found (some (value 90)) 1)
    ∷ event (begin 0) done
    ∷ event (put 0 9 (value 90)) done
    ∷ event (lock 0) done
    ∷ event (validate 0) (numbered 2)
    ∷ event (install 0) done
    ∷ event (lock 1) done
    ∷ event (validate 1) (refused Changed)
    ∷ event (lock 1) (refused WorkerFree)
    ∷ []

-- an own write is read unlogged and laid over a scan; a put that another has locked hides its key; an abort ends it
abbrev pub own_writes : List Event
own_writes =
    event (begin 0) done
    ∷ event (put 0 3 (value 30)) done
    ∷ event (read 0 3) (found (some (value 30)) 0)
    ∷ event (remove 0 5) done
    ∷ event (read 0 5) (found none 0)
    ∷ event (scan 0 0 9 (places 1 2 3)) (listed (row 3 (value 30) ∷ []))
    ∷ event (scan 0 0 9 (places 0 2 2)) (refused ShortBuffer)
    ∷ event (begin 1) done
    ∷ event (scan 1 4 9 wide) (listed [])
    ∷ event (lock 1) done
    ∷ event (lock 0) done
    ∷ event (validate 1) (refused Phantom)
    ∷ event (abort 0) done
    ∷ event (abort 0) (refused WorkerFree)
    ∷ event (install 0) (refused WorkerFree)
    ∷ []

-- lists of events, one after the other
abbrev pub in_turn : List (List Event) → List Event
in_turn [] = []
in_turn (h ∷ hs) = h ++ in_turn hs

abbrev pub oldest_merged : ℕ → List Event
oldest_merged n = event merge_oldest (counted n) ∷ []

-- records of these addresses, with the address as value, written by the transaction numbered n
abbrev pub written_by : ℕ → List ℕ → List (Row Record)
written_by n [] = []
written_by n (k ∷ ks) = entry_of k k n ∷ written_by n ks

-- Request 101. Seventeen records make two leaves. Number 4 is installed before number 3, so its address 900 is older than 5,
-- and a later write there leaves it so. The whole leaf of the oldest is merged. Of one install the lower address is older.
abbrev pub oldest_first : List Event
oldest_first =
    in_turn
    (oldest_merged 0
    ∷ installed 0 1 (0 ∷ 10 ∷ 20 ∷ 30 ∷ 40 ∷ 50 ∷ 60 ∷ 70 ∷ [])
    ∷ installed 0 2 (800 ∷ 810 ∷ 820 ∷ 830 ∷ 840 ∷ 850 ∷ 860 ∷ 870 ∷ 880 ∷ [])
    ∷ oldest_merged 17
    ∷ checked 0 3 (5 ∷ [])
    ∷ installed 1 4 (900 ∷ [])
    ∷ (event (install 0) done ∷ [])
    ∷ installed 1 5 (6 ∷ [])
    ∷ installed 1 6 (900 ∷ [])
    ∷ oldest_merged 1
    ∷ oldest_merged 2
    ∷ installed 1 7 (7 ∷ 901 ∷ 902 ∷ [])
    ∷ oldest_merged 1
    ∷ oldest_merged 2
    ∷ oldest_merged 0
    ∷ [])

-- Request 102. A put needs a scan from 65,535 before it to its last byte; the scan may come after the put. A section that
-- waits is met as a phantom, and once merged as an overlap; it may be removed and its place be put over.
abbrev pub guarded_day : List Event
guarded_day =
    event (begin 0) done
    ∷ event (put 0 4096 (value 32)) done
    ∷ event (lock 0) (refused Uncovered)
    ∷ event (scan 0 0 4127 wide) (listed (row 4096 (value 32) ∷ []))
    ∷ event (lock 0) done
    ∷ event (begin 1) done
    ∷ event (scan 1 0 5000 wide) (listed [])
    ∷ event (put 1 4120 (value 8)) done
    ∷ event (validate 0) (numbered 1)
    ∷ event (install 0) done
    ∷ event (lock 1) done
    ∷ event (validate 1) (refused Phantom)
    ∷ event (merge 0) (counted 1)
    ∷ event (begin 1) done
    ∷ event (put 1 4120 (value 16)) done
    ∷ event (scan 1 0 4134 wide) (listed (row 4096 (value 32) ∷ row 4120 (value 16) ∷ []))
    ∷ event (lock 1) (refused Uncovered)
    ∷ event (scan 1 0 4135 wide) (listed (row 4096 (value 32) ∷ row 4120 (value 16) ∷ []))
    ∷ event (lock 1) (refused Overlap)
    ∷ event (put 1 4128 (value 8)) done
    ∷ event (lock 1) (refused Overlap)
    ∷ event (remove 1 4120) done
    ∷ event (lock 1) done
    ∷ event (validate 1) (numbered 2)
    ∷ event (install 1) done
    ∷ event (begin 2) done
    ∷ event (scan 2 0 5000 wide) (listed (row 4096 (value 32) ∷ []))
    ∷ event (remove 2 4096) done
    ∷ event (put 2 4100 (value 28)) done
    ∷ event (lock 2) done
    ∷ event (validate 2) (refused Phantom)
    ∷ event (merge 0) (counted 2)
    ∷ event (begin 2) done
    ∷ event (scan 2 0 5000 wide) (listed (row 4096 (value 32) ∷ row 4128 (value 8) ∷ []))
    ∷ event (remove 2 4096) done
    ∷ event (put 2 4100 (value 29)) done
    ∷ event (lock 2) (refused Overlap)
    ∷ event (put 2 4100 (value 28)) done
    ∷ event (lock 2) done
    ∷ event (validate 2) (numbered 3)
    ∷ event (install 2) done
    ∷ []

-- Lengths and ends come before scans, scans before overlaps, all before locks of others. Of the scans that cover a put the
-- latest decides: here it has seen less than the first.
abbrev pub guarded_order : List Event
guarded_order =
    event (begin 0) done
    ∷ event (scan 0 0 200000 wide) (listed [])
    ∷ event (put 0 0 (value 65536)) done
    ∷ event (lock 0) done
    ∷ event (begin 1) done
    ∷ event (put 1 0 (value 65537)) done
    ∷ event (lock 1) (refused Unfit)
    ∷ event (put 1 0 (value 0)) done
    ∷ event (put 1 4294967295 (value 1)) done
    ∷ event (lock 1) (refused Unfit)
    ∷ event (put 1 0 (value 8)) done
    ∷ event (lock 1) (refused Uncovered)
    ∷ event (scan 1 0 4294967295 wide) (listed (row 0 (value 8) ∷ row 4294967295 (value 1) ∷ []))
    ∷ event (lock 1) (refused Held)
    ∷ event (put 1 4294967295 (value 2)) done
    ∷ event (lock 1) (refused Unfit)
    ∷ event (put 1 4294967295 (value 1)) done
    ∷ event (remove 1 0) done
    ∷ event (put 1 4294901760 (value 65536)) done
    ∷ event (lock 1) (refused Overlap)
    ∷ event (remove 1 4294967295) done
    ∷ event (lock 1) (refused Held)
    ∷ event (validate 0) (numbered 1)
    ∷ event (install 0) done
    ∷ event (merge 0) (counted 1)
    ∷ event (begin 2) done
    ∷ event (scan 2 0 200000 wide) (listed (row 0 (value 65536) ∷ []))
    ∷ event (put 2 65535 (value 4)) done
    ∷ event (lock 2) (refused Overlap)
    ∷ event (begin 0) done
    ∷ event (remove 0 0) done
    ∷ event (lock 0) done
    ∷ event (validate 0) (numbered 2)
    ∷ event (install 0) done
    ∷ event (merge 0) (counted 1)
    ∷ event (scan 2 0 200000 wide) (listed (row 65535 (value 4) ∷ []))
    ∷ event (lock 2) done
    ∷ event (validate 2) (refused Changed)
    ∷ []

-- Request 103. 0, 425 and 726 share a home slot, which 0 takes and 425 passes. Both the slot of an entry and the one whose
-- count of 0 ends a search are counted. Once 0 gives its slot back, that is empty and its count is not 0: a search passes
-- it, and 726 takes it.
abbrev pub slots_passed : List Event
slots_passed =
    event (begin 0) done
    ∷ event (put 0 0 (value 10)) done
    ∷ event (lock 0) done
    ∷ event (begin 1) done
    ∷ event (put 1 425 (value 20)) done
    ∷ event (lock 1) done
    ∷ event (validate 1) (numbered 1)
    ∷ event (install 1) done
    ∷ event (begin 2) done
    ∷ event (read 2 0) (found none 1)
    ∷ event (read 2 425) (found (some (value 20)) 2)
    ∷ event (read 2 726) (found none 2)
    ∷ event (read 2 1) (found none 1)
    ∷ event (abort 0) done
    ∷ event (read 2 0) (found none 2)
    ∷ event (read 2 425) (found (some (value 20)) 2)
    ∷ event (put 2 425 (value 21)) done
    ∷ event (read 2 425) (found (some (value 21)) 0)
    ∷ event (remove 2 726) done
    ∷ event (read 2 726) (found none 0)
    ∷ event (lock 2) done
    ∷ event (validate 2) (numbered 2)
    ∷ event (merge 0) (counted 1)
    ∷ event (install 2) done
    ∷ event (begin 3) done
    ∷ event (read 3 425) (found (some (value 21)) 2)
    ∷ event (read 3 726) (found none 1)
    ∷ []

-- Request 104. As in the starred run the index holds 7, its removal waits, and a merge drops the record under a lock; but the
-- lock is for a removal, so it hides nothing. Nor does a removal that waits, of 5, which was never there.
abbrev pub removals_hide_nothing : List Event
removals_hide_nothing =
    in_turn
    (installed 0 1 (7 ∷ [])
    ∷ (event (merge 7) (counted 1)
    ∷ event (begin 0) done
    ∷ event (remove 0 5) done
    ∷ event (remove 0 7) done
    ∷ event (lock 0) done
    ∷ event (validate 0) (numbered 2)
    ∷ event (install 0) done
    ∷ event (begin 0) done
    ∷ event (remove 0 7) done
    ∷ event (lock 0) done
    ∷ event (merge 7) (counted 2)
    ∷ event (begin 2) done
    ∷ event (remove 2 5) done
    ∷ event (lock 2) done
    ∷ event (validate 2) (numbered 3)
    ∷ event (install 2) done
    ∷ event (begin 1) done
    ∷ event (scan 1 0 10 wide) (listed [])
    ∷ event (lock 1) done
    ∷ event (validate 1) (numbered 4)
    ∷ event (install 1) done
    ∷ [])
    ∷ [])

-- A put that waits hides its key under a lock for a removal, and a put that another has locked for hides it while a removal
-- waits there. The worker's own does not.
abbrev pub puts_hide : List Event
puts_hide =
    in_turn
    (installed 0 1 (7 ∷ [])
    ∷ (event (begin 0) done
    ∷ event (remove 0 7) done
    ∷ event (lock 0) done
    ∷ event (begin 1) done
    ∷ event (scan 1 0 10 wide) (listed [])
    ∷ event (lock 1) done
    ∷ event (validate 1) (refused Phantom)
    ∷ event (validate 0) (numbered 2)
    ∷ event (install 0) done
    ∷ event (begin 0) done
    ∷ event (scan 0 0 10 wide) (listed [])
    ∷ event (put 0 7 (value 71)) done
    ∷ event (lock 0) done
    ∷ event (begin 1) done
    ∷ event (scan 1 0 10 wide) (listed [])
    ∷ event (lock 1) done
    ∷ event (validate 1) (refused Phantom)
    ∷ event (validate 0) (numbered 3)
    ∷ event (install 0) done
    ∷ [])
    ∷ [])

-- Request 106. A read, a scan and the end tell whose section it is, before a merge and after it. The third buffer decides too.
-- A put that changes the owner and nothing else is a change.
abbrev pub owned : ℕ → ℕ → Payload
owned n o = record { value = n; owner = o }

abbrev pub owners_told : List Event
owners_told =
    event (begin 0) done
    ∷ event (put 0 7 (owned 5 1)) done
    ∷ event (read 0 7) (found (some (owned 5 1)) 0)
    ∷ event (lock 0) done
    ∷ event (validate 0) (numbered 1)
    ∷ event (install 0) done
    ∷ event (begin 1) done
    ∷ event (read 1 7) (found (some (owned 5 1)) 1)
    ∷ event (begin 0) done
    ∷ event (put 0 7 (owned 5 65535)) done
    ∷ event (lock 0) done
    ∷ event (validate 0) (numbered 2)
    ∷ event (install 0) done
    ∷ event (lock 1) done
    ∷ event (validate 1) (refused Changed)
    ∷ event (merge 7) (counted 1)
    ∷ event (begin 1) done
    ∷ event (scan 1 0 10 (places 1 1 0)) (refused ShortBuffer)
    ∷ event (scan 1 0 10 (places 1 1 1)) (listed (row 7 (owned 5 65535) ∷ []))
    ∷ []

-- Document 01's starred runs, in its order.
abbrev pub starred : List Run
starred =
    home 0 144
    ∷ home 1 233
    ∷ home 4096 160
    ∷ leaves 16 (16 ∷ [])
    ∷ leaves 17 (8 ∷ 9 ∷ [])
    ∷ leaves 24 (8 ∷ 8 ∷ 8 ∷ [])
    ∷ leaves 31 (8 ∷ 8 ∷ 15 ∷ [])
    ∷ script false full_run (entry_of 4096 32 1 ∷ [])
    ∷ script false (event (merge 0) (counted 0) ∷ []) []
    ∷ script false
    (event (begin 0) done
    ∷ event (scan 0 5 5 wide) (listed [])
    ∷ event (scan 0 5 4 wide) (refused Backward)
    ∷ [])
    []
    ∷ script false (event (begin 7) done ∷ event (begin 8) (refused NoWorker) ∷ []) []
    ∷ script false crossing (entry_of 1 10 1 ∷ [])
    ∷ script false installed_later (entry_of 1 10 1 ∷ entry_of 2 20 2 ∷ [])
    ∷ script false removed_under_lock []
    ∷ []

abbrev pub further : List Run
further =
    script false same_value_again (entry_of 9 90 2 ∷ [])
    ∷ script false own_writes []
    ∷ script false oldest_first
    (entry_of 0 0 1 ∷ entry_of 5 5 3 ∷ entry_of 6 6 5 ∷ entry_of 7 7 7
    ∷ written_by 1 (10 ∷ 20 ∷ 30 ∷ 40 ∷ 50 ∷ 60 ∷ 70 ∷ [])
    ++ (written_by 2 (800 ∷ 810 ∷ 820 ∷ 830 ∷ 840 ∷ 850 ∷ 860 ∷ 870 ∷ 880 ∷ [])
    ++ (entry_of 900 900 6 ∷ entry_of 901 901 7 ∷ entry_of 902 902 7 ∷ [])))
    ∷ script true guarded_day (entry_of 4100 28 3 ∷ entry_of 4128 8 2 ∷ [])
    ∷ script true guarded_order []
    ∷ script false slots_passed (entry_of 425 21 2 ∷ [])
    ∷ script false removals_hide_nothing []
    ∷ script false puts_hide (entry_of 7 71 3 ∷ [])
    ∷ script false owners_told (row 7 (record { payload = owned 5 65535; commit = 2 }) ∷ [])
    ∷ []

pub further_hold : AllHold further
unfolding model
further_hold =
    ((refl, refl), ((refl, refl), ((refl, refl), ((refl, refl), ((refl, refl), ((refl, refl), ((refl, refl), ((refl, refl), ((refl, refl), tt)))))))))

pub starred_hold : AllHold starred
unfolding model
starred_hold =
    (refl, (refl, (refl, (refl, (refl, (refl, (refl, ((refl, refl), ((refl, refl), ((refl, refl), ((refl, refl), ((refl, refl), ((refl, refl), ((refl, refl), tt))))))))))))))
