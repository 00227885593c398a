-- The claim bites: histories that no correct engine gives, one for each kind of lie, do not meet it.
use Rattle.std.specs.Prelude.{ℕ, ◌<◌, ◌≡◌, refl, true, false, List, [], ◌∷◌, ◌++◌}
use Rattle.std.proofs.Common.{arith, ap}
use mathlib.Core.List.Memᴰ
use Rattle.std.proofs.Math.Option.{none, some}
use Rattle.lists.specs.Rows.{Row, row}
use Rattle.spec.specs.Records.{Record}
use Rattle.spec.specs.Steps.{begin, read, scan, put, lock, validate, install, done, found, listed, numbered, Event}
use Rattle.spec.specs.Claim.{SerialRun}
use Rattle.spec.specs.Computing.{claim}
use Rattle.spec.specs.Events.{value, event}
use Rattle.spec.specs.Runs.{wide, entry_of}

-- a transaction that puts a value at an address
abbrev putter : ℕ → ℕ → ℕ → ℕ → List Event
putter w k v n =
    event (begin w) done
    ∷ event (put w k (value v)) done
    ∷ event (lock w) done
    ∷ event (validate w) (numbered n)
    ∷ event (install w) done
    ∷ []

-- a scan misses the section at 4,096 that waits, and is validated all the same
abbrev pub missed : List Event
missed =
    putter 0 4096 32 1 ++
    (event (begin 1) done
    ∷ event (scan 1 4000 5000 wide) (listed [])
    ∷ event (lock 1) done
    ∷ event (validate 1) (numbered 2)
    ∷ event (install 1) done
    ∷ [])

pub missed_lies : SerialRun missed (entry_of 4096 32 1 ∷ []) → ⊥
unfolding claim
missed_lies s =
    let e : listed [] ≡ listed (row 4096 (value 32) ∷ []) = (s.answers 1 _ refl).0 in
    let z : ◌≡◌ {A = ℕ} 0 1 = cc in
    omega arith

-- numbers by the order of installs: 0 read that 2 is absent, and comes after 1, which put it there
abbrev pub by_install : List Event
by_install =
    event (begin 0) done
    ∷ event (read 0 2) (found none 1)
    ∷ event (put 0 1 (value 10)) done
    ∷ event (lock 0) done
    ∷ event (validate 0) (numbered 2)
    ∷ event (begin 1) done
    ∷ event (put 1 2 (value 20)) done
    ∷ event (lock 1) done
    ∷ event (validate 1) (numbered 1)
    ∷ event (install 1) done
    ∷ event (install 0) done
    ∷ []

pub by_install_lies : SerialRun by_install (entry_of 1 10 2 ∷ entry_of 2 20 1 ∷ []) → ⊥
unfolding claim
by_install_lies s =
    let e : some none ≡ some (some (value 20)) = (s.answers 1 _ refl).0 in
    let z : ◌≡◌ {A = ℕ} 0 1 = cc in
    omega arith

-- the right history, and a record with another transaction's number
pub stamp_lies : SerialRun (putter 0 4096 32 1) (entry_of 4096 32 2 ∷ []) → ⊥
unfolding claim
stamp_lies s =
    let e : entry_of 4096 32 1 ∷ [] ≡ entry_of 4096 32 2 ∷ [] = s.same_contents in
    let q : entry_of 4096 32 1 ≡ entry_of 4096 32 2 = cc in
    let c : ◌≡◌ {A = ℕ} 1 2 = ap (λ (r : Row Record). r.item.commit) q in
    omega arith

-- one that begins after another was installed gets the smaller number
pub time_lies : SerialRun (putter 0 1 10 2 ++ putter 1 2 20 1) (entry_of 1 10 2 ∷ entry_of 2 20 1 ∷ []) → ⊥
unfolding claim
time_lies s =
    let l : 2 < 1 = s.real_time _ _ (Memᴰ.tail (Memᴰ.head refl)) (Memᴰ.head refl) (omega arith) in
    omega arith

-- two with one number
pub twice_lies : SerialRun (putter 0 1 10 1 ++ putter 1 1 20 1) (entry_of 1 20 1 ∷ []) → ⊥
unfolding claim
twice_lies s =
    let e : true ≡ false = s.one_each.0 in
    let z : ◌≡◌ {A = ℕ} 0 1 = cc in
    omega arith
