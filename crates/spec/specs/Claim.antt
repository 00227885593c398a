-- Document 01, demand 3: for a list of steps from a fresh map, the installed transactions, run alone one after the
-- other by commit number on the plain sorted list, give the same answers and the same contents, and real time is
-- respected.
--
-- The claim speaks of a history (the steps taken, with their answers) and of the contents at the end. A transaction is
-- read off the history: the steps granted at one worker from a granted begin to a granted install, with no other begin
-- granted there between. Its commit number is what its validation answered.
use Rattle.std.specs.Prelude.{ℕ, zero, suc, ◌<◌, ◌≤◌, ◌≡◌, Bool, true, false}
use mathlib.Core.List.{List, [], ◌∷◌, ◌++◌, Memᴰ}
use Rattle.std.proofs.Math.Option.{some}
use Rattle.lists.specs.Tests.{pick, maybe}
use Rattle.lists.specs.Rows.{Row, row, look, insert, delete, keys, Different}
use Rattle.spec.specs.Records.{Record}
use Rattle.spec.specs.Steps.{beginning, access, locking, validating, installing, aborting, Step, act, merge, merge_oldest, Answer, refused, done, found, listed, numbered, counted, Event}
use Rattle.spec.specs.Sequential.{after_steps, AllAgree}

-- ---- the transactions of a history

-- A transaction, as far as it has been read: the places of its begin and its install in the history, the commit number
-- (0 before its validation), and the granted steps between the two with their answers.
pub record Transaction : Type 0 where
  pub begun : ℕ
  pub ended : ℕ
  pub number : ℕ
  pub events : List Event

-- What has been read of a history: how many steps, how many commit numbers were given, the transaction that goes on at
-- each worker, and the installed ones under their numbers, the latest first.
pub record Reading : Type 0 where
  pub place : ℕ
  pub given : ℕ
  pub running : List (Row Transaction)
  pub installed : List (Row Transaction)

abbrev pub nothing_read : Reading
nothing_read = record { place = 0; given = 0; running = []; installed = [] }

unfoldable pub is_granted : Answer → Bool
is_granted (refused r) = false
is_granted done = true
is_granted (found p n) = true
is_granted (listed l) = true
is_granted (numbered n) = true
is_granted (counted n) = true

-- one step more was read, and worker w has this transaction now
unfoldable pub running_now : Reading → ℕ → Transaction → Reading
running_now ρ w t =
    record {
      place = suc ρ.place;
      given = ρ.given;
      running = insert w t ρ.running;
      installed = ρ.installed;
    }

-- one step more was read, and nothing else
unfoldable pub passed : Reading → Reading
passed ρ =
    record { place = suc ρ.place; given = ρ.given; running = ρ.running; installed = ρ.installed }

unfoldable pub started : Reading → Transaction
started ρ = record { begun = ρ.place; ended = 0; number = 0; events = [] }

-- the transaction with one event more
unfoldable pub extended : Event → Transaction → Transaction
extended e t =
    record { begun = t.begun; ended = t.ended; number = t.number; events = t.events ++ (e ∷ []) }

-- an event of worker w, whose transaction goes on
unfoldable pub goes_on : Reading → ℕ → Event → Reading
goes_on ρ w e = maybe (look ρ.running w) (passed ρ) (λ (t : Transaction). running_now ρ w (extended e t))

-- the number that a validation answered
unfoldable pub number_in : Answer → ℕ
number_in (refused r) = 0
number_in done = 0
number_in (found p x) = 0
number_in (listed l) = 0
number_in (numbered n) = n
number_in (counted n) = 0

unfoldable pub with_number : ℕ → Transaction → Transaction
with_number n t = record { begun = t.begun; ended = t.ended; number = n; events = t.events }

unfoldable pub one_more_given : Reading → Reading
one_more_given ρ =
    record { place = ρ.place; given = suc ρ.given; running = ρ.running; installed = ρ.installed }

-- a validation of worker w: its transaction has the number
unfoldable pub validated : Reading → ℕ → Event → Reading
validated ρ w e =
    one_more_given
    (maybe (look ρ.running w) (passed ρ)
    (λ (t : Transaction). running_now ρ w (with_number (number_in e.answer) (extended e t))))

-- an install of worker w: its transaction is an installed one
unfoldable pub installed_now : Reading → ℕ → Transaction → Reading
installed_now ρ w t =
    record {
      place = suc ρ.place;
      given = ρ.given;
      running = delete w ρ.running;
      installed =
          row t.number (record { begun = t.begun; ended = ρ.place; number = t.number; events = t.events })
          ∷ ρ.installed;
    }

-- what a granted step adds
unfoldable pub read_granted : Reading → Event → Step → Reading
read_granted ρ e (act w beginning) = running_now ρ w (started ρ)
read_granted ρ e (act w (access a)) = goes_on ρ w e
read_granted ρ e (act w locking) = goes_on ρ w e
read_granted ρ e (act w validating) = validated ρ w e
read_granted ρ e (act w installing) = maybe (look ρ.running w) (passed ρ) (installed_now ρ w)
read_granted ρ e (act w aborting) = passed ρ
read_granted ρ e (merge a) = passed ρ
read_granted ρ e merge_oldest = passed ρ

-- the reading with one event more
unfoldable pub advance : Reading → Event → Reading
advance ρ e = pick (is_granted e.answer) (read_granted ρ e e.step) (passed ρ)

unfoldable pub read_on : Reading → List Event → Reading
read_on ρ [] = ρ
read_on ρ (e ∷ es) = read_on (advance ρ e) es

unfoldable pub reading : List Event → Reading
reading h = read_on nothing_read h

-- ---- the claim

-- the plain sorted list after the transactions numbered 1 to m, each whole
unfoldable pub list_after : List (Row Transaction) → ℕ → List (Row Record)
list_after ts zero = []
list_after ts (suc m) =
    maybe (look ts (suc m)) (list_after ts m) (λ (t : Transaction). after_steps (suc m) (list_after ts m) t.events)

-- What demand 3 says of what was read of a history, and of the contents at the end.
pub record Serial (ρ : Reading) (contents : List (Row Record)) : Type 0 where
  -- each installed transaction, run on the list that those with smaller numbers leave, gets the answers that it got
  pub answers :
      (n : ℕ) (t : Transaction) → look ρ.installed (suc n) ≡ some t → AllAgree (suc n) (list_after ρ.installed n) t.events
  -- the list after the last number is the contents, commit numbers included
  pub same_contents : list_after ρ.installed ρ.given ≡ contents
  -- each number is one of those given
  pub first_number : (r : Row Transaction) → Memᴰ r ρ.installed → 1 ≤ r.key
  pub last_number_lem : (r : Row Transaction) → Memᴰ r ρ.installed → r.key ≤ ρ.given
  -- and no other transaction has it
  pub one_each : Different (keys ρ.installed)
  -- one that begins after another was installed has the larger number
  pub real_time :
      (r q : Row Transaction) → Memᴰ r ρ.installed → Memᴰ q ρ.installed
      → r.item.ended < q.item.begun → r.key < q.key

-- Demand 3 of a history and the contents at the end.
abbrev pub SerialRun : List Event → List (Row Record) → Type 0
SerialRun h contents = Serial (reading h) contents
