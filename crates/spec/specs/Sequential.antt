-- Document 01, "The plain sorted list": entries of address, value and stamp by rising address, at first none, without
-- limits; and what it answers when a transaction's steps are run on it alone.
-- Nothing here knows leaves, slots, locks or refusals.
use Rattle.std.specs.Prelude.{ℕ, ◌≡◌, List, [], ◌∷◌}
use Rattle.std.proofs.Math.Option.{Option, none, some}
use Rattle.lists.specs.Tests.{maybe}
use Rattle.lists.specs.Rows.{Row, look, assign, between, map_items}
use Rattle.spec.specs.Records.{Payload, Record, written, deleted, outcome, payload_of}
use Rattle.spec.specs.Steps.{Access, read_at, scan_over, put_to, remove_at, Step, access_of, Answer, refused, done, found, listed, numbered, counted, Event}

-- the list after a step of the open transaction numbered n
unfoldable pub after_access : ℕ → List (Row Record) → Access → List (Row Record)
after_access n l (read_at k) = l
after_access n l (scan_over lo hi b) = l
after_access n l (put_to k p) = assign k (outcome n (written p)) l
after_access n l (remove_at k) = assign k (outcome n deleted) l

-- the list after a step of the transaction numbered n: no other one changes it
unfoldable pub after_step : ℕ → List (Row Record) → Step → List (Row Record)
after_step n l s = maybe (access_of s) l (after_access n l)

-- what the list answers to a scan: addresses and values from lo to hi, rising
unfoldable pub list_scan : List (Row Record) → ℕ → ℕ → List (Row Payload)
list_scan l lo hi = map_items (λ (r : Record). r.payload) (between lo hi l)

-- The value or the absence that a read tells; no other answer tells one. How many slots it examined (request 103) is the
-- indexlet's, of which the list knows nothing.
unfoldable pub value_told : Answer → Option (Option Payload)
value_told (refused r) = none
value_told done = none
value_told (found p n) = some p
value_told (listed l) = none
value_told (numbered n) = none
value_told (counted n) = none

-- the list answers a step of an open transaction as it was answered. Compared are a read's value or absence and a scan's count
-- and places.
unfoldable pub AccessAgrees : List (Row Record) → Answer → Access → Type 0
AccessAgrees l a (read_at k) = value_told a ≡ some (payload_of (look l k))
AccessAgrees l a (scan_over lo hi b) = a ≡ listed (list_scan l lo hi)
AccessAgrees l a (put_to k p) = Unit {0}
AccessAgrees l a (remove_at k) = Unit {0}

-- the list answers a step as it was answered: no other one is compared
unfoldable pub Agrees : List (Row Record) → Step → Answer → Type 0
Agrees l s a = maybe (access_of s) (Unit {0}) (AccessAgrees l a)

-- the list after all steps of the transaction numbered n
unfoldable pub after_steps : ℕ → List (Row Record) → List Event → List (Row Record)
after_steps n l [] = l
after_steps n l (e ∷ es) = after_steps n (after_step n l e.step) es

-- the list answers each step, as it stands when the step's turn comes, as it was answered
unfoldable pub AllAgree : ℕ → List (Row Record) → List Event → Type 0
AllAgree n l [] = Unit {0}
AllAgree n l (e ∷ es) = Agrees l e.step e.answer × AllAgree n (after_step n l e.step) es
