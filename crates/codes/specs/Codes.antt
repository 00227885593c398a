-- Steps and answers in numbers: what a code means, and which numbers an answer is.
use Rattle.std.specs.Prelude.{ℕ, Result, Ok, Err, Some, None, Option as Optional, ◌^◌, Bool, List, [], ◌∷◌, length}
use Rattle.std.proofs.Math.Option.{none, some}
use Rattle.lists.specs.Tests.{pick, both, same, less, at_most}
use Rattle.lists.specs.Rows.{Row}
use Rattle.spec.specs.Widths.{addresses, worker_names}
use Rattle.spec.specs.Records.{Payload}
use Rattle.spec.specs.Refusals.{number_of}
use Rattle.spec.specs.Steps.{Places, places, Answer, refused, done, found, listed, numbered, counted}
use Rattle.engine.specs.declared.steps.Access.TheVariants as access
use Rattle.engine.specs.declared.steps.Ending.TheVariants as ending
use Rattle.engine.specs.declared.steps.Op.{Op}
use Rattle.engine.specs.declared.steps.Op.TheVariants as op
use Rattle.spec.specs.declared.Refusal.{Refusal}
use Rattle.accesses.specs.declared.reads.ReadValue.{ReadValue}
use Rattle.engine.specs.declared.steps.Told.{Told}
use Rattle.engine.specs.declared.steps.Told.TheVariants as told
use Rattle.codes.specs.declared.Code.{Code}
use Rattle.buffers.specs.declared.Places.{Places as PlaceCounts}
use Rattle.codes.specs.declared.Coded.{Coded}

-- ---- steps

-- an operation, and the places that it wants; or no meaning
abbrev pub Decoded : Type 0
Decoded = Optional (Op × PlaceCounts)

abbrev pub meant_with : Op → Places → Decoded
meant_with o w = Some (o, record { addresses = w.addresses; values = w.values; owners = w.owners })

-- ... which are none
abbrev pub meant_alone : Op → Decoded
meant_alone o = meant_with o (places 0 0 0)

-- lent buffers of m places have as many as a scan or a portion wants
unfoldable pub places_lent : Places → Code → Bool
places_lent m k = both (at_most k.d m.addresses) (both (at_most k.e m.values) (at_most k.f m.owners))

-- a scan: the seat, the ends of the range, and the places that it wants, of lent buffers of m places
unfoldable pub decoded_scan : Places → Code → Decoded
decoded_scan m k =
    pick (both (less k.c addresses) (places_lent m k))
    (meant_with (op.Access k.a (access.Scan k.b k.c)) (places k.d k.e k.f))
    None

-- a put: the seat, the address, the value, and the owner, which has 16 bits
unfoldable pub decoded_put : Code → Decoded
decoded_put k = pick (less k.d (2 ^ 16)) (meant_alone (op.Access k.a (access.Put k.b k.c k.d))) None

-- read, scan, put, remove: the seat, and the address or the lower end; all but a scan want no places
unfoldable pub decoded_access : Places → Code → Decoded
decoded_access m k =
    pick (less k.b addresses)
    (pick (same k.kind 1) (meant_alone (op.Access k.a (access.Read k.b)))
    (pick (same k.kind 2) (decoded_scan m k)
    (pick (same k.kind 3) (decoded_put k)
    (pick (same k.kind 4) (meant_alone (op.Access k.a (access.Remove k.b))) None))))
    None

-- a step with a seat: begin, lock, validate, install, abort, and those above
unfoldable pub decoded_seat : Places → Code → Decoded
decoded_seat m k =
    pick (less k.a worker_names)
    (pick (same k.kind 0) (meant_alone (op.Begin k.a))
    (pick (same k.kind 5) (meant_alone (op.Ending k.a ending.Lock))
    (pick (same k.kind 6) (meant_alone (op.Ending k.a ending.Validate))
    (pick (same k.kind 7) (meant_alone (op.Ending k.a ending.Install))
    (pick (same k.kind 8) (meant_alone (op.Ending k.a ending.Abort)) (decoded_access m k))))))
    None

-- a fold: the address
unfoldable pub decoded_merge : Code → Decoded
decoded_merge k = pick (less k.a addresses) (meant_alone (op.Merge k.a)) None

-- a step with numbers: a fold, or one with a seat
unfoldable pub decoded_numbered : Places → Code → Decoded
decoded_numbered m k = pick (same k.kind 9) (decoded_merge k) (decoded_seat m k)

-- What a code means with lent buffers of m places: the operation, and how many places it wants. A fold of the oldest has no
-- number.
unfoldable pub decoded : Places → Code → Decoded
decoded m k = pick (same k.kind 10) (meant_alone op.MergeOldest) (decoded_numbered m k)

-- ---- answers

abbrev pub coded_as : ℕ → ℕ → ℕ → ℕ → ℕ → Coded
coded_as n t v o x = record { number = n; told = t; value = v; beside = o; examined = x }

-- what a read finds, if anything, and how many slots it examined
abbrev pub coded_found : Optional ReadValue → ℕ → Coded
coded_found (Some v) x = coded_as 0 1 v.value v.owner x
coded_found None x = coded_as 0 2 0 0 x

-- a reply in numbers; the places of a scan stand in its buffers
abbrev pub coded_of : Result Told Refusal → Coded
coded_of (Ok told.Nothing) = coded_as 0 0 0 0 0
coded_of (Ok (told.Found f)) = coded_found f.value f.examined
coded_of (Ok (told.Listed n)) = coded_as 0 3 n 0 0
coded_of (Ok (told.Numbered n)) = coded_as 0 4 n 0 0
coded_of (Ok (told.Counted n)) = coded_as 0 5 n 0 0
coded_of (Err r) = coded_as (number_of r) 0 0 0 0

-- the answer to a code with no meaning
abbrev pub no_meaning : Coded
no_meaning = coded_as 99 0 0 0 0

-- addresses, values and owners, one record after the other
unfoldable pub listed_words : List (Row Payload) → List ℕ
listed_words [] = []
listed_words (r ∷ rs) = r.key ∷ r.item.value ∷ r.item.owner ∷ listed_words rs

-- document 01's answer in numbers: its number, what is told beside it, that number, the owner beside a value, how many slots a
-- read examined, and a scan's records
unfoldable pub words_of : Answer → List ℕ
words_of (refused r) = number_of r ∷ 0 ∷ 0 ∷ 0 ∷ 0 ∷ []
words_of done = 0 ∷ 0 ∷ 0 ∷ 0 ∷ 0 ∷ []
words_of (found (some p) x) = 0 ∷ 1 ∷ p.value ∷ p.owner ∷ x ∷ []
words_of (found none x) = 0 ∷ 2 ∷ 0 ∷ 0 ∷ x ∷ []
words_of (listed rs) = 0 ∷ 3 ∷ length rs ∷ 0 ∷ 0 ∷ listed_words rs
words_of (numbered n) = 0 ∷ 4 ∷ n ∷ 0 ∷ 0 ∷ []
words_of (counted n) = 0 ∷ 5 ∷ n ∷ 0 ∷ 0 ∷ []
