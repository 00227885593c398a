-- An input and an output have one history: what a line of the output tells can be read back.
use Rattle.std.specs.Prelude.{ℕ, zero, suc, ◌+◌, ◌-◌, ◌*◌, ◌/◌, ◌%◌, ◌<◌, ◌≤◌, ◌≡◌, refl, false, List, [], ◌∷◌, ◌++◌, length}
use Rattle.std.proofs.Common.{arith, sym, ap, ◌∙◌, ⊎_elim, append_assoc, append-nil}
use Rattle.std.proofs.Math.Option.{Option, none, some}
use Rattle.lists.specs.Tests.{pick, same, less, at_most, within}
use Rattle.lists.specs.TestLaws.{at_most_yes, less_true, less_false, cases}
use Rattle.lists.specs.Rows.{Row, row, map_items}
use Rattle.spec.specs.declared.Refusal.{Refusal}
use Rattle.spec.specs.declared.Refusal.TheVariants.{NoWorker, WorkerFree, WorkerTaken, WrongStage, Backward, LogFull, WritesFull, ShortBuffer, Held, IndexletFull, MapFull, Changed, UnderLock, Phantom, Spent, Unfit, Uncovered, Overlap, ExportOpen, NoExport}
use Rattle.spec.specs.Refusals.{number_of}
use Rattle.spec.specs.Records.{Payload, Record}
use Rattle.spec.specs.Steps.{Answer, refused, done, found, listed, numbered, counted, Event}
use Rattle.spec.specs.Exports.{unstamped}
use Rattle.script.specs.declared.Line.{Line}
use Rattle.script.specs.declared.Line.TheVariants.{Begin, Read, Scan, Put, Remove, Lock, Validate, Install, Abort, Merge, MergeOldest}
use Rattle.script.specs.Grammar.{is_digit, step_of}
use Rattle.answers.specs.Output.{decimal, field, absent, triple, triples, answer_text, end_line}
use Rattle.answers.specs.OutputLaws.{decimal_one, decimal_more}
use Rattle.console.specs.Program.{places, answer_line}
use Rattle.console.specs.SerialOutput.{Answers, not_granted, begun, value, records, written, removed, locked, number, installed, aborted, count, oldest_count, Transcript, end_line_lem, answer_line_lem}

-- ---- numbers

-- what was read, and the bytes after it
record Front (A : Type 0) : Type 0 where
  read : A
  rest : List ℕ

abbrev got : {A : Type 0} → A → List ℕ → Front A
got x t = record { read = x; rest = t }

-- the number of n's digits and of those at the front
unfoldable front : ℕ → List ℕ → Front ℕ
front n [] = got n []
front n (b ∷ t) = pick (is_digit b) (front (n * 10 + (b - 48)) t) (got n (b ∷ t))

front_digit : (n d : ℕ) (t : List ℕ) → d < 10 → front n ((48 + d) ∷ t) ≡ front (n * 10 + d) t
unfolding front is_digit within
front_digit n d t h =
    let a : 48 ≤ 48 + d = omega arith in
    let b : 48 + d ≤ 57 = omega arith in
    let e : 48 + d - 48 ≡ d = omega arith in
    rw (at_most_yes a, at_most_yes b) (ap (λ (x : ℕ). front (n * 10 + x) t) e)

front_decimal : (k n : ℕ) (t : List ℕ) → n < k → front 0 (decimal n ++ t) ≡ front n t
front_decimal zero n t h = absurd (let z : ⊥ = omega arith in z)
front_decimal (suc k) n t h =
    ⊎_elim
    (λ e. let l : n < 10 = less_true n 10 e in
    ap (λ (x : List ℕ). front 0 (x ++ t)) (decimal_one n l)
    ∙ front_digit 0 n t l
    ∙ ap (λ (x : ℕ). front x t) (let z : 0 * 10 + n ≡ n = omega arith in z))
    (λ e. let l : 10 ≤ n = less_false n 10 e in
    ap (λ (x : List ℕ). front 0 (x ++ t)) (decimal_more n l)
    ∙ ap (front 0) (append_assoc (decimal (n / 10)) ((48 + n % 10) ∷ []) t)
    ∙ front_decimal k (n / 10) ((48 + n % 10) ∷ t) (let z : n / 10 < k = omega arith in z)
    ∙ front_digit (n / 10) (n % 10) t (let z : n % 10 < 10 = omega arith in z)
    ∙ ap (λ (x : ℕ). front x t) (let z : n / 10 * 10 + n % 10 ≡ n = omega arith in z))
    (cases (less n 10))

-- a text that does not begin with a digit
abbrev Stops : List ℕ → Type 0
Stops [] = Unit {0}
Stops (b ∷ t) = is_digit b ≡ false

front_stops : (n : ℕ) (t : List ℕ) → Stops t → front n t ≡ got n t
unfolding front
front_stops n [] h = refl
front_stops n (b ∷ t) h = rw h

-- without its first byte
abbrev tail : List ℕ → List ℕ
tail [] = []
tail (b ∷ t) = t

-- the number of a field
abbrev field_in : List ℕ → Front ℕ
field_in t = front 0 (tail t)

field_in_lem : (n : ℕ) (t : List ℕ) → Stops t → field_in (field n ++ t) ≡ got n t
unfolding field
field_in_lem n t h = front_decimal (suc n) n t (omega arith) ∙ front_stops n t h

-- ---- refusals

abbrev refusal_of : ℕ → Refusal
refusal_of n =
    pick (same n 1) NoWorker (pick (same n 2) WorkerFree (pick (same n 3) WorkerTaken (pick (same n 4) WrongStage (pick (same n 5) Backward
    (pick (same n 6) LogFull (pick (same n 7) WritesFull (pick (same n 8) ShortBuffer (pick (same n 9) Held (pick (same n 10) IndexletFull
    (pick (same n 11) MapFull (pick (same n 12) Changed (pick (same n 13) UnderLock (pick (same n 14) Phantom (pick (same n 15) Spent
    (pick (same n 16) Unfit (pick (same n 17) Uncovered (pick (same n 18) Overlap (pick (same n 19) ExportOpen NoExport))))))))))))))))))

refusal_back : (r : Refusal) → refusal_of (number_of r) ≡ r
unfolding same
refusal_back NoWorker = refl
refusal_back WorkerFree = refl
refusal_back WorkerTaken = refl
refusal_back WrongStage = refl
refusal_back Backward = refl
refusal_back LogFull = refl
refusal_back WritesFull = refl
refusal_back ShortBuffer = refl
refusal_back Held = refl
refusal_back IndexletFull = refl
refusal_back MapFull = refl
refusal_back Changed = refl
refusal_back UnderLock = refl
refusal_back Phantom = refl
refusal_back Spent = refl
refusal_back Unfit = refl
refusal_back Uncovered = refl
refusal_back Overlap = refl
refusal_back ExportOpen = refl
refusal_back NoExport = refl

-- ---- answers

-- the kinds of answers: 0 refusals, 1 nothing told, 2 a value and owner or none, 3 records, 4 a serial number, 5 a count
abbrev kind_of : Answer → ℕ
kind_of (refused r) = 0
kind_of done = 1
kind_of (found o x) = 2
kind_of (listed rs) = 3
kind_of (numbered n) = 4
kind_of (counted n) = 5

-- ... of a line that is granted
abbrev granted_kind : Line → ℕ
granted_kind (Begin w) = 1
granted_kind (Read w k) = 2
granted_kind (Scan w lo hi) = 3
granted_kind (Put w k v o) = 1
granted_kind (Remove w k) = 1
granted_kind (Lock w) = 1
granted_kind (Validate w) = 4
granted_kind (Install w) = 1
granted_kind (Abort w) = 1
granted_kind (Merge a) = 5
granted_kind MergeOldest = 5

-- the number at the front of an answer's text
abbrev answer_number : Answer → ℕ
answer_number (refused r) = number_of r
answer_number done = 0
answer_number (found o x) = 0
answer_number (listed rs) = 0
answer_number (numbered n) = 0
answer_number (counted n) = 0

-- its kind is told by that number and the line
kind_told : {l : Line} {a : Answer} → Answers l a → kind_of a ≡ pick (same (answer_number a) 0) (granted_kind l) 0
unfolding same
kind_told (not_granted l r) = go r
  where
    go : (r : Refusal) → 0 ≡ pick (same (number_of r) 0) (granted_kind l) 0
    go NoWorker = refl
    go WorkerFree = refl
    go WorkerTaken = refl
    go WrongStage = refl
    go Backward = refl
    go LogFull = refl
    go WritesFull = refl
    go ShortBuffer = refl
    go Held = refl
    go IndexletFull = refl
    go MapFull = refl
    go Changed = refl
    go UnderLock = refl
    go Phantom = refl
    go Spent = refl
    go Unfit = refl
    go Uncovered = refl
    go Overlap = refl
    go ExportOpen = refl
    go NoExport = refl
kind_told (begun w) = refl
kind_told (value w k o x) = refl
kind_told (records w lo hi rs) = refl
kind_told (written w k v o) = refl
kind_told (removed w k) = refl
kind_told (locked w) = refl
kind_told (number w n) = refl
kind_told (installed w) = refl
kind_told (aborted w) = refl
kind_told (count a n) = refl
kind_told (oldest_count n) = refl

-- the text after that number
abbrev more : Answer → List ℕ
more (refused r) = []
more done = []
more (found none x) = absent ++ field x
more (found (some p) x) = field p.value ++ field p.owner ++ field x
more (listed rs) = field (length rs) ++ triples (λ (p : Payload). p) rs
more (numbered n) = field n
more (counted n) = field n

text_is : (a : Answer) → answer_text a ≡ field (answer_number a) ++ more a
unfolding answer_text
text_is (refused r) = sym (append-nil (field (number_of r)))
text_is done = sym (append-nil (field 0))
text_is (found none x) = append_assoc (field 0) absent (field x)
text_is (found (some p) x) =
    ap (λ (t : List ℕ). t ++ field x) (append_assoc (field 0) (field p.value) (field p.owner))
    ∙ append_assoc (field 0) (field p.value ++ field p.owner) (field x)
text_is (listed rs) = append_assoc (field 0) (field (length rs)) (triples (λ (p : Payload). p) rs)
text_is (numbered n) = refl
text_is (counted n) = refl

-- ---- records

-- a record at the front
abbrev row_front : List ℕ → Front (Row Payload)
row_front t =
    let k = field_in t in
    let v = field_in k.rest in
    let o = field_in v.rest in
    got (row k.read (record { value = v.read; owner = o.read })) o.rest

-- so many records at the front
rows_front : ℕ → List ℕ → Front (List (Row Payload))
rows_front zero t = got [] t
rows_front (suc n) t =
    let r = row_front t in
    let f = rows_front n r.rest in
    got (r.read ∷ f.read) f.rest

stops_triples : {A : Type 0} (p : A → Payload) (rs : List (Row A)) (t : List ℕ) → Stops t → Stops (triples p rs ++ t)
unfolding triples triple field is_digit within at_most
stops_triples p [] t h = h
stops_triples p (r ∷ rs) t h = refl

stops_field : (n : ℕ) (t : List ℕ) → Stops (field n ++ t)
unfolding field is_digit within at_most
stops_field n t = refl

row_front_lem : (k v o : ℕ) (t : List ℕ) → Stops t → row_front (triple k v o ++ t) ≡ got (row k (record { value = v; owner = o })) t
unfolding triple
row_front_lem k v o t h =
    let last = field o ++ t in
    let after = field v ++ last in
    ap row_front (append_assoc (field k ++ field v) (field o) t ∙ append_assoc (field k) (field v) last)
    ∙ ap (λ (x : Front ℕ). let y = field_in x.rest in let z = field_in y.rest in got (row x.read (record { value = y.read; owner = z.read })) z.rest)
    (field_in_lem k after (stops_field v last))
    ∙ ap (λ (y : Front ℕ). let z = field_in y.rest in got (row k (record { value = y.read; owner = z.read })) z.rest) (field_in_lem v last (stops_field o t))
    ∙ ap (λ (z : Front ℕ). got (row k (record { value = v; owner = z.read })) z.rest) (field_in_lem o t h)

rows_front_lem : {A : Type 0} (p : A → Payload) (rs : List (Row A)) (t : List ℕ) → Stops t → rows_front (length rs) (triples p rs ++ t) ≡ got (map_items p rs) t
unfolding triples rows_front map_items
rows_front_lem p [] t h = refl
rows_front_lem p (r ∷ rs) t h =
    let one = triple r.key (p r.item).value (p r.item).owner in
    let after = triples p rs ++ t in
    let ih : rows_front (length rs) after ≡ got (map_items p rs) t = rows_front_lem p rs t h in
    ap (rows_front (suc (length rs))) (append_assoc one (triples p rs) t)
    ∙ ap (λ (x : Front (Row Payload)). let f = rows_front (length rs) x.rest in got (x.read ∷ f.read) f.rest)
    (row_front_lem r.key (p r.item).value (p r.item).owner after (stops_triples p rs t h))
    ∙ ap (λ (f : Front (List (Row Payload))). got (row r.key (p r.item) ∷ f.read) f.rest) ih

-- the payloads of payloads
items_same : (rs : List (Row Payload)) → map_items (λ (p : Payload). p) rs ≡ rs
unfolding map_items
items_same [] = refl
items_same (r ∷ rs) = ap (λ (qs : List (Row Payload)). r ∷ qs) (items_same rs)

-- ---- a line

abbrev head : List ℕ → ℕ
head [] = 0
head (b ∷ t) = b

-- what a read found, and the slots examined
abbrev examined_front : Option Payload → Front ℕ → Front Answer
examined_front o f = got (found o f.read) f.rest

-- a value's owner, and the slots examined
abbrev owner_front : ℕ → Front ℕ → Front Answer
owner_front v f = examined_front (some (record { value = v; owner = f.read })) (field_in f.rest)

-- a value and its owner, or `-`
abbrev value_front : Front ℕ → Front Answer
value_front f =
    pick (same (head f.rest) 45) (examined_front none (field_in (tail f.rest)))
    (owner_front f.read (field_in f.rest))

abbrev records_front : Front ℕ → Front Answer
records_front f = let g = rows_front f.read f.rest in got (listed g.read) g.rest

-- an answer of a kind, with its number, at the front of the text after that
abbrev answer_front : ℕ → ℕ → List ℕ → Front Answer
answer_front kind n t =
    pick (same kind 0) (got (refused (refusal_of n)) t)
    (pick (same kind 1) (got done t)
    (pick (same kind 2) (value_front (field_in t))
    (pick (same kind 3) (records_front (field_in t))
    (pick (same kind 4) (got (numbered (field_in t).read) (field_in t).rest) (got (counted (field_in t).read) (field_in t).rest)))))

stops_feed : (t : List ℕ) → Stops (10 ∷ t)
unfolding is_digit within at_most
stops_feed t = refl

answer_front_lem : (a : Answer) (t : List ℕ) → answer_front (kind_of a) (answer_number a) (more a ++ (10 ∷ t)) ≡ got a (10 ∷ t)
unfolding same front field is_digit within at_most
answer_front_lem (refused r) t = ap (λ (x : Refusal). got (refused x) (10 ∷ t)) (refusal_back r)
answer_front_lem done t = refl
answer_front_lem (found none x) t = ap (examined_front none) (field_in_lem x (10 ∷ t) (stops_feed t))
answer_front_lem (found (some p) x) t =
    let last = field x ++ (10 ∷ t) in
    let after = field p.owner ++ last in
    ap (λ (y : List ℕ). value_front (field_in y))
    (append_assoc (field p.value ++ field p.owner) (field x) (10 ∷ t) ∙ append_assoc (field p.value) (field p.owner) last)
    ∙ ap value_front (field_in_lem p.value after (stops_field p.owner last))
    ∙ ap (owner_front p.value) (field_in_lem p.owner last (stops_field x (10 ∷ t)))
    ∙ ap (examined_front (some p)) (field_in_lem x (10 ∷ t) (stops_feed t))
answer_front_lem (listed rs) t =
    let after = triples (λ (p : Payload). p) rs ++ (10 ∷ t) in
    ap (λ (x : List ℕ). records_front (field_in x)) (append_assoc (field (length rs)) (triples (λ (p : Payload). p) rs) (10 ∷ t))
    ∙ ap records_front (field_in_lem (length rs) after (stops_triples (λ (p : Payload). p) rs (10 ∷ t) (stops_feed t)))
    ∙ ap (λ (g : Front (List (Row Payload))). got (listed g.read) g.rest) (rows_front_lem (λ (p : Payload). p) rs (10 ∷ t) (stops_feed t))
    ∙ ap (λ (qs : List (Row Payload)). got (listed qs) (10 ∷ t)) (items_same rs)
answer_front_lem (numbered n) t = ap (λ (f : Front ℕ). got (numbered f.read) f.rest) (field_in_lem n (10 ∷ t) (stops_feed t))
answer_front_lem (counted n) t = ap (λ (f : Front ℕ). got (counted f.read) f.rest) (field_in_lem n (10 ∷ t) (stops_feed t))

stops_more : (a : Answer) (t : List ℕ) → Stops (more a ++ (10 ∷ t))
unfolding field is_digit within at_most
stops_more (refused r) t = refl
stops_more done t = refl
stops_more (found none x) t = refl
stops_more (found (some p) x) t = refl
stops_more (listed rs) t = refl
stops_more (numbered n) t = refl
stops_more (counted n) t = refl

-- the answer to a line
abbrev line_front : Line → Front ℕ → Front Answer
line_front l f = answer_front (pick (same f.read 0) (granted_kind l) 0) f.read f.rest

line_front_lem : {l : Line} {a : Answer} (t : List ℕ) → Answers l a → line_front l (field_in (answer_text a ++ (10 ∷ t))) ≡ got a (10 ∷ t)
line_front_lem {l} {a} t h =
    let after = more a ++ (10 ∷ t) in
    ap (λ (x : List ℕ). line_front l (field_in (x ++ (10 ∷ t)))) (text_is a)
    ∙ ap (λ (x : List ℕ). line_front l (field_in x)) (append_assoc (field (answer_number a)) (more a) (10 ∷ t))
    ∙ ap (line_front l) (field_in_lem (answer_number a) after (stops_more a t))
    ∙ ap (λ (k : ℕ). answer_front k (answer_number a) after) (sym (kind_told h))
    ∙ answer_front_lem a t

-- ---- all lines

-- the steps of the lines, with the answers that the text tells
events_in : List Line → List ℕ → List Event
events_in [] t = []
events_in (l ∷ ls) t =
    let f = line_front l (field_in (tail t)) in
    record { step = step_of places l; answer = f.read } ∷ events_in ls (tail f.rest)

events_in_lem : {ls : List Line} {text : List ℕ} {h : List Event} {rs : List (Row Record)} → Transcript ls text h rs → events_in ls text ≡ h
unfolding events_in answer_line
events_in_lem (end_line_lem rs) = refl
events_in_lem (answer_line_lem {ls = ls} {text = text} {h = h} l a p rest) =
    let s = step_of places l in
    ap (λ (x : List ℕ). let f = line_front l (field_in x) in record { step = s; answer = f.read } ∷ events_in ls (tail f.rest))
    (append_assoc (answer_text a) (10 ∷ []) text)
    ∙ ap (λ (f : Front Answer). record { step = s; answer = f.read } ∷ events_in ls (tail f.rest)) (line_front_lem text p)
    ∙ ap (λ (es : List Event). record { step = s; answer = a } ∷ es) (events_in_lem rest)

-- no other history can be read off them
pub one_history : {ls : List Line} {text : List ℕ} {h g : List Event} {rs qs : List (Row Record)} → Transcript ls text h rs → Transcript ls text g qs → h ≡ g
one_history p q = sym (events_in_lem p) ∙ events_in_lem q

-- ---- the last line

-- the records that it tells
abbrev records_told : List ℕ → List (Row Payload)
records_told t = let f = field_in (tail t) in (rows_front f.read f.rest).read

records_told_lem : (rs : List (Row Record)) → records_told (end_line rs) ≡ unstamped rs
unfolding end_line
records_told_lem rs =
    let after = triples (λ (r : Record). r.payload) rs ++ (10 ∷ []) in
    ap (λ (x : List ℕ). let f = field_in x in (rows_front f.read f.rest).read)
    (append_assoc (field (length rs)) (triples (λ (r : Record). r.payload) rs) (10 ∷ []))
    ∙ ap (λ (f : Front ℕ). (rows_front f.read f.rest).read)
    (field_in_lem (length rs) after (stops_triples (λ (r : Record). r.payload) rs (10 ∷ []) (stops_feed [])))
    ∙ ap (λ (g : Front (List (Row Payload))). g.read) (rows_front_lem (λ (r : Record). r.payload) rs (10 ∷ []) (stops_feed []))

-- lines that are alike tell the same records, commit numbers aside
pub same_records : (rs qs : List (Row Record)) → end_line rs ≡ end_line qs → unstamped rs ≡ unstamped qs
same_records rs qs e = sym (records_told_lem rs) ∙ ap records_told e ∙ records_told_lem qs
