-- The laws of an export's steps: refused ones, and granted ones of each kind.
use Prim.Native.Nat.{ℕ, ◌+◌, ◌-◌, ◌*◌, ◌<◌, ◌≤◌, zero-le, min}
use native.Mathlib.Omega.{arith}
use Rattle.std.specs.Prelude.{◌≡◌, Bool, true, take, drop, Ok, Err, Option as Optional, Some, None, is_some}
use Rattle.std.proofs.Math.Path.{refl, sym, ap}
use Rattle.std.proofs.Common.{◌∙◌, subst, ⊎_elim, length-drop, take_all}
use Rattle.std.proofs.Math.Bool.{false}
use mathlib.Core.List.{List}
use Rattle.std.proofs.Math.Option.{Option, none, some}
use Rattle.std.proofs.Math.ListN.{length}
use Rattle.lists.specs.Tests.{pick, maybe, less}
use Rattle.lists.specs.TestLaws.{cases, clash, less_true, less_false, less_yes, less_no}
use Rattle.lists.specs.Rows.{Row}
use Rattle.lists.specs.Texts.{Wrote}
use Rattle.spec.specs.declared.Refusal.{Refusal}
use Rattle.spec.specs.declared.Refusal.TheVariants.{ShortBuffer, ExportOpen, NoExport}
use Rattle.spec.specs.Widths.{address_size}
use Rattle.spec.specs.Records.{limits, Payload, Record}
use Rattle.spec.specs.Steps.{Places, shortest, first_cause}
use Rattle.spec.specs.Files.{entry_size, file_of, file_size}
use Rattle.spec.specs.Exports as model
use Rattle.sets.specs.SetLaws.{length_rows}
use Rattle.contents.specs.Copies.{copy_row, copied_in, Copied}
use Rattle.buffers.specs.Buffers.{Buffers, rows_in, Unmoved, Beyond, places_of}
use Rattle.buffers.specs.BufferLaws.{length_rows as places_count, unmoved_refl, beyond_refl}
use Rattle.exports.specs.declared.Export.{Export}
use Rattle.exports.specs.declared.ExportTold.TheVariants.{Opened, Given, Filed, Closed}
use Rattle.exports.specs.Exporting.{ExportAnswer, ExportedRows, open_in, export_in, OpenHeld, ExportHeld, Space, space, export_answer_in, places_written, bytes_written, places_wanted, bytes_wanted, ExportStepped}
use Rattle.exports.specs.RowLaws.{part_rows}
use Rattle.exports.specs.CopyLaws.{GiveRoom, Gives}
use Rattle.exports.specs.FilePuts.{first_bytes, bytes_stay}

-- ---- open or not

none_in : (rows : ExportedRows) (x : Optional Export) → x ≡ None → export_in rows x ≡ none
unfolding export_in
none_in rows x q = ap (export_in rows) q

open_in_lem : (rows : ExportedRows) (x : Optional Export) {e : Export} → x ≡ Some e → export_in rows x ≡ some (open_in rows e)
unfolding export_in
open_in_lem rows x q = ap (export_in rows) q

-- a start
pub none_held : ((rows : ExportedRows) → export_in rows None ≡ none) × ExportHeld None
none_held = (λ rows. none_in rows None refl, tt)

-- from the test of it
pub none_by : (x : Optional Export) → is_some x ≡ false → x ≡ None
none_by None q = refl
none_by (Some e) q = clash refl q

pub some_by : (x : Optional Export) → is_some x ≡ true → (e : Export) × (x ≡ Some e)
some_by None q = clash q refl
some_by (Some e) q = (e, refl)

pub opened_held : {x : Optional Export} {e : Export} → x ≡ Some e → ExportHeld x → OpenHeld e
opened_held q h = subst ExportHeld q h

-- ---- any step

-- what is open, o, decides
module _ (contents : List (Row Record)) (step : model.ExportStep) (rows : ExportedRows) (x : Optional Export) (o : Option model.Export) (is : export_in rows x ≡ o) where
  answered : (r : Option Refusal) → model.export_refusal o step ≡ r
      → maybe r (model.export_granted contents o step) model.declined ≡ model.export_answer contents (export_in rows x) step
  unfolding model.export_answer
  answered r e =
      sym
      (ap (λ (o : Option model.Export). model.export_answer contents o step) is
      ∙ ap (λ (r : Option Refusal). maybe r (model.export_granted contents o step) model.declined) e)

  after : (r : Option Refusal) → model.export_refusal o step ≡ r
      → maybe r (model.export_effect contents o step) (λ (r : Refusal). o) ≡ model.export_next contents (export_in rows x) step
  unfolding model.export_next
  after r e =
      sym
      (ap (λ (o : Option model.Export). model.export_next contents o step) is
      ∙ ap (λ (r : Option Refusal). maybe r (model.export_effect contents o step) (λ (r : Refusal). o)) e)

  declines : (r : Refusal) (s : Space) → ExportHeld x → model.export_refusal o step ≡ some r
      → ExportStepped contents step rows x s rows x s (Err r)
  unfolding export_answer_in places_written bytes_written
  declines r s h e =
      record {
        held = h;
        answer_is = answered (some r) e;
        next_is = is ∙ after (some r) e;
        places = beyond_refl 0 s.portion;
        bytes = unmoved_refl 0 s.bytes;
        few_places = zero-le;
        few_bytes = zero-le;
      }

  grants : {s s' : Space} {rows' : ExportedRows} {x' : Optional Export} {a : ExportAnswer} → model.export_refusal o step ≡ none → ExportHeld x'
      → export_answer_in a s' ≡ model.export_granted contents o step → export_in rows' x' ≡ model.export_effect contents o step
      → Beyond (places_written a) s.portion s'.portion → Unmoved (bytes_written a) s.bytes s'.bytes
      → places_written a ≤ places_wanted step → bytes_written a ≤ bytes_wanted step
      → ExportStepped contents step rows x s rows' x' s' a
  grants e h p n q b k l =
      record { held = h; answer_is = p ∙ answered none e; next_is = n ∙ after none e; places = q; bytes = b; few_places = k; few_bytes = l }

-- refusals that need no look at the export

open_refused : (x : model.Export) → model.export_refusal (some x) model.open_export ≡ some ExportOpen
unfolding model.export_refusal model.export_causes first_cause
open_refused x = refl

portion_refused : (b : Places) → model.export_refusal none (model.portion b) ≡ some NoExport
unfolding model.export_refusal model.export_causes first_cause
portion_refused b = refl

file_refused : (n : ℕ) → model.export_refusal none (model.file n) ≡ some NoExport
unfolding model.export_refusal model.export_causes first_cause
file_refused n = refl

close_refused : model.export_refusal none model.close_export ≡ some NoExport
unfolding model.export_refusal model.export_causes first_cause
close_refused = refl

-- the test of a file's buffer
file_tested : (x : model.Export) (n : ℕ) (b : Bool) → less n (file_size x.records) ≡ b
    → model.export_refusal (some x) (model.file n) ≡ pick b (some ShortBuffer) none
unfolding model.export_refusal model.export_causes model.export_of first_cause
file_tested x n b e = ap (λ (b : Bool). pick b (some ShortBuffer) none) e

module _ (contents : List (Row Record)) (rows : ExportedRows) {x : Optional Export} where
  -- ---- refused

  module _ (s : Space) (h : ExportHeld x) where
    pub open_already : {e : Export} → x ≡ Some e → ExportStepped contents model.open_export rows x s rows x s (Err ExportOpen)
    open_already {e} q = declines contents model.open_export rows x (some (open_in rows e)) (open_in_lem rows x q) ExportOpen s h (open_refused (open_in rows e))

    pub no_portion : (w : Places) → x ≡ None → ExportStepped contents (model.portion w) rows x s rows x s (Err NoExport)
    no_portion w q = declines contents (model.portion w) rows x none (none_in rows x q) NoExport s h (portion_refused w)

    pub no_file : (n : ℕ) → x ≡ None → ExportStepped contents (model.file n) rows x s rows x s (Err NoExport)
    no_file n q = declines contents (model.file n) rows x none (none_in rows x q) NoExport s h (file_refused n)

    pub no_close : x ≡ None → ExportStepped contents model.close_export rows x s rows x s (Err NoExport)
    no_close q = declines contents model.close_export rows x none (none_in rows x q) NoExport s h close_refused

  module _ {e : Export} (o : x ≡ Some e) where
    size_of : file_size (copied_in rows e.count) ≡ 8 + (address_size + entry_size) * e.count
    unfolding file_size
    size_of = ap (λ (n : ℕ). 8 + (address_size + entry_size) * n) (length_rows copy_row rows e.count)

    pub file_short : (s : Space) (n : ℕ) → ExportHeld x → n < 8 + (address_size + entry_size) * e.count
        → ExportStepped contents (model.file n) rows x s rows x s (Err ShortBuffer)
    file_short s n h l =
        let z : file_size (copied_in rows e.count) ≡ 8 + (address_size + entry_size) * e.count = size_of in
        declines contents (model.file n) rows x (some (open_in rows e)) (open_in_lem rows x o) ShortBuffer s h
        (file_tested (open_in rows e) n true (less_yes (omega arith)))

    pub closes : (s : Space) → ExportStepped contents model.close_export rows x s rows None s (Ok Closed)
    unfolding export_answer_in places_written bytes_written model.export_refusal model.export_causes first_cause model.export_granted model.export_effect
    closes s =
        grants contents model.close_export rows x (some (open_in rows e)) (open_in_lem rows x o) {s = s} {s' = s} {rows' = rows}
        refl
        none_held.1
        refl
        (none_held.0 rows)
        (beyond_refl 0 s.portion)
        (unmoved_refl 0 s.bytes)
        zero-le
        zero-le

    pub files : {bs bs' : List ℕ} {n : ℕ} (b : Buffers) → ExportHeld x → 8 + (address_size + entry_size) * e.count ≤ length bs → Wrote bs 0 (file_of (copied_in rows e.count)) bs' n
        → ExportStepped contents (model.file (length bs)) rows x (space b bs) rows x (space b bs') (Ok (Filed n))
    unfolding export_answer_in places_written bytes_written bytes_wanted model.export_granted model.export_effect model.export_of
    files {bs} {bs'} {n} b h l w =
        let z : file_size (copied_in rows e.count) ≡ 8 + (address_size + entry_size) * e.count = size_of in
        grants contents (model.file (length bs)) rows x (some (open_in rows e)) (open_in_lem rows x o) {s = space b bs} {s' = space b bs'} {rows' = rows}
        (file_tested (open_in rows e) (length bs) false (less_no (omega arith)))
        h
        (ap model.filed (first_bytes w))
        (open_in_lem rows x o)
        (beyond_refl 0 b)
        (bytes_stay w)
        zero-le
        (let p : n ≡ 0 + length (file_of (copied_in rows e.count)) = w.place in
        let i : 0 + length (file_of (copied_in rows e.count)) ≤ length bs = w.within in
        omega arith)

  -- ---- granted with none open

  pub opens : {rows' : ExportedRows} {count : ℕ} (s : Space) → x ≡ None → length contents ≤ limits.map_limit → Copied contents rows' count
      → ExportStepped contents model.open_export rows x s rows' (Some (record { count = count; taken = 0 })) s (Ok (Opened count))
  unfolding export_answer_in places_written bytes_written export_in model.export_refusal model.export_causes first_cause model.export_granted model.export_effect
  opens {rows'} {count} s o l c =
      let q : count ≡ length contents = c.count_is in
      grants contents model.open_export rows x none (none_in rows x o) {s = s} {s' = s} {rows' = rows'}
      refl
      (record { room = omega arith; within = omega arith })
      (ap model.opened q)
      (ap (λ (rs : List (Row Payload)). some (record { records = rs; taken = 0 })) c.rows_are)
      (beyond_refl 0 s.portion)
      (unmoved_refl 0 s.bytes)
      zero-le
      zero-le

-- ---- a portion

-- how many it gives, by three comparisons
pub least_is : (b : Buffers) (left n : ℕ) → n ≡ min (min (min left (length b.addresses)) (length b.values)) (length b.owners)
    → n ≡ min left (shortest (places_of b))
unfolding shortest
least_is b left n e = omega arith

-- no more is taken than there is
take_least : {A : Type 0} (m n : ℕ) (l : List A) → n ≡ min (length l) m → take m l ≡ take n l
take_least m n l e =
    ⊎_elim
    (λ t. let h : m < length l = less_true m (length l) t in ap (λ (k : ℕ). take k l) (let q : m ≡ n = omega arith in q))
    (λ t. let h : length l ≤ m = less_false m (length l) t in take_all m l h ∙ sym (take_all n l (omega arith)))
    (cases (less m (length l)))

module _ {e : Export} (h : OpenHeld e) {b : Buffers} {n : ℕ} (m : n ≡ min (e.count - e.taken) (shortest (places_of b))) where
  pub portion_room : GiveRoom b e.taken n
  unfolding shortest
  portion_room =
      let w : e.taken ≤ e.count = h.within in
      let r : e.count ≤ limits.map_limit = h.room in
      record { addresses = omega arith; values = omega arith; owners = omega arith; rows = omega arith }

  module _ (contents : List (Row Record)) (rows : ExportedRows) (bs : List ℕ) {x : Optional Export} {c : Buffers} (o : x ≡ Some e) (g : Gives rows e.taken n b c) where
    portion_is : rows_in n c ≡ model.portion_of (open_in rows e) (places_of b)
    portion_is =
        let w : e.taken ≤ e.count = h.within in
        let l : length (copied_in rows e.count) ≡ e.count = length_rows copy_row rows e.count in
        let d : length (drop e.taken (copied_in rows e.count)) ≡ length (copied_in rows e.count) - e.taken = length-drop e.taken (copied_in rows e.count) in
        let i : e.taken + n ≤ e.count = omega arith in
        g.rows_are
        ∙ part_rows rows e.taken n e.count i
        ∙ sym (take_least (shortest (places_of b)) n (drop e.taken (copied_in rows e.count)) (let q : n ≡ min (length (drop e.taken (copied_in rows e.count))) (shortest (places_of b)) = m ∙ ap (λ (k : ℕ). min k (shortest (places_of b))) (sym (d ∙ ap (λ (k : ℕ). k - e.taken) l)) in q))

    pub gives : ExportStepped contents (model.portion (places_of b)) rows x (space b bs) rows
        (Some (record e { taken = e.taken + n })) (space c bs) (Ok (Given n (e.count - e.taken - n)))
    unfolding export_answer_in places_written bytes_written places_wanted export_in model.export_refusal model.export_causes first_cause model.export_granted model.export_effect model.export_of
    gives =
        let w : e.taken ≤ e.count = h.within in
        let r : e.count ≤ limits.map_limit = h.room in
        let k : length (model.portion_of (open_in rows e) (places_of b)) ≡ n = sym (ap length portion_is) ∙ places_count n c in
        let l : length (copied_in rows e.count) ≡ e.count = length_rows copy_row rows e.count in
        let left : e.count - e.taken - n ≡ length (model.remaining (model.after_portion (open_in rows e) (places_of b)))
        = (let q : e.count - e.taken - n ≡ e.count - (e.taken + n) = omega arith in q)
        ∙ sym (length-drop (e.taken + length (model.portion_of (open_in rows e) (places_of b))) (copied_in rows e.count) ∙ (λ i. l i - (e.taken + k i))) in
        grants contents (model.portion (places_of b)) rows x (some (open_in rows e)) (open_in_lem rows x o) {s = space b bs} {s' = space c bs} {rows' = rows}
        refl
        (record { room = r; within = omega arith })
        (λ i. model.given (portion_is i) (left i))
        (ap (λ (j : ℕ). some (record { records = copied_in rows e.count; taken = e.taken + j })) (sym k))
        g.beyond
        (unmoved_refl 0 bs)
        (omega arith)
        zero-le
