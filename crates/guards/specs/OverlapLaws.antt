-- The laws of overlaps: when two sections share a byte; a test of what is laid over, part by part; the rows of a scan.
use Rattle.std.specs.Prelude.{ℕ, ◌+◌, ◌-◌, ◌<◌, ◌≤◌, min, ◌≡◌, Bool, not, List, [], ◌∷◌, ◌++◌, ltb, length, drop, get_or, Option as Optional, Some, None, is_some}
use native.Mathlib.Omega.{arith}
use Rattle.std.proofs.Math.Path.{refl, sym, ap}
use Rattle.std.proofs.Common.{◌∙◌, length-drop, length-take-le, get_or-take, get_or-drop}
use Rattle.std.proofs.Math.Logic.{⊎_elim}
use Rattle.std.proofs.Math.Bool.{true, false}
use Rattle.std.proofs.Math.Option.{Option, none, some}
use Rattle.std.proofs.Math.ListN.{take}
use Rattle.std.proofs.Math.Seq.{take_all}
use borrow.Author.Tests.{ltb-true, ltb-false}
use Rattle.lists.specs.Tests.{pick, both, either, maybe, present, same, at_most}
use Rattle.lists.specs.TestLaws.{cases, same_yes, same_no, at_most_yes, at_most_no, at_most_true, at_most_false}
use Rattle.lists.specs.Rows.{Row, row, look, map_items, any, filter}
use Rattle.spec.specs.Records.{Payload, Record, Write, written, deleted, own_view, payload_of}
use Rattle.spec.specs.Guards.{Scan, stretch, last_byte, share, deciding, standing, untouched, laid_over, overlaps, overlapped, of_put, any_put}
use Rattle.sets.specs.declared.leaves.Scanned.{Scanned}
use Rattle.sets.specs.declared.reads.Observed.{Observed}
use Rattle.sets.specs.declared.writes.Write.{Write as WriteWords}
use Rattle.sets.specs.Reads.{ReadRows, observed_in, no_read, read_in, reads_of, GivesRead}
use Rattle.sets.specs.Leaves.{scanned_in}
use Rattle.sets.specs.SetLaws.{length_rows, absent_is}
use Rattle.sets.specs.Writes.{edit_in, found_in}
use Rattle.spec.specs.declared.RecordWords.{RecordWords}
use Rattle.spec.specs.Payloads.{record_in}
use Rattle.guards.specs.Promises.{decision_in, overlaps_at, overlaps_logged}

with_true : (b : Bool) → both b true ≡ b
with_true true = refl
with_true false = refl

with_false : (b : Bool) → both b false ≡ false
with_false true = refl
with_false false = refl

-- ---- two sections share a byte

-- by the three tests
by_tests : (k n j m : ℕ) (a b c : Bool) → same j k ≡ a → at_most j (last_byte k n) ≡ b → at_most k (last_byte j m) ≡ c → overlaps_at k n j m ≡ both (not a) (both b c)
unfolding overlaps share
by_tests k n j m a b c e f g = λ i. both (not (e i)) (both (f i) (g i))

module _ (k n j m : ℕ) where
  pub overlaps_same : j ≡ k → false ≡ overlaps_at k n j m
  overlaps_same e = sym (by_tests k n j m true _ _ (same_yes {m = j} {n = k} e) refl refl)

  pub overlaps_below : j < k → ltb (k - j) m ≡ overlaps_at k n j m
  unfolding last_byte
  overlaps_below h =
      ⊎_elim
      (λ t. let l : k - j < m = ltb-true (k - j) m t in t ∙ sym (by true (at_most_yes {m = k} {n = j + m - 1} (omega arith))))
      (λ t. let l : m ≤ k - j = ltb-false (k - j) m t in t ∙ sym (by false (at_most_no {m = k} {n = j + m - 1} (omega arith))))
      (cases (ltb (k - j) m))
    where
      by : (c : Bool) → at_most k (last_byte j m) ≡ c → overlaps_at k n j m ≡ c
      by c g = by_tests k n j m false true c (same_no {m = j} {n = k} (λ e. omega arith)) (at_most_yes {m = j} {n = last_byte k n} (unfold last_byte in omega arith)) g

  pub overlaps_above : k < j → ltb (j - k) n ≡ overlaps_at k n j m
  unfolding last_byte
  overlaps_above h =
      ⊎_elim
      (λ t. let l : j - k < n = ltb-true (j - k) n t in t ∙ sym (by true (at_most_yes {m = j} {n = k + n - 1} (omega arith))))
      (λ t. let l : n ≤ j - k = ltb-false (j - k) n t in t ∙ sym (by false (at_most_no {m = j} {n = k + n - 1} (omega arith))))
      (cases (ltb (j - k) n))
    where
      by : (b : Bool) → at_most j (last_byte k n) ≡ b → overlaps_at k n j m ≡ b
      by b g = by_tests k n j m false b true (same_no {m = j} {n = k} (λ e. omega arith)) g (at_most_yes {m = k} {n = last_byte j m} (unfold last_byte in omega arith)) ∙ with_true b

-- ---- a test of what is laid over

any_append : {A : Type 0} (p : A → Bool) (xs ys : List A) → any p (xs ++ ys) ≡ either (any p xs) (any p ys)
unfolding any
any_append p [] ys = refl
any_append p (x ∷ xs) ys =
    ap (pick (p x) true) (any_append p xs ys) ∙ by (p x) (any p xs) (any p ys)
  where
    by : (a b c : Bool) → pick a true (either b c) ≡ either (pick a true b) c
    by true b c = refl
    by false b c = refl

-- of the transaction's puts
any_puts : (k n : ℕ) (ws : List (Row Write)) → any (overlaps k n) (standing (map_items own_view ws)) ≡ any_put (overlaps_at k n) ws
unfolding any standing map_items own_view of_put any_put overlaps
any_puts k n [] = refl
any_puts k n (r ∷ ws) = by (any_puts k n ws) r.item
  where
    by : any (overlaps k n) (standing (map_items own_view ws)) ≡ any_put (overlaps_at k n) ws → (w : Write)
        → any (overlaps k n) (standing (row r.key (own_view w) ∷ map_items own_view ws)) ≡ pick (of_put (overlaps_at k n) r.key w) true (any_put (overlaps_at k n) ws)
    by e (written q) = ap (pick (overlaps k n (row r.key q)) true) e
    by e deleted = e

-- of what stands at the other addresses
any_logged : (k n : ℕ) (ws : List (Row Write)) (rs : List (Row (Option Record)))
    → any (overlaps k n) (standing (map_items payload_of (filter (untouched ws) rs))) ≡ any (overlaps_logged ws k n) rs
unfolding any filter standing map_items payload_of overlaps_logged
any_logged k n ws [] = refl
any_logged k n ws (r ∷ rs) = by (any_logged k n ws rs) (untouched ws r) r.item
  where
    by : any (overlaps k n) (standing (map_items payload_of (filter (untouched ws) rs))) ≡ any (overlaps_logged ws k n) rs → (b : Bool) (o : Option Record)
        → any (overlaps k n) (standing (map_items payload_of (pick b (row r.key o ∷ filter (untouched ws) rs) (filter (untouched ws) rs))))
        ≡ pick (both b (maybe (payload_of o) false (λ (p : Payload). overlaps k n (row r.key p)))) true (any (overlaps_logged ws k n) rs)
    by e false o = e
    by e true none = e
    by e true (some c) = ap (pick (overlaps k n (row r.key c.payload)) true) e

any_laid : (k n : ℕ) (ws : List (Row Write)) (rs : List (Row (Option Record)))
    → any (overlaps k n) (laid_over ws rs) ≡ either (any_put (overlaps_at k n) ws) (any (overlaps_logged ws k n) rs)
unfolding laid_over
any_laid k n ws rs =
    any_append (overlaps k n) (standing (map_items own_view ws)) (standing (map_items payload_of (filter (untouched ws) rs)))
    ∙ (λ i. either (any_puts k n ws i) (any_logged k n ws rs i))

-- ---- the section that is put

module _ (reads : List (Row (Option Record))) (cs : List Scan) (ws : List (Row Write)) (k n : ℕ) where
  -- by what decides
  by_decision : {d g : Optional Scanned} → d ≡ g → decision_in d ≡ deciding cs k n
      → overlapped reads cs ws k n ≡ maybe (decision_in g) false (λ (c : Scan). any (overlaps k n) (laid_over ws (stretch reads c)))
  unfolding overlapped
  by_decision q e =
      ap (λ (o : Option Scan). maybe o false (λ (c : Scan). any (overlaps k n) (laid_over ws (stretch reads c)))) (sym e ∙ ap decision_in q)

  pub overlapped_none : {d : Optional Scanned} → d ≡ None → decision_in d ≡ deciding cs k n → false ≡ overlapped reads cs ws k n
  overlapped_none q e = sym (by_decision q e)

  -- of a scan: by whether an own put overlaps the section
  by_own : {d : Optional Scanned} {s : Scanned} {a c : Bool} → d ≡ Some s → decision_in d ≡ deciding cs k n → a ≡ any_put (overlaps_at k n) ws → a ≡ c
      → either c (any (overlaps_logged ws k n) (stretch reads (scanned_in s))) ≡ overlapped reads cs ws k n
  by_own {s = s} q e f t =
      sym
      (by_decision q e
      ∙ any_laid k n ws (stretch reads (scanned_in s))
      ∙ ap (λ (b : Bool). either b (any (overlaps_logged ws k n) (stretch reads (scanned_in s)))) (sym f ∙ t))

  pub overlapped_own : {d : Optional Scanned} {s : Scanned} {a : Bool} → d ≡ Some s → decision_in d ≡ deciding cs k n → a ≡ any_put (overlaps_at k n) ws → a ≡ true
      → true ≡ overlapped reads cs ws k n
  overlapped_own q e f t = by_own q e f t

  pub overlapped_logged : {d : Optional Scanned} {s : Scanned} {a b : Bool} → d ≡ Some s → decision_in d ≡ deciding cs k n → a ≡ any_put (overlaps_at k n) ws → a ≡ false
      → b ≡ any (overlaps_logged ws k n) (stretch reads (scanned_in s)) → b ≡ overlapped reads cs ws k n
  overlapped_logged q e f t g = g ∙ by_own q e f t

-- ---- the rows that a scan logged: m of the k rows of the read set

module _ (rs : ReadRows) (k : ℕ) {m : ℕ} (s : Scanned) (e : m ≡ min s.count (k - s.from)) where
  left : length (drop s.from (reads_of rs k)) ≡ k - s.from
  left = length-drop s.from (reads_of rs k) ∙ ap (λ (n : ℕ). n - s.from) (length_rows read_in rs k)

  pub part_size : length (take m (drop s.from (reads_of rs k))) ≡ m
  part_size = let l = left in length-take-le m (drop s.from (reads_of rs k)) (omega arith)

  pub part_at : {i : ℕ} {o : Observed} → i < m → GivesRead rs (s.from + i) o → observed_in o ≡ get_or (take m (drop s.from (reads_of rs k))) i no_read
  part_at {i} {o} h g =
      g.at k (omega arith)
      ∙ sym (get_or-take m (drop s.from (reads_of rs k)) i no_read h ∙ get_or-drop s.from (reads_of rs k) i no_read)

  pub part_all : (p : Row (Option Record) → Bool) → any p (take m (drop s.from (reads_of rs k))) ≡ any p (stretch (reads_of rs k) (scanned_in s))
  unfolding stretch
  part_all p =
      let l = left in
      ap (any p)
      (⊎_elim
      (λ t. let q : s.count ≤ k - s.from = at_most_true s.count (k - s.from) t in
      let f : m ≡ s.count = omega arith in
      ap (λ (i : ℕ). take i (drop s.from (reads_of rs k))) f)
      (λ t. let q : k - s.from < s.count = at_most_false s.count (k - s.from) t in
      take_all m (drop s.from (reads_of rs k)) (omega arith) ∙ sym (take_all s.count (drop s.from (reads_of rs k)) (omega arith)))
      (cases (at_most s.count (k - s.from))))

-- ---- one of them

module _ (ws : List (Row Write)) (k n : ℕ) (o : Observed) where
  -- no record is present
  pub read_absent : o.current ≡ None → false ≡ overlaps_logged ws k n (observed_in o)
  unfolding overlaps_logged payload_of
  read_absent e =
      sym
      (ap (λ (c : Optional RecordWords). overlaps_logged ws k n (row o.address (record_in c))) e
      ∙ with_false (untouched ws (row o.address none)))

  -- one is: by whether it overlaps
  by_parts : {r : RecordWords} (m : Bool) → o.current ≡ Some r → overlaps_at k n o.address r.payload.value ≡ m
      → both (not (present (look ws o.address))) m ≡ overlaps_logged ws k n (observed_in o)
  unfolding overlaps_logged untouched payload_of overlaps
  by_parts m e f =
      sym
      (ap (λ (c : Optional RecordWords). overlaps_logged ws k n (row o.address (record_in c))) e
      ∙ ap (both (not (present (look ws o.address)))) f)

  pub read_apart : {r : RecordWords} {b : Bool} → o.current ≡ Some r → b ≡ overlaps_at k n o.address r.payload.value → b ≡ false → b ≡ overlaps_logged ws k n (observed_in o)
  read_apart e f g = g ∙ sym (with_false (not (present (look ws o.address)))) ∙ by_parts false e (sym f ∙ g)

  -- and by what a look-up of the own write finds
  pub read_found : {r : RecordWords} {b c : Bool} (f : Optional WriteWords) → o.current ≡ Some r → b ≡ overlaps_at k n o.address r.payload.value → b ≡ true
      → found_in f ≡ look ws o.address → is_some f ≡ not c → c ≡ overlaps_logged ws k n (observed_in o)
  read_found f e m t h q =
      absent_is edit_in f q
      ∙ sym (with_true (not (present (found_in f))))
      ∙ ap (λ (w : Option Write). both (not (present w)) true) h
      ∙ by_parts true e (sym m ∙ t)
