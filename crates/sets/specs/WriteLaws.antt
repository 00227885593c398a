-- The laws of write sets: rows moved up, the place of an address, whether a write stands there, what a put leaves.
use Rattle.std.specs.Prelude.{ℕ, ◌+◌, ◌-◌, ◌<◌, ◌≤◌, ◌≡◌, refl, ◌⊎◌, true, false, not, List, [], ◌∷◌, ◌++◌, eqb, ltb, take, drop, get_or, replicate}
use native.Mathlib.Omega.{arith}
use Rattle.std.proofs.Math.Path.{sym, ap, subst}
use Rattle.std.proofs.Common.{◌∙◌, inl, inr, ⊎_elim, eqb-true, append_assoc, length-drop, length-take-le}
use Rattle.std.proofs.Math.Option.{none, some}
use Rattle.std.proofs.Math.ListN.{length, set}
use Rattle.std.proofs.lemmas.Bool.{eqb-false}
use Rattle.lists.specs.Tests.{both, present, same, less}
use Rattle.lists.specs.TestLaws.{cases, clash, same_yes, same_no, less_no, less_true, less_false}
use Rattle.lists.specs.Rows.{Row, row, look, insert, assign, Rising}
use Rattle.lists.specs.RowLaws.{rising_assign}
use Rattle.std.specs.List.{copy_within, CopiedTo, SameBelow, SameFrom}
use Rattle.lists.specs.Shifts.{over, moved, length_moved}
use Rattle.lists.specs.Places.{place, place_most, place_below, place_above, Present, Absent, look_present, look_absent, insert_present, insert_absent}
use Rattle.spec.specs.Widths.{addresses}
use Rattle.spec.specs.Records.{limits, Write, written, deleted}
use Rattle.sets.specs.declared.writes.WriteRow.{WriteRow}
use Rattle.spec.specs.Payloads.{payload_in}
use Rattle.spec.specs.declared.PayloadWords.{PayloadWords}
use Rattle.sets.specs.declared.writes.Write.{Write as WriteWords}
use Rattle.sets.specs.declared.writes.Write.TheVariants.{Put, Deletion}
use Rattle.sets.specs.Writes.{WriteRows, write_words, edit_in, kind_of, given_by, write_of, row_words, no_write, line_at, words_of, write_in, writes_of, WriteSetHeld, WritesHeld, WriteSetOrdered, WritesBecome, PutsWrite, GivesWrite}
use Rattle.sets.specs.WritePlaces.{PlaceOf, WritesHave}
use Rattle.sets.specs.SetLaws.{each_set, each_alike, length_rows, row_at, row_replaced, row_put_lem}

-- ---- kinds

pub put_kind : (kind : ℕ) (v : PayloadWords) → kind ≡ 1 → write_of kind v ≡ written (payload_in v)
unfolding write_of
put_kind kind v e = rw (same_yes {m = kind} {n = 1} e)

pub deletion_kind : (kind : ℕ) (v : PayloadWords) → (kind ≡ 1 → ⊥) → write_of kind v ≡ deleted
unfolding write_of
deletion_kind kind v n = rw (same_no {m = kind} {n = 1} n)

-- what the words of a write say
kind_back : (w : WriteWords) → write_of (kind_of w) (given_by w) ≡ edit_in w
unfolding write_of same
kind_back (Put v) = refl
kind_back Deletion = refl

-- ---- rows moved up, and one put in

-- what std's `copy_within` leaves is the list with those elements moved
copied : {A : Type 0} (xs : List A) (from to end : ℕ) → from ≤ end → end ≤ length xs → copy_within xs from end to ≡ moved xs from to (end - from)
unfolding moved over
copied xs from to end h l =
    let ys = take (end - from) (drop from xs) in
    let e : length ys ≡ end - from = length-take-le (end - from) (drop from xs) (rw length-drop (omega arith)) in
    rw e (append_assoc (take to xs) ys (drop (to + (end - from)) xs))

-- the rows from place p on moved up by one: each of them stood there before
pub lifted : {rs us : WriteRows} (n p : ℕ) → WriteSetHeld rs → p ≤ n → n < limits.write_limit → us ≡ copy_within rs p n (p + 1)
    → CopiedTo rs us p (p + 1) (n - p) × SameBelow rs us (p + 1) × SameFrom rs us (p + 1 + (n - p)) → WritesBecome (moved rs p (p + 1) (n - p)) us
lifted {rs} {us} n p held h l e k =
    let z : length rs ≡ limits.write_limit = held.size in
    record {
      held =
          record {
            size = ap length e' ∙ length_moved rs p (p + 1) (n - p) (omega arith) (omega arith) ∙ z;
            at = λ i q.
                ⊎_elim
                (λ t. narrow i i q (k.1 i [] (less_true i (p + 1) t)))
                (λ t.
                let b : p + 1 ≤ i = less_false i (p + 1) t in
                ⊎_elim
                (λ u.
                let a : i < p + 1 + (n - p) = less_true i (p + 1 + (n - p)) u in
                narrow i (p + (i - (p + 1))) (omega arith) (k.0 i [] b a))
                (λ u. narrow i i q (k.2 i [] (less_false i (p + 1 + (n - p)) u)))
                (cases (less i (p + 1 + (n - p)))))
                (cases (less i (p + 1)));
          };
      rows = e';
    }
  where
    e' : us ≡ moved rs p (p + 1) (n - p)
    e' =
        let z : length rs ≡ limits.write_limit = held.size in
        e ∙ copied rs p (p + 1) n (omega arith) (omega arith)

    narrow : (i j : ℕ) → j < limits.write_limit → get_or us i [] ≡ get_or rs j [] → get_or (get_or us i []) 0 0 < addresses
    narrow i j q f = subst (λ (r : List ℕ). get_or r 0 0 < addresses) (sym f) (held.at j q)

pub line_stored : {rs us vs : WriteRows} (p : ℕ) (r : WriteRow) → r.address < addresses → WritesBecome rs us → vs ≡ set us p (words_of r)
    → WritesBecome (set rs p (words_of r)) vs
line_stored p r h b e =
    record {
      held = subst WriteSetHeld (sym e) (each_set p (words_of r) b.held h);
      rows = e ∙ ap (λ (l : WriteRows). set l p (words_of r)) b.rows;
    }

-- ---- the search: no address before place i is at least a

-- the address in row i
key_at : (rs : WriteRows) (n i : ℕ) → i < n → (get_or (writes_of rs n) i no_write).key ≡ (line_at rs i).address
key_at rs n i h = ap (λ (x : Row Write). x.key) (row_at write_in rs n i no_write h)

module _ {rs : WriteRows} {n : ℕ} (a : ℕ) (given : WriteSetOrdered rs n) where
  pub below_on : (i : ℕ) → i < n → (line_at rs i).address < a → i + 1 ≤ place a (writes_of rs n)
  unfolding Rising
  below_on i h l =
      let s : length (writes_of rs n) ≡ n = length_rows write_in rs n in
      let k : (get_or (writes_of rs n) i no_write).key ≡ (line_at rs i).address = key_at rs n i h in
      let p : i < place a (writes_of rs n) = place_below a 0 (writes_of rs n) i no_write given.rising (omega arith) (omega arith) in
      omega arith

  pub below_stop : (i : ℕ) → i < n → i ≤ place a (writes_of rs n) → a ≤ (line_at rs i).address → PlaceOf rs n a i
  below_stop i h b l =
      let s : length (writes_of rs n) ≡ n = length_rows write_in rs n in
      let k : (get_or (writes_of rs n) i no_write).key ≡ (line_at rs i).address = key_at rs n i h in
      let p : place a (writes_of rs n) ≤ i = place_above a (writes_of rs n) i no_write (omega arith) (omega arith) in
      record { is = omega arith; within = omega arith }

  pub below_end : (i : ℕ) → n ≤ i → i ≤ place a (writes_of rs n) → PlaceOf rs n a i
  below_end i h b =
      let s : length (writes_of rs n) ≡ n = length_rows write_in rs n in
      let p : place a (writes_of rs n) ≤ length (writes_of rs n) = place_most a (writes_of rs n) in
      record { is = omega arith; within = omega arith }

-- ---- whether a write stands at the place

module _ {rs : WriteRows} {n a p : ℕ} (given : WriteSetOrdered rs n) (at : PlaceOf rs n a p) where
  key_there : p < n → (get_or (writes_of rs n) (place a (writes_of rs n)) no_write).key ≡ (line_at rs p).address
  key_there h = ap (λ (i : ℕ). (get_or (writes_of rs n) i no_write).key) (sym at.is) ∙ key_at rs n p h

  pub stands_past : n ≤ p → WritesHave rs n a (ltb p n)
  unfolding less
  stands_past h =
      let s : length (writes_of rs n) ≡ n = length_rows write_in rs n in
      let i : p ≡ place a (writes_of rs n) = at.is in
      subst (WritesHave rs n a) (sym (less_no {m = p} {n = n} h)) (record { present = λ e. clash e refl; absent = λ e. record { elsewhere = λ g f. omega arith } })

  pub stands_at : (r : WriteRow) → r ≡ line_at rs p → p < n → WritesHave rs n a (eqb r.address a)
  stands_at r g h =
      let s : length (writes_of rs n) ≡ n = length_rows write_in rs n in
      let i : p ≡ place a (writes_of rs n) = at.is in
      let k : (get_or (writes_of rs n) (place a (writes_of rs n)) no_write).key ≡ r.address = key_there h ∙ sym (ap (λ (l : WriteRow). l.address) g) in
      record {
        present = λ e. record { inside = omega arith; here = k ∙ eqb-true r.address a e };
        absent = λ e. record { elsewhere = λ l f. eqb-false r.address a e (sym k ∙ f) };
      }

  -- ---- what a look-up finds

  pub inside : Present a (writes_of rs n) no_write → p < n
  inside s =
      let l : length (writes_of rs n) ≡ n = length_rows write_in rs n in
      let i : p ≡ place a (writes_of rs n) = at.is in
      let h : place a (writes_of rs n) < length (writes_of rs n) = s.inside in
      omega arith

  pub found_here : (r : WriteRow) → r ≡ line_at rs p → Present a (writes_of rs n) no_write → (e : Write) → write_of r.kind r.payload ≡ e
      → some e ≡ look (writes_of rs n) a
  found_here r g s e q =
      ap (λ (x : Write). some x) (sym q)
      ∙ ap (λ (l : WriteRow). some (write_of l.kind l.payload)) g
      ∙ ap (λ (x : Row Write). some x.item) (sym (row_at write_in rs n p no_write (inside s)) ∙ ap (λ (i : ℕ). get_or (writes_of rs n) i no_write) at.is)
      ∙ sym (look_present a (writes_of rs n) no_write s)

  pub found_none : Absent a (writes_of rs n) no_write → none ≡ look (writes_of rs n) a
  unfolding Rising
  found_none s = sym (look_absent a 0 (writes_of rs n) no_write given.rising s)

  -- ---- what a put leaves

  pub put_room : Absent a (writes_of rs n) no_write → (n < limits.write_limit) ⊎ (present (look (writes_of rs n) a) ≡ true) → n < limits.write_limit
  put_room s h = ⊎_elim (λ l. l) (λ e. clash e (ap present (sym (found_none s)))) h

  puts : {us : WriteRows} (w : WriteWords) (m : ℕ) → m ≤ limits.write_limit → WriteSetHeld us
      → writes_of us m ≡ insert a (edit_in w) (writes_of rs n) → PutsWrite rs n a w us m
  unfolding assign
  puts {us} w m h held e =
      record {
        set =
            record {
              held = held;
              room = h;
              rising = subst (Rising {A = Write}) (sym e) (rising_assign a (some (edit_in w)) (writes_of rs n) given.rising);
            };
        view = e;
        count = sym (length_rows write_in us m) ∙ ap length e;
      }

  pub put_over : {us : WriteRows} (w : WriteWords) → Present a (writes_of rs n) no_write → a < addresses → us ≡ set rs p (words_of (row_words a w))
      → PutsWrite rs n a w us n
  put_over {us} w s h e =
      let z : length rs ≡ limits.write_limit = given.held.size in
      let m : n ≤ limits.write_limit = given.room in
      puts w n m (subst WriteSetHeld (sym e) (each_set p (words_of (row_words a w)) given.held h))
      (ap (λ (l : WriteRows). writes_of l n) e
      ∙ row_replaced write_in rs n p (words_of (row_words a w)) (inside s) (omega arith)
      ∙ (λ i. set (writes_of rs n) (at.is i) (row a (kind_back w i)))
      ∙ sym (insert_present a (edit_in w) (writes_of rs n) no_write s))

  pub put_new : {us : WriteRows} (w : WriteWords) → Absent a (writes_of rs n) no_write → n < limits.write_limit
      → WritesBecome (set (moved rs p (p + 1) (n - p)) p (words_of (row_words a w))) us → PutsWrite rs n a w us (n + 1)
  put_new {us} w s h b =
      let z : length rs ≡ limits.write_limit = given.held.size in
      puts w (n + 1) (omega arith) b.held
      (ap (λ (l : WriteRows). writes_of l (n + 1)) b.rows
      ∙ row_put_lem write_in rs n p (words_of (row_words a w)) at.within (omega arith)
      ∙ (λ i. take (at.is i) (writes_of rs n) ++ (row a (kind_back w i) ∷ drop (at.is i) (writes_of rs n)))
      ∙ sym (insert_absent a (edit_in w) (writes_of rs n) no_write s))

-- ---- a row read

pub write_given : {rs : WriteRows} {i : ℕ} (r : WriteRow) → r ≡ line_at rs i → (w : WriteWords) → edit_in w ≡ write_of r.kind r.payload
    → GivesWrite rs i (record { address = r.address; write = w })
write_given {rs} {i} r g w q =
    record { at = λ n l. ap (row r.address) q ∙ ap (λ (x : WriteRow). write_in (words_of x)) g ∙ sym (row_at write_in rs n i no_write l) }

-- ---- laws for callers

-- where a step is not refused for a full write set, a put has room
pub room_found : (rs : WriteRows) (n a : ℕ) → both (not (present (look (writes_of rs n) a))) (not (less n limits.write_limit)) ≡ false
    → (n < limits.write_limit) ⊎ (present (look (writes_of rs n) a) ≡ true)
room_found rs n a e =
    ⊎_elim (λ t. inl (less_true n limits.write_limit t))
    (λ f. ⊎_elim (λ t. inr t)
    (λ g. clash {b = both (not (present (look (writes_of rs n) a))) (not (less n limits.write_limit))} (rw g (rw f)) e)
    (cases (present (look (writes_of rs n) a))))
    (cases (less n limits.write_limit))

-- ---- the start

pub writes_zero : WritesHeld (replicate limits.workers (replicate limits.write_limit (replicate write_words 0)))
writes_zero = each_alike limits.workers _ (each_alike limits.write_limit _ (omega arith))
