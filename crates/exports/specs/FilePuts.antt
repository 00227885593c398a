-- The laws of a file that is put into bytes: numbers, one record after the other, the whole.
use Rattle.std.specs.Prelude.{ℕ, suc, ◌+◌, ◌-◌, ◌*◌, ◌≤◌, ◌≡◌, refl, List, [], ◌∷◌, ◌++◌, length, take, drop, get_or}
use Rattle.std.proofs.Common.{zero-add, arith, sym, ap, ◌∙◌, subst, append_assoc, append-nil, length-append, take_at, get_or-append-add, get_or-drop}
use Rattle.std.proofs.lemmas.List.Edits.{sets-eq}
use Rattle.lists.specs.Rows.{Row}
use Rattle.lists.specs.Texts.{Wrote}
use Rattle.lists.specs.TextLaws.{wrote_join, wrote_length}
use Rattle.spec.specs.Widths.{address_size}
use Rattle.spec.specs.Records.{Payload}
use Rattle.spec.specs.Files.{little_endian, address_bytes, entry_size, entry_bytes, file_of}
use Rattle.laws.specs.FileLaws.{length_number}
use Rattle.sets.specs.SetLaws.{length_rows, rows_none, rows_snoc}
use Rattle.buffers.specs.Buffers.{Unmoved}
use Rattle.contents.specs.declared.rows.CopiedRecord.{CopiedRecord}
use Rattle.contents.specs.Copies.{copy_row, copied_in}
use Rattle.contents.specs.RowLaws.{row_of}
use Rattle.exports.specs.Exporting.{ExportedRows}

-- ---- numbers

-- a text in place of one that is the same
pub wrote_as : {old new text text' : List ℕ} {at next : ℕ} → text ≡ text' → Wrote old at text new next → Wrote old at text' new next
wrote_as {old} {new} {text} {text'} {at} {next} e w = subst (λ (t : List ℕ). Wrote old at t new next) e w

-- ---- one record after the other

-- the entry of a record
abbrev pub one_entry : Row Payload → List ℕ
one_entry r = little_endian 8 r.item.value ++ little_endian 2 r.item.owner

abbrev pub one_address : Row Payload → List ℕ
one_address r = little_endian address_size r.key

-- Bytes of records, so many for each.
pub record EachPut (bytes : List (Row Payload) → List ℕ) (one : Row Payload → List ℕ) (width : ℕ) : Type 0 where
  pub none : bytes [] ≡ []
  pub more : (rs : List (Row Payload)) (r : Row Payload) → bytes (rs ++ (r ∷ [])) ≡ bytes rs ++ one r
  pub size : (r : Row Payload) → length (one r) ≡ width

addresses_more : (rs : List (Row Payload)) (r : Row Payload) → address_bytes (rs ++ (r ∷ [])) ≡ address_bytes rs ++ one_address r
unfolding address_bytes
addresses_more [] r = append-nil (one_address r)
addresses_more (s ∷ rs) r =
    ap (λ (t : List ℕ). one_address s ++ t) (addresses_more rs r) ∙ sym (append_assoc (one_address s) (address_bytes rs) (one_address r))

entries_more : (rs : List (Row Payload)) (r : Row Payload) → entry_bytes (rs ++ (r ∷ [])) ≡ entry_bytes rs ++ one_entry r
unfolding entry_bytes little_endian
entries_more [] r = ap (λ (t : List ℕ). little_endian 8 r.item.value ++ t) (append-nil (little_endian 2 r.item.owner))
entries_more (s ∷ rs) r =
    let v = little_endian 8 s.item.value in
    let o = little_endian 2 s.item.owner in
    ap (λ (t : List ℕ). v ++ o ++ t) (entries_more rs r)
    ∙ ap (λ (t : List ℕ). v ++ t) (sym (append_assoc o (entry_bytes rs) (one_entry r)))
    ∙ sym (append_assoc v (o ++ entry_bytes rs) (one_entry r))

pub addresses_each : EachPut address_bytes one_address address_size
addresses_each = record { none = (unfold address_bytes in refl); more = addresses_more; size = λ r. length_number address_size r.key }

entry_size_lem : (r : Row Payload) → length (one_entry r) ≡ entry_size
entry_size_lem r =
    let v : length (little_endian 8 r.item.value) ≡ 8 = length_number 8 r.item.value in
    let o : length (little_endian 2 r.item.owner) ≡ 2 = length_number 2 r.item.owner in
    length-append (little_endian 8 r.item.value) (little_endian 2 r.item.owner) ∙ omega (arith, v, o)

pub entries_each : EachPut entry_bytes one_entry entry_size
entries_each = record { none = (unfold entry_bytes in refl); more = entries_more; size = entry_size_lem }

-- those of the first i records are put, so many bytes each
pub record Putting (bytes : List (Row Payload) → List ℕ) (width : ℕ) (rows : ExportedRows) (old : List ℕ) (at i : ℕ) (new : List ℕ) (place : ℕ) : Type 0 where
  pub wrote : Wrote old at (bytes (copied_in rows i)) new place
  pub place_is : place ≡ at + width * i

module _ {bytes : List (Row Payload) → List ℕ} {one : Row Payload → List ℕ} {width : ℕ} (h : EachPut bytes one width) (rows : ExportedRows) where
  pub putting_none : (old : List ℕ) (at : ℕ) → at ≤ length old → Putting bytes width rows old at 0 old at
  putting_none old at l =
      record {
        wrote =
            wrote_as (sym (ap bytes (rows_none copy_row rows) ∙ h.none)) (record { written = refl; within = omega arith; place = omega arith });
        place_is = omega arith;
      }

  pub putting_on : {old mid new : List ℕ} {at i place next : ℕ} {r : CopiedRecord} → Putting bytes width rows old at i mid place
      → row_of r ≡ copy_row (get_or rows i []) → Wrote mid place (one (row_of r)) new next → Putting bytes width rows old at (i + 1) new next
  putting_on {old} {mid} {new} {at} {i} {place} {next} {r} p e w =
      let s : i + 1 ≡ suc i = omega arith in
      let q : place ≡ at + width * i = p.place_is in
      let z : next ≡ place + length (one (row_of r)) = w.place in
      let l : length (one (row_of r)) ≡ width = h.size (row_of r) in
      record {
        wrote =
            wrote_as
            (sym (h.more (copied_in rows i) (row_of r))
            ∙ ap (λ (x : Row Payload). bytes (copied_in rows i ++ (x ∷ []))) e
            ∙ ap bytes (sym (rows_snoc copy_row rows i))
            ∙ ap (λ (k : ℕ). bytes (copied_in rows k)) (sym s))
            (wrote_join p.wrote w);
        place_is = z ∙ (λ j. q j + l j) ∙ (let t : at + width * i + width ≡ at + width * (i + 1) = omega arith in t);
      }

pub putting_end : {bytes : List (Row Payload) → List ℕ} {width : ℕ} {rows : ExportedRows} {old new : List ℕ} {at i n place : ℕ}
    → Putting bytes width rows old at i new place → i ≤ n → n ≤ i → Putting bytes width rows old at n new place
putting_end {bytes} {width} {rows} {old} {new} {at} {i} {n} {place} p l g =
    subst (λ (k : ℕ). Putting bytes width rows old at k new place) (let e : i ≡ n = omega arith in e) p

-- ---- the whole

-- the file, of its four parts
pub file_put : (rows : ExportedRows) (n : ℕ) {a b c d e : List ℕ} {i j k l : ℕ} → Wrote a 0 (little_endian 4 n) b i → Wrote b i (little_endian 4 entry_size) c j
    → Putting address_bytes address_size rows c j n d k → Putting entry_bytes entry_size rows d k n e l → Wrote a 0 (file_of (copied_in rows n)) e l
unfolding file_of little_endian address_bytes entry_bytes
file_put rows n {a} {b} {c} {d} {e} {i} {j} {k} {l} p q r s =
    let rs = copied_in rows n in
    let x = little_endian 4 n in
    let y = little_endian 4 entry_size in
    wrote_as
    (append_assoc (x ++ y) (address_bytes rs) (entry_bytes rs)
    ∙ append_assoc x y (address_bytes rs ++ entry_bytes rs)
    ∙ ap (λ (m : ℕ). little_endian 4 m ++ y ++ address_bytes rs ++ entry_bytes rs) (sym (length_rows copy_row rows n)))
    (wrote_join (wrote_join (wrote_join p q) r.wrote) s.wrote)

-- a text that is written from the first byte on: the first bytes are it, and all others stay
module _ {old text new : List ℕ} {n : ℕ} (w : Wrote old 0 text new n) where
  size_is : length text ≡ n
  size_is = let p : n ≡ 0 + length text = w.place in omega arith

  parts : new ≡ text ++ drop (length text) old
  parts = w.written ∙ sets-eq text old 0 w.within ∙ ap (λ (k : ℕ). text ++ drop k old) (zero-add (length text))

  pub first_bytes : take n new ≡ text
  first_bytes = ap (take n) parts ∙ take_at text (drop (length text) old) n size_is

  pub bytes_stay : Unmoved n old new
  bytes_stay = record { size = wrote_length w; same = λ p l. stays p l }
    where
      stays : (p : ℕ) → n ≤ p → get_or new p 0 ≡ get_or old p 0
      stays p l =
          let q : p ≡ length text + (p - length text) = (let e = size_is in omega arith) in
          (λ i. get_or (parts i) (q i) 0)
          ∙ get_or-append-add text (drop (length text) old) (p - length text) 0
          ∙ get_or-drop (length text) old (p - length text) 0
          ∙ ap (λ (k : ℕ). get_or old k 0) (sym q)
