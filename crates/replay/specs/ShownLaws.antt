-- The lent buffers and bytes after a step: what it wrote in the first places, and the rest as it was.
use Rattle.std.specs.Prelude.{ℕ, Result, Ok, Err, zero, suc, ◌+◌, ◌-◌, ◌*◌, ◌<◌, ◌≤◌, ◌≡◌, refl, List, [], ◌∷◌, ◌++◌, map, length, get_or, take, drop}
use Rattle.std.proofs.Common.{zero-add, arith, sym, ap, ◌∙◌, take-append-drop, length-drop, ext_get_or, get_or-drop, length-take-le, drop-cons}
use Rattle.std.proofs.lemmas.List.Edits.{sets, sets-eq}
use Rattle.lists.specs.Tabulation.{tab, tab_from}
use Rattle.lists.specs.Rows.{Row}
use Rattle.spec.specs.Records.{Payload}
use Rattle.spec.specs.Steps.{Places, shortest}
use Rattle.spec.specs.Exports.{Exchange, records_given}
use Rattle.buffers.specs.Buffers.{Buffers, places_of, row_in, rows_in, Unmoved, Beyond, Lends}
use Rattle.exports.specs.declared.ExportTold.TheVariants as export
use Rattle.exports.specs.Exporting.{ExportAnswer, Space, export_answer_in, places_written, bytes_written}
use Rattle.spec.specs.declared.Refusal.{Refusal}
use Rattle.engine.specs.declared.steps.Told.{Told}
use Rattle.engine.specs.declared.steps.Told.TheVariants as told
use Rattle.engine.specs.Performs.{reply_in, places_in}
use Rattle.replay.specs.Replays.{longest_answer, scanned, shown_by, bytes_of, filed_by, left_in, FilesFit, SpaceBecomes}

-- ---- room

-- room for the longest answer is room for one of n records
pub room_left : {n at : ℕ} (w : Places) (out : List ℕ) → n ≤ shortest w → at ≤ length out → longest_answer w ≤ length out - at → at + 5 + 3 * n ≤ length out
room_left w out h i r = omega arith

-- the places that were written are in the buffers
pub places_left : {n : ℕ} (w : Places) (b : Buffers) → n ≤ shortest w → Lends (places_of b) w → n ≤ shortest (places_of b)
unfolding shortest
places_left w b h n =
    let x : w.addresses ≤ length b.addresses = n.addresses in
    let v : w.values ≤ length b.values = n.values in
    let o : w.owners ≤ length b.owners = n.owners in
    omega arith

-- as many as before the step
pub places_kept : {n k : ℕ} (b b' : Buffers) → k ≤ shortest (places_of b) → Beyond n b b' → k ≤ shortest (places_of b')
unfolding shortest
places_kept b b' h y =
    let x : length b'.addresses ≡ length b.addresses = y.addresses.size in
    let v : length b'.values ≡ length b.values = y.values.size in
    let o : length b'.owners ≡ length b.owners = y.owners.size in
    omega arith

-- ---- the buffers

map_tab_from : {A B : Type 0} (f : A → B) (g : ℕ → A) (i n : ℕ) → map f (tab_from g i n) ≡ tab_from (λ (j : ℕ). f (g j)) i n
unfolding tab_from
map_tab_from f g i zero = refl
map_tab_from f g i (suc n) = λ j. f (g i) ∷ map_tab_from f g (suc i) n j

take_from : (ks : List ℕ) (i n : ℕ) → i + n ≤ length ks → tab_from (λ (j : ℕ). get_or ks j 0) i n ≡ take n (drop i ks)
unfolding tab_from
take_from ks i zero h = refl
take_from ks i (suc n) h =
    ap (λ (xs : List ℕ). get_or ks i 0 ∷ xs) (take_from ks (suc i) n (let k : suc i + n ≤ length ks = omega arith in k))
    ∙ sym (ap (take (suc n)) (drop-cons ks i 0 (let k : i < length ks = omega arith in k)))

-- the first n places filled
filled : (ks ls : List ℕ) (n : ℕ) → n ≤ length ks → Unmoved n ks ls → ls ≡ sets ks 0 (take n ls)
filled ks ls n h b =
    let s : length ls ≡ length ks = b.size in
    let t : length (take n ls) ≡ n = length-take-le n ls (let k : n ≤ length ls = omega arith in k) in
    let d : drop n ls ≡ drop n ks
    = ext_get_or 0 (drop n ls) (drop n ks) (length-drop n ls ∙ ap (λ (x : ℕ). x - n) s ∙ sym (length-drop n ks))
    (λ i j. get_or-drop n ls i 0 ∙ b.same (n + i) (let k : n ≤ n + i = omega arith in k) ∙ sym (get_or-drop n ks i 0)) in
    sym (take-append-drop n ls)
    ∙ ap (λ (xs : List ℕ). take n ls ++ xs) (d ∙ ap (λ (k : ℕ). drop k ks) (sym t ∙ sym (zero-add (length (take n ls)))))
    ∙ sym (sets-eq (take n ls) ks 0 (let k : 0 + length (take n ls) ≤ length ks = omega arith in k))

module _ (b : Buffers) (n : ℕ) where
  column : (f : Row Payload → ℕ) (ls : List ℕ) → map f (rows_in n b) ≡ tab_from (λ (i : ℕ). get_or ls i 0) 0 n → n ≤ length ls → map f (rows_in n b) ≡ take n ls
  column f ls e h = e ∙ take_from ls 0 n (let k : 0 + n ≤ length ls = omega arith in k)

  rows_addresses : n ≤ length b.addresses → map (λ (r : Row Payload). r.key) (rows_in n b) ≡ take n b.addresses
  unfolding rows_in tab
  rows_addresses = column (λ (r : Row Payload). r.key) b.addresses (map_tab_from (λ (r : Row Payload). r.key) (row_in b) 0 n)

  rows_values : n ≤ length b.values → map (λ (r : Row Payload). r.item.value) (rows_in n b) ≡ take n b.values
  unfolding rows_in tab
  rows_values = column (λ (r : Row Payload). r.item.value) b.values (map_tab_from (λ (r : Row Payload). r.item.value) (row_in b) 0 n)

  rows_owners : n ≤ length b.owners → map (λ (r : Row Payload). r.item.owner) (rows_in n b) ≡ take n b.owners
  unfolding rows_in tab
  rows_owners = column (λ (r : Row Payload). r.item.owner) b.owners (map_tab_from (λ (r : Row Payload). r.item.owner) (row_in b) 0 n)

-- the first n places of the buffers and the first k bytes were written
pub space_shown : (e : Exchange) (s s' : Space) (n k : ℕ) → shown_by e ≡ rows_in n s'.portion → filed_by e ≡ take k s'.bytes
    → n ≤ shortest (places_of s.portion) → Beyond n s.portion s'.portion → k ≤ length s.bytes → Unmoved k s.bytes s'.bytes
    → SpaceBecomes (e ∷ []) s s'
unfolding left_in FilesFit shortest
space_shown e s s' n k q p h y i u =
    let b = s.portion in
    let b' = s'.portion in
    let x : length b'.addresses ≡ length b.addresses = y.addresses.size in
    let v : length b'.values ≡ length b.values = y.values.size in
    let o : length b'.owners ≡ length b.owners = y.owners.size in
    let m : length s'.bytes ≡ length s.bytes = u.size in
    let f : length (filed_by e) ≡ k = ap length p ∙ length-take-le k s'.bytes (omega arith) in
    record {
      addresses =
          filled b.addresses b'.addresses n (omega arith) y.addresses
          ∙ ap (sets b.addresses 0) (sym (rows_addresses b' n (omega arith)) ∙ ap (map (λ (r : Row Payload). r.key)) (sym q));
      values =
          filled b.values b'.values n (omega arith) y.values
          ∙ ap (sets b.values 0) (sym (rows_values b' n (omega arith)) ∙ ap (map (λ (r : Row Payload). r.item.value)) (sym q));
      owners =
          filled b.owners b'.owners n (omega arith) y.owners
          ∙ ap (sets b.owners 0) (sym (rows_owners b' n (omega arith)) ∙ ap (map (λ (r : Row Payload). r.item.owner)) (sym q));
      bytes = filled s.bytes s'.bytes k i u ∙ ap (sets s.bytes 0) (sym p);
      fits = (let j : length (filed_by e) ≤ length s.bytes = omega arith in j, tt);
    }

-- ---- what a step shows

pub reply_shown : (p : Result Told Refusal) (b : Buffers) → scanned (reply_in p b) ≡ rows_in (places_in p) b
unfolding scanned rows_in tab tab_from
reply_shown (Ok told.Nothing) b = refl
reply_shown (Ok (told.Found f)) b = refl
reply_shown (Ok (told.Listed n)) b = refl
reply_shown (Ok (told.Numbered n)) b = refl
reply_shown (Ok (told.Counted n)) b = refl
reply_shown (Err r) b = refl

pub export_shown : (a : ExportAnswer) (s : Space) → records_given (export_answer_in a s) ≡ rows_in (places_written a) s.portion
unfolding records_given export_answer_in places_written rows_in tab tab_from
export_shown (Ok (export.Opened n)) s = refl
export_shown (Ok (export.Given n m)) s = refl
export_shown (Ok (export.Filed n)) s = refl
export_shown (Ok export.Closed) s = refl
export_shown (Err r) s = refl

pub export_filed : (a : ExportAnswer) (s : Space) → bytes_of (export_answer_in a s) ≡ take (bytes_written a) s.bytes
unfolding bytes_of export_answer_in bytes_written
export_filed (Ok (export.Opened n)) s = refl
export_filed (Ok (export.Given n m)) s = refl
export_filed (Ok (export.Filed n)) s = refl
export_filed (Ok export.Closed) s = refl
export_filed (Err r) s = refl
