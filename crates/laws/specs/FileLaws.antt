-- Request 107: the file of an export has so many bytes, and what is read from them are its records.
use Rattle.std.specs.Prelude.{ℕ, zero, suc, ◌+◌, ◌*◌, ◌/◌, ◌%◌, ◌<◌, ◌^◌, ◌≡◌, refl, Bool}
use Rattle.std.proofs.Common.{arith, ◌∙◌, length-append, drop-drop}
use Rattle.std.proofs.Math.Path.{sym, ap}
use mathlib.Core.List.{List, [], ◌∷◌, ◌++◌, append-nil}
use Rattle.std.proofs.Math.Bool.{true}
use Rattle.std.proofs.Math.Option.{none, some}
use Rattle.std.proofs.Math.ListN.{length, drop}
use Rattle.std.proofs.Math.Seq.{drop_at}
use Rattle.lists.specs.Tests.{pick, both, same}
use Rattle.lists.specs.TestLaws.{same_yes}
use Rattle.lists.specs.Rows.{Row, row}
use Rattle.spec.specs.Widths.{address_size, addresses}
use Rattle.spec.specs.Records.{Payload}
use Rattle.spec.specs.Files.{little_endian, address_bytes, entry_size, entry_bytes, file_of, file_size, number_in, joined, parsed}

-- ---- numbers

pub length_number : (count n : ℕ) → length (little_endian count n) ≡ count
unfolding little_endian
length_number zero n = refl
length_number (suc count) n = ap suc (length_number count (n / 256))

-- how many numbers so many bytes can be
abbrev bytes_limit : ℕ → ℕ
bytes_limit zero = 1
bytes_limit (suc count) = 256 * bytes_limit count

number_back : (count n : ℕ) (tail : List ℕ) → n < bytes_limit count → number_in count (little_endian count n ++ tail) ≡ n
unfolding little_endian number_in
number_back zero n tail h = omega arith
number_back (suc count) n tail h =
    let q : number_in count (little_endian count (n / 256) ++ tail) ≡ n / 256 = number_back count (n / 256) tail (omega arith) in
    ap (λ (m : ℕ). n % 256 + 256 * m) q ∙ omega arith

number_over : (count n : ℕ) (tail : List ℕ) → drop count (little_endian count n ++ tail) ≡ tail
number_over count n tail = drop_at (little_endian count n) tail count (length_number count n)

-- ---- records

-- What its fields of the file can hold.
pub record FileFits (r : Row Payload) : Type 0 where
  pub address : r.key < addresses
  pub value : r.item.value < 2 ^ 64
  pub owner : r.item.owner < 2 ^ 16

pub data AllFit : List (Row Payload) → Type 0 where
  none_fit : AllFit []
  more_fit : {r : Row Payload} {rs : List (Row Payload)} → FileFits r → AllFit rs → AllFit (r ∷ rs)

-- the rows are read back, whatever comes after their addresses and after their entries
rows_back : {rs : List (Row Payload)} → AllFit rs → (ks es : List ℕ) → joined (length rs) (address_bytes rs ++ ks) (entry_bytes rs ++ es) ≡ rs
unfolding joined address_bytes entry_bytes little_endian
rows_back none_fit ks es = refl
rows_back (more_fit {r} {rs} f h) ks es =
    let v = little_endian 8 r.item.value in
    let o = little_endian 2 r.item.owner in
    let after : drop 8 (v ++ o ++ entry_bytes rs ++ es) ≡ o ++ entry_bytes rs ++ es = number_over 8 r.item.value (o ++ entry_bytes rs ++ es) in
    let over : drop entry_size (v ++ o ++ entry_bytes rs ++ es) ≡ entry_bytes rs ++ es
    = sym (drop-drop 2 8 (v ++ o ++ entry_bytes rs ++ es)) ∙ ap (drop 2) after ∙ number_over 2 r.item.owner (entry_bytes rs ++ es) in
    let address : number_in address_size (little_endian address_size r.key ++ address_bytes rs ++ ks) ≡ r.key = number_back address_size r.key (address_bytes rs ++ ks) f.address in
    let value : number_in 8 (v ++ o ++ entry_bytes rs ++ es) ≡ r.item.value = number_back 8 r.item.value (o ++ entry_bytes rs ++ es) f.value in
    let owner : number_in 2 (drop 8 (v ++ o ++ entry_bytes rs ++ es)) ≡ r.item.owner
    = ap (number_in 2) after ∙ number_back 2 r.item.owner (entry_bytes rs ++ es) f.owner in
    let others : joined (length rs) (drop address_size (little_endian address_size r.key ++ address_bytes rs ++ ks)) (drop entry_size (v ++ o ++ entry_bytes rs ++ es)) ≡ rs
    = (λ i. joined (length rs) (number_over address_size r.key (address_bytes rs ++ ks) i) (over i)) ∙ rows_back h ks es in
    λ i. row (address i) (record { value = value i; owner = owner i }) ∷ others i

-- ---- the file

length_addresses : (rs : List (Row Payload)) → length (address_bytes rs) ≡ address_size * length rs
unfolding address_bytes
length_addresses [] = refl
length_addresses (r ∷ rs) =
    let p : length (little_endian address_size r.key) ≡ address_size = length_number address_size r.key in
    let q : length (address_bytes rs) ≡ address_size * length rs = length_addresses rs in
    length-append (little_endian address_size r.key) (address_bytes rs) ∙ omega (arith, p, q)

length_entries : (rs : List (Row Payload)) → length (entry_bytes rs) ≡ entry_size * length rs
unfolding entry_bytes little_endian
length_entries [] = refl
length_entries (r ∷ rs) =
    let p : length (little_endian 8 r.item.value) ≡ 8 = length_number 8 r.item.value in
    let o : length (little_endian 2 r.item.owner) ≡ 2 = length_number 2 r.item.owner in
    let q : length (entry_bytes rs) ≡ entry_size * length rs = length_entries rs in
    length-append (little_endian 8 r.item.value) (little_endian 2 r.item.owner ++ entry_bytes rs)
    ∙ ap (λ (n : ℕ). length (little_endian 8 r.item.value) + n) (length-append (little_endian 2 r.item.owner) (entry_bytes rs))
    ∙ omega (arith, p, o, q)

length_file : (rs : List (Row Payload)) → length (file_of rs) ≡ file_size rs
unfolding file_of file_size little_endian
length_file rs =
    let a = little_endian 4 (length rs) in
    let b = little_endian 4 entry_size in
    let p : length a ≡ 4 = length_number 4 (length rs) in
    let q : length b ≡ 4 = length_number 4 entry_size in
    let k : length (address_bytes rs) ≡ address_size * length rs = length_addresses rs in
    let e : length (entry_bytes rs) ≡ entry_size * length rs = length_entries rs in
    length-append a (b ++ address_bytes rs ++ entry_bytes rs)
    ∙ ap (λ (n : ℕ). length a + n) (length-append b (address_bytes rs ++ entry_bytes rs))
    ∙ ap (λ (n : ℕ). length a + (length b + n)) (length-append (address_bytes rs) (entry_bytes rs))
    ∙ omega (arith, p, q, k, e)

-- A file read back gives the records of the export.
pub file_parsed : {rs : List (Row Payload)} → AllFit rs → length rs < 2 ^ 32 → parsed (file_of rs) ≡ some rs
unfolding parsed
file_parsed {rs} h l =
    let a = little_endian 4 (length rs) in
    let b = little_endian 4 entry_size in
    let body = address_bytes rs ++ entry_bytes rs in
    let f : file_of rs ≡ a ++ (b ++ body) = (unfold file_of in unfold little_endian in refl) in
    let n : number_in 4 (file_of rs) ≡ length rs = ap (number_in 4) f ∙ number_back 4 (length rs) (b ++ body) l in
    let over : drop 4 (file_of rs) ≡ b ++ body = ap (drop 4) f ∙ number_over 4 (length rs) (b ++ body) in
    let size : number_in 4 (drop 4 (file_of rs)) ≡ entry_size = ap (number_in 4) over ∙ number_back 4 entry_size body (omega arith) in
    let rest : drop 8 (file_of rs) ≡ body = sym (drop-drop 4 4 (file_of rs)) ∙ ap (drop 4) over ∙ number_over 4 entry_size body in
    let entries : drop (8 + address_size * length rs) (file_of rs) ≡ entry_bytes rs
    = sym (drop-drop (address_size * length rs) 8 (file_of rs)) ∙ ap (drop (address_size * length rs)) rest ∙ drop_at (address_bytes rs) (entry_bytes rs) (address_size * length rs) (length_addresses rs) in
    let whole : length (file_of rs) ≡ 8 + (address_size + entry_size) * length rs = length_file rs ∙ (unfold file_size in refl) in
    let right : both (same (number_in 4 (drop 4 (file_of rs))) entry_size) (same (length (file_of rs)) (8 + (address_size + entry_size) * number_in 4 (file_of rs))) ≡ true
    = λ i. both (same_yes size i) (same_yes (whole ∙ ap (λ (m : ℕ). 8 + (address_size + entry_size) * m) (sym n)) i) in
    ap (λ (b : Bool). pick b (some (joined (number_in 4 (file_of rs)) (drop 8 (file_of rs)) (drop (8 + address_size * number_in 4 (file_of rs)) (file_of rs)))) none) right
    ∙ ap some
    ((λ i. joined (n i) (rest i) (drop (8 + address_size * n i) (file_of rs)))
    ∙ ap (λ (es : List ℕ). joined (length rs) body es) (entries ∙ sym (append-nil (entry_bytes rs)))
    ∙ rows_back h (entry_bytes rs) [])
