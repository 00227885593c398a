-- Answers put into words, word by word.
use Rattle.std.specs.Prelude.{ℕ, Result, Ok, Err, Some, None, Option as Optional, suc, ◌+◌, ◌*◌, ◌<◌, ◌≤◌, ◌≡◌, refl, List, [], ◌∷◌, ◌++◌, length, get_or, set}
use Rattle.std.proofs.Common.{le_antisymm, add-one, arith, sym, ap, ◌∙◌, subst, append-nil}
use Rattle.lists.specs.Shifts.{tab_snoc}
use Rattle.lists.specs.Tabulation.{tab, tab_from}
use Rattle.lists.specs.Rows.{Row}
use Rattle.lists.specs.Texts.{Wrote}
use Rattle.lists.specs.TextLaws.{wrote_join, wrote_length, wrote_byte}
use Rattle.spec.specs.Records.{Payload}
use Rattle.buffers.specs.Buffers.{Buffers, row_in, rows_in}
use Rattle.buffers.specs.BufferLaws.{length_rows}
use Rattle.spec.specs.declared.Refusal.{Refusal}
use Rattle.engine.specs.declared.steps.Told.{Told}
use Rattle.engine.specs.declared.steps.Told.TheVariants as told
use Rattle.accesses.specs.declared.reads.ReadValue.{ReadValue}
use Rattle.accesses.specs.Answers.{value_in}
use Rattle.spec.specs.Steps.{found}
use Rattle.engine.specs.Performs.{reply_in, places_in}
use Rattle.codes.specs.declared.Coded.{Coded}
use Rattle.codes.specs.Codes.{coded_found, coded_of, listed_words, words_of}
use Rattle.codes.specs.Words.{head_words}

-- ---- some words

pub wrote_two : (l : List ℕ) (at x y : ℕ) → at + 2 ≤ length l → Wrote l at (x ∷ y ∷ []) (set (set l at x) (at + 1) y) (at + 2)
wrote_two l at x y h =
    let first = wrote_byte l at x (let k : at < length l = omega arith in k) in
    let e : length (set l at x) ≡ length l = wrote_length first in
    subst (λ (j : ℕ). Wrote l at (x ∷ y ∷ []) (set (set l at x) (at + 1) y) j) (let k : at + 1 + 1 ≡ at + 2 = omega arith in k)
    (wrote_join first (wrote_byte (set l at x) (at + 1) y (let k : at + 1 < length (set l at x) = omega arith in k)))

-- a third word behind two
pub third_inside : {l m : List ℕ} {at j x y : ℕ} → at + 3 ≤ length l → Wrote l at (x ∷ y ∷ []) m j → j < length m
third_inside {l} {m} {at} {j} h w =
    let e : length m ≡ length l = wrote_length w in
    let p : j ≡ at + 2 = w.place in
    omega arith

pub wrote_three : {l m : List ℕ} {at j x y : ℕ} (z : ℕ) → at + 3 ≤ length l → Wrote l at (x ∷ y ∷ []) m j → Wrote l at (x ∷ y ∷ z ∷ []) (set m j z) (j + 1)
wrote_three {m = m} {j = j} z h w = wrote_join w (wrote_byte m j z (third_inside h w))

-- ---- records

records_append : (xs ys : List (Row Payload)) → listed_words (xs ++ ys) ≡ listed_words xs ++ listed_words ys
unfolding listed_words
records_append [] ys = refl
records_append (x ∷ xs) ys = ap (λ (ws : List ℕ). x.key ∷ x.item.value ∷ x.item.owner ∷ ws) (records_append xs ys)

-- the words of place i
abbrev place_words : Buffers → ℕ → List ℕ
place_words b i = get_or b.addresses i 0 ∷ get_or b.values i 0 ∷ get_or b.owners i 0 ∷ []

records_snoc : (n : ℕ) (b : Buffers) → listed_words (rows_in (suc n) b) ≡ listed_words (rows_in n b) ++ place_words b n
unfolding rows_in listed_words
records_snoc n b = ap listed_words (tab_snoc (row_in b) n) ∙ records_append (rows_in n b) (row_in b n ∷ [])

-- the first i records are written
pub record Putting (b : Buffers) (old : List ℕ) (at : ℕ) (new : List ℕ) (next i : ℕ) : Type 0 where
  pub wrote : Wrote old at (listed_words (rows_in i b)) new next
  pub place : next ≡ at + 3 * i

pub putting_none : (b : Buffers) (l : List ℕ) (at : ℕ) → at ≤ length l → Putting b l at l at 0
unfolding rows_in listed_words tab tab_from
putting_none b l at h = record { wrote = record { written = refl; within = omega arith; place = omega arith }; place = omega arith }

pub putting_on : {b : Buffers} {l m n : List ℕ} {at j k : ℕ} (i : ℕ) → Putting b l at m j i
    → Wrote m j (get_or b.addresses i 0 ∷ get_or b.values i 0 ∷ get_or b.owners i 0 ∷ []) n k → Putting b l at n k (i + 1)
putting_on {b} {l} {m} {n} {at} {j} {k} i p w =
    let q : j ≡ at + 3 * i = p.place in
    let r : k ≡ j + 3 = w.place in
    let one : i + 1 ≡ suc i = add-one i in
    record {
      wrote =
          subst (λ (t : List ℕ). Wrote l at t n k)
          (sym (records_snoc i b) ∙ ap (λ (a : ℕ). listed_words (rows_in a b)) (sym one))
          (wrote_join p.wrote w);
      place = omega arith;
    }

pub putting_end : {b : Buffers} {l m : List ℕ} {at j : ℕ} (i n : ℕ) → Putting b l at m j i → i ≤ n → n ≤ i → Wrote l at (listed_words (rows_in n b)) m j
putting_end {b} {l} {m} {at} {j} i n p h k =
    subst (λ (a : ℕ). Wrote l at (listed_words (rows_in a b)) m j) (le_antisymm h k) p.wrote

-- ---- a reply

found_words : (o : Optional ReadValue) (x : ℕ) → words_of (found (value_in o) x) ≡ head_words (coded_found o x)
unfolding words_of
found_words (Some v) x = refl
found_words None x = refl

-- none but a scan's answer has records
alone : (p : Result Told Refusal) (b : Buffers) → places_in p ≡ 0 → words_of (reply_in p b) ≡ head_words (coded_of p)
    → words_of (reply_in p b) ≡ head_words (coded_of p) ++ listed_words (rows_in (places_in p) b)
unfolding rows_in tab tab_from listed_words
alone p b z e =
    e ∙ sym (append-nil (head_words (coded_of p))) ∙ ap (λ (n : ℕ). head_words (coded_of p) ++ listed_words (rows_in n b)) (sym z)

-- its words are its five and its records'
reply_words : (p : Result Told Refusal) (b : Buffers) → words_of (reply_in p b) ≡ head_words (coded_of p) ++ listed_words (rows_in (places_in p) b)
unfolding words_of
reply_words (Ok told.Nothing) b = alone (Ok told.Nothing) b refl refl
reply_words (Ok (told.Found f)) b = alone (Ok (told.Found f)) b refl (found_words f.value f.examined)
reply_words (Ok (told.Listed n)) b = ap (λ (m : ℕ). 0 ∷ 3 ∷ m ∷ 0 ∷ 0 ∷ listed_words (rows_in n b)) (length_rows n b)
reply_words (Ok (told.Numbered n)) b = alone (Ok (told.Numbered n)) b refl refl
reply_words (Ok (told.Counted n)) b = alone (Ok (told.Counted n)) b refl refl
reply_words (Err r) b = alone (Err r) b refl refl

-- five words, and the records of as many places as it filled
pub wrote_reply : {l m n : List ℕ} {at j k i : ℕ} {a : Coded} (b : Buffers) (p : Result Told Refusal) → a ≡ coded_of p → i ≡ places_in p → Wrote l at (head_words a) m j
    → Wrote m j (listed_words (rows_in i b)) n k → Wrote l at (words_of (reply_in p b)) n k
wrote_reply {l} {m} {n} {at} {j} {k} {i} {a} b p f e w u =
    subst (λ (t : List ℕ). Wrote l at t n k)
    (ap (λ (x : Coded). head_words x ++ listed_words (rows_in i b)) f
    ∙ ap (λ (x : ℕ). head_words (coded_of p) ++ listed_words (rows_in x b)) e
    ∙ sym (reply_words p b))
    (wrote_join w u)
