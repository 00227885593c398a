-- Codes of export steps by the tests that the code makes, and their answers put into words.
use Rattle.std.specs.Prelude.{ℕ, ◌<◌, ◌≤◌, ◌≡◌, refl, Bool, true, false, List, [], ◌∷◌, ◌++◌, length, Ok, Err, Some, None}
use Rattle.std.proofs.Common.{zero-le, sym, ◌∙◌, subst, append-nil, length-take-le}
use Rattle.std.proofs.Math.Path.{ap}
use Rattle.lists.specs.Tests.{pick, same, at_most}
use Rattle.lists.specs.TestLaws.{same_no, at_most_yes, at_most_no, at_most_true}
use Rattle.lists.specs.Tabulation.{tab, tab_from}
use Rattle.lists.specs.Texts.{Wrote}
use Rattle.lists.specs.TextLaws.{wrote_join}
use Rattle.spec.specs.Steps.{Places, places}
use Rattle.buffers.specs.Buffers.{Buffers, places_of, counted_places, rows_in, Lends}
use Rattle.buffers.specs.BufferLaws.{length_rows}
use Rattle.exports.specs.declared.ExportTold.TheVariants as export
use Rattle.exports.specs.declared.ops.ExportOp.{ExportOp}
use Rattle.exports.specs.declared.ops.ExportOp.TheVariants.{Open, Portion, File, Close}
use Rattle.exports.specs.Exporting.{Space, space, ExportAnswer, export_answer_in, places_written, bytes_written, LendsTo}
use Rattle.codes.specs.declared.Code.{Code}
use Rattle.codes.specs.declared.Coded.{Coded}
use Rattle.buffers.specs.declared.Places.{Places as PlaceCounts}
use Rattle.codes.specs.Codes.{places_lent, listed_words}
use Rattle.codes.specs.CodeLaws.{lends_none, lent_lends}
use Rattle.codes.specs.ExportCodes.{DecodedExport, export_meant, decoded_portion, decoded_file, decoded_export, export_coded_of, export_words}
use Rattle.codes.specs.Words.{head_words}

-- ---- what a code means

module _ (k : Code) where
  pub portion_by : (m : Places) (b : Bool) → b ≡ places_lent m k → pick b (export_meant Portion (places k.d k.e k.f)) None ≡ decoded_portion m k
  unfolding decoded_portion
  portion_by m b e = ap (λ (b : Bool). pick b (export_meant Portion (places k.d k.e k.f)) None) e

  pub file_unlent : {n : ℕ} → n < k.d → None ≡ decoded_file n k
  unfolding decoded_file
  file_unlent h = rw (at_most_no h)

  pub file_meant : {n : ℕ} → k.d ≤ n → export_meant (File k.d) (places 0 0 0) ≡ decoded_file n k
  unfolding decoded_file
  file_meant h = rw (at_most_yes h)

-- by the number of its kind
abbrev pub export_by : ℕ → Places → ℕ → Code → DecodedExport
export_by x m n k =
    pick (same x 11) (export_meant Open (places 0 0 0))
    (pick (same x 12) (decoded_portion m k)
    (pick (same x 13) (decoded_file n k)
    (pick (same x 14) (export_meant Close (places 0 0 0)) None)))

module _ (m : Places) (n : ℕ) (k : Code) where
  pub export_kind : (x : ℕ) → k.kind ≡ x → export_by x m n k ≡ decoded_export m n k
  unfolding decoded_export
  export_kind x e = ap (λ (y : ℕ). export_by y m n k) (sym e)

  pub export_other : (k.kind ≡ 11 → ⊥) → (k.kind ≡ 12 → ⊥) → (k.kind ≡ 13 → ⊥) → (k.kind ≡ 14 → ⊥) → None ≡ decoded_export m n k
  unfolding decoded_export
  export_other x y z u = rw (same_no x, same_no y, same_no z, same_no u)

-- ---- what it wants is lent

-- so many places of each buffer, and of the bytes those of a file
record Lent (m : Places) (n : ℕ) (o : ExportOp) (w : Places) : Type 0 where
  places : Lends m w
  bytes : (j : ℕ) → o ≡ File j → j ≤ n

abbrev LentFor : Places → ℕ → DecodedExport → Type 0
LentFor m n (Some p) = Lent m n p.0 (counted_places p.1)
LentFor m n None = Unit {0}

pick_lent : (m : Places) (n : ℕ) (b : Bool) (x y : DecodedExport) → LentFor m n x → LentFor m n y → LentFor m n (pick b x y)
pick_lent m n true x y h k = h
pick_lent m n false x y h k = k

-- which bytes a step wants, if it is a file
abbrev size_of : ExportOp → ℕ
size_of Open = 0
size_of Portion = 0
size_of (File n) = n
size_of Close = 0

lent_of : (m : Places) (n : ℕ) (o : ExportOp) (w : Places) → Lends m w → size_of o ≤ n → Lent m n o w
lent_of m n o w h i = record { places = h; bytes = λ j e. subst (λ (p : ExportOp). size_of p ≤ n) e i }

portion_lent : (m : Places) (n : ℕ) (k : Code) → LentFor m n (decoded_portion m k)
unfolding decoded_portion
portion_lent m n k = go (places_lent m k) refl
  where
    go : (b : Bool) → places_lent m k ≡ b → LentFor m n (pick b (export_meant Portion (places k.d k.e k.f)) None)
    go true e = lent_of m n Portion _ (lent_lends m k e) zero-le
    go false e = tt

file_lent : (m : Places) (n : ℕ) (k : Code) → LentFor m n (decoded_file n k)
unfolding decoded_file
file_lent m n k = go (at_most k.d n) refl
  where
    go : (b : Bool) → at_most k.d n ≡ b → LentFor m n (pick b (export_meant (File k.d) (places 0 0 0)) None)
    go true e = lent_of m n (File k.d) _ (lends_none m) (at_most_true k.d n e)
    go false e = tt

all_lent : (m : Places) (n : ℕ) (k : Code) → LentFor m n (decoded_export m n k)
unfolding decoded_export
all_lent m n k =
    pick_lent m n (same k.kind 11) _ _ (lent_of m n Open _ (lends_none m) zero-le)
    (pick_lent m n (same k.kind 12) _ _ (portion_lent m n k)
    (pick_lent m n (same k.kind 13) _ _ (file_lent m n k)
    (pick_lent m n (same k.kind 14) _ _ (lent_of m n Close _ (lends_none m) zero-le) tt)))

pub export_lends : (s : Space) (k : Code) {d : DecodedExport} {o : ExportOp} {w : PlaceCounts} → d ≡ decoded_export (places_of s.portion) (length s.bytes) k
    → d ≡ Some (o, w) → LendsTo s o (counted_places w)
export_lends s k e f =
    let h = subst (LentFor (places_of s.portion) (length s.bytes)) (sym e ∙ f) (all_lent (places_of s.portion) (length s.bytes) k) in
    record { places = h.places; bytes = h.bytes }

-- ---- answers

-- none but a portion's answer has records
export_alone : (p : ExportAnswer) (b : Buffers) (ws : List ℕ) → places_written p ≡ 0 → ws ≡ head_words (export_coded_of p)
    → ws ≡ head_words (export_coded_of p) ++ listed_words (rows_in (places_written p) b)
unfolding rows_in tab tab_from listed_words
export_alone p b ws z e =
    e
    ∙ sym (append-nil (head_words (export_coded_of p)))
    ∙ ap (λ (n : ℕ). head_words (export_coded_of p) ++ listed_words (rows_in n b)) (sym z)

-- the words of an answer are its five and its records'
export_words_lem : (p : ExportAnswer) (b : Buffers) (bs : List ℕ) → bytes_written p ≤ length bs
    → export_words (export_answer_in p (space b bs)) ≡ head_words (export_coded_of p) ++ listed_words (rows_in (places_written p) b)
unfolding export_words export_answer_in bytes_written places_written
export_words_lem (Ok (export.Opened n)) b bs h = export_alone (Ok (export.Opened n)) b _ refl refl
export_words_lem (Ok (export.Given n left)) b bs h =
    ap (λ (m : ℕ). 0 ∷ 7 ∷ m ∷ left ∷ 0 ∷ listed_words (rows_in n b)) (length_rows n b)
export_words_lem (Ok (export.Filed n)) b bs h =
    export_alone (Ok (export.Filed n)) b _ refl (ap (λ (m : ℕ). 0 ∷ 8 ∷ m ∷ 0 ∷ 0 ∷ []) (length-take-le n bs h))
export_words_lem (Ok export.Closed) b bs h = export_alone (Ok export.Closed) b _ refl refl
export_words_lem (Err r) b bs h = export_alone (Err r) b _ refl refl

-- five words, and the records of as many places as it filled
pub wrote_export : {l m n : List ℕ} {at j k i : ℕ} {a : Coded} (b : Buffers) (p : ExportAnswer) → a ≡ export_coded_of p → i ≡ places_written p
    → Wrote l at (head_words a) m j → Wrote m j (listed_words (rows_in i b)) n k → (bs : List ℕ) → bytes_written p ≤ length bs
    → Wrote l at (export_words (export_answer_in p (space b bs))) n k
wrote_export {l} {m} {n} {at} {j} {k} {i} {a} b p f e w u bs h =
    subst (λ (t : List ℕ). Wrote l at t n k)
    (ap (λ (x : Coded). head_words x ++ listed_words (rows_in i b)) f
    ∙ ap (λ (x : ℕ). head_words (export_coded_of p) ++ listed_words (rows_in x b)) e
    ∙ sym (export_words_lem p b bs h))
    (wrote_join w u)
