-- The laws of leaf sets: a row appended, a row read, the start; the scans that rows remember.
use Rattle.std.specs.Prelude.{ℕ, suc, ◌+◌, ◌<◌, ◌≡◌, refl, Bool, length, get_or, set, replicate, eqb, Some, None}
use Rattle.std.proofs.Common.{arith, ne_eqb, ◌∙◌}
use Rattle.std.proofs.Math.Path.{sym, ap}
use mathlib.Core.List.{List, [], ◌∷◌, ◌++◌, append_assoc, append-nil}
use mir.Val.{bool_byte}
use Rattle.spec.specs.Widths.{addresses}
use Rattle.spec.specs.Records.{limits}
use Rattle.spec.specs.Guards.{Scan}
use Rattle.sets.specs.declared.leaves.LoggedLeaf.{LoggedLeaf}
use Rattle.sets.specs.declared.leaves.Scanned.{Scanned}
use Rattle.sets.specs.Leaves.{LeafSetRows, leaf_set_words, version_in, low_in, scanned_in, remembered_if, scans_at, notes_of, joined, scans_of, LeafSetHeld, LeavesHeld, LogsLeaf, GivesLeaf, GivesNote}
use Rattle.sets.specs.ReadLaws.{flag_back}
use Rattle.sets.specs.SetLaws.{each_set, each_alike, row_at, rows_snoc, row_appended}

-- the words of a row
abbrev words : LoggedLeaf → Bool → Scanned → List ℕ
words leaf first s = leaf.version ∷ leaf.low ∷ bool_byte first ∷ s.lo ∷ s.hi ∷ s.from ∷ s.count ∷ []

pub leaf_appended : (rs : LeafSetRows) (n : ℕ) (leaf : LoggedLeaf) (first : Bool) (s : Scanned) → LeafSetHeld rs → n < limits.leaf_set_limit → leaf.low < addresses
    → LogsLeaf rs n leaf first s (set rs n (words leaf first s)) (n + 1)
leaf_appended rs n leaf first s held h l =
    let z : length rs ≡ limits.leaf_set_limit = held.size in
    record {
      held = each_set n _ held l;
      count = refl;
      versions = row_appended version_in rs n (words leaf first s) (omega arith);
      lows = row_appended low_in rs n (words leaf first s) (omega arith);
      marks =
          row_appended scans_at rs n (words leaf first s) (omega arith)
          ∙ ap (λ (b : Bool). notes_of rs n ++ (remembered_if b (scanned_in s) ∷ [])) (flag_back first);
    }

pub leaf_given : (rs : LeafSetRows) (i : ℕ) (r : LoggedLeaf) → r.version ≡ version_in (get_or rs i []) → r.low ≡ low_in (get_or rs i []) → GivesLeaf rs i r
leaf_given rs i r e f =
    record { version = λ n l. e ∙ sym (row_at version_in rs n i 0 l); low = λ n l. f ∙ sym (row_at low_in rs n i 0 l) }

pub leaves_zero : LeavesHeld (replicate limits.workers (replicate limits.leaf_set_limit (replicate leaf_set_words 0)))
leaves_zero = each_alike limits.workers _ (each_alike limits.leaf_set_limit _ (omega arith))

-- the words of the scan in a row
abbrev scan_words : List ℕ → Scanned
scan_words r = record { lo = get_or r 3 0; hi = get_or r 4 0; from = get_or r 5 0; count = get_or r 6 0 }

-- a row remembers no scan, or one
pub note_none : (rs : LeafSetRows) (i : ℕ) → (get_or (get_or rs i []) 2 0 ≡ 1 → ⊥) → GivesNote rs i None
note_none rs i h =
    record {
      mark = λ n l.
          sym (row_at scans_at rs n i [] l ∙ ap (λ (b : Bool). remembered_if b (scanned_in (scan_words (get_or rs i [])))) (ne_eqb (get_or (get_or rs i []) 2 0) 1 h));
    }

pub note_some : (rs : LeafSetRows) (i : ℕ) → get_or (get_or rs i []) 2 0 ≡ 1 → GivesNote rs i (Some (scan_words (get_or rs i [])))
note_some rs i e =
    record {
      mark = λ n l.
          sym (row_at scans_at rs n i [] l ∙ ap (λ (k : ℕ). remembered_if (eqb k 1) (scanned_in (scan_words (get_or rs i [])))) e);
    }

-- ---- lists joined

pub joined_append : {A : Type 0} (xs ys : List (List A)) → joined (xs ++ ys) ≡ joined xs ++ joined ys
unfolding joined
joined_append [] ys = refl
joined_append {A} (x ∷ xs) ys = ap (λ (zs : List A). x ++ zs) (joined_append xs ys) ∙ sym (append_assoc x (joined xs) (joined ys))

-- the scans of one row more
pub scans_snoc : (rs : LeafSetRows) (n : ℕ) → scans_of rs (suc n) ≡ scans_of rs n ++ get_or (notes_of rs (suc n)) n []
scans_snoc rs n =
    ap joined (rows_snoc scans_at rs n)
    ∙ joined_append (notes_of rs n) (scans_at (get_or rs n []) ∷ [])
    ∙ (unfold joined in ap (λ (cs : List Scan). scans_of rs n ++ cs) (append-nil (scans_at (get_or rs n [])) ∙ sym (row_at scans_at rs (suc n) n [] (omega arith))))
