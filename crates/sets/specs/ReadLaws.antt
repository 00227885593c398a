-- The laws of read sets: a row appended, a row read, the start.
use Rattle.std.specs.Prelude.{ℕ, ◌+◌, ◌<◌, ◌≡◌, refl, Bool, true, false, [], ◌∷◌, ◌++◌, eqb, length, get_or, set, replicate, List, Option as Optional, Some, None}
use Rattle.std.proofs.Common.{arith, ne_eqb, sym, ap, ◌∙◌}
use mir.Val.{bool_byte}
use Rattle.std.proofs.Math.Option.{Option}
use Rattle.lists.specs.Rows.{Row, row}
use Rattle.spec.specs.Widths.{addresses}
use Rattle.spec.specs.Records.{limits, Record}
use Rattle.spec.specs.Payloads.{record_in}
use Rattle.spec.specs.declared.RecordWords.{RecordWords}
use Rattle.sets.specs.Reads.{ReadRows, read_words, record_of, no_read, read_in, reads_of, ReadSetHeld, ReadsHeld, LogsRead, GivesRead}
use Rattle.sets.specs.SetLaws.{each_set, each_alike, row_at, row_appended}

pub flag_back : (b : Bool) → eqb (bool_byte b) 1 ≡ b
flag_back true = refl
flag_back false = refl

pub read_appended : (rs : ReadRows) (n a : ℕ) (s : Optional RecordWords) (w : List ℕ) → ReadSetHeld rs → n < limits.read_limit → get_or w 0 0 < addresses
    → read_in w ≡ row a (record_in s) → LogsRead rs n a s (set rs n w) (n + 1)
read_appended rs n a s w held h l e =
    record {
      held = each_set n _ held l;
      count = refl;
      view =
          row_appended read_in rs n w (let z : length rs ≡ limits.read_limit = held.size in omega arith)
          ∙ ap (λ (r : Row (Option Record)). reads_of rs n ++ (r ∷ [])) e;
    }

-- a row says that no record is present, or which one is
pub read_absent : (rs : ReadRows) (i : ℕ) (k : RecordWords) → (get_or (get_or rs i []) 1 0 ≡ 1 → ⊥)
    → GivesRead rs i (record { address = get_or (get_or rs i []) 0 0; current = None; kept = k })
read_absent rs i k h =
    let r = get_or rs i [] in
    record {
      at = λ n l.
          sym
          (row_at read_in rs n i no_read l
          ∙ ap (λ (b : Bool). row (get_or r 0 0) (record_of b (record { value = get_or r 2 0; owner = get_or r 3 0 }) (get_or r 4 0))) (ne_eqb (get_or r 1 0) 1 h));
    }

pub read_present : (rs : ReadRows) (i : ℕ) (k : RecordWords) → get_or (get_or rs i []) 1 0 ≡ 1
    → GivesRead rs i
    (record {
      address = get_or (get_or rs i []) 0 0;
      current = Some (record { payload = record { value = get_or (get_or rs i []) 2 0; owner = get_or (get_or rs i []) 3 0 }; commit = get_or (get_or rs i []) 4 0 });
      kept = k;
    })
read_present rs i k e =
    let r = get_or rs i [] in
    record {
      at = λ n l.
          sym
          (row_at read_in rs n i no_read l
          ∙ ap (λ (k : ℕ). row (get_or r 0 0) (record_of (eqb k 1) (record { value = get_or r 2 0; owner = get_or r 3 0 }) (get_or r 4 0))) e);
    }

pub reads_zero : ReadsHeld (replicate limits.workers (replicate limits.read_limit (replicate read_words 0)))
reads_zero = each_alike limits.workers _ (each_alike limits.read_limit _ (omega arith))
