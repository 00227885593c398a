-- The laws of workers: what each method and each change of a set is to the model's worker.
use Rattle.std.specs.Prelude.{ℕ, ◌<◌, ◌≡◌, get_or, set, Option as Optional}
use Rattle.std.proofs.Math.Path.{refl, ap}
use Rattle.std.proofs.Common.{sym, ◌∙◌}
use mathlib.Core.List.{List, [], ◌∷◌, append-nil}
use Rattle.std.proofs.Math.Option.{Option}
use Rattle.lists.specs.Rows.{Row, row}
use Rattle.spec.specs.declared.RecordWords.{RecordWords}
use Rattle.spec.specs.Payloads.{record_in}
use Rattle.spec.specs.declared.Stage.TheVariants.{Open, Locked}
use Rattle.spec.specs.Records.{limits, Record, Write}
use Rattle.spec.specs.Guards.{Scan}
use Rattle.spec.specs.Steps as model
use Rattle.spec.specs.Steps.{free_worker, at_stage, logged, writing, checked_as}
use Rattle.workers.specs.declared.Worker.{Worker}
use Rattle.sets.specs.Reads.{ReadRows, read_in, reads_of, reads_in, ReadsHeld, LogsRead}
use Rattle.sets.specs.Leaves.{LeafSetRows, version_in, scans_at, joined, versions_in, scans_in}
use Rattle.sets.specs.declared.writes.Write.{Write as WriteWords}
use Rattle.sets.specs.Writes.{WriteRows, edit_in, write_in, writes_of, writes_in, WritesHeld, PutsWrite}
use Rattle.workers.specs.Workers.{worker_in, begun, at_lock, at_check, freed, with_reads, with_writes}
use Rattle.sets.specs.SetLaws.{own_set, rows_none}

made : Worker → List (Row (Option Record)) → List ℕ → List Scan → List (Row Write) → model.Worker
made x rs vs cs es = record { stage = x.stage; reads = rs; versions = vs; scans = cs; writes = es; number = x.number }

module _ (rs : List ReadRows) (ls : List LeafSetRows) (ws : List WriteRows) (w : ℕ) where
  -- ---- stages

  empty : (x : Worker) → x.reads ≡ 0 → x.leaves ≡ 0 → x.writes ≡ 0 → worker_in x rs ls ws w ≡ made x [] [] [] []
  unfolding worker_in made
  empty x p q r =
      (λ i. made x (reads_in rs w (p i)) (versions_in ls w (q i)) (scans_in ls w (q i)) (writes_in ws w (r i)))
      ∙ (λ i. made x (rows_none read_in (get_or rs w []) i) (rows_none version_in (get_or ls w []) i) (no_scans i) (rows_none write_in (get_or ws w []) i))
    where
      no_scans : scans_in ls w 0 ≡ []
      no_scans = ap joined (rows_none scans_at (get_or ls w [])) ∙ (unfold joined in refl)

  pub begin_in : worker_in begun rs ls ws w ≡ at_stage Open free_worker
  unfolding made at_stage
  begin_in = empty begun refl refl refl

  pub free_in : worker_in freed rs ls ws w ≡ free_worker
  unfolding made
  free_in = empty freed refl refl refl

  pub lock_in : (x : Worker) → worker_in (at_lock x) rs ls ws w ≡ at_stage Locked (worker_in x rs ls ws w)
  unfolding worker_in at_stage
  lock_in x = refl

  pub check_in : (x : Worker) (n : ℕ) → worker_in (at_check x n) rs ls ws w ≡ checked_as n (worker_in x rs ls ws w)
  unfolding worker_in checked_as
  check_in x n = refl

  -- ---- the sets

  pub read_in_lem : (x : Worker) (us : ReadRows) (r a : ℕ) (s : Optional RecordWords) → ReadsHeld rs → w < limits.workers → LogsRead (get_or rs w []) x.reads a s us r
      → worker_in (with_reads x r) (set rs w us) ls ws w ≡ logged (row a (record_in s) ∷ []) [] [] (worker_in x rs ls ws w)
  unfolding worker_in logged made
  read_in_lem x us r a s held h l =
      λ i. made x ((own_set (λ (g : ReadRows). reads_of g r) rs w us held h ∙ l.view) i) (sym (append-nil (versions_in ls w x.leaves)) i) (sym (append-nil (scans_in ls w x.leaves)) i) (writes_in ws w x.writes)

  pub write_in_lem : (x : Worker) (us : WriteRows) (r a : ℕ) (e : WriteWords) → WritesHeld ws → w < limits.workers
      → PutsWrite (get_or ws w []) x.writes a e us r
      → worker_in (with_writes x r) rs ls (set ws w us) w ≡ writing a (edit_in e) (worker_in x rs ls ws w)
  unfolding worker_in writing made
  write_in_lem x us r a e held h p =
      λ i. made x (reads_in rs w x.reads) (versions_in ls w x.leaves) (scans_in ls w x.leaves) ((own_set (λ (g : WriteRows). writes_of g r) ws w us held h ∙ p.view) i)
