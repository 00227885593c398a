-- Request 107 of a replay: of every export that its steps open, its portions, what it was opened with, and its files.
use Rattle.std.specs.Prelude.{ℕ, ◌+◌, ◌≤◌, ◌≡◌, refl, false, length, take, drop}
use Rattle.std.proofs.Common.{arith, le_refl, sym, ◌∙◌, subst, take_all}
use Rattle.std.proofs.Math.Path.{ap}
use mathlib.Core.List.{List, [], ◌∷◌, ◌++◌}
use Rattle.std.proofs.lemmas.List.Edits.{sets, sets-eq}
use Rattle.std.proofs.lemmas.List.{take-append-le}
use Rattle.lists.specs.TestLaws.{clash}
use Rattle.lists.specs.Rows.{any}
use Rattle.spec.specs.Exports.{unstamped, ExportStep, file, declined, opened, given, filed, closed, export_of, Exchange, job_told, export_told}
use Rattle.spec.specs.GoodTuning.{GoodTuning}
use Rattle.spec.specs.Records.{Made}
use Rattle.calls.proofs.CallLaws.{reached_good}
use Rattle.map.specs.Views.{Lent}
use Rattle.exports.specs.Exporting.{ExportedRows, export_in, Space}
use Rattle.transactions.specs.Views.{Logs}
use Rattle.replay.specs.Replays.{ReplayEnd, run_of, bytes_of, filed_by, FilesFit, left_in, Replays}
use Rattle.replay.specs.LoopLaws.{left_length, left_append}
use Rattle.replay.specs.ToldExports.{listed_after, tells_file, OpenAfter, PortionsTold, OpenedTold, FilesTold}
use Rattle.replay.specs.ToldLaws.{neither, portions_told, opened_told, held_listed, files_told, tells_state}

-- ---- the lent bytes

no_file : (e : Exchange) → tells_file e ≡ false → filed_by e ≡ []
unfolding tells_file filed_by bytes_of
no_file (job_told e) c = refl
no_file (export_told s (declined r)) c = refl
no_file (export_told s (opened n)) c = refl
no_file (export_told s (given rs n)) c = refl
no_file (export_told s (filed bs)) c = clash refl c
no_file (export_told s closed) c = refl

-- exchanges that tell no file leave them
none_filed : (es : List Exchange) (ks : List ℕ) → any tells_file es ≡ false → left_in filed_by es ks ≡ ks
unfolding left_in any
none_filed [] ks c = refl
none_filed (e ∷ es) ks c =
    let n = neither (tells_file e) (any tells_file es) c in
    ap (λ (bs : List ℕ). left_in filed_by es (sets ks 0 bs)) (no_file e n.0) ∙ none_filed es ks n.1

fits_at : (n : ℕ) (es fs : List Exchange) (e : Exchange) → FilesFit n (es ++ (e ∷ fs)) → length (filed_by e) ≤ n
unfolding FilesFit
fits_at n [] fs e h = h.0
fits_at n (x ∷ es) fs e h = fits_at n es fs e h.1

-- the last file that was told
last_filed : (es fs : List Exchange) (s : ExportStep) (bs ks : List ℕ) → length bs ≤ length ks → any tells_file fs ≡ false
    → take (length bs) (left_in filed_by (es ++ (export_told s (filed bs) ∷ fs)) ks) ≡ bs
unfolding left_in filed_by bytes_of
last_filed es fs s bs ks h c =
    let ls = left_in filed_by es ks in
    let l : length (left_in filed_by es ks) ≡ length ks = left_length filed_by es ks in
    ap (take (length bs))
    (sym (left_append filed_by es (export_told s (filed bs) ∷ fs) ks)
    ∙ none_filed fs (sets ls 0 bs) c
    ∙ sets-eq bs ls 0 (let k : 0 + length bs ≤ length (left_in filed_by es ks) = omega arith in k))
    ∙ take-append-le (length bs) bs (drop (0 + length bs) ls) (le_refl (length bs))
    ∙ take_all (length bs) bs (le_refl (length bs))

-- ---- of a replay

module _ {x : Made} {words : List ℕ} {s : Space} {out : List ℕ} {l : Lent} {g : Logs} {xs : ExportedRows} {s' : Space} {out' : List ℕ} {r : ReplayEnd}
    (h : Replays x words s out l g xs s' out' r) where
  good : GoodTuning x.tuning
  good = reached_good l g r.core x _ (tells_state h.tells) h.ready.engine

  pub replay_portions : PortionsTold x (run_of x words s out).told
  replay_portions = portions_told x h.tells

  pub replay_opened : OpenedTold x (run_of x words s out).told
  replay_opened = opened_told x h.tells good

  -- an export that is left open is still in its rows
  pub replay_held : (o : OpenAfter (run_of x words s out).told) → (export_of (export_in xs r.export)).records ≡ unstamped (listed_after o.before)
  replay_held o = held_listed x good o h.tells

  pub replay_files : FilesTold x (run_of x words s out).told
  replay_files = files_told x h.tells

  -- the bytes of the last file still stand in the lent ones
  pub replay_last_file : (upto rest : List Exchange) (n : ℕ) (bs : List ℕ) → (run_of x words s out).told ≡ upto ++ (export_told (file n) (filed bs) ∷ rest)
      → any tells_file rest ≡ false → take (length bs) s'.bytes ≡ bs
  unfolding filed_by bytes_of
  replay_last_file upto rest n bs e c =
      let f = export_told (file n) (filed bs) in
      ap (take (length bs)) (h.space.bytes ∙ ap (λ (es : List Exchange). left_in filed_by es s.bytes) e)
      ∙ last_filed upto rest (file n) bs s.bytes (fits_at (length s.bytes) upto rest f (subst (FilesFit (length s.bytes)) e h.space.fits)) c
