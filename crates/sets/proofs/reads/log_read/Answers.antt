-- `reads::log_read` meets its contract: by whether a record is present.
use Rattle.std.proofs.Common.{List, ℕ, ◌<◌, ◌≡◌, ap, get_or, sym, subst, ◌∙◌}
use Rattle.std.specs.Prelude.{Option as Optional}
use Rattle.lists.specs.Rows.{row}
use Rattle.spec.specs.Widths.{addresses}
use Rattle.spec.specs.Payloads.{record_in}
use Rattle.spec.specs.declared.RecordWords.{RecordWords}
use Rattle.sets.specs.Reads.{read_in}
use Rattle.sets.specs.ReadLaws.{read_appended}
use Rattle.sets.proofs.reads.log_read.Goals as goal
use Rattle.sets.proofs.reads.log_read.Goals.{in-Some, in-None}

pub returns : goal.returns
returns c =
    let said : read_in c.match-seen.row ≡ row c.args.a (record_in c.args.seen) =
    elim c.match-seen.branch [
      | in-Some w ↦ ap read_in w.row-is ∙ sym (ap (λ (o : Optional RecordWords). row c.args.a (record_in o)) w.in-Some.is)
      | in-None w ↦ ap read_in w.row-is ∙ sym (ap (λ (o : Optional RecordWords). row c.args.a (record_in o)) w.in-None.is)
    ] in
    let narrow : get_or c.match-seen.row 0 0 < addresses =
    elim c.match-seen.branch [
      | in-Some w ↦ subst (λ (ws : List ℕ). get_or ws 0 0 < addresses) (sym w.row-is) c.ranges.a.fits
      | in-None w ↦ subst (λ (ws : List ℕ). get_or ws 0 0 < addresses) (sym w.row-is) c.ranges.a.fits
    ] in
    read_appended c.args.reads.now c.args.n c.args.a c.args.seen c.match-seen.row c.requires.read_set_held c.requires.n_lt_read_limit narrow said
