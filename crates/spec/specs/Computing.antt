-- To compute a closed run on the model, unfold `model`, and to compute what the claim says of one, unfold `claim`.
use Rattle.lists.specs.Tests.{same, less, at_most, within}
use Rattle.lists.specs.Rows.{look, insert, delete, assign, lay, between, keys, map_items, any, filter, has, distinct, Different}
use Rattle.spec.specs.Records.{is_put, outcome, own_view, payload_of, same_payload, same_record}
use Rattle.spec.specs.Leaves.{leaf_from, leaf_of, version_at, live, starts_in, meeting, runs, cuts, starts, new_lows, fresh_leaves, around_from, around, widened, settled, settle, versions_taken}
use Rattle.spec.specs.Slots.{table_entry, byte_of, home_from, home_slot, is_idle, entries, content_of, slot_at, vacant, holds, distance, search_at, search_from, search, set_slot, count_passed, with_entry, take, release, rewrite, enter}
use Rattle.spec.specs.Maps.{outcome_of, current, pending_rows, contents, indexed_between, held_by_other, put_pending, hiding, hidden_in, hides, waiting_with, addresses_with, lock_row, unlock_key, waiting_since, install_row, each, with_slots, lock_all, unlock_all, install_all, merges_at, merging, merge_entry, records_in, settle_map, merge_all, merge_at, ages, older, oldest_of, oldest_key, oldest, phantom_in}
use Rattle.spec.specs.Guards.{stretch, last_byte, share, unfit, covers, latest, deciding, uncovered, standing, untouched, laid_over, overlaps, overlapped, of_put, any_put}
use Rattle.spec.specs.Steps.{worker_of, step_worker, access_of, shortest, is_free, is_open, is_locked, is_checked, own_write, slots_examined, scanned, scan_reads, scan_versions, remembered, no_worker, worker_free, wrong_stage, read_log_full, scan_log_full, writes_full, locked_by_other, write_keys, changed_since, guard, unfit_put, uncovered_put, overlapped_put, access_causes, causes, first_cause, refusal, access_answer, granted, with_worker, with_map, with_counters, install_counted, at_stage, logged, writing, checked_as, read_rows, dropped, merged, accessed, effect, after_refusal, answer, next, final, history}
use Rattle.spec.specs.Sequential.{after_access, after_step, list_scan, value_told, AccessAgrees, Agrees, after_steps, AllAgree}
use Rattle.spec.specs.Claim.{is_granted, running_now, passed, started, extended, goes_on, number_in, with_number, one_more_given, validated, installed_now, read_granted, advance, read_on, reading, list_after}

unfoldable pub model : Unit {0}
unfolding same less at_most within look insert delete assign lay between keys map_items any filter has distinct is_put outcome own_view payload_of same_payload same_record leaf_from leaf_of version_at live starts_in meeting runs cuts starts new_lows fresh_leaves around_from around widened settled settle versions_taken table_entry byte_of home_from home_slot is_idle entries content_of slot_at vacant holds distance search_at search_from search set_slot count_passed with_entry take release rewrite enter outcome_of current pending_rows contents indexed_between held_by_other put_pending hiding hidden_in hides waiting_with addresses_with lock_row unlock_key waiting_since install_row each with_slots lock_all unlock_all install_all merges_at merging merge_entry records_in settle_map merge_all merge_at ages older oldest_of oldest_key oldest stretch last_byte share unfit covers latest deciding uncovered standing untouched laid_over overlaps overlapped of_put any_put worker_of step_worker access_of shortest is_free is_open is_locked is_checked own_write slots_examined scanned scan_reads scan_versions remembered no_worker worker_free wrong_stage read_log_full scan_log_full writes_full locked_by_other write_keys changed_since phantom_in guard unfit_put uncovered_put overlapped_put access_causes causes first_cause refusal access_answer granted with_worker with_map with_counters install_counted at_stage logged writing checked_as read_rows dropped merged accessed effect after_refusal answer next final history
model = tt

unfoldable pub claim : Unit {0}
unfolding model after_access after_step list_scan value_told AccessAgrees Agrees after_steps AllAgree is_granted running_now passed started extended goes_on number_in with_number one_more_given validated installed_now read_granted advance read_on reading list_after Different
claim = tt
