-- The laws of a scan's promise.
use Rattle.std.specs.Prelude.{ℕ, ◌≡◌}
use Rattle.std.proofs.Common.{sym, subst}
use Rattle.spec.specs.declared.Refusal.{Refusal}
use Rattle.spec.specs.Steps.{listed, scan, is_open}
use Rattle.workers.specs.declared.Worker.{Worker}
use Rattle.map.specs.Views.{Lent}
use Rattle.transactions.specs.Cores.{Core}
use Rattle.std.specs.Prelude.{Ok, Err}
use Rattle.ranges.specs.declared.plans.Task.{Task}
use Rattle.ranges.specs.declared.plans.Done.{Done}
use Rattle.transactions.specs.Admits.{Turned, Entered}
use Rattle.buffers.specs.Buffers.{Buffers, places_of, rows_in}
use Rattle.buffers.specs.BufferLaws.{beyond_refl}
use Rattle.sets.specs.Reads.{ReadRows}
use Rattle.sets.specs.Leaves.{LeafSetRows}
use Rattle.accesses.specs.ScanCauses.{DeclinedIn, PassedIn, scan_turned, scan_declined}
use Rattle.accesses.specs.ScanSteps.{CarriedIn, logging, scan_granted}
use Rattle.transactions.specs.Views.{Logs, core_with}
use Rattle.transactions.specs.Ready.{Ready, Refines}
use Rattle.accesses.specs.Scans.{Scans}

-- ---- as it goes

-- refused for the worker
pub scans_turned : {l : Lent} {g : Logs} {c : Core} {w : ℕ} {r : Refusal} (lo hi : ℕ) (b : Buffers) → Ready l g c → Turned is_open c.workers w r
    → Scans l g c w lo hi b g b c (Err r)
scans_turned lo hi b k t =
    record { refines = scan_turned k t lo hi (places_of b); beyond = beyond_refl 0 b }

-- refused for its range, its log or its buffers
pub scans_declined : {l : Lent} {g : Logs} {c : Core} {w : ℕ} {x : Worker} {r : Refusal} (lo hi : ℕ) (b : Buffers) → Ready l g c → Entered is_open c.workers w x
    → DeclinedIn l g c w x lo hi (places_of b) r → Scans l g c w lo hi b g b c (Err r)
scans_declined {r} lo hi b k e d =
    record { refines = scan_declined k e lo hi (places_of b) r d; beyond = beyond_refl 0 b }

-- granted
pub scans_granted : {l : Lent} {g : Logs} {c : Core} {w : ℕ} {x : Worker} {c' : Core} {t : Task} {d : Buffers} {rs : ReadRows} {ls : LeafSetRows} {r : Done} (lo hi : ℕ) (b : Buffers)
    → Ready l g c → Entered is_open c.workers w x → PassedIn l g c w x lo hi (places_of b) t → CarriedIn l g c w x t lo hi b d rs ls r → c' ≡ core_with c w r.worker
    → Scans l g c w lo hi b (logging g w rs ls) d c' (Ok r.count)
scans_granted {l} {g} {c} {w} {t = t} {d} {rs} {ls} {r} lo hi b k e p h q =
    record {
      refines =
          subst (λ (z : Core). Refines l g c (scan w lo hi (places_of b)) l (logging g w rs ls) z (listed (rows_in r.count d))) (sym q)
          (scan_granted k e lo hi t b d rs ls r p h);
      beyond = h.fills.beyond;
    }
