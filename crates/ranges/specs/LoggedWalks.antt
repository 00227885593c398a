-- A walk over the records that a scan has logged is the walk over those of the index.
use Rattle.std.specs.Prelude.{ℕ, suc, ◌+◌, ◌-◌, ◌<◌, ◌≤◌, ◌≡◌, length, get_or}
use native.Mathlib.Omega.{arith}
use Rattle.std.proofs.Common.{sym, ◌∙◌, subst, get_or-append-add}
use Rattle.std.proofs.Math.Path.{ap}
use mathlib.Core.List.{List, ◌++◌}
use Rattle.std.proofs.Math.Option.{Option}
use Rattle.lists.specs.Rows.{Row, map_items, Rising}
use Rattle.spec.specs.Records.{Record, own_view, payload_of}
use Rattle.sets.specs.Reads.{ReadRows, read_in, no_read, reads_of, GivesRead}
use Rattle.sets.specs.declared.reads.Observed.{Observed}
use Rattle.sets.specs.Writes.{WriteRows}
use Rattle.sets.specs.SetLaws.{length_rows, row_at}
use Rattle.queries.specs.declared.Range.{Range}
use Rattle.queries.specs.QueryViews.{walk}
use Rattle.ranges.specs.Parts.{get_or_walk, walk_same}
use Rattle.ranges.specs.Overlays.{overlay}
use Rattle.ranges.specs.Scanning.{span, across, LogsRows}
use Rattle.ranges.specs.Walks.{ground, log_row, seen_from, own_from, rest, Walks, Stands}

pub stands_logged : {us : ReadRows} (first i : ℕ) {to : ℕ} {s : Observed} → GivesRead us (first + i) s → Stands (log_row us first) to i s
stands_logged {us} first i a =
    let l : first + i < suc (first + i) = omega arith in
    record { is = λ k. a.at (suc (first + i)) l ∙ row_at read_in us (suc (first + i)) (first + i) no_read l }

module _ {rs us : ReadRows} {n r : ℕ} {f : ℕ → Row (Option Record)} {p : Range} (h : LogsRows rs n f p us r) where
  logged_at : (k : ℕ) → k < span p → log_row us n k ≡ f (p.from + k)
  logged_at k l =
      let c : r ≡ n + span p = h.count in
      let m : length (reads_of rs n) ≡ n = length_rows read_in rs n in
      sym (row_at read_in us r (n + k) no_read (let z : n + k < r = omega arith in z))
      ∙ ap (λ (zs : List (Row (Option Record))). get_or zs (n + k) no_read) h.view
      ∙ ap (λ (i : ℕ). get_or (reads_of rs n ++ across f p) (i + k) no_read) (sym m)
      ∙ get_or-append-add (reads_of rs n) (across f p) k no_read
      ∙ get_or_walk f p.from (span p) k no_read l

  logged_walk : (i : ℕ) → walk (log_row us n) i (span p - i) ≡ walk f (p.from + i) (p.to - (p.from + i))
  logged_walk i =
      walk_same (log_row us n) f i (p.from + i) (span p - i)
      (λ k q. logged_at (i + k) (let z : i + k < span p = omega arith in z) ∙ ap f (let e : p.from + (i + k) ≡ p.from + i + k = omega arith in e))
      ∙ ap (walk f (p.from + i)) (let e : span p - i ≡ p.to - (p.from + i) = omega arith in e)

  module _ (ws : WriteRows) (end : ℕ) where
    pub logged_walks : p.from ≤ p.to → Walks (ground f ws (record { to = p.to; end = end })) → Walks (ground (log_row us n) ws (record { to = span p; end = end }))
    logged_walks o w =
        record {
          nears = record { writes = w.nears.writes; few = omega (arith, w.nears.few) };
          rising = λ i l. subst (Rising {A = Option Record}) (sym (logged_walk i)) (w.rising (p.from + i) (let z : p.from + i ≤ p.to = omega arith in z));
        }

    pub logged_rest : (j : ℕ) → rest (ground (log_row us n) ws (record { to = span p; end = end })) 0 j ≡ rest (ground f ws (record { to = p.to; end = end })) p.from j
    unfolding rest seen_from own_from
    logged_rest j =
        ap (λ (xs : List (Row (Option Record))). overlay (map_items own_view (own_from (ground f ws (record { to = p.to; end = end })) j)) (map_items payload_of xs))
        (logged_walk 0 ∙ ap (λ (i : ℕ). walk f i (p.to - i)) (let e : p.from + 0 ≡ p.from = omega arith in e))
