-- The laws of the columns of leaves that change.
use Rattle.std.specs.Prelude.{ℕ, ◌≡◌, length, set}
use Rattle.std.proofs.Common.{sym, ◌∙◌}
use Rattle.std.proofs.Math.Path.{ap}
use mathlib.Core.List.{List, [], map}
use Rattle.std.proofs.Math.ListN.{get_or, length-map, get_or-map}
use Rattle.std.proofs.lemmas.List.{set-get_or}
use Rattle.lists.specs.Tabulation.{tab}
use Rattle.lists.specs.Shifts.{over, moved}
use Rattle.lists.specs.Mapped.{mapped_set, mapped_over, mapped_moved, mapped_tab}
use Rattle.index.specs.Views.{leaf_places}
use Rattle.index.specs.LeafColumns.{LeafRows, column, leaf_at, lows_of, hidden_of, pending_of, versions_of}

-- ---- a column of leaves that change

module _ (k : ℕ) (leaves : LeafRows) where
  pub column_length : length (column k leaves) ≡ length leaves
  unfolding column
  column_length = length-map leaves (λ (ws : List ℕ). get_or ws k 0)

  pub column_places : length leaves ≡ leaf_places → length (column k leaves) ≡ leaf_places
  column_places all = column_length ∙ all

  pub column_get_or : (i : ℕ) → get_or (column k leaves) i 0 ≡ get_or (get_or leaves i []) k 0
  unfolding column
  column_get_or i = get_or-map (λ (ws : List ℕ). get_or ws k 0) leaves i []

  pub column_set : (i : ℕ) (ws : List ℕ) → column k (set leaves i ws) ≡ set (column k leaves) i (get_or ws k 0)
  unfolding column
  column_set i ws = mapped_set (λ (us : List ℕ). get_or us k 0) leaves i ws

  -- a row with the same word there leaves the column as it was
  pub column_kept : (i : ℕ) (ws : List ℕ) → get_or ws k 0 ≡ get_or (get_or leaves i []) k 0 → column k (set leaves i ws) ≡ column k leaves
  column_kept i ws e = column_set i ws ∙ ap (set (column k leaves) i) (e ∙ sym (column_get_or i)) ∙ set-get_or (column k leaves) i 0

  pub column_moved : (from to n : ℕ) → column k (moved leaves from to n) ≡ moved (column k leaves) from to n
  unfolding column
  column_moved from to n = mapped_moved (λ (ws : List ℕ). get_or ws k 0) leaves from to n

  pub column_filled : (at : ℕ) (f : ℕ → List ℕ) (n : ℕ) → column k (over leaves at (tab f n)) ≡ over (column k leaves) at (tab (λ (x : ℕ). get_or (f x) k 0) n)
  unfolding column
  column_filled at f n =
      mapped_over (λ (ws : List ℕ). get_or ws k 0) leaves at (tab f n)
      ∙ ap (over (map (λ (ws : List ℕ). get_or ws k 0) leaves) at) (mapped_tab (λ (ws : List ℕ). get_or ws k 0) f n)

-- ---- a leaf by its columns

pub leaf_read : (leaves : LeafRows) (i : ℕ)
    → leaf_at leaves i
    ≡ record { low = get_or (lows_of leaves) i 0; version = get_or (versions_of leaves) i 0; hidden = get_or (hidden_of leaves) i 0; pending = get_or (pending_of leaves) i 0 }
leaf_read leaves i =
    λ x. record {
      low = sym (column_get_or 0 leaves i) x;
      version = sym (column_get_or 1 leaves i) x;
      hidden = sym (column_get_or 2 leaves i) x;
      pending = sym (column_get_or 3 leaves i) x;
    }
