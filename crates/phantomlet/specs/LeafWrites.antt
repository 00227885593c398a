-- Rows of leaves whose numbers change: lows and versions stay, and the two columns of numbers are what they are.
use Rattle.std.specs.Prelude.{◌≡◌, ℕ, ◌+◌, ◌<◌, ◌≤◌, length, set, slice_index, slice_set, refl}
use Rattle.std.proofs.Common.{arith, sym, ap, ◌∙◌, subst, length-set}
use Rattle.index.specs.declared.leaves.LeafWords.{LeafWords}
use Rattle.index.specs.LeafColumns.{LeafRows, lows_of, versions_of, hidden_of, pending_of, leaf_at, leaf_put, leaf_words}
use Rattle.index.specs.LeafColumnLaws.{column_length, column_get_or, column_set, column_kept}
use Rattle.phantomlet.specs.LeafNumbers.{Clearing, clear_start, clear_on}

-- the same leaves, with other numbers
pub record Renumbered (ls ls' : LeafRows) : Type 0 where
  pub size : length ls' ≡ length ls
  pub lows : lows_of ls' ≡ lows_of ls
  pub versions : versions_of ls' ≡ versions_of ls

pub same_leaves : (ls : LeafRows) → Renumbered ls ls
same_leaves ls = record { size = refl; lows = refl; versions = refl }

pub renumbered_on : {a b c : LeafRows} → Renumbered a b → Renumbered b c → Renumbered a c
renumbered_on p q = record { size = q.size ∙ p.size; lows = q.lows ∙ p.lows; versions = q.versions ∙ p.versions }

-- the leaf at place i with these numbers
abbrev pub numbered : LeafRows → ℕ → ℕ → ℕ → LeafRows
numbered ls i hidden pending = leaf_put ls i (record { low = (leaf_at ls i).low; version = (leaf_at ls i).version; hidden = hidden; pending = pending })

module _ (ls : LeafRows) (i hidden pending : ℕ) where
  abbrev words : LeafWords
  words = record { low = (leaf_at ls i).low; version = (leaf_at ls i).version; hidden = hidden; pending = pending }

  pub numbered_same : Renumbered ls (numbered ls i hidden pending)
  numbered_same =
      record {
        size = length-set ls i (leaf_words words);
        lows = column_kept 0 ls i (leaf_words words) refl;
        versions = column_kept 1 ls i (leaf_words words) refl;
      }

  pub numbered_hidden : hidden_of (numbered ls i hidden pending) ≡ slice_set (hidden_of ls) i hidden
  numbered_hidden = column_set 2 ls i (leaf_words words)

  pub numbered_pending : pending_of (numbered ls i hidden pending) ≡ slice_set (pending_of ls) i pending
  numbered_pending = column_set 3 ls i (leaf_words words)

-- ---- numbers cleared from a place up to another

pub record Cleared (ls ls' : LeafRows) (from to : ℕ) : Type 0 where
  pub same : Renumbered ls ls'
  pub hidden : Clearing (hidden_of ls) (hidden_of ls') from to
  pub pending : Clearing (pending_of ls) (pending_of ls') from to

pub cleared_start : (ls : LeafRows) (from : ℕ) → Cleared ls ls from from
cleared_start ls from = record { same = same_leaves ls; hidden = clear_start (hidden_of ls) from; pending = clear_start (pending_of ls) from }

pub cleared_on : {ls cur : LeafRows} {from x : ℕ} (cur' : LeafRows) → Cleared ls cur from x → from ≤ x → x < length ls → cur' ≡ numbered cur x 0 0 → Cleared ls cur' from (x + 1)
cleared_on {ls} {cur} {from} {x} cur' c f h e =
    let o : length (hidden_of ls) ≡ length ls = column_length 2 ls in
    let p : length (pending_of ls) ≡ length ls = column_length 3 ls in
    record {
      same = renumbered_on c.same (subst (Renumbered cur) (sym e) (numbered_same cur x 0 0));
      hidden = clear_on (hidden_of cur') c.hidden f (omega arith) (ap hidden_of e ∙ numbered_hidden cur x 0 0);
      pending = clear_on (pending_of cur') c.pending f (omega arith) (ap pending_of e ∙ numbered_pending cur x 0 0);
    }

-- ---- numbers added at a place

pub record Raised (ls ls' : LeafRows) (at x w : ℕ) : Type 0 where
  pub same : Renumbered ls ls'
  pub hidden : hidden_of ls' ≡ slice_set (hidden_of ls) at (slice_index (hidden_of ls) at + x)
  pub pending : pending_of ls' ≡ slice_set (pending_of ls) at (slice_index (pending_of ls) at + w)

pub raised : {ls ls' : LeafRows} {at x w : ℕ} → ls' ≡ numbered ls at ((leaf_at ls at).hidden + x) ((leaf_at ls at).pending + w) → Raised ls ls' at x w
raised {ls} {ls'} {at} {x} {w} e =
    record {
      same = subst (Renumbered ls) (sym e) (numbered_same ls at ((leaf_at ls at).hidden + x) ((leaf_at ls at).pending + w));
      hidden = ap hidden_of e ∙ numbered_hidden ls at ((leaf_at ls at).hidden + x) ((leaf_at ls at).pending + w) ∙ ap (λ (n : ℕ). set (hidden_of ls) at (n + x)) (sym (column_get_or 2 ls at));
      pending = ap pending_of e ∙ numbered_pending ls at ((leaf_at ls at).hidden + x) ((leaf_at ls at).pending + w) ∙ ap (λ (n : ℕ). set (pending_of ls) at (n + w)) (sym (column_get_or 3 ls at));
    }
