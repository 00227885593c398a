-- What the copy to a portion's buffers promises, and the laws of its loop.
use Rattle.std.specs.Prelude.{ℕ, suc, ◌+◌, ◌<◌, ◌≤◌, ◌≡◌, refl, List, [], ◌∷◌, ◌++◌, length, drop, get_or}
use Rattle.std.proofs.Common.{arith, sym, ap, ◌∙◌, subst, get_or-drop}
use Rattle.lists.specs.Tabulation.{tab, tab_from}
use Rattle.spec.specs.Records.{limits}
use Rattle.sets.specs.Sets.{first_rows}
use Rattle.sets.specs.SetLaws.{rows_snoc}
use Rattle.contents.specs.declared.rows.CopiedRecord.{CopiedRecord}
use Rattle.contents.specs.Copies.{copy_row, copied_in}
use Rattle.contents.specs.RowLaws.{row_of}
use Rattle.buffers.specs.Buffers.{Buffers, rows_in, Beyond}
use Rattle.buffers.specs.BufferLaws.{beyond_refl, beyond_on, row_put, rows_put, beyond_put}
use Rattle.exports.specs.Exporting.{ExportedRows}

-- there are n places, and n rows from row `from` on
pub record GiveRoom (b : Buffers) (from n : ℕ) : Type 0 where
  pub addresses : n ≤ length b.addresses
  pub values : n ≤ length b.values
  pub owners : n ≤ length b.owners
  pub rows : from + n ≤ limits.map_limit

-- the first n places are the n records from row `from` on
pub record Gives (rows : ExportedRows) (from n : ℕ) (b c : Buffers) : Type 0 where
  pub rows_are : rows_in n c ≡ copied_in (drop from rows) n
  pub beyond : Beyond n b c

module _ (rows : ExportedRows) (from : ℕ) (b : Buffers) where
  pub gives_none : Gives rows from 0 b b
  unfolding rows_in first_rows tab tab_from
  gives_none = record { rows_are = refl; beyond = beyond_refl 0 b }

  -- the places that were there are there still
  pub gives_room : {n i : ℕ} {c : Buffers} → GiveRoom b from n → i < n → Gives rows from i b c
      → (i < length c.addresses) × (i < length c.values) × (i < length c.owners)
  gives_room {n} {i} {c} h l g = (
    inside b.addresses c.addresses h.addresses g.beyond.addresses.size,
    inside b.values c.values h.values g.beyond.values.size,
    inside b.owners c.owners h.owners g.beyond.owners.size,
  )
    where
      inside : (ks ls : List ℕ) → n ≤ length ks → length ls ≡ length ks → i < length ls
      inside ks ls p q = omega (arith, l)

  pub gives_on : {i : ℕ} {c : Buffers} {r : CopiedRecord} → (i < length c.addresses) × (i < length c.values) × (i < length c.owners)
      → row_of r ≡ copy_row (get_or rows (from + i) []) → Gives rows from i b c → Gives rows from (i + 1) b (row_put c i (row_of r))
  gives_on {i} {c} {r} l e g =
      let q : i + 1 ≡ suc i = omega arith in
      record {
        rows_are =
            rows_put c i (row_of r) l.0 l.1 l.2
            ∙ (λ j. g.rows_are j ++ ((e ∙ ap copy_row (sym (get_or-drop from rows i []))) j ∷ []))
            ∙ sym (rows_snoc copy_row (drop from rows) i)
            ∙ ap (λ (k : ℕ). copied_in (drop from rows) k) (sym q);
        beyond = beyond_on (omega arith) g.beyond (beyond_put c i (row_of r));
      }

pub gives_end : {rows : ExportedRows} {from i n : ℕ} {b c : Buffers} → Gives rows from i b c → i ≤ n → n ≤ i → Gives rows from n b c
gives_end {rows} {from} {i} {n} {b} {c} g l h = subst (λ (k : ℕ). Gives rows from k b c) (let e : i ≡ n = omega arith in e) g
