-- The laws of the walk that copies the contents to rows.
use Prim.Native.Nat.{ℕ, suc, ◌+◌, ◌<◌, ◌≤◌}
use Rattle.std.proofs.Common.{le_refl, sym, ◌∙◌, subst, length-append}
use native.Mathlib.Omega.{arith}
use Rattle.std.specs.Prelude.{◌≡◌, refl, set}
use Rattle.std.proofs.Math.Path.{ap}
use mathlib.Core.List.{List, [], ◌∷◌, ◌++◌, append_assoc, append-nil}
use Rattle.std.proofs.Math.Option.{none, some}
use Rattle.std.proofs.Math.ListN.{length, length-set}
use Rattle.lists.specs.Rows.{Row, row, Rising, map_items}
use Rattle.spec.specs.Records.{limits, Payload, Record}
use Rattle.spec.specs.Exports.{unstamped}
use Rattle.sets.specs.SetLaws.{length_rows, rows_none, row_appended}
use Rattle.queries.specs.Contents.{first_from}
use Rattle.queries.specs.NextViews.{rows_from}
use Rattle.queries.specs.ContentsLaws.{all_from, next_row, no_row}
use Rattle.contents.specs.Copies.{CopyRows, copy_row, copied_in, Copied}

-- those below address k are copied
pub record Copying (rs : List (Row Record)) (rows : CopyRows) (count k : ℕ) : Type 0 where
  pub size : length rows ≡ limits.map_limit
  pub all : copied_in rows count ++ unstamped (rows_from k rs) ≡ unstamped rs

length_unstamped : (rs : List (Row Record)) → length (unstamped rs) ≡ length rs
unfolding map_items
length_unstamped [] = refl
length_unstamped (r ∷ rs) = ap suc (length_unstamped rs)

pub copying_start : (rs : List (Row Record)) (rows : CopyRows) → Rising rs → length rows ≡ limits.map_limit → Copying rs rows 0 0
unfolding Rising
copying_start rs rows f l =
    record {
      size = l;
      all =
          ap (λ (xs : List (Row Payload)). xs ++ unstamped (rows_from 0 rs)) (rows_none copy_row rows)
          ∙ ap (λ (zs : List (Row Record)). unstamped zs) (all_from 0 0 rs f (le_refl 0));
    }

module _ {rs : List (Row Record)} {rows : CopyRows} {count k : ℕ} (f : Rising rs) (p : Copying rs rows count k)
    {a : ℕ} {r : Record} (e : first_from k rs ≡ some (row a r)) where
  row_is : (rows_from k rs ≡ row a r ∷ rows_from (suc a) rs) × (k ≤ a)
  row_is = unfold Rising in next_row k 0 rs (row a r) f e

  pub copying_above : k ≤ a
  copying_above = row_is.1

  counted : suc count ≤ length rs
  counted =
      let l : length (copied_in rows count) ≡ count = length_rows copy_row rows count in
      let s : length (copied_in rows count ++ unstamped (rows_from k rs)) ≡ length (copied_in rows count) + length (unstamped (rows_from k rs))
      = length-append (copied_in rows count) (unstamped (rows_from k rs)) in
      let t : length (copied_in rows count ++ unstamped (rows_from k rs)) ≡ length (unstamped rs) = ap length p.all in
      let m : length (unstamped rs) ≡ length rs = length_unstamped rs in
      let o : length (unstamped (rows_from k rs)) ≡ length (rows_from k rs) = length_unstamped (rows_from k rs) in
      let q : length (rows_from k rs) ≡ suc (length (rows_from (suc a) rs)) = ap (λ (zs : List (Row Record)). length zs) row_is.0 in
      omega arith

  pub copying_room : length rs ≤ limits.map_limit → count < limits.map_limit
  copying_room h = let c : suc count ≤ length rs = counted in omega arith

  pub copying_on : (ws : List ℕ) → length rs ≤ limits.map_limit → copy_row ws ≡ row a r.payload → Copying rs (set rows count ws) (count + 1) (a + 1)
  unfolding map_items
  copying_on ws h w =
      let s : a + 1 ≡ suc a = omega arith in
      let z : length rows ≡ limits.map_limit = p.size in
      let c : suc count ≤ length rs = counted in
      record {
        size = length-set rows count ws ∙ z;
        all =
            ap (λ (xs : List (Row Payload)). xs ++ unstamped (rows_from (a + 1) rs))
            (row_appended copy_row rows count ws (omega arith) ∙ ap (λ (x : Row Payload). copied_in rows count ++ (x ∷ [])) w)
            ∙ ap (λ (i : ℕ). (copied_in rows count ++ (row a r.payload ∷ [])) ++ unstamped (rows_from i rs)) s
            ∙ append_assoc (copied_in rows count) (row a r.payload ∷ []) (unstamped (rows_from (suc a) rs))
            ∙ ap (λ (zs : List (Row Record)). copied_in rows count ++ unstamped zs) (sym row_is.0)
            ∙ p.all;
      }

pub copying_as : {rs : List (Row Record)} {rows rows' : CopyRows} {count k : ℕ} → rows' ≡ rows → Copying rs rows count k → Copying rs rows' count k
copying_as {rs} {rows} {rows'} {count} {k} e p = subst (λ (xs : CopyRows). Copying rs xs count k) (sym e) p

pub copying_end : {rs : List (Row Record)} {rows : CopyRows} {count k : ℕ} → Copying rs rows count k → first_from k rs ≡ none → Copied rs rows count
unfolding map_items
copying_end {rs} {rows} {count} {k} p e =
    let w : copied_in rows count ≡ unstamped rs
    = sym (append-nil (copied_in rows count)) ∙ ap (λ (zs : List (Row Record)). copied_in rows count ++ unstamped zs) (sym (no_row k rs e)) ∙ p.all in
    record { count_is = sym (length_rows copy_row rows count) ∙ ap length w ∙ length_unstamped rs; rows_are = w }
