-- The laws of a scan's two loops over its walk: how many are shown, and what is written to the buffers.
use Rattle.std.specs.Prelude.{ℕ, suc, ◌+◌, ◌%◌, ◌<◌, ◌≤◌, ◌≡◌, refl, Bool, true, false, List, [], ◌∷◌, ◌++◌, length, set, Option as Optional, Some, None, is_some}
use Rattle.std.proofs.Common.{zero-le, le_refl, arith, sym, ap, ◌∙◌, append_assoc, append-nil, length-append}
use mir.Val.{bool_byte}
use Rattle.lists.specs.Rows.{Row, row}
use Rattle.lists.specs.Tabulation.{tab, tab_from}
use Rattle.spec.specs.Payloads.{owners, payload_in}
use Rattle.spec.specs.Records.{Payload}
use Rattle.ranges.specs.declared.walks.Shown.{Shown}
use Rattle.ranges.specs.declared.walks.Turn.{Turn}
use Rattle.ranges.specs.Walks.{Ground, rest, Walks, Inside, shown_first, ComesNext, Fits, Shows, RecordsFit, Fills, Counting, Filling}
use Rattle.buffers.specs.Buffers.{Buffers, buffers, rows_in}
use Rattle.buffers.specs.BufferLaws.{length_rows, beyond_refl, beyond_on, rows_put, beyond_put}
use Rattle.ranges.specs.WalkLaws.{rest_end}

-- ---- one turn

shown_length : (x : Optional Shown) (rs : List (Row Payload)) → length (shown_first x rs) ≡ bool_byte (is_some x) + length rs
shown_length None rs = let e : length rs ≡ 0 + length rs = omega arith in e
shown_length (Some s) rs = let e : suc (length rs) ≡ 1 + length rs = omega arith in e

-- what a turn shows stands between what is before and what is after
shown_split : (x : Optional Shown) (xs rs : List (Row Payload)) → (xs ++ shown_first x []) ++ rs ≡ xs ++ shown_first x rs
shown_split None xs rs = ap (λ (zs : List (Row Payload)). zs ++ rs) (append-nil xs)
shown_split (Some s) xs rs = append_assoc xs (row s.address (payload_in s.payload) ∷ []) rs

-- ---- counting

module _ (g : Ground) (h : Walks g) (from start : ℕ) where
  pub counting_start : Inside g.bounds from start → Counting g from start from start 0
  counting_start at = record { inside = at; few = zero-le; all = let e : 0 + length (rest g from start) ≡ length (rest g from start) = omega arith in e }

  one_more : (b : Bool) → bool_byte b ≤ 1
  one_more true = le_refl 1
  one_more false = zero-le

  pub counting_on : (i j count : ℕ) (x : Turn) (m : ℕ) → Counting g from start i j count → ComesNext g i j x → m ≡ bool_byte (is_some x.shown)
      → Counting g from start x.i x.j (count + m)
  counting_on i j count x m c s e =
      let l : length (rest g i j) ≡ bool_byte (is_some x.shown) + length (rest g x.i x.j) = ap length s.rest_is ∙ shown_length x.shown (rest g x.i x.j) in
      let a : count + length (rest g i j) ≡ length (rest g from start) = c.all in
      let f : count ≤ i + j = c.few in
      let o : i + j < x.i + x.j = s.on in
      let p : bool_byte (is_some x.shown) ≤ 1 = one_more (is_some x.shown) in
      record { inside = s.inside; few = omega arith; all = let q : count + m + length (rest g x.i x.j) ≡ length (rest g from start) = omega arith in q }

  pub counting_end : (i j count : ℕ) → Counting g from start i j count → g.bounds.to + g.bounds.end ≤ i + j → count ≡ length (rest g from start)
  counting_end i j count c l =
      let a : i ≤ g.bounds.to = c.inside.index in
      let b : j ≤ g.bounds.end = c.inside.own in
      let e : length (rest g i j) ≡ 0 = ap length (rest_end g h i j (omega arith) (omega arith)) in
      let q : count + length (rest g i j) ≡ length (rest g from start) = c.all in
      omega arith

-- ---- buffers

module _ (b : Buffers) (at : ℕ) where
  pub show_there : (s : Shown) {x : Optional Shown} → at < length b.addresses → at < length b.values → at < length b.owners → x ≡ Some s
      → Shows b at x
      (buffers (set b.addresses at s.address) (set b.values at s.payload.value) (set b.owners at (s.payload.owner % owners)))
      (at + 1)
  show_there s l k m e =
      let r : Row Payload = row s.address (payload_in s.payload) in
      record {
        forth = omega arith;
        rows_are = rows_put b at r l k m ∙ ap (λ (y : Optional Shown). rows_in at b ++ shown_first y []) (sym e);
        beyond = beyond_put b at r;
      }

  pub show_none : {x : Optional Shown} → x ≡ None → Shows b at x b at
  show_none e =
      record {
        forth = le_refl at;
        rows_are = sym (ap (λ (y : Optional Shown). rows_in at b ++ shown_first y []) e ∙ append-nil (rows_in at b));
        beyond = beyond_refl at b;
      }

-- ---- filling

module _ (g : Ground) (h : Walks g) (from start : ℕ) (b : Buffers) where
  pub filling_start : Inside g.bounds from start → Filling g from start b b from start 0
  unfolding rows_in tab tab_from
  filling_start at = record { inside = at; all = refl; beyond = beyond_refl 0 b }

  filled : (c : Buffers) (i j at : ℕ) → Filling g from start b c i j at → at + length (rest g i j) ≡ length (rest g from start)
  filled c i j at f =
      ap (λ (n : ℕ). n + length (rest g i j)) (sym (length_rows at c)) ∙ sym (length-append (rows_in at c) (rest g i j)) ∙ ap length f.all

  pub filling_fits : (c : Buffers) (i j at : ℕ) (x : Turn) → RecordsFit b (rest g from start) → Filling g from start b c i j at → ComesNext g i j x → Fits c at x.shown
  filling_fits c i j at x r f s =
      record {
        addresses = λ e. inside b.addresses c.addresses r.addresses f.beyond.addresses.size (under e);
        values = λ e. inside b.values c.values r.values f.beyond.values.size (under e);
        owners = λ e. inside b.owners c.owners r.owners f.beyond.owners.size (under e);
      }
    where
      under : {y : Shown} → x.shown ≡ Some y → at < length (rest g from start)
      under e =
          let l : length (rest g i j) ≡ suc (length (rest g x.i x.j)) = ap length (s.rest_is ∙ ap (λ (y : Optional Shown). shown_first y (rest g x.i x.j)) e) in
          let q : at + length (rest g i j) ≡ length (rest g from start) = filled c i j at f in
          omega arith

      inside : (ks ls : List ℕ) → length (rest g from start) ≤ length ks → length ls ≡ length ks → at < length (rest g from start) → at < length ls
      inside ks ls p q l = omega arith

  pub filling_on : (c : Buffers) (i j at : ℕ) (x : Turn) (d : Buffers) (r : ℕ) → Filling g from start b c i j at → ComesNext g i j x
      → Shows c at x.shown d r → Filling g from start b d x.i x.j r
  filling_on c i j at x d r f s t =
      record {
        inside = s.inside;
        all =
            ap (λ (zs : List (Row Payload)). zs ++ rest g x.i x.j) t.rows_are
            ∙ shown_split x.shown (rows_in at c) (rest g x.i x.j)
            ∙ ap (λ (zs : List (Row Payload)). rows_in at c ++ zs) (sym s.rest_is)
            ∙ f.all;
        beyond = beyond_on t.forth f.beyond t.beyond;
      }

  pub filling_end : (c : Buffers) (i j at : ℕ) → Filling g from start b c i j at → g.bounds.to + g.bounds.end ≤ i + j
      → Fills b (rest g from start) c at
  filling_end c i j at f l =
      let p : i ≤ g.bounds.to = f.inside.index in
      let q : j ≤ g.bounds.end = f.inside.own in
      let e : rest g i j ≡ [] = rest_end g h i j (omega arith) (omega arith) in
      let w : rows_in at c ≡ rest g from start = sym (append-nil (rows_in at c)) ∙ ap (λ (zs : List (Row Payload)). rows_in at c ++ zs) (sym e) ∙ f.all in
      record { count = sym (length_rows at c) ∙ ap length w; rows_are = w; beyond = f.beyond }
