-- The laws of scans: when one covers a section, and which decides.
use Rattle.std.specs.Prelude.{ℕ, suc, ◌+◌, ◌-◌, ◌<◌, ◌≤◌, ◌≡◌, refl, Bool, true, false, not, leb, get_or, Option as Optional, Some, None, is_some}
use native.Mathlib.Omega.{arith}
use Rattle.std.proofs.Math.Path.{sym, ap}
use Rattle.std.proofs.Common.{◌∙◌}
use mathlib.Core.List.{List, [], ◌∷◌, ◌++◌}
use Rattle.std.proofs.Math.Option.{Option, none, some}
use Rattle.lists.specs.Tests.{pick, both, maybe, present, at_most}
use Rattle.lists.specs.TestLaws.{at_most_yes, at_most_no}
use Rattle.spec.specs.Records.{limits}
use Rattle.spec.specs.Guards.{Scan, last_byte, covers, latest, deciding, uncovered}
use Rattle.sets.specs.declared.leaves.Scanned.{Scanned}
use Rattle.sets.specs.Leaves.{LeafSetRows, scanned_in, note_in, scans_at, notes_of, joined, scans_of, GivesNote}
use Rattle.sets.specs.LeafLaws.{scans_snoc}
use Rattle.sets.specs.SetLaws.{rows_none, absent_is}
use Rattle.guards.specs.Promises.{decision_in}

module _ (k n : ℕ) (c : Scan) where
  pub covers_late : (r : ℕ) → r ≡ k - (limits.longest - 1) → r < c.lo → leb c.lo r ≡ covers k n c
  unfolding covers at_most
  covers_late r e h =
      at_most_no {m = c.lo} {n = r} h
      ∙ sym (ap (λ (b : Bool). both b (at_most (last_byte k n) c.hi)) (ap (at_most c.lo) (sym e) ∙ at_most_no {m = c.lo} {n = r} h))

  pub covers_from : c.lo ≤ k - (limits.longest - 1) → leb (k + n - 1) c.hi ≡ covers k n c
  unfolding covers at_most last_byte
  covers_from h =
      sym (ap (λ (b : Bool). both b (at_most (last_byte k n) c.hi)) (at_most_yes {m = c.lo} {n = k - (limits.longest - 1)} h))

-- ---- the latest

latest_append : {A : Type 0} (f : A → Bool) (xs ys : List A) → latest f (xs ++ ys) ≡ maybe (latest f ys) (latest f xs) some
unfolding latest
latest_append {A} f [] ys = whole (latest f ys)
  where
    whole : (o : Option A) → o ≡ maybe o none some
    whole none = refl
    whole (some y) = refl
latest_append {A} f (x ∷ xs) ys =
    ap (λ (o : Option A). maybe o (pick (f x) (some x) none) some) (latest_append f xs ys) ∙ by (latest f ys) (latest f xs) (pick (f x) (some x) none)
  where
    by : (o p q : Option A) → maybe (maybe o p some) q some ≡ maybe o (maybe p q some) some
    by none p q = refl
    by (some y) p q = refl

-- ---- which decides

-- one row more: its scan, if that covers the section, else what decided before
decide_row : (rs : LeafSetRows) (i k n : ℕ) (m : Optional Scanned) → GivesNote rs i m
    → deciding (scans_of rs (suc i)) k n ≡ maybe (latest (covers k n) (note_in m)) (deciding (scans_of rs i) k n) some
unfolding deciding
decide_row rs i k n m g =
    ap (latest (covers k n)) (scans_snoc rs i)
    ∙ latest_append (covers k n) (scans_of rs i) (get_or (notes_of rs (suc i)) i [])
    ∙ ap (λ (o : Option Scan). maybe o (latest (covers k n) (scans_of rs i)) some) (ap (latest (covers k n)) (sym (g.mark (suc i) (omega arith))))

-- the loop from the last row to the first: what decides among the first i is what decides
pub record Deciding (rs : LeafSetRows) (k n m i : ℕ) : Type 0 where
  pub within : i ≤ m
  pub rest : deciding (scans_of rs i) k n ≡ deciding (scans_of rs m) k n

pub decide_start : (rs : LeafSetRows) (k n m : ℕ) → Deciding rs k n m m
decide_start rs k n m = record { within = omega arith; rest = refl }

module _ {rs : LeafSetRows} {k n m i : ℕ} (s : Deciding rs k n m i) where
  -- row i - 1 is looked at
  last : {r : Optional Scanned} → 0 < i → GivesNote rs (i - 1) r
      → maybe (latest (covers k n) (note_in r)) (deciding (scans_of rs (i - 1)) k n) some ≡ deciding (scans_of rs m) k n
  last {r} h g =
      let q : suc (i - 1) ≡ i = omega arith in
      sym (decide_row rs (i - 1) k n r g) ∙ ap (λ (j : ℕ). deciding (scans_of rs j) k n) q ∙ s.rest

  -- it remembers no scan, or one of which the test says b
  pub decide_past : 0 < i → GivesNote rs (i - 1) None → Deciding rs k n m (i - 1)
  unfolding latest
  decide_past h g = let w : i ≤ m = s.within in record { within = omega arith; rest = last h g }

  tested : {x : Scanned} {b c : Bool} → 0 < i → GivesNote rs (i - 1) (Some x) → b ≡ covers k n (scanned_in x) → b ≡ c
      → maybe (pick c (some (scanned_in x)) none) (deciding (scans_of rs (i - 1)) k n) some ≡ deciding (scans_of rs m) k n
  unfolding latest
  tested {x} h g e f =
      ap (λ (b : Bool). maybe (pick b (some (scanned_in x)) none) (deciding (scans_of rs (i - 1)) k n) some) (sym f ∙ e) ∙ last h g

  pub decide_on : {x : Scanned} {b : Bool} → 0 < i → GivesNote rs (i - 1) (Some x) → b ≡ covers k n (scanned_in x) → b ≡ false → Deciding rs k n m (i - 1)
  decide_on h g e f = let w : i ≤ m = s.within in record { within = omega arith; rest = tested h g e f }

  pub decide_hit : {x : Scanned} {b : Bool} → 0 < i → GivesNote rs (i - 1) (Some x) → b ≡ covers k n (scanned_in x) → b ≡ true
      → some (scanned_in x) ≡ deciding (scans_of rs m) k n
  decide_hit h g e f = tested h g e f

  pub decide_end : i ≤ 0 → none ≡ deciding (scans_of rs m) k n
  unfolding deciding latest joined
  decide_end h =
      let q : 0 ≡ i = omega arith in
      sym (ap (λ (xs : List (List Scan)). latest (covers k n) (joined xs)) (rows_none scans_at rs))
      ∙ ap (λ (j : ℕ). deciding (scans_of rs j) k n) q
      ∙ s.rest

-- no scan decides
pub uncovered_is : (cs : List Scan) (k n : ℕ) (d : Optional Scanned) {b : Bool} → decision_in d ≡ deciding cs k n → is_some d ≡ not b → b ≡ uncovered cs k n
unfolding uncovered
uncovered_is cs k n d e h = absent_is scanned_in d h ∙ ap (λ (o : Option Scan). not (present o)) e
