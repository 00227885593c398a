-- What a scan remembers goes on saying what was seen, and what a granted lock of a guarded map has tested: each put has
-- room (`RoomFor`).
use Rattle.std.specs.Prelude.{ℕ, zero, suc, ◌+◌, ◌-◌, ◌≤◌, ◌≡◌, Bool, true, length, take, drop}
use Rattle.std.proofs.Math.Nat.{le_trans}
use Rattle.std.proofs.Common.{le_of_eq, not-suc-le-zero, arith, sym, ap, ◌∙◌, subst, length-append}
use Rattle.std.proofs.Math.Path.{refl}
use Rattle.std.proofs.Math.Bool.{false, not}
use mathlib.Core.List.Memᴰ
use mathlib.Core.List.{List, [], ◌∷◌, ◌++◌, Memᴰ}
use Rattle.std.proofs.Math.Option.{Option, none, some, get_or}
use Rattle.lists.specs.Tests.{pick, both, maybe, present, at_most}
use Rattle.lists.specs.TestLaws.{clash, same_no, at_most_true}
use Rattle.lists.specs.Options.{both_options, some_same}
use Rattle.lists.specs.Rows.{Row, row, look, map_items, any, filter}
use Rattle.lists.specs.RowLaws.{any_false}
use Rattle.lists.specs.Ascending.{filter_mem}
use Rattle.spec.specs.Records.{limits, Payload, Record, Write, written, own_view, payload_of}
use Rattle.spec.specs.Guards.{Scan, stretch, last_byte, share, unfit, covers, latest, deciding, uncovered, standing, untouched, laid_over, overlaps, overlapped, of_put, any_put}
use Rattle.laws.specs.RecordLaws.{both_left, both_right}
use Rattle.serial.specs.Feeding.{look_member}
use Rattle.serial.specs.Invariant.{Observation, Saw, RoomFor}

-- ---- a longer log

take_front : {A : Type 0} (n : ℕ) (xs ys : List A) → n ≤ length xs → take n (xs ++ ys) ≡ take n xs
take_front zero xs ys h = refl
take_front (suc n) [] ys h = absurd (not-suc-le-zero h)
take_front (suc n) (x ∷ xs) ys h = ap (λ (zs : List _). x ∷ zs) (take_front n xs ys (omega arith))

part_front : {A : Type 0} (a n : ℕ) (xs ys : List A) → a + n ≤ length xs → take n (drop a (xs ++ ys)) ≡ take n (drop a xs)
part_front zero n xs ys h = take_front n xs ys (omega arith)
part_front (suc a) n [] ys h = absurd (let z : ⊥ = omega arith in z)
part_front (suc a) n (x ∷ xs) ys h = part_front a n xs ys (omega arith)

take_all : {A : Type 0} (xs : List A) → take (length xs) xs ≡ xs
take_all [] = refl
take_all (x ∷ xs) = ap (λ (zs : List _). x ∷ zs) (take_all xs)

part_behind : {A : Type 0} (xs ys : List A) → take (length ys) (drop (length xs) (xs ++ ys)) ≡ ys
part_behind [] ys = take_all ys
part_behind (x ∷ xs) ys = part_behind xs ys

-- a scan of before, with more in the log and more observations
pub saw_longer : (reads rows : List (Row (Option Record))) {os os' : List Observation}
    → ((o : Observation) → Memᴰ o os → Memᴰ o os') → (c : Scan) → Saw reads os c → Saw (reads ++ rows) os' c
unfolding stretch
saw_longer reads rows i c h =
    record {
      o = h.o;
      member = i h.o h.member;
      lo = h.lo;
      hi = h.hi;
      inside = le_trans h.inside (let e : length (reads ++ rows) ≡ length reads + length rows = length-append reads rows in omega arith);
      seen =
          λ k l u.
          ap (λ (rs : List (Row (Option Record))). get_or (look rs k) none) (part_front c.from c.count reads rows h.inside)
          ∙ h.seen k l u;
    }

-- the scan that has just logged its rows
pub saw_now : (reads rows : List (Row (Option Record))) (o : Observation) (os : List Observation)
    → ((k : ℕ) → o.lo ≤ k → k ≤ o.hi → get_or (look rows k) none ≡ o.seen k)
    → Saw (reads ++ rows) (o ∷ os) (record { lo = o.lo; hi = o.hi; from = length reads; count = length rows })
unfolding stretch
saw_now reads rows o os h =
    record {
      o = o;
      member = Memᴰ.head refl;
      lo = refl;
      hi = refl;
      inside = le_of_eq (sym (length-append reads rows));
      seen =
          λ k l u.
          ap (λ (rs : List (Row (Option Record))). get_or (look rs k) none) (part_behind reads rows) ∙ h k l u;
    }

-- ---- what is laid over what

standing_member : (rs : List (Row (Option Payload))) (k : ℕ) (p : Payload) → Memᴰ (row k (some p)) rs → Memᴰ (row k p) (standing rs)
unfolding standing
standing_member [] k p x' = elim x' [ ]
standing_member (r ∷ rs) k p (Memᴰ.head e) = go r.item (sym (ap (λ (x : Row (Option Payload)). x.item) e))
  where
    key : k ≡ r.key
    key = ap (λ (x : Row (Option Payload)). x.key) e

    go : (o : Option Payload) → o ≡ some p → Memᴰ (row k p) (maybe o (standing rs) (λ (q : Payload). row r.key q ∷ standing rs))
    go none q = both_options q refl
    go (some x) q = Memᴰ.head (let y : x ≡ p = some_same q in λ i. row (key i) (sym y i))
standing_member (r ∷ rs) k p (Memᴰ.tail m) = go r.item (standing_member rs k p m)
  where
    go : (o : Option Payload) → Memᴰ (row k p) (standing rs) → Memᴰ (row k p) (maybe o (standing rs) (λ (q : Payload). row r.key q ∷ standing rs))
    go none n = n
    go (some x) n = Memᴰ.tail n

mapped_member : {A B : Type 0} (f : A → B) (rs : List (Row A)) (k : ℕ) (a : A) → Memᴰ (row k a) rs → Memᴰ (row k (f a)) (map_items f rs)
unfolding map_items
mapped_member {A = A} {B = B} f [] k a x' = elim x' [ ]
mapped_member f (r ∷ rs) k a (Memᴰ.head e) = Memᴰ.head (ap (λ (x : Row _). row x.key (f x.item)) e)
mapped_member f (r ∷ rs) k a (Memᴰ.tail m) = Memᴰ.tail (mapped_member f rs k a m)

-- a put stands over what was logged
put_laid : (ws : List (Row Write)) (rows : List (Row (Option Record))) (k : ℕ) (p : Payload) → look ws k ≡ some (written p)
    → Memᴰ (row k p) (laid_over ws rows)
unfolding laid_over own_view
put_laid ws rows k p e =
    Memᴰ.append_left _ (standing_member (map_items own_view ws) k p (mapped_member own_view ws k (written p) (look_member ws k (written p) e)))

-- what was logged stands where nothing is written
logged_laid : (ws : List (Row Write)) (rows : List (Row (Option Record))) (k : ℕ) (p : Payload) → look ws k ≡ none
    → payload_of (get_or (look rows k) none) ≡ some p → Memᴰ (row k p) (laid_over ws rows)
unfolding laid_over payload_of untouched
logged_laid ws rows k p e h = go (look rows k) refl h
  where
    go : (o : Option (Option Record)) → look rows k ≡ o → payload_of (get_or o none) ≡ some p → Memᴰ (row k p) (laid_over ws rows)
    go none q t = both_options t refl
    go (some r) q t =
        Memᴰ.append_right (standing (map_items own_view ws))
        (standing_member (map_items payload_of (filter (untouched ws) rows)) k p
        (subst (λ (x : Option Payload). Memᴰ (row k x) (map_items payload_of (filter (untouched ws) rows))) t
        (mapped_member payload_of (filter (untouched ws) rows) k r
        (filter_mem (untouched ws) rows (look_member rows k r q) (ap (λ (x : Option Write). not (present x)) e)))))

-- ---- the tests of a lock

put_tested : (f : ℕ → ℕ → Bool) (ws : List (Row Write)) → any_put f ws ≡ false → (k : ℕ) (p : Payload) → look ws k ≡ some (written p)
    → f k p.value ≡ false
unfolding any_put of_put
put_tested f ws e k p q =
    any_false (λ (r : Row Write). of_put f r.key r.item) ws e (row k (written p)) (look_member ws k (written p) q)

latest_member : {A : Type 0} (f : A → Bool) (xs : List A) (x : A) → latest f xs ≡ some x → Memᴰ x xs × (f x ≡ true)
unfolding latest
latest_member f [] x e = both_options e refl
latest_member f (y ∷ ys) x e = go (latest f ys) (latest_member f ys x) e
  where
    here : (b : Bool) → f y ≡ b → pick b (some y) none ≡ some x → Memᴰ x (y ∷ ys) × (f x ≡ true)
    here true t q = (Memᴰ.head (sym (some_same q)), ap f (sym (some_same q)) ∙ t)
    here false t q = both_options q refl

    go : (o : Option _) → (o ≡ some x → Memᴰ x ys × (f x ≡ true)) → maybe o (pick (f y) (some y) none) some ≡ some x
        → Memᴰ x (y ∷ ys) × (f x ≡ true)
    go none t q = here (f y) refl q
    go (some z) t q = let m = t q in (Memᴰ.tail m.0, m.1)

not_overlapping : (k n j : ℕ) (q : Payload) → (j ≡ k → ⊥) → overlaps k n (row j q) ≡ false → share j q.value k n ≡ false
unfolding overlaps
not_overlapping k n j q d e =
    sym (ap (λ (b : Bool). both (not b) (share j q.value k n)) (same_no {m = j} {n = k} d)) ∙ e

module _ (reads : List (Row (Option Record))) (cs : List Scan) (ws : List (Row Write)) (os : List Observation)
    (saw : (c : Scan) → Memᴰ c cs → Saw reads os c) where
  by_scan : (k : ℕ) (p : Payload) (c : Scan) → deciding cs k p.value ≡ some c → unfit k p.value ≡ false
      → overlapped reads cs ws k p.value ≡ false → RoomFor os ws k p
  unfolding deciding covers overlapped
  by_scan k p c d fits clear =
      record {
        fits = fits;
        o = h.o;
        member = h.member;
        below = le_trans (le_of_eq h.lo) (at_most_true c.lo (k - (limits.longest - 1)) (both_left (at_most c.lo (k - (limits.longest - 1))) _ m.1));
        above = le_trans (at_most_true (last_byte k p.value) c.hi (both_right (at_most c.lo (k - (limits.longest - 1))) _ m.1)) (le_of_eq (sym h.hi));
        own = λ j q e w. apart j q e (put_laid ws (stretch reads c) j q w);
        others =
            λ j q e w l u t.
            apart j q e (logged_laid ws (stretch reads c) j q w (ap payload_of (h.seen j l u) ∙ t));
      }
    where
      m : Memᴰ c cs × (covers k p.value c ≡ true)
      m = latest_member (covers k p.value) cs c d

      h : Saw reads os c
      h = saw c m.0

      none_over : any (overlaps k p.value) (laid_over ws (stretch reads c)) ≡ false
      none_over = sym (ap (λ (x : Option Scan). maybe x false (λ (y : Scan). any (overlaps k p.value) (laid_over ws (stretch reads y)))) d) ∙ clear

      apart : (j : ℕ) (q : Payload) → (j ≡ k → ⊥) → Memᴰ (row j q) (laid_over ws (stretch reads c)) → share j q.value k p.value ≡ false
      apart j q e t =
          not_overlapping k p.value j q e (any_false (overlaps k p.value) (laid_over ws (stretch reads c)) none_over (row j q) t)

  -- what passes the three tests has room
  pub lock_room_for : any_put unfit ws ≡ false → any_put (uncovered cs) ws ≡ false → any_put (overlapped reads cs ws) ws ≡ false
      → (k : ℕ) (p : Payload) → look ws k ≡ some (written p) → RoomFor os ws k p
  unfolding uncovered
  lock_room_for a b c k p e =
      go (deciding cs k p.value) refl (put_tested (uncovered cs) ws b k p e)
    where
      go : (o : Option Scan) → deciding cs k p.value ≡ o → not (present o) ≡ false → RoomFor os ws k p
      go none d t = clash refl t
      go (some x) d t = by_scan k p x d (put_tested unfit ws a k p e) (put_tested (overlapped reads cs ws) ws c k p e)
