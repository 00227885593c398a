-- The cut rule: how many runs there are, that each run gets an address, and the leaves that are made of them.
use Rattle.std.specs.Prelude.{ℕ, zero, suc, ◌+◌, ◌*◌, ◌-◌, ◌<◌, ◌≤◌, ◌≡◌, refl, true, length, drop, get_or}
use Rattle.std.proofs.Common.{zero-le, le_refl, not-suc-le-zero, suc-mul, zero-mul, arith, sym, ap, subst, ⊎_elim, length-drop}
use mathlib.Core.List.{List, [], ◌∷◌, ◌++◌, Memᴰ}
use Rattle.lists.specs.Tests.{less, at_most}
use Rattle.lists.specs.TestLaws.{cases, clash, less_false, less_yes, less_no, at_most_yes}
use Rattle.lists.specs.Ascending.{Ascends, ascends_at, ascends_drop, ascends_mem, mem_get_or, mem_drop}
use Rattle.spec.specs.Records.{Tuning, standard}
use Rattle.spec.specs.Leaves.{Leaf, leaf_from, live, runs, cuts, starts, new_lows, fresh_leaves, versions_taken}
use Rattle.spec.specs.GoodTuning.{GoodCut}
use Rattle.laws.specs.LeafParts.{LowsFrom, Above, Apart, live_nil, live_cons, not_live, lows_weaken}

pub standard_cut : GoodCut standard
standard_cut = record { positive = omega arith; smaller = omega arith }

-- each run of c addresses but the last has an address, and leaves one
unfoldable pub Fits : List ℕ → ℕ → Type 0
Fits [] c = Unit {0}
Fits (n ∷ []) c = Unit {0}
Fits (n ∷ m ∷ ns) c = (1 ≤ n) × (n < c) × Fits (m ∷ ns) (c - n)

fits_cons : (n : ℕ) (ns : List ℕ) (c : ℕ) → 1 ≤ n → n < c → Fits ns (c - n) → Fits (n ∷ ns) c
unfolding Fits
fits_cons n [] c h i f = tt
fits_cons n (m ∷ ns) c h i f = (h, i, f)

runs_fit : (limit run fuel n : ℕ) → 1 ≤ run → run < limit → Fits (runs limit run fuel n) n
unfolding runs Fits
runs_fit limit run zero n h i = tt
runs_fit limit run (suc fuel) n h i =
    ⊎_elim
    (λ e. rw e tt)
    (λ e. rw e (fits_cons run (runs limit run fuel (n - run)) n h (let q : limit ≤ n = less_false n limit e in omega arith)
    (runs_fit limit run fuel (n - run) h i)))
    (cases (less n limit))

pub cuts_fit : {s : Tuning} → GoodCut s → (n : ℕ) → Fits (cuts s n) n
unfolding cuts Fits
cuts_fit {s} c n =
    ⊎_elim (λ e. rw e tt) (λ e. rw e (runs_fit s.leaf_limit s.run n n c.positive c.smaller)) (cases (at_most n s.leaf_limit))

-- ---- how many

pub runs_some : (limit run fuel n : ℕ) → 1 ≤ length (runs limit run fuel n)
unfolding runs
runs_some limit run zero n = le_refl 1
runs_some limit run (suc fuel) n = ⊎_elim (λ e. rw e (le_refl 1)) (λ e. rw e (omega arith)) (cases (less n limit))

cuts_some : (s : Tuning) (n : ℕ) → 1 ≤ length (cuts s n)
unfolding cuts
cuts_some s n = ⊎_elim (λ e. rw e (le_refl 1)) (λ e. rw e (runs_some s.leaf_limit s.run n n)) (cases (at_most n s.leaf_limit))

pub taken_some : (s : Tuning) (ks : List ℕ) → 1 ≤ versions_taken s ks
unfolding versions_taken
taken_some s ks = cuts_some s (length ks)

pub taken_none : (s : Tuning) → versions_taken s [] ≡ 1
unfolding versions_taken cuts
taken_none s = rw (at_most_yes {m = 0} {n = s.leaf_limit} zero-le)

starts_length : (ns ks : List ℕ) → 1 ≤ length ns → suc (length (starts ns ks)) ≡ length ns
unfolding starts
starts_length [] ks h = absurd (not-suc-le-zero h)
starts_length (n ∷ []) ks h = refl
starts_length (n ∷ m ∷ ns) ks h = ap suc (starts_length (m ∷ ns) (drop n ks) (omega arith))

-- no addresses make no further run
pub starts_none : (s : Tuning) → starts (cuts s 0) [] ≡ []
unfolding starts cuts
starts_none s = rw (at_most_yes {m = 0} {n = s.leaf_limit} zero-le)

pub lows_taken : (s : Tuning) (low : ℕ) (ks : List ℕ) → length (new_lows s low ks) ≡ versions_taken s ks
unfolding new_lows versions_taken
lows_taken s low ks = starts_length (cuts s (length ks)) ks (cuts_some s (length ks))

runs_bound : (limit run fuel n : ℕ) → run ≤ limit → length (runs limit run fuel n) * run ≤ n + run
unfolding runs
runs_bound limit run zero n h = rw (suc-mul 0 run, zero-mul run) (omega arith)
runs_bound limit run (suc fuel) n h =
    ⊎_elim
    (λ e. rw e (rw (suc-mul 0 run, zero-mul run) (omega arith)))
    (λ e. rw e (cut (less_false n limit e) (length (runs limit run fuel (n - run))) (runs_bound limit run fuel (n - run) h)))
    (cases (less n limit))
  where
    cut : limit ≤ n → (m : ℕ) → m * run ≤ n - run + run → suc m * run ≤ n + run
    cut i m j = rw (suc-mul m run) (omega arith)

-- a cut takes at most one version for each `run` addresses, and one more
pub taken_most : {s : Tuning} → GoodCut s → (ks : List ℕ) → versions_taken s ks * s.run ≤ length ks + s.run
unfolding versions_taken cuts
taken_most {s} c ks =
    ⊎_elim
    (λ e. rw e (rw (suc-mul 0 s.run, zero-mul s.run) (omega arith)))
    (λ e. rw e (runs_bound s.leaf_limit s.run (length ks) (length ks) (let i : s.run < s.leaf_limit = c.smaller in omega arith)))
    (cases (at_most (length ks) s.leaf_limit))

-- ---- the leaves made

pub fresh_versions : (v : ℕ) (lows : List ℕ) (u : ℕ) → live (fresh_leaves v lows) u ≡ true → (v < u) × (u ≤ v + length lows)
unfolding fresh_leaves
fresh_versions v [] u e = clash e (live_nil u)
fresh_versions v (low ∷ lows) u e =
    ⊎_elim
    (λ (q : suc v ≡ u). (omega arith, omega arith))
    (λ r. later (fresh_versions (suc v) lows u r))
    (live_cons (record { low = low; version = suc v }) (fresh_leaves (suc v) lows) u e)
  where
    later : (suc v < u) × (u ≤ suc v + length lows) → (v < u) × (u ≤ v + suc (length lows))
    later r = (omega arith, omega arith)

pub fresh_apart : (v : ℕ) (lows : List ℕ) → Apart (fresh_leaves v lows)
unfolding Apart fresh_leaves
fresh_apart v [] = tt
fresh_apart v (low ∷ lows) =
    (not_live (fresh_leaves (suc v) lows) (suc v) (λ e. let r = fresh_versions (suc v) lows (suc v) e in omega arith), fresh_apart (suc v) lows)

above_lows : (lo k : ℕ) (post : List Leaf) → Above k post → LowsFrom lo post → LowsFrom (suc k) post
unfolding Above LowsFrom
above_lows lo k [] a f = tt
above_lows lo k (m ∷ ms) a f = (a, f.1)

-- their lows rise, up to the leaves that follow
pub fresh_rise : (v low : ℕ) (ns ks : List ℕ) (post : List Leaf) → Fits ns (length ks) → Ascends low ks
    → ((k : ℕ) → Memᴰ k ks → Above k post) → LowsFrom (suc low) post → LowsFrom low (fresh_leaves v (low ∷ starts ns ks) ++ post)
unfolding LowsFrom fresh_leaves starts Fits
fresh_rise v low [] ks post i f a g = (le_refl low, g)
fresh_rise v low (n ∷ []) ks post i f a g = (le_refl low, g)
fresh_rise v low (n ∷ m ∷ ns) ks post i f a g =
    let h : low + n ≤ get_or ks n 0 = ascends_at low ks n f i.1 in
    let p : 1 ≤ n = i.0 in (
      le_refl low,
      lows_weaken {lo = get_or ks n 0} (fresh_leaves (suc v) (get_or ks n 0 ∷ starts (m ∷ ns) (drop n ks)) ++ post) (omega arith)
          (fresh_rise (suc v) (get_or ks n 0) (m ∷ ns) (drop n ks) post
          (subst (Fits (m ∷ ns)) (sym (length-drop n ks)) i.2)
          (ascends_drop low ks n f i.1)
          (λ k q. a k (mem_drop ks n q))
          (above_lows (suc low) (get_or ks n 0) post (a (get_or ks n 0) (mem_get_or ks n 0 i.1)) g)),
    )

-- each of them holds one of the addresses
pub fresh_holds : (v low : ℕ) (ns ks : List ℕ) (u : ℕ) → Fits ns (length ks) → 1 ≤ length ks → Ascends low ks
    → live (fresh_leaves v (low ∷ starts ns ks)) u ≡ true
    → (k : ℕ) × Memᴰ k ks × ((leaf_from (record { low = low; version = suc v }) (fresh_leaves (suc v) (starts ns ks)) k).version ≡ u)
unfolding fresh_leaves starts Fits leaf_from
fresh_holds v low [] ks u i c f e =
    (get_or ks 0 0, mem_get_or ks 0 0 c, ⊎_elim (λ (q : suc v ≡ u). q) (λ r. clash r (live_nil u)) (live_cons (record { low = low; version = suc v }) [] u e))
fresh_holds v low (n ∷ []) ks u i c f e =
    (get_or ks 0 0, mem_get_or ks 0 0 c, ⊎_elim (λ (q : suc v ≡ u). q) (λ r. clash r (live_nil u)) (live_cons (record { low = low; version = suc v }) [] u e))
fresh_holds v low (n ∷ m ∷ ns) ks u i c f e =
    ⊎_elim
    (λ q. first q)
    (λ r. later (fresh_holds (suc v) (get_or ks n 0) (m ∷ ns) (drop n ks) u
    (subst (Fits (m ∷ ns)) (sym (length-drop n ks)) i.2)
    (let h : n < length ks = i.1 in let d : length (drop n ks) ≡ length ks - n = length-drop n ks in omega arith)
    (ascends_drop low ks n f i.1) r))
    (live_cons (record { low = low; version = suc v }) (fresh_leaves (suc v) (get_or ks n 0 ∷ starts (m ∷ ns) (drop n ks))) u e)
  where
    mine : Leaf
    mine = record { low = low; version = suc v }

    next : Leaf
    next = record { low = get_or ks n 0; version = suc (suc v) }

    rest : List Leaf
    rest = fresh_leaves (suc (suc v)) (starts (m ∷ ns) (drop n ks))

    first : suc v ≡ u → (k : ℕ) × Memᴰ k ks × ((leaf_from mine (next ∷ rest) k).version ≡ u)
    first q =
        let h : get_or ks 0 0 + n ≤ get_or (drop 0 ks) n 0 = ascends_at (get_or ks 0 0) (drop 0 ks) n (ascends_drop low ks 0 f c) i.1 in
        let p : 1 ≤ n = i.0 in
        (get_or ks 0 0, mem_get_or ks 0 0 c, rw (less_yes {m = get_or ks 0 0} {n = get_or ks n 0} (omega arith)) q)

    later : (k : ℕ) × Memᴰ k (drop n ks) × ((leaf_from next rest k).version ≡ u)
        → (k : ℕ) × Memᴰ k ks × ((leaf_from mine (next ∷ rest) k).version ≡ u)
    later r = (r.0, mem_drop ks n r.1, rw (less_no {m = r.0} {n = get_or ks n 0} (ascends_mem (ascends_drop low ks n f i.1) r.1)) r.2)
