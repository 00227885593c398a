-- The cut rule at document 01's numbers in closed form: up to 16 addresses stay whole; of n, 17 or more, there are n / 8
-- runs, and each but the first starts at an address whose place is a multiple of 8.
use Rattle.std.specs.Prelude.{ℕ, zero, suc, ◌+◌, ◌*◌, ◌-◌, ◌/◌, ◌<◌, ◌≤◌, ◌≡◌, refl, List, [], ◌∷◌, length, drop, get_or}
use Rattle.std.proofs.Common.{le_refl, not-suc-le-zero, arith, sym, ap, ◌∙◌, ⊎_elim, get_or-drop}
use Rattle.lists.specs.Tests.{less}
use Rattle.lists.specs.TestLaws.{cases, less_true, less_false, at_most_yes, at_most_no}
use Rattle.lists.specs.Tabulation.{tab, tab_from}
use Rattle.lists.specs.Shifts.{tab_cons, length_tab}
use Rattle.spec.specs.Records.{standard}
use Rattle.spec.specs.Leaves.{runs, cuts, starts, new_lows, versions_taken}
use Rattle.laws.specs.LeafCuts.{runs_some, lows_taken}

pub whole_lows : (low : ℕ) (ks : List ℕ) → length ks ≤ 16 → new_lows standard low ks ≡ low ∷ []
unfolding new_lows cuts starts
whole_lows low ks h = rw (at_most_yes {m = length ks} {n = 16} h)

pub whole_taken : (ks : List ℕ) → length ks ≤ 16 → versions_taken standard ks ≡ 1
whole_taken ks h = sym (lows_taken standard 0 ks) ∙ ap length (whole_lows 0 ks h)

starts_cons : (n : ℕ) (ns ks : List ℕ) → 1 ≤ length ns → starts (n ∷ ns) ks ≡ get_or ks n 0 ∷ starts ns (drop n ks)
unfolding starts
starts_cons n [] ks h = absurd (not-suc-le-zero h)
starts_cons n (m ∷ ns) ks h = refl

last_start : (n : ℕ) (ks : List ℕ) → starts (n ∷ []) ks ≡ tab (λ (x : ℕ). get_or ks ((x + 1) * 8) 0) 0
unfolding starts tab tab_from
last_start n ks = refl

run_starts : (fuel n : ℕ) (ks : List ℕ) → 8 ≤ n → n ≤ fuel → starts (runs 16 8 fuel n) ks ≡ tab (λ (x : ℕ). get_or ks ((x + 1) * 8) 0) (n / 8 - 1)
unfolding runs
run_starts zero n ks h i = absurd (omega arith)
run_starts (suc fuel) n ks h i =
    ⊎_elim
    (λ e. rw e (let l : n < 16 = less_true n 16 e in let q : n / 8 - 1 ≡ 0 = omega arith in last_start n ks ∙ ap (tab (λ (x : ℕ). get_or ks ((x + 1) * 8) 0)) (sym q)))
    (λ e. rw e (let l : 16 ≤ n = less_false n 16 e in
    let q : suc ((n - 8) / 8 - 1) ≡ n / 8 - 1 = omega arith in
    starts_cons 8 (runs 16 8 fuel (n - 8)) ks (runs_some 16 8 fuel (n - 8))
    ∙ ap (λ (zs : List ℕ). get_or ks 8 0 ∷ zs) (run_starts fuel (n - 8) (drop 8 ks) (omega arith) (omega arith))
    ∙ sym (tab_cons (λ (x : ℕ). get_or ks ((x + 1) * 8) 0) (λ (x : ℕ). get_or (drop 8 ks) ((x + 1) * 8) 0) ((n - 8) / 8 - 1)
    (λ k j. let r : (suc k + 1) * 8 ≡ 8 + (k + 1) * 8 = omega arith in
    ap (λ (z : ℕ). get_or ks z 0) r ∙ sym (get_or-drop 8 ks ((k + 1) * 8) 0)))
    ∙ ap (tab (λ (x : ℕ). get_or ks ((x + 1) * 8) 0)) q))
    (cases (less n 16))

pub cut_lows : (low : ℕ) (ks : List ℕ) → 17 ≤ length ks → new_lows standard low ks ≡ low ∷ tab (λ (x : ℕ). get_or ks ((x + 1) * 8) 0) (length ks / 8 - 1)
unfolding new_lows cuts
cut_lows low ks h =
    rw (at_most_no {m = length ks} {n = 16} h)
    (ap (λ (zs : List ℕ). low ∷ zs) (run_starts (length ks) (length ks) ks (omega arith) (le_refl (length ks))))

pub cut_taken : (ks : List ℕ) → 17 ≤ length ks → versions_taken standard ks ≡ length ks / 8
cut_taken ks h =
    let e : length (tab (λ (x : ℕ). get_or ks ((x + 1) * 8) 0) (length ks / 8 - 1)) ≡ length ks / 8 - 1 = length_tab (λ (x : ℕ). get_or ks ((x + 1) * 8) 0) (length ks / 8 - 1) in
    let q : suc (length ks / 8 - 1) ≡ length ks / 8 = omega arith in
    sym (lows_taken standard 0 ks) ∙ ap length (cut_lows 0 ks h) ∙ ap suc e ∙ q
