-- What std's `copy_within` leaves is the list with those elements moved.
use Rattle.std.proofs.Common.{◌≡◌, ℕ, ◌+◌, ◌-◌, ◌≤◌, List, length, take, drop, ◌∙◌, arith, append_assoc, length-drop, length-take-le}
use Rattle.std.specs.List.{copy_within}
use Rattle.lists.specs.Shifts.{over, moved}
use Rattle.index.proofs.rows.move_rows.Goals as goal

copied : {A : Type 0} (xs : List A) (from to n : ℕ) → from + n ≤ length xs → copy_within xs from (from + n) to ≡ moved xs from to n
unfolding moved over
copied xs from to n h =
    let ys = take n (drop from xs) in
    let k : from + n - from ≡ n = omega arith in
    let e : length ys ≡ n = length-take-le n (drop from xs) (rw length-drop (omega arith)) in
    rw (k, e) (append_assoc (take to xs) ys (drop (to + n) xs))

pub returns : goal.returns
returns g c = c.copy_within.ensures.after ∙ copied c.args.rows.now c.args.from c.args.to c.args.n c.requires.from_bound
