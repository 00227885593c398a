-- `index::leaves::lies_at` meets its contract: the low of the leaf, and that of the next one, tell.
use Rattle.std.proofs.Common.{◌+◌, ◌≡◌, ◌≤◌, ◌<◌, ℕ, length, get_or, sym, ap, ◌∙◌, arith, refl}
use Rattle.std.proofs.lemmas.Bool.{ltb-true}
use Rattle.index.specs.declared.leaves.LeafWords.{LeafWords}
use Rattle.index.specs.LeafPlaces.{tells_last, tells_between}
use Rattle.index.specs.LeafColumns.{LeafRows, lows_of, leaf_at}
use Rattle.index.specs.LeafColumnLaws.{column_places, column_get_or}
use Rattle.index.proofs.leaves.lies_at.Goals as goal

-- the low that was read
low : (ls : LeafRows) (i : ℕ) {l : LeafWords} → l ≡ leaf_at ls i → l.low ≡ get_or (lows_of ls) i 0
low ls i e = ap (λ (x : LeafWords). x.low) e ∙ sym (column_get_or 0 ls i)

pub returns-then-next-m : goal.returns-then-next-m
returns-then-next-m c =
    let f : c.args.m ≤ length (lows_of c.args.leaves.now) = rw (column_places 0 c.args.leaves.now c.told-leaves) c.requires.room in
    let l : get_or (lows_of c.args.leaves.now) c.args.at 0 ≤ c.args.key = rw (low c.args.leaves.now c.args.at c.leaf_at.ensures) at c.if-leaf_at-key.true in
    record { yes_at = λ e. (tells_last (lows_of c.args.leaves.now) c.args.m c.args.key c.args.at c.requires f l c.if-next-m.true).yes_at refl }

pub returns-else-next-m : goal.returns-else-next-m
returns-else-next-m c =
    let f : c.args.m ≤ length (lows_of c.args.leaves.now) = rw (column_places 0 c.args.leaves.now c.told-leaves) c.requires.room in
    let l : get_or (lows_of c.args.leaves.now) c.args.at 0 ≤ c.args.key = rw (low c.args.leaves.now c.args.at c.leaf_at.ensures) at c.if-leaf_at-key.true in
    let there : c.args.at < c.args.m = c.if-m-at.false in
    record {
      yes_at =
          λ e.
          let upper : c.args.key < get_or (lows_of c.args.leaves.now) (c.args.at + 1) 0 = rw (low c.args.leaves.now (c.args.at + 1) c.leaf_at-else-next-m.ensures) at (ltb-true _ _ e) in
          (tells_between (lows_of c.args.leaves.now) c.args.m c.args.key c.args.at c.requires f l (omega (arith, c.if-next-m.false)) upper).yes_at refl;
    }
