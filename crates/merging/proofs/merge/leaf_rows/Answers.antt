-- `map::merge::leaf_rows` meets its contract: the rows from the place of the leaf's low to that of the next low.
use Prim.Native.Nat.{ℕ, ◌+◌, ◌<◌}
use native.Mathlib.Omega.{arith}
use mathlib.Core.Path.{refl, sym, subst}
use Rattle.spec.specs.Widths.{addresses}
use Rattle.index.specs.LeafColumnLaws.{column_places}
use Rattle.phantomlet.specs.LeafCounts.{low_of}
use Rattle.merging.specs.MergeSettles.{at_low}
use Rattle.merging.proofs.merge.leaf_rows.Goals as goal

pub overflow_cast-low : goal.overflow_cast-low
overflow_cast-low c = record { fits = subst (λ (x : ℕ). x < addresses) (sym (low_of c.args.leaves.now c.args.i c.leaf_at-low.ensures)) (c.requires.lows.narrow c.args.i c.requires.i_lt_m) }

pub overflow_cast-next : goal.overflow_cast-next
overflow_cast-next c = record { fits = subst (λ (x : ℕ). x < addresses) (sym (low_of c.args.leaves.now (c.args.i + 1) c.leaf_at-next.ensures)) (c.requires.lows.narrow (c.args.i + 1) c.if-i-m.true) }

pub returns-then-i-m : goal.returns-then-i-m
returns-then-i-m c =
    let ls = c.args.leaves.now in
    record {
      lows_are = c.requires.lows;
      places = column_places 0 ls c.told-leaves;
      leaf_in_lem = c.requires.i_lt_m;
      low = at_low (low_of ls c.args.i c.leaf_at-low.ensures) c.locate-from.ensures;
      next = λ h. at_low (low_of ls (c.args.i + 1) c.leaf_at-next.ensures) c.locate-to.ensures;
      last = λ h. absurd (let q : ⊥ = omega (arith, h, c.if-i-m.true) in q);
    }

pub returns-else-i-m : goal.returns-else-i-m
returns-else-i-m c =
    let ls = c.args.leaves.now in
    record {
      lows_are = c.requires.lows;
      places = column_places 0 ls c.told-leaves;
      leaf_in_lem = c.requires.i_lt_m;
      low = at_low (low_of ls c.args.i c.leaf_at-low.ensures) c.locate-from.ensures;
      next = λ h. absurd (let q : ⊥ = omega (arith, h, c.if-i-m.false) in q);
      last = λ h. refl;
    }
