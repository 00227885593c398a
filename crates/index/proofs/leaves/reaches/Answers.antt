-- By the low read, and by whether there is such a leaf.
use Rattle.std.proofs.Common.{◌≤◌, ◌<◌, length, get_or, sym, ap, ◌∙◌}
use Rattle.std.proofs.lemmas.Bool.{ltb-true, ltb-false, lt-leb}
use Rattle.index.specs.declared.leaves.LeafWords.{LeafWords}
use Rattle.index.specs.LeafColumns.{lows_of}
use Rattle.index.specs.LeafColumnLaws.{column_places, column_get_or}
use Rattle.index.specs.LeafPlaces.{leaf_on, leaf_end, leaf_stay}
use Rattle.index.specs.Nearing.{leads_no}
use Rattle.index.proofs.leaves.reaches.Goals as goal

pub returns-then-leaf_at-key : goal.returns-then-leaf_at-key
returns-then-leaf_at-key c =
    let fits : c.args.m ≤ length (lows_of c.args.leaves.now) = rw (column_places 0 c.args.leaves.now c.told-leaves) c.requires.listed.room in
    let low : get_or (lows_of c.args.leaves.now) c.args.next 0 ≤ c.args.key = rw (ap (λ (l : LeafWords). l.low) c.leaf_at.ensures ∙ sym (column_get_or 0 c.args.leaves.now c.args.next)) at c.if-leaf_at-key.true in
    record {
      on = λ e. leaf_on _ _ _ _ c.requires.listed fits c.requires.next_nonzero.0 (ltb-true _ _ e) low;
      past = λ e. leaf_end _ _ _ _ c.requires.listed fits c.requires.next_nonzero.0 (ltb-false _ _ e);
    }

pub returns-else-leaf_at-key : goal.returns-else-leaf_at-key
returns-else-leaf_at-key c =
    let fits : c.args.m ≤ length (lows_of c.args.leaves.now) = rw (column_places 0 c.args.leaves.now c.told-leaves) c.requires.listed.room in
    let low : c.args.key < get_or (lows_of c.args.leaves.now) c.args.next 0 = rw (ap (λ (l : LeafWords). l.low) c.leaf_at.ensures ∙ sym (column_get_or 0 c.args.leaves.now c.args.next)) at c.if-leaf_at-key.false in
    leads_no (lt-leb _ _ c.if-leaf_at-key.false) (leaf_stay _ _ _ _ c.requires.listed fits c.requires.next_nonzero.0 low)
