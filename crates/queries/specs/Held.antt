-- That records are held has one proof at most, as a ghost field asks.
use Rattle.std.specs.Prelude.{ℕ, suc, List, [], ◌∷◌}
use Rattle.std.specs.Coded.{×_prop, Unit-prop, le_prop}
use Rattle.lists.specs.Rows.{Row, From, Rising}
use Rattle.map.specs.Views.{RecordRows}
use Rattle.map.specs.Parts.{RecordsHeld}

From-prop : {A : Type 0} (lo : ℕ) (rs : List (Row A)) → IsProp (From lo rs)
unfolding From
From-prop lo [] = Unit-prop
From-prop lo (r ∷ rs) = ×_prop le_prop (From-prop (suc r.key) rs)

pub RecordsHeld-prop : (rows : RecordRows) (n : ℕ) → IsProp (RecordsHeld rows n)
unfolding Rising
RecordsHeld-prop rows n = Prim.hlevel (From-prop, le_prop)
