-- A leaf whose low address and version are both set is made.
use Rattle.std.proofs.Common.{◌≡◌, ◌<◌, ℕ, List, length, set, ap, ◌∙◌}
use Rattle.std.proofs.Math.Seq.{set-set, get_or-set_same}
use Rattle.cuts.specs.declared.MadeLeaf.{MadeLeaf}
use Rattle.cuts.specs.Making.{leaf, lowered, versioned, changed}
use Rattle.cuts.proofs.make_run.Goals as goal

made : (ys : List MadeLeaf) (i a v : ℕ) → i < length ys → changed versioned (changed lowered ys i a) i v ≡ set ys i (leaf a v)
made ys i a v l =
    ap (λ (h : MadeLeaf). set (changed lowered ys i a) i (versioned h v)) (get_or-set_same ys i _ (leaf 0 0) l) ∙ set-set ys i _ (leaf a v)

pub returns : goal.returns
returns c =
    c.set_version.ensures
    ∙ ap (λ (ys : List MadeLeaf). changed versioned ys c.args.i c.args.version) c.set_low.ensures
    ∙ made c.args.made.now c.args.i c.args.low c.args.version (rw c.told-made c.requires)
