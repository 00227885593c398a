-- `queries::phantom` meets its contract: by whether the leaf is there, and by the counts.
use mathlib.Core.Path.{sym, ◌∙◌}
use Rattle.queries.specs.PhantomLaws.{version_of_lem, hidden_of_lem, phantom_gone, phantom_none, phantom_count}
use Rattle.queries.proofs.phantom.Goals as goal

pub returns-then-l-version : goal.returns-then-l-version
returns-then-l-version c = λ w o. phantom_gone _ _ c.requires.holding _ _ _ _ c.place_of-i.ensures c.requires.logged (λ e. c.if-l-version.true (version_of_lem c.args.leaves.now _ c.leaf_at-l.ensures ∙ e))

pub returns-then-out-eq0 : goal.returns-then-out-eq0
returns-then-out-eq0 c = λ w o. phantom_none _ _ c.requires.holding c.args.ws.now _ _ o _ _ _ c.place_of-i.ensures (sym (version_of_lem c.args.leaves.now _ c.leaf_at-l.ensures) ∙ c.if-l-version.false) (sym (hidden_of_lem c.args.leaves.now _ c.leaf_at-l.ensures) ∙ c.if-out-eq0.true)

pub returns : goal.returns
returns c = λ w o. phantom_count _ _ c.requires.holding c.args.ws.now _ _ o _ _ _ _ _ (hidden_of_lem c.args.leaves.now _ c.leaf_at-l.ensures) c.place_of-i.ensures (sym (version_of_lem c.args.leaves.now _ c.leaf_at-l.ensures) ∙ c.if-l-version.false) c.count_lock_only-own.ensures
