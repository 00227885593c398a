-- `map::entries::terms` meets its contract: what the callees answer, of what the indexlet says and of c.
use mathlib.Core.Path.{ap, sym, ◌∙◌}
use mathlib.Core.Bool.{Bool}
use Rattle.indexlet.specs.Words.{content_in}
use Rattle.map.specs.Entries.{hidden_term, outside_term}
use Rattle.map.specs.EntryLaws.{hide_still, hide_moved, hide_most, balance_still, balance_moved, term_most}
use Rattle.std.proofs.Common.{rules}
use Rattle.map.proofs.entries.terms.Goals as goal

pub returns-then-still : goal.returns-then-still
returns-then-still c =
    let like = sym c.still.ensures ∙ c.if-still.true in
    record {
      place = c.requires.at_leaf;
      pend = c.waits-pend.ensures;
      unpend = c.waits-unpend.ensures;
      hide_most = search rules;
      hide_balance = hide_still _ _ _ like;
      join_most = search rules;
      balance = balance_still _ _ _ like;
    }

pub returns : goal.returns
returns c =
    let n = c.lacks-absent.ensures in
    let hide = c.hidden_term.ensures ∙ ap (λ (b : Bool). hidden_term b (content_in c.args.c)) n in
    let unhide = c.hidden_term-2.ensures ∙ ap (λ (b : Bool). hidden_term b (content_in c.args.old)) n in
    let join = c.outside_term.ensures ∙ ap (λ (b : Bool). outside_term b (content_in c.args.c)) n in
    let leave = c.outside_term-2.ensures ∙ ap (λ (b : Bool). outside_term b (content_in c.args.old)) n in
    record {
      place = c.requires.at_leaf;
      pend = c.waits-pend.ensures;
      unpend = c.waits-unpend.ensures;
      hide_most = hide_most _ _ _ hide;
      hide_balance = hide_moved _ _ _ _ _ hide unhide;
      join_most = term_most _ _ _ join;
      balance = balance_moved _ _ _ _ _ join leave;
    }
