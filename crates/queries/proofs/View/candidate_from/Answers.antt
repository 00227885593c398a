-- `View::candidate_from` meets its contract: by whether the indexlet has a candidate.
use Rattle.queries.specs.NextLaws.{candidate_index, candidate_nearer}
use Rattle.queries.proofs.View.candidate_from.Goals as goal

pub returns-in-Some : goal.returns-in-Some
returns-in-Some c = candidate_nearer _ _ _ _ _ _ _ c.index_from-a.ensures c.in-Some.ensures c.nearer.ensures

pub returns-in-None : goal.returns-in-None
returns-in-None c = candidate_index _ _ _ _ _ c.index_from-a.ensures c.in-None.ensures
