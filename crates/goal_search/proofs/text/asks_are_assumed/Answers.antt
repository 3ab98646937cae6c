use Rattle.goal_search.proofs.Asked.{asks_are_assumed}
use Rattle.goal_search.proofs.text.asks_are_assumed.Goals as goal

pub returns : goal.returns
returns c = asks_are_assumed c.tokens_read_back.ensures c.s_expressions_read_back.ensures c.judged_again.ensures c.definitions_are_noted_once.ensures
