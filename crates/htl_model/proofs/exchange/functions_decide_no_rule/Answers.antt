use Rattle.htl_model.proofs.SameRules.{broken_same}
use Rattle.htl_model.proofs.exchange.functions_decide_no_rule.Goals as goal

pub returns : goal.returns
returns c = λ t fs r s have need. (broken_same t t.functions fs r s have need, broken_same t fs t.functions r s have need)
