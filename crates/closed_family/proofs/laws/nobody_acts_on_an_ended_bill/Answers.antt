use Rattle.closed_family.proofs.Ended.{ended_end}
use Rattle.closed_family.proofs.laws.nobody_acts_on_an_ended_bill.Goals as goal

pub returns : goal.returns
returns c = record {
  carrier = λ family sound closed distinct bill signed p carrier ended.
      (ended_end family sound closed distinct bill signed p carrier ended).0;
  nobody = λ family sound closed distinct bill signed p carrier ended.
      (ended_end family sound closed distinct bill signed p carrier ended).1;
}
