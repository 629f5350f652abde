use Rattle.pint_http.proofs.SessionLemmas.{served_known}
use Rattle.pint_http.specs.Session.{GoesOn}
use Rattle.pint_http.proofs.laws.session_is_told_by_any_equal_test_of_parties.Goals as goal

pub returns : goal.returns
returns g c = λ end left left_after written written_after given given_after later_test test before after same served.
    served_known end left left_after written written_after given given_after later_test test
    (λ calls. GoesOn g.K.Desk.run before calls after) same served
