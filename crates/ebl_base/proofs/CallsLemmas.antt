-- A call that was counted, and then failed.
use Rattle.std.proofs.Common.{◌≡◌, ◌≤◌, Err, ap, arith}
use Rattle.ebl_base.specs.Faults.{risen, HasCause}
use Rattle.ebl_base.specs.Calls.{CallsRecord}
use Rattle.ebl_base.proofs.FaultsLemmas.{HasCause-counted}

-- the counts of a call that failed give it its cause
pub HasCause-failed : {T E : Type 0} (before now after : CallsRecord) (e : E)
    → now ≡ record before { number = risen before.number } → after ≡ record now { faults = risen now.faults } → now.faults ≤ after.faults
    → HasCause {T = T} {E = E} before.faults after.faults (Err e)
HasCause-failed before now after e counted failed later =
    let same : now.faults ≡ before.faults = ap (λ (calls : CallsRecord). calls.faults) counted in
    let risen_now : after.faults ≡ risen now.faults = ap (λ (calls : CallsRecord). calls.faults) failed in
    HasCause-counted before.faults now.faults after.faults e (omega arith) later risen_now
